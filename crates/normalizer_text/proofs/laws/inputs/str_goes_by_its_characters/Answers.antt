use Rattle.normalizer_text.specs.Encodings.{Encoding}
use Rattle.normalizer_text.proofs.rules.StrLemmas.{decoded-chars, IsWellFormed-IsUtf8}
use Rattle.normalizer_text.proofs.inputs.InputEncodingLemmas.{is_normalized_iff_text, input_cut_iff_text, input_offence_iff_text}
use Rattle.normalizer_text.proofs.laws.inputs.str_goes_by_its_characters.Goals as goal

pub returns : goal.returns
returns c =
    let text = c.args.text.now in
    let well_formed = IsWellFormed-IsUtf8 text c.utf8.text in
    let same = decoded-chars text c.utf8.text in
    record {
      normalized = λ d form. rw same at (is_normalized_iff_text Encoding.Utf8 d form text well_formed);
      cut = λ d form n k. rw same at (input_cut_iff_text Encoding.Utf8 d form text well_formed n k);
      offence = λ d form place found wanted. rw same at (input_offence_iff_text Encoding.Utf8 d form text well_formed place found wanted);
    }
