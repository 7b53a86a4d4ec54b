use Rattle.std.proofs.Common.{ap, sym, ◌∙◌}
use Rattle.std.proofs.lemmas.Bool.Decides.{Decides-eqb}
use Rattle.std.proofs.lemmas.Slice.Eq.{slice_eq-Decides}
use Rattle.std.proofs.lemmas.Str.{encodes-chars}
use Rattle.std.specs.Prelude.{chars, encode_utf8_all}
use Rattle.normalizer_examples.proofs.CallerLemmas.{forms_equal_iff, text_of_utf8}
use Rattle.normalizer_examples.proofs.keys.have_one_key.Goals as goal

pub returns-clause-equivalent : goal.returns-clause-equivalent
returns-clause-equivalent c =
    let same = forms_equal_iff _ _ _ _ _ (text_of_utf8 _ c.utf8.other) c.in_ok-key.ensures.form c.in_ok-other_key.ensures.form in
    let decides = slice_eq-Decides Decides-eqb _ _ _ c.eq.ensures in
    let key = c.deref.ensures.value in
    let other = c.deref-2.ensures.value in (
      λ one. same.0 (ap chars (sym key ∙ decides.0 one ∙ other)),
      λ equivalent.
          decides.1
          (sym (encodes-chars _ c.deref.utf8) ∙ ap encode_utf8_all (ap chars key ∙ same.1 equivalent ∙ sym (ap chars other)) ∙ encodes-chars _ c.deref-2.utf8),
    )
