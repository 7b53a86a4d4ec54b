-- What calls tell of a `str` by its characters, from what they tell of its bytes.
use Rattle.std.proofs.Common.{ℕ, List, length, take, sym, ap, subst, ◌∙◌}
use Rattle.std.specs.Prelude.{Bool, Option, Some, None, MatchOption, Result, chars}
use Rattle.std.specs.Cow.{cow_str_bytes, IsBorrowedStr}
use Rattle.std.specs.Str.{IsUtf8}
use Rattle.std.specs.declared.borrow.CowStr.{CowStr}
use Rattle.std.specs.declared.alloc.Global.{Global}
use Rattle.std.proofs.lemmas.Result.{IfOk-weaker}
use Rattle.std.proofs.lemmas.Str.{chars-append}
use Rattle.std.proofs.Math.Seq.{take-append_seam}
use Rattle.normal_forms.specs.Forms.{normal_form, IsNormalized}
use Rattle.normal_forms.specs.Reading.{IsText}
use Rattle.normal_forms.specs.Cut.{IsCut}
use Rattle.normal_forms.specs.ShortRuns.{HasShortRuns}
use Rattle.normal_forms.proofs.cuts.OffenceLemmas.{continued_offence, found_differs}
use Rattle.normal_forms.proofs.forms.TextLemmas.{IsText-normal_form}
use Rattle.normalizer_check.specs.RequiredConditions.{SuitsTexts}
use Rattle.normalizer_text.specs.Encodings.{Encoding}
use Rattle.normalizer_text.specs.DecodingSteps.{IsWellFormed}
use Rattle.normalizer_text.specs.Utf8.{decoded_utf8, first_of_utf8}
use Rattle.normalizer_text.proofs.rules.EncodingLemmas.{DecodesBack-in}
use Rattle.normalizer_text.proofs.rules.StrLemmas.{decoded-chars, IsUtf8-IsWellFormed, IsWellFormed-IsUtf8}
use Rattle.normalizer_text.proofs.steps.StepLemmas.{decoded-IsText}
use Rattle.normalizer_text.specs.declared.offence.Offence.{Offence}
use Rattle.normalizer_text.specs.InputCut.{IsInputNormalized}
use Rattle.normalizer_text.specs.InputOffence.{IsInputOffence, IsInputOffenceOf}
use Rattle.normalizer_text.proofs.inputs.InputBoundaryLemmas.{IsWellFormed-rest}
use Rattle.normalizer_text.proofs.inputs.InputCutLemmas.{cut_of_well_formed}
use Rattle.normalizer_text.proofs.inputs.InputEncodingLemmas.{input_offence_iff_text}
use Rattle.normalizer_iterators.specs.declared.error.NormalizeError.{NormalizeError}
use Rattle.normalizer_calls.specs.Checks.{ChecksForm, ChecksText, IsLastingOffenceOfText, IsSplitAtCut, IsTextSplitAtCut}
use Rattle.normalizer_calls.specs.Forms.{MadeForm}
use Rattle.normalizer_calls.specs.Owned.{ReturnsForm, ReturnsFormOfText, IsEncodedFormOf, IsFormOf}

module _ (m : MadeForm) (text : List ℕ) (utf8 : IsUtf8 text) where
  well_formed : IsWellFormed first_of_utf8 text
  well_formed = IsWellFormed-IsUtf8 text utf8

  own_bytes : IsNormalized m.reading m.form (decoded_utf8 text) → IsInputNormalized Encoding.Utf8 m.reading m.form text
  own_bytes own = record { well_formed = well_formed; own = own }

  -- a normalized text is well-formed and normalized in bytes
  pub own_of_text : IsNormalized m.reading m.form (chars text) → IsInputNormalized Encoding.Utf8 m.reading m.form text
  own_of_text own = own_bytes (subst (IsNormalized m.reading m.form) (sym (decoded-chars text utf8)) own)

  pub short_of_text : HasShortRuns m.has_class_form m.reading (chars text) → HasShortRuns m.has_class_form m.reading (decoded_utf8 text)
  short_of_text short = subst (HasShortRuns m.has_class_form m.reading) (sym (decoded-chars text utf8)) short

  checks_decoded : (answer : Result Bool NormalizeError) → ChecksForm m Encoding.Utf8 text answer → ChecksText m (decoded_utf8 text) answer
  checks_decoded answer h = record {
    is = IfOk-weaker answer _ _ (λ yes k. (λ t. (k.0 t).own, λ own. k.1 (own_bytes own))) h.is;
    room = h.room;
    refused = h.refused;
  }

  pub ChecksText-bytes : (answer : Result Bool NormalizeError) → ChecksForm m Encoding.Utf8 text answer → ChecksText m (chars text) answer
  ChecksText-bytes answer h = subst (λ z. ChecksText m z answer) (decoded-chars text utf8) (checks_decoded answer h)

  module _ (suits : SuitsTexts m.reading m.form) where
    lasting_decoded : (o : Offence) → IsInputOffence Encoding.Utf8 m.reading m.form text o.place o.found o.wanted → IsLastingOffenceOfText m (decoded_utf8 text) o
    lasting_decoded o h =
        let at = (input_offence_iff_text Encoding.Utf8 m.reading m.form text well_formed o.place o.found o.wanted).0 h in
        record {
          characters = at.0;
          first = at.1;
          place = at.2;
          differ = found_differs m.reading m.form suits.laws (decoded_utf8 text) at.0 o.found o.wanted at.1;
          lasts = λ more. continued_offence m.reading m.form suits.laws suits.are_nonempty (decoded_utf8 text) more at.0 o.found o.wanted at.1;
        }

    offence_decoded : (answer : Option Offence) → IsInputOffenceOf Encoding.Utf8 m.reading m.form text answer
        → MatchOption answer (IsNormalized m.reading m.form (decoded_utf8 text)) (IsLastingOffenceOfText m (decoded_utf8 text))
    offence_decoded None h = h.own
    offence_decoded (Some o) h = lasting_decoded o h

    -- the first mismatch of the bytes is that of the text
    pub offence_of_text : (answer : Option Offence) → IsInputOffenceOf Encoding.Utf8 m.reading m.form text answer
        → MatchOption answer (IsNormalized m.reading m.form (chars text)) (IsLastingOffenceOfText m (chars text))
    offence_of_text answer h =
        subst (λ z. MatchOption answer (IsNormalized m.reading m.form z) (IsLastingOffenceOfText m z)) (decoded-chars text utf8) (offence_decoded answer h)

  -- the bytes of the text are split at the cut of the text
  module _ (prefix rest : List ℕ) (h : IsSplitAtCut m Encoding.Utf8 text prefix rest) where
    prefix_utf8 : IsUtf8 prefix
    prefix_utf8 = IsUtf8-IsWellFormed prefix h.own.well_formed

    rest_well_formed : IsWellFormed first_of_utf8 rest
    rest_well_formed = IsWellFormed-rest Encoding.Utf8 prefix rest h.own.well_formed (subst (IsWellFormed first_of_utf8) h.parts well_formed)

    rest_utf8 : IsUtf8 rest
    rest_utf8 = IsUtf8-IsWellFormed rest rest_well_formed

    cut_decoded : IsCut m.reading m.form (decoded_utf8 text) (length (decoded_utf8 prefix))
    cut_decoded =
        subst (λ l. IsCut m.reading m.form (decoded_utf8 text) (length (decoded_utf8 l))) (ap (take (length prefix)) h.parts ∙ take-append_seam prefix rest)
        (cut_of_well_formed Encoding.Utf8 m.reading m.form text (length prefix) well_formed h.cut)

    pub IsTextSplitAtCut-bytes : IsTextSplitAtCut m text prefix rest
    IsTextSplitAtCut-bytes = record {
      parts = h.parts;
      characters = ap chars h.parts ∙ chars-append prefix rest prefix_utf8;
      cut = subst (λ x. IsCut m.reading m.form x (length (chars prefix))) (decoded-chars text utf8)
          (subst (λ x. IsCut m.reading m.form (decoded_utf8 text) (length x)) (decoded-chars prefix prefix_utf8) cut_decoded);
      own = subst (IsNormalized m.reading m.form) (decoded-chars prefix prefix_utf8) h.own.own;
      differs = λ own. h.differs (record { well_formed = rest_well_formed; own = subst (IsNormalized m.reading m.form) (sym (decoded-chars rest rest_utf8)) own });
    }

  -- ---- what is returned

  module _ (z : CowStr Global) (h : IsEncodedFormOf m Encoding.Utf8 text (cow_str_bytes z)) (texts : SuitsTexts m.reading m.form) where
    form_is_text : IsText (normal_form m.reading m.form (decoded_utf8 text))
    form_is_text = IsText-normal_form m.reading m.form texts.texts texts.scalars (decoded_utf8 text) (decoded-IsText Encoding.Utf8 text)

    content_utf8 : IsUtf8 (cow_str_bytes z)
    content_utf8 = IsUtf8-IsWellFormed (cow_str_bytes z) (subst (IsWellFormed first_of_utf8) (sym h.encoded)
        (DecodesBack-in Encoding.Utf8 (normal_form m.reading m.form (decoded_utf8 text)) form_is_text).well_formed)

    form_of_text : IsFormOf m (chars text) (chars (cow_str_bytes z))
    form_of_text =
        subst (λ y. IsFormOf m y (chars (cow_str_bytes z))) (decoded-chars text utf8)
        (subst (IsFormOf m (decoded_utf8 text)) (decoded-chars (cow_str_bytes z) content_utf8) h.text)

  pub ReturnsFormOfText-bytes : SuitsTexts m.reading m.form → (answer : Result (CowStr Global) NormalizeError) → ReturnsForm cow_str_bytes IsBorrowedStr m Encoding.Utf8 text answer
      → ReturnsFormOfText m (chars text) answer
  ReturnsFormOfText-bytes suits answer h =
      let is = decoded-chars text utf8 in
      record {
        form = IfOk-weaker answer _ _ (λ z k. form_of_text z k suits) h.form;
        borrows = IfOk-weaker answer _ _ (λ z k. (λ b. subst (IsNormalized m.reading m.form) is (k.0 b).own, λ own. k.1 (own_of_text own))) h.borrows;
        room = λ short own. h.room (short_of_text short) (own_of_text own);
        refused = h.refused;
      }
