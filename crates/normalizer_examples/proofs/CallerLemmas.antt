-- What callers of the calls on text conclude from their contracts.
use Rattle.std.proofs.Common.{◌≡◌, ℕ, List, [], ◌∷◌, ◌++◌, length, take, drop, sym, ap, subst, ◌∙◌, arith, append-nil, length-append, take-append-drop}
use Rattle.std.specs.Prelude.{◌↔◌, chars}
use Rattle.std.specs.Str.{IsCharBoundary, IsUtf8}
use Rattle.std.proofs.lemmas.Str.{chars-append, IsCharBoundary-from_take}
use Rattle.std.proofs.Math.Seq.{take-append_seam, drop-append_seam}
use Rattle.icu_normalizer.specs.Reading.{IsText}
use Rattle.icu_normalizer.specs.Form.TheVariants.{Composing}
use Rattle.icu_normalizer.specs.NormalForms.{normal_form, IsNormalized}
use Rattle.icu_normalizer.specs.Equivalence.{EquivalentTexts}
use Rattle.icu_normalizer.specs.Encodings.{Encoding}
use Rattle.icu_normalizer.proofs.StrLemmas.{decoded-chars, IsUtf8-IsWellFormed}
use Rattle.icu_normalizer.proofs.StepLemmas.{decoded-IsText}
use Rattle.icu_normalizer.specs.Offence.{Offence}
use Rattle.icu_normalizer.specs.InputCut.{IsInputNormalized}
use Rattle.icu_normalizer.proofs.InputCutLemmas.{input_cut_unique, is_normalized_iff_input_cut}
use Rattle.icu_normalizer.specs.Checks.{IsLastingOffenceOfText, IsSplitAtCut, IsTextSplitAtCut}
use Rattle.icu_normalizer.specs.Forms.{MadeForm}
use Rattle.icu_normalizer.specs.Owned.{IsFormOf}
use Rattle.normalizer_examples.specs.Reports.{ShowsDifference}

-- two texts have the same form exactly if they are equivalent
pub forms_equal_iff : (m : MadeForm) (x y a b : List ℕ) → IsText y → IsFormOf m x a → IsFormOf m y b → (a ≡ b) ↔ EquivalentTexts m.reading x y
forms_equal_iff m x y a b y_text fa fb = (
  λ same. (fa.equivalents y y_text).1 (sym fb.form ∙ sym same),
  λ equivalent. sym ((fa.equivalents y y_text).0 equivalent) ∙ sym fb.form,
)

nothing : (rest : List ℕ) → length rest ≡ 0 → rest ≡ []
nothing [] h = search
nothing (c ∷ rest) h = absurd (omega arith)

module _ (m : MadeForm) (bytes prefix rest : List ℕ) (split : IsSplitAtCut m Encoding.Utf8 bytes prefix rest) where
  -- what is cut at its end is whole, and normalized
  pub whole_where_no_rest : length rest ≡ 0 → (prefix ≡ bytes) × IsNormalized m.reading m.form (chars prefix)
  whole_where_no_rest empty = (
    sym (split.parts ∙ ap (λ l. prefix ++ l) (nothing rest empty) ∙ append-nil prefix),
    subst (IsNormalized m.reading m.form) (decoded-chars prefix (IsUtf8-IsWellFormed prefix split.own.well_formed)) split.own.own,
  )

  pub differs_where_rest : (length rest ≡ 0 → ⊥) → IsInputNormalized Encoding.Utf8 m.reading m.form bytes → ⊥
  differs_where_rest some own =
      let whole = (is_normalized_iff_input_cut Encoding.Utf8 m.reading m.form bytes).0 own in
      let same : length bytes ≡ length prefix = input_cut_unique Encoding.Utf8 m.reading m.form bytes (length bytes) (length prefix) whole split.cut in
      some (omega (arith, ap length split.parts, length-append prefix rest))

-- the character found and the one expected come after the same characters
pub shown_difference : (m : MadeForm) (x : List ℕ) (o : Offence) → m.form ≡ Composing → IsLastingOffenceOfText m x o → ShowsDifference m.reading x o
unfolding normal_form
shown_difference m x o is h =
    let k = h.characters in
    let at = h.first in
    record {
      front = take k x;
      rest = at.is_found.0;
      form_rest = at.is_wanted.0;
      text = sym (take-append-drop k x) ∙ ap (λ l. take k x ++ l) at.is_found.1;
      form = subst (λ f. normal_form m.reading f x ≡ take k x ++ o.wanted ∷ at.is_wanted.0) is (sym at.cut.qualifies.keeps ∙ ap (λ l. take k x ++ l) at.is_wanted.1);
      place = h.place;
      differ = h.differ;
    }

-- the prefix and the form of the rest are the form of the whole
form_of_parts : (m : MadeForm) (text prefix rest : List ℕ) → IsTextSplitAtCut m text prefix rest
    → chars prefix ++ normal_form m.reading m.form (chars rest) ≡ normal_form m.reading m.form (chars text)
form_of_parts m text prefix rest split =
    let p : List ℕ = chars prefix in
    let behind : drop (length p) (chars text) ≡ chars rest = ap (drop (length p)) split.characters ∙ drop-append_seam p (chars rest) in
    let front : take (length p) (chars text) ≡ p = ap (take (length p)) split.characters ∙ take-append_seam p (chars rest) in
    ap (λ l. l ++ normal_form m.reading m.form (chars rest)) (sym front)
    ∙ ap (λ l. take (length p) (chars text) ++ normal_form m.reading m.form l) (sym behind)
    ∙ split.cut.qualifies.keeps

-- the characters of a `str` are a text
pub text_of_utf8 : (bytes : List ℕ) → IsUtf8 bytes → IsText (chars bytes)
text_of_utf8 bytes utf8 = subst IsText (decoded-chars bytes utf8) (decoded-IsText Encoding.Utf8 bytes)

module _ (m : MadeForm) (text prefix rest : List ℕ) (kept : List ℕ) (text_utf8 : IsUtf8 text) (kept_utf8 : IsUtf8 kept) (same : kept ≡ prefix) (split : IsTextSplitAtCut m text prefix rest) where
  front_of_parts : take (length kept) text ≡ kept
  front_of_parts = ap (take (length kept)) (split.parts ∙ ap (λ l. l ++ rest) (sym same)) ∙ take-append_seam kept rest

  -- a text may be cut after its prefix
  pub seam_of_parts : IsCharBoundary text (length kept)
  seam_of_parts =
      IsCharBoundary-from_take text (length kept) text_utf8 (omega (arith, ap length split.parts, ap length same, length-append prefix rest)) (subst IsUtf8 (sym front_of_parts) kept_utf8)

  -- if the form of the rest comes after the prefix, the two are the form of the whole
  pub appended_form : (bytes form whole : List ℕ) → bytes ≡ take (length kept) text → whole ≡ bytes ++ form → chars form ≡ normal_form m.reading m.form (chars rest)
      → chars whole ≡ normal_form m.reading m.form (chars text)
  appended_form bytes form whole front is form_is =
      ap chars (is ∙ ap (λ l. l ++ form) (front ∙ front_of_parts)) ∙ chars-append kept form kept_utf8
      ∙ ap (λ l. chars kept ++ l) form_is ∙ ap (λ l. chars l ++ normal_form m.reading m.form (chars rest)) same
      ∙ form_of_parts m text prefix rest split
