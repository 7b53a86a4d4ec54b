-- What calls ensure that compare an input with its form.
use Rattle.std.specs.Prelude.{◌≡◌, ◌≢◌, ◌↔◌, ◌⊎◌, ℕ, ◌≤◌, All, Bool, List, [], ◌++◌, length, take, encode_utf8_all}
use Rattle.std.specs.Prelude.{chars, Option, MatchOption, Result, IfOk, IsOk, IsOkUnless, IsTrue}
use Rattle.std.specs.Char.{IsScalar}
use Rattle.std.specs.Option.{ForSome}
use Rattle.normal_forms.specs.Cut.{IsCut}
use Rattle.normal_forms.specs.Forms.{IsNormalized}
use Rattle.normal_forms.specs.Offence.{IsFirstOffence}
use Rattle.normal_forms.specs.ShortRuns.{HasShortRuns}
use Rattle.normalizer_text.specs.DecodingSteps.{IsWellFormed}
use Rattle.normalizer_text.specs.Encodings.{Encoding, first_in, decoded_in}
use Rattle.normalizer_text.specs.declared.offence.Offence.{Offence}
use Rattle.normalizer_text.specs.InputCut.{IsInputNormalized, IsInputCut, IsErrorAt}
use Rattle.normalizer_text.specs.InputOffence.{IsInputOffence, IsInputOffenceOf}
use Rattle.normalizer_iterators.specs.declared.error.NormalizeError.{NormalizeError}
use Rattle.normalizer_iterators.specs.declared.error.NormalizeError.TheVariants.{Memory}
use Rattle.normalizer_calls.specs.Forms.{MadeForm}

-- The result is of this kind. `Memory` is the only error, and never comes if the text x that was looked at has short
-- runs.
pub record AnswersOf {A : Type 0} (m : MadeForm) (x : List ℕ) (Is : A → Type 0) (result : Result A NormalizeError)
    : Type 0 where
  pub is : IfOk result Is
  pub room : HasShortRuns m.has_class_form m.reading x → IsOk result
  pub refused : IsOkUnless result Memory

-- true if and only if the units are well-formed and normalized
abbrev pub ChecksForm : MadeForm → Encoding → List ℕ → Result Bool NormalizeError → Type 0
ChecksForm m e units result =
    AnswersOf m (decoded_in e units) (λ yes. IsTrue yes ↔ IsInputNormalized e m.reading m.form units) result

-- the units are characters, as UTF-32 encodes them, and the text of them is normalized
abbrev pub IsNormalizedUtf32 : MadeForm → List ℕ → Type 0
IsNormalizedUtf32 m units = All IsScalar units × IsNormalized m.reading m.form units

-- true if and only if they are
abbrev pub ChecksUtf32 : MadeForm → List ℕ → Result Bool NormalizeError → Type 0
ChecksUtf32 m units result = AnswersOf m units (λ yes. IsTrue yes ↔ IsNormalizedUtf32 m units) result

-- the units have a first mismatch, at the place or before it
abbrev pub HasOffenceWithin : MadeForm → Encoding → List ℕ → ℕ → Type 0
HasOffenceWithin m e units place =
    (n : ℕ) × (found : ℕ) × (wanted : ℕ) × IsInputOffence e m.reading m.form units n found wanted × (n ≤ place)

-- The first mismatch of the units, or none if they are well-formed and normalized. The character found there isn't the
-- one expected, or an error is there. Appending to well-formed units never removes it, nor moves it later.
pub record IsLastingOffence (m : MadeForm) (e : Encoding) (units : List ℕ) (result : Option Offence) : Type 0 where
  pub offence : IsInputOffenceOf e m.reading m.form units result
  pub differ : ForSome result (λ o. (o.found ≢ o.wanted) ⊎ IsErrorAt e units o.place)
  pub lasts : IsWellFormed (first_in e) units
      → ForSome result (λ o. (more : List ℕ) → HasOffenceWithin m e (units ++ more) o.place)

-- the first mismatch of the units, or none
abbrev pub FindsOffence : MadeForm → Encoding → List ℕ → Result (Option Offence) NormalizeError → Type 0
FindsOffence m e units result = AnswersOf m (decoded_in e units) (IsLastingOffence m e units) result

-- The units in two parts, at their cut: the prefix is well-formed and normalized, the rest is empty or is not both.
pub record IsSplitAtCut (m : MadeForm) (e : Encoding) (units prefix rest : List ℕ) : Type 0 where
  pub parts : units ≡ prefix ++ rest
  pub cut : IsInputCut e m.reading m.form units (length prefix)
  pub own : IsInputNormalized e m.reading m.form prefix
  pub differs : IsInputNormalized e m.reading m.form rest → rest ≡ []

-- ---- a `str`, by its characters

-- true if and only if the text is normalized
abbrev pub ChecksText : MadeForm → List ℕ → Result Bool NormalizeError → Type 0
ChecksText m x result = AnswersOf m x (λ yes. IsTrue yes ↔ IsNormalized m.reading m.form x) result

-- The first mismatch of a text, after some of its characters; the place counts their bytes. The character found isn't
-- the one expected. Whatever is appended, the text has a mismatch after as many characters or fewer.
pub record IsLastingOffenceOfText (m : MadeForm) (x : List ℕ) (o : Offence) : Type 0 where
  pub characters : ℕ
  pub first : IsFirstOffence m.reading m.form x characters o.found o.wanted
  pub place : o.place ≡ length (encode_utf8_all (take characters x))
  pub differ : o.found ≢ o.wanted
  pub lasts : (more : List ℕ) → (n : ℕ) × (found : ℕ) × (wanted : ℕ)
      × IsFirstOffence m.reading m.form (x ++ more) n found wanted × (n ≤ characters)

-- the first mismatch of the text, or none if it is normalized
abbrev pub FindsOffenceOfText : MadeForm → List ℕ → Result (Option Offence) NormalizeError → Type 0
FindsOffenceOfText m x result =
    AnswersOf m x (λ o. MatchOption o (IsNormalized m.reading m.form x) (IsLastingOffenceOfText m x)) result

-- A text in two parts, by their bytes, at its cut: the prefix is normalized, the rest is empty or is not.
pub record IsTextSplitAtCut (m : MadeForm) (text prefix rest : List ℕ) : Type 0 where
  pub parts : text ≡ prefix ++ rest
  pub characters : chars text ≡ chars prefix ++ chars rest
  pub cut : IsCut m.reading m.form (chars text) (length (chars prefix))
  pub own : IsNormalized m.reading m.form (chars prefix)
  pub differs : IsNormalized m.reading m.form (chars rest) → rest ≡ []
