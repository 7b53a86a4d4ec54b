-- What calls ensure that return the form of an input.
use Rattle.std.specs.Prelude.{◌≡◌, ◌↔◌, ℕ, List, chars, Result, IfOk, IsOk, IsOkUnless}
use Rattle.std.specs.Cow.{cow_str_bytes, IsBorrowedStr}
use Rattle.std.specs.declared.borrow.CowStr.{CowStr}
use Rattle.std.specs.declared.alloc.Global.{Global}
use Rattle.normal_forms.specs.Equivalence.{EquivalentTexts}
use Rattle.normal_forms.specs.Forms.{nfd, normal_form, IsNormalized}
use Rattle.normal_forms.specs.Reading.{IsText}
use Rattle.normal_forms.specs.ShortRuns.{HasShortRuns}
use Rattle.normalizer_text.specs.Encodings.{Encoding, decoded_in}
use Rattle.normalizer_text.specs.EncodedForm.{encoded_form}
use Rattle.normalizer_text.specs.InputCut.{IsInputNormalized}
use Rattle.normalizer_iterators.specs.declared.error.NormalizeError.{NormalizeError}
use Rattle.normalizer_iterators.specs.declared.error.NormalizeError.TheVariants.{Memory}
use Rattle.normalizer_calls.specs.Forms.{MadeForm}

-- The text z is the form of the text x. It is the form of exactly the texts that are equivalent to x, is normalized,
-- and has the same decomposing form as x.
pub record IsFormOf (m : MadeForm) (x z : List ℕ) : Type 0 where
  pub form : z ≡ normal_form m.reading m.form x
  pub equivalents : (y : List ℕ) → IsText y → EquivalentTexts m.reading x y ↔ (normal_form m.reading m.form y ≡ z)
  pub own : IsNormalized m.reading m.form z
  pub decomposed : nfd m.reading z ≡ nfd m.reading x

-- the content is the form of what the units decode to, encoded as they are
pub record IsEncodedFormOf (m : MadeForm) (e : Encoding) (units content : List ℕ) : Type 0 where
  pub encoded : content ≡ encoded_form e m.reading m.form units
  pub text : IsFormOf m (decoded_in e units) (decoded_in e content)

-- The form of the units was returned, borrowed if and only if they are well-formed and normalized. `Memory` is the only
-- error, and if they are, it never comes over short runs.
pub record ReturnsForm {A : Type 0} (content : A → List ℕ) (IsBorrowed : A → Type 0) (m : MadeForm) (e : Encoding)
    (units : List ℕ) (result : Result A NormalizeError) : Type 0 where
  pub form : IfOk result (λ z. IsEncodedFormOf m e units (content z))
  pub borrows : IfOk result (λ z. IsBorrowed z ↔ IsInputNormalized e m.reading m.form units)
  pub room : HasShortRuns m.has_class_form m.reading (decoded_in e units) → IsInputNormalized e m.reading m.form units
      → IsOk result
  pub refused : IsOkUnless result Memory

-- The form of a text was returned, borrowed if the text is normalized. `Memory` is the only error, and if the
-- text is normalized, it never comes over short runs.
pub record ReturnsFormOfText (m : MadeForm) (x : List ℕ) (result : Result (CowStr Global) NormalizeError)
    : Type 0 where
  pub form : IfOk result (λ z. IsFormOf m x (chars (cow_str_bytes z)))
  pub borrows : IfOk result (λ z. IsBorrowedStr z ↔ IsNormalized m.reading m.form x)
  pub room : HasShortRuns m.has_class_form m.reading x → IsNormalized m.reading m.form x → IsOk result
  pub refused : IsOkUnless result Memory
