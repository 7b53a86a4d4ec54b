-- The form that is returned, in parts and whole.
use Rattle.std.proofs.Common.{◌≡◌, ℕ, List, [], ◌++◌, take, drop, append_assoc, refl, sym, ap, subst, ◌∙◌}
use Rattle.std.specs.Prelude.{Bool, true, false, IsTrue, IsFalse, Result, Ok, OnOk}
use Rattle.std.proofs.lemmas.Result.{IfOk-weaker}
use Rattle.normal_forms.specs.Reading.{Reading, IsText}
use Rattle.normal_forms.specs.declared.Form.{Form}
use Rattle.normal_forms.specs.declared.Form.TheVariants.{Decomposing, Composing}
use Rattle.normal_forms.specs.Forms.{nfd, normal_form, IsNormalized}
use Rattle.normal_forms.proofs.forms.TextLemmas.{IsText-normal_form}
use Rattle.normal_forms.proofs.forms.EquivalenceLemmas.{equivalent_texts}
use Rattle.normal_forms.proofs.forms.LawLemmas.{nfd-nfc, normal_form-normal_form}
use Rattle.normalizer_check.specs.RequiredConditions.{SuitsTexts}
use Rattle.normalizer_calls.specs.inner.WriteUnlessOwn.{WroteUnlessOwn}
use Rattle.normalizer_text.specs.Encodings.{Encoding, encoded_in, decoded_in}
use Rattle.normalizer_text.proofs.rules.EncodingLemmas.{DecodesBack-in, encoded-decoded, encoded_in-append}
use Rattle.normalizer_text.proofs.steps.StepLemmas.{decoded-IsText}
use Rattle.normalizer_text.specs.EncodedForm.{encoded_form}
use Rattle.normalizer_text.proofs.inputs.EncodedFormLemmas.{is_normalized_iff_encoded_form}
use Rattle.normalizer_text.specs.InputCut.{IsInputNormalized, QualifiesForInputCut}
use Rattle.normalizer_calls.specs.Forms.{MadeForm}
use Rattle.normalizer_calls.specs.Owned.{ReturnsForm, IsEncodedFormOf}

-- the prefix and the form of the rest are the form of the whole
pub form_from_cut : (e : Encoding) (d : Reading) (form : Form) (units : List ℕ) (place : ℕ) → QualifiesForInputCut e d form units place
    → take place units ++ encoded_form e d form (drop place units) ≡ encoded_form e d form units
form_from_cut e d form units place cut =
    ap (λ l. l ++ encoded_form e d form (drop place units)) (sym (encoded-decoded e (take place units) cut.well_formed))
    ∙ sym (encoded_in-append e (decoded_in e (take place units)) (normal_form d form (decoded_in e (drop place units))))
    ∙ ap (encoded_in e) cut.keeps

-- they are written one after the other
pub written_from_cut : {S A E : Type 0} (taken : S → List ℕ) {e : Encoding} {d : Reading} {form : Form} {units : List ℕ} {place : ℕ} → QualifiesForInputCut e d form units place
    → (old mid new : S) {prefix rest : List ℕ} (answer : Result A E) → prefix ≡ take place units → rest ≡ drop place units → taken mid ≡ taken old ++ prefix
    → OnOk answer (taken new ≡ taken mid ++ encoded_form e d form rest) → OnOk answer (taken new ≡ taken old ++ encoded_form e d form units)
written_from_cut taken {e = e} {d = d} {form = form} {units = units} {place = place} cut old mid new {prefix = prefix} {rest = rest} answer prefix_is rest_is took h =
    let whole : prefix ++ encoded_form e d form rest ≡ encoded_form e d form units =
    ap (λ l. l ++ encoded_form e d form rest) prefix_is ∙ ap (λ l. take place units ++ encoded_form e d form l) rest_is ∙ form_from_cut e d form units place cut in
    IfOk-weaker answer _ _
    (λ _ w.
    w ∙ ap (λ l. l ++ encoded_form e d form rest) took ∙ append_assoc (taken old) prefix (encoded_form e d form rest) ∙ ap (λ l. taken old ++ l) whole)
    h

-- the form of a text has the same decomposing form as the text
decomposed_form : (d : Reading) (form : Form) → SuitsTexts d form → (x : List ℕ) → nfd d (normal_form d form x) ≡ nfd d x
unfolding normal_form
decomposed_form d Decomposing suits x = normal_form-normal_form d Decomposing suits.laws x
decomposed_form d Composing suits x = nfd-nfc d suits.laws x

-- the form, encoded, is the form of the units
pub IsEncodedFormOf-encoded : (m : MadeForm) (e : Encoding) (units : List ℕ) → SuitsTexts m.reading m.form → (content : List ℕ)
    → content ≡ encoded_form e m.reading m.form units → IsEncodedFormOf m e units content
IsEncodedFormOf-encoded m e units suits content is =
    let d = m.reading in
    let x : List ℕ = decoded_in e units in
    let form_of_x : List ℕ = normal_form d m.form x in
    let x_text : IsText x = decoded-IsText e units in
    let form_text : IsText form_of_x = IsText-normal_form d m.form suits.texts suits.scalars x x_text in
    let decodes : decoded_in e content ≡ form_of_x = ap (decoded_in e) is ∙ (DecodesBack-in e form_of_x form_text).text in
    record {
      encoded = is;
      text = record {
        form = decodes;
        equivalents = λ y y_text.
            let same = equivalent_texts d m.form suits.laws suits.texts x y x_text y_text in
            (λ h. sym (same.0 h) ∙ sym decodes, λ h. same.1 (sym (h ∙ decodes)));
        own = subst (IsNormalized d m.form) (sym decodes) (normal_form-normal_form d m.form suits.laws x);
        decomposed = ap (nfd d) decodes ∙ decomposed_form d m.form suits x;
      };
    }

-- if the units are normalized, they are their own form
pub IsEncodedFormOf-own : (m : MadeForm) (e : Encoding) (units : List ℕ) → SuitsTexts m.reading m.form → IsInputNormalized e m.reading m.form units → IsEncodedFormOf m e units units
IsEncodedFormOf-own m e units suits own =
    IsEncodedFormOf-encoded m e units suits units (sym ((is_normalized_iff_encoded_form e m.reading m.form units (IsText-normal_form m.reading m.form suits.texts suits.scalars)).0 own))

-- what was written
module _ {S : Type 0} {taken : S → List ℕ} {m : MadeForm} {e : Encoding} {units : List ℕ} {old new : S} (suits : SuitsTexts m.reading m.form) where
  pub WroteUnlessOwn-kept : IsInputNormalized e m.reading m.form units → WroteUnlessOwn taken m e units old true new
  WroteUnlessOwn-kept own = record {
    is_own = (λ _. own, λ _. refl);
    kept = λ _. IsEncodedFormOf-own m e units suits own;
    wrote = λ k. (let no : true ≡ false = k in cc);
  }

  pub WroteUnlessOwn-wrote : ¬ IsInputNormalized e m.reading m.form units → taken new ≡ taken old ++ encoded_form e m.reading m.form units → WroteUnlessOwn taken m e units old false new
  WroteUnlessOwn-wrote differs took = record {
    is_own = (λ k. (let no : false ≡ true = k in cc), λ own. absurd (differs own));
    kept = λ k. (let no : false ≡ true = k in cc);
    wrote = λ _. (encoded_form e m.reading m.form units, took, IsEncodedFormOf-encoded m e units suits (encoded_form e m.reading m.form units) refl);
  }

-- what was returned
module _ {S A : Type 0} {content : A → List ℕ} {IsBorrowed : A → Type 0} {taken : S → List ℕ} {m : MadeForm} {e : Encoding} {units : List ℕ} {old new : S}
    {own : Bool} (wrote : WroteUnlessOwn taken m e units old own new) {z : A} where
  pub ReturnsForm-borrowed : IsTrue own → content z ≡ units → IsBorrowed z → ReturnsForm content IsBorrowed m e units (Ok z)
  ReturnsForm-borrowed is same borrowed = record {
    form = subst (IsEncodedFormOf m e units) (sym same) (wrote.kept is);
    borrows = (λ _. wrote.is_own.0 is, λ _. borrowed);
    room = λ _ _. refl;
    refused = tt;
  }

  pub ReturnsForm-owned : IsFalse own → taken old ≡ [] → content z ≡ taken new → ¬ IsBorrowed z → ReturnsForm content IsBorrowed m e units (Ok z)
  ReturnsForm-owned is empty same owned =
      let written = wrote.wrote is in
      let form : IsEncodedFormOf m e units (content z) = subst (IsEncodedFormOf m e units) (sym (same ∙ written.1 ∙ ap (λ l. l ++ written.0) empty)) written.2 in
      let differs : ¬ IsInputNormalized e m.reading m.form units = (λ normalized. (let no : false ≡ true = sym is ∙ wrote.is_own.1 normalized in cc)) in record {
        form = form;
        borrows = (λ borrowed. absurd (owned borrowed), λ normalized. absurd (differs normalized));
        room = λ _ _. refl;
        refused = tt;
      }
