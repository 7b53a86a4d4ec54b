-- Inputs of bytes with an error.
use Rattle.std.proofs.Common.{◌≡◌, ℕ, zero, suc, ◌≤◌, true, false, List, [], ◌∷◌, take, refl, sym, ap, ◌∙◌, arith}
use Rattle.std.proofs.lemmas.Bool.{true≢false}
use Rattle.std.proofs.lemmas.List.Elements.{All-nil, All-cons, All-head, All-tail}
use Rattle.normal_forms.specs.Reading.{Reading}
use Rattle.normal_forms.specs.declared.Form.{Form}
use Rattle.normal_forms.specs.Forms.{IsNormalized}
use Rattle.normal_forms.specs.Hypotheses.{SuitsForm}
use Rattle.normal_forms.proofs.cuts.OffenceLemmas.{parts_of_form}
use Rattle.normalizer_text.specs.declared.decoding_step.Step.{Step}
use Rattle.normalizer_text.specs.DecodingSteps.{read, replacement_step, IsWellFormed, steps_past}
use Rattle.normalizer_text.specs.Encodings.{Encoding}
use Rattle.normalizer_text.specs.Utf8.{first_of_utf8, row_of}
use Rattle.normalizer_text.specs.InputCut.{IsInputNormalized}
use Rattle.normalizer_text.specs.InputOffence.{IsInputOffence}
use Rattle.normalizer_text.proofs.inputs.InputBoundaryLemmas.{AreErrorFree}

-- ---- a sequence cut short, and completed

-- steps with an error are not free of errors
error_first : (e : Step) (ss : List Step) → e.is_error ≡ true → AreErrorFree (e ∷ ss) → ⊥
error_first e ss error free = true≢false (sym error ∙ All-head (λ s. s.is_error ≡ false) e ss free)

pub broken_is_ill_formed : IsWellFormed first_of_utf8 (0xE2 ∷ 0x98 ∷ []) → ⊥
unfolding steps_past row_of
broken_is_ill_formed w = error_first (replacement_step 2) [] refl w

pub completed_is_normalized : (d : Reading) (form : Form) → IsNormalized d form (0x2603 ∷ []) → IsInputNormalized Encoding.Utf8 d form (0xE2 ∷ 0x98 ∷ 0x83 ∷ [])
unfolding steps_past row_of
completed_is_normalized d form own =
    record { well_formed = All-cons (λ s. s.is_error ≡ false) (read 0x2603 3) [] refl (All-nil (λ s. s.is_error ≡ false)); own = own }

-- ---- an error between characters

abbrev bytes : List ℕ
bytes = 0x61 ∷ 0xFF ∷ 0x61 ∷ []

error_second : IsWellFormed first_of_utf8 bytes → ⊥
unfolding steps_past row_of
error_second w = error_first (replacement_step 1) (read 0x61 1 ∷ []) refl (All-tail (λ s. s.is_error ≡ false) (read 0x61 1) (replacement_step 1 ∷ read 0x61 1 ∷ []) w)

front_before_error : (m : ℕ) → m ≤ 3 → IsWellFormed first_of_utf8 (take m bytes) → m ≤ 1
unfolding steps_past row_of
front_before_error zero within w = omega arith
front_before_error (suc zero) within w = omega arith
front_before_error (suc (suc zero)) within w = absurd (error_first (replacement_step 1) [] refl (All-tail (λ s. s.is_error ≡ false) (read 0x61 1) (replacement_step 1 ∷ []) w))
front_before_error (suc (suc (suc zero))) within w = absurd (error_second w)
front_before_error (suc (suc (suc (suc m)))) within w = absurd (omega arith)

pub offence_at_error : (d : Reading) (form : Form) → SuitsForm d form → IsNormalized d form (0x61 ∷ 0xFFFD ∷ 0x61 ∷ []) → IsInputOffence Encoding.Utf8 d form (0x61 ∷ 0xFF ∷ 0x61 ∷ []) 1 0xFFFD 0xFFFD
unfolding steps_past row_of
offence_at_error d form suits own =
    let wanted = (parts_of_form d form suits (0x61 ∷ 0xFFFD ∷ 0x61 ∷ []) (0x61 ∷ []) (0xFFFD ∷ 0x61 ∷ []) own).1 in
    record {
      differs = λ n. error_second n.well_formed;
      cut = record {
        qualifies = record {
          within = omega arith;
          well_formed = All-cons (λ s. s.is_error ≡ false) (read 0x61 1) [] refl (All-nil (λ s. s.is_error ≡ false));
          keeps = ap (λ l. 0x61 ∷ l) wanted ∙ sym own;
        };
        greatest = λ m q. front_before_error m q.within q.well_formed;
      };
      is_found = (0x61 ∷ [], refl);
      is_wanted = (0x61 ∷ [], wanted);
    }
