-- How bytes compare with their form, by readings that give the same forms.
use Rattle.std.proofs.Common.{◌≡◌, ℕ, List, ◌++◌, take, drop, ap, sym, subst, ◌∙◌}
use Rattle.icu_normalizer.specs.Reading.{Reading}
use Rattle.icu_normalizer.specs.Form.{Form}
use Rattle.icu_normalizer.specs.NormalForms.{normal_form}
use Rattle.icu_normalizer.specs.TextOffence.{IsFirst}
use Rattle.icu_normalizer.specs.Encodings.{Encoding, decoded_in}
use Rattle.icu_normalizer.specs.InputCut.{IsInputNormalized, QualifiesForInputCut}
use Rattle.icu_normalizer.specs.InputOffence.{IsInputOffence}
use Rattle.normalizer_streams.specs.declared.ill_formed.ErrorMode.{ErrorMode}
use Rattle.normalizer_streams.specs.declared.mismatch.Comparison.{Comparison}
use Rattle.normalizer_streams.specs.declared.mismatch.Comparison.TheVariants.{Normalized, Differs, Stopped}
use Rattle.normalizer_streams.specs.Mismatches.{Compares}

module _ (d d' : Reading) (f f' : Form) where
  normalized-by : (e : Encoding) → ((x : List ℕ) → normal_form d f x ≡ normal_form d' f' x) → (units : List ℕ) → IsInputNormalized e d f units → IsInputNormalized e d' f' units
  normalized-by e same units h = record { well_formed = h.well_formed; own = sym (same (decoded_in e units)) ∙ h.own }

  qualifies-by : (e : Encoding) → ((x : List ℕ) → normal_form d f x ≡ normal_form d' f' x) → (units : List ℕ) (n : ℕ) → QualifiesForInputCut e d f units n → QualifiesForInputCut e d' f' units n
  qualifies-by e same units n q = record {
    within = q.within;
    well_formed = q.well_formed;
    keeps = ap (λ z. decoded_in e (take n units) ++ z) (sym (same (decoded_in e (drop n units)))) ∙ q.keeps ∙ same (decoded_in e units);
  }

offence-by : (e : Encoding) (d d' : Reading) (f f' : Form) → ((x : List ℕ) → normal_form d f x ≡ normal_form d' f' x) → (units : List ℕ) (place found wanted : ℕ)
    → IsInputOffence e d f units place found wanted → IsInputOffence e d' f' units place found wanted
offence-by e d d' f f' same units place found wanted h = record {
  differs = λ own. h.differs (normalized-by d' d f' f e (λ x. sym (same x)) units own);
  cut = record {
    qualifies = qualifies-by d d' f f' e same units place h.cut.qualifies;
    greatest = λ n q. h.cut.greatest n (qualifies-by d' d f' f e (λ x. sym (same x)) units n q);
  };
  is_found = h.is_found;
  is_wanted = let P : List ℕ → Type 0 = λ z. IsFirst z wanted in subst P (same (decoded_in e (drop place units))) h.is_wanted;
}

pub compares-by : (mode : ErrorMode) (d d' : Reading) (f f' : Form) → ((x : List ℕ) → normal_form d f x ≡ normal_form d' f' x) → (bytes : List ℕ) (c : Comparison)
    → Compares mode d f bytes c → Compares mode d' f' bytes c
compares-by mode d d' f f' same bytes Normalized h = normalized-by d d' f f' Encoding.Utf8 same bytes h
compares-by mode d d' f f' same bytes (Differs x) h = (
  h.0,
  h.1,
  record {
    place = h.2.place;
    first = offence-by Encoding.Utf8 d d' f f' same h.0 h.2.place x.found x.wanted h.2.first;
    position = h.2.position;
    differ = h.2.differ;
  },
)
compares-by mode d d' f f' same bytes (Stopped p) h = (h.0, h.1, normalized-by d d' f f' Encoding.Utf8 same h.0 h.2)
