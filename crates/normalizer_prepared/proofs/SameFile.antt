-- Bytes hold one thing.
use Rattle.std.proofs.Common.{◌≡◌, ℕ, List, Ok, Err, sym, ap, ◌∙◌}
use Rattle.normalizer_packing.specs.declared.Packed.{Packed}
use Rattle.normalizer_prepared.specs.Files.{held_in}
use Rattle.normalizer_prepared.specs.Prepared.{prepared_in, IsFileOf}
use Rattle.normalizer_prepared.specs.declared.fault.Fault.{Fault}
use Rattle.normalizer_prepared.specs.declared.reading.PreparedData.{PreparedData}

same_held : (bytes : List ℕ) (d e : PreparedData) → held_in bytes ≡ Ok d → held_in bytes ≡ Ok e → d ≡ e
same_held bytes d e of_d of_e = cc

pub same_data : (bytes : List ℕ) (p q : Packed) → IsFileOf bytes p → IsFileOf bytes q → p ≡ q
same_data bytes p q of_p of_q =
    sym of_p.2 ∙ ap (λ (d : PreparedData). prepared_in d) (same_held bytes of_p.0 of_q.0 of_p.1 of_q.1) ∙ of_q.2

-- the bytes of a file of data have no fault
pub unread : (bytes : List ℕ) (p : Packed) → IsFileOf bytes p → (fault : Fault) (left : ℕ)
    → held_in bytes ≡ Err (fault, left) → ⊥
unread bytes p of_p fault left wrong =
    let held : held_in bytes ≡ Ok of_p.0 = of_p.1 in
    absurd cc
