-- What two readings open, once both have succeeded.
use Rattle.std.specs.Prelude.{⊤, MatchResult}
use Rattle.std.proofs.Common.{◌≡◌, ℕ, List, Option, Some, Result, Ok, Err, subst, sym}
use Rattle.icu_normalizer.specs.RecordValue.{RecordValue, Uts46RecordValue}
use Rattle.normalizer_handles.specs.declared.fault.Fault.{Fault}
use Rattle.normalizer_handles.specs.declared.fault.Fault.TheVariants.{Memory}
use Rattle.normalizer_handles.specs.declared.normalizers.Normalizers.{Normalizers}
use Rattle.normalizer_handles.specs.Opening.{both, Holds, HoldsBy, Places}

pub holds-both : (places : Places) (version stated : ℕ × ℕ × ℕ) → version ≡ stated
    → (r : Result (List RecordValue) Fault) (m : Result (List Uts46RecordValue) Fault)
    (x : List RecordValue) (y : List Uts46RecordValue) → r ≡ Ok x → m ≡ Ok y
    → (before after : Option Normalizers) (outcome : Result ⊤ Fault)
    → HoldsBy places version (Ok (x, y)) before after outcome → HoldsBy places stated (both r m) before after outcome
holds-both places version stated same r m x y is_r is_m before after outcome h =
    subst (λ v. HoldsBy places v (both r m) before after outcome) same
    (subst (λ s. HoldsBy places version (both s m) before after outcome) (sym is_r)
    (subst (λ s. HoldsBy places version (both (Ok x) s) before after outcome) (sym is_m) h))

-- a handle got normalizers, unless memory was refused
pub holds-of : (Are : Normalizers → Type 0) (IsFault : Fault → Type 0) (n : Normalizers)
    (before after : Option Normalizers) (outcome : Result ⊤ Fault)
    → MatchResult outcome (λ _. after ≡ Some n) (λ fault. (after ≡ before) × (fault ≡ Memory))
    → Are n → IsFault Memory → Holds Are IsFault before after outcome
holds-of Are IsFault n before after (Ok done) h are memory = (n, h, are)
holds-of Are IsFault n before after (Err fault) h are memory = (h.0, subst IsFault (sym h.1) memory)
