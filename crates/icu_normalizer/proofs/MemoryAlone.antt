-- Constructors refuse no data that were built.
use Rattle.std.proofs.Common.{◌≡◌, ◌⊎◌, inl, inr, Result, Ok, Err, IfErr, IsOkUnless}
use Rattle.normalizer_tables.specs.declared.provider.DataError.{DataError}
use Rattle.normalizer_tables.specs.declared.provider.DataError.TheVariants as error

-- what is not refused for the data themselves is refused by `Memory`
pub memory_alone : (Refuses : DataError → Type 0) (e : DataError) → ¬ Refuses e → (e ≡ error.Memory) ⊎ Refuses e → e ≡ error.Memory
memory_alone Refuses e never (inl h) = h
memory_alone Refuses e never (inr refuses) = absurd (never refuses)

pub IsOkUnless-memory : {A : Type 0} (Refuses : DataError → Type 0) → ((e : DataError) → ¬ Refuses e) → (r : Result A DataError)
    → IfErr r (λ e. (e ≡ error.Memory) ⊎ Refuses e) → IsOkUnless r error.Memory
IsOkUnless-memory Refuses never (Ok a) h = tt
IsOkUnless-memory Refuses never (Err e) h = memory_alone Refuses e (never e) h
