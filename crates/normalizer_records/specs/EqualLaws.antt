-- A test of all fields decides whether records are equal.
use Rattle.std.proofs.Common.{◌≡◌, Bool, refl, ap}
use Rattle.std.proofs.lemmas.Bool.Decides.{Decides-and}
use Rattle.std.specs.Bool.{Decides}
use Rattle.std.specs.Cmp.{IsEquivalence, unsigned_Decides, booleans_Decides, decided}
use Rattle.std.specs.Cmp.Lexicographic.{bytes_decides}
use Rattle.normalizer_records.specs.RecordValue.{RecordValue, Status, MapsTo, IsIgnored, IsDisallowed, Uts46RecordValue}
use Rattle.normalizer_records.specs.Equal.{entry_eq, status_eq, mapper_entry_eq}

-- a test that decides some facts decides what they are together
Decides-by : {P Q : Type 0} → (r : Bool) → Decides r P → (P → Q) → (Q → P) → Decides r Q
Decides-by r d there back = (λ e. there (d.0 e), λ q. d.1 (back q))

pub entry_decides : (r s : RecordValue) → Decides (entry_eq r s) (r ≡ s)
entry_decides r s =
    Decides-by (entry_eq r s)
    (Decides-and _ _ (unsigned_Decides r.c s.c)
    (Decides-and _ _ (unsigned_Decides r.class s.class)
    (Decides-and _ _ (bytes_decides r.mapping s.mapping)
    (Decides-and _ _ (booleans_Decides r.compatibility s.compatibility)
    (booleans_Decides r.excluded s.excluded)))))
    (λ p i.
    record { c = p.0 i; class = p.1.0 i; mapping = p.1.1.0 i; compatibility = p.1.1.1.0 i; excluded = p.1.1.1.1 i })
    (λ e. (cc, (cc, (cc, (cc, cc)))))

status_decides : (s t : Status) → Decides (status_eq s t) (s ≡ t)
status_decides (MapsTo x) (MapsTo y) = Decides-by _ (bytes_decides x y) (ap MapsTo) (λ e. cc)
status_decides (MapsTo x) IsIgnored = (λ e. cc, λ e. cc)
status_decides (MapsTo x) IsDisallowed = (λ e. cc, λ e. cc)
status_decides IsIgnored (MapsTo y) = (λ e. cc, λ e. cc)
status_decides IsIgnored IsIgnored = (λ e. refl, λ e. refl)
status_decides IsIgnored IsDisallowed = (λ e. cc, λ e. cc)
status_decides IsDisallowed (MapsTo y) = (λ e. cc, λ e. cc)
status_decides IsDisallowed IsIgnored = (λ e. cc, λ e. cc)
status_decides IsDisallowed IsDisallowed = (λ e. refl, λ e. refl)

pub mapper_entry_decides : (r s : Uts46RecordValue) → Decides (mapper_entry_eq r s) (r ≡ s)
mapper_entry_decides r s =
    Decides-by (mapper_entry_eq r s)
    (Decides-and _ _ (unsigned_Decides r.c s.c) (status_decides r.status s.status))
    (λ p i. record { c = p.0 i; status = p.1 i })
    (λ e. (cc, cc))

pub entry_equivalence : IsEquivalence entry_eq
entry_equivalence = decided entry_eq entry_decides

pub mapper_entry_equivalence : IsEquivalence mapper_entry_eq
mapper_entry_equivalence = decided mapper_entry_eq mapper_entry_decides
