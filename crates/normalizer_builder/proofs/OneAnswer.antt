-- Records have at most one smallest refusal, memory aside, and none if they build data.
use Rattle.std.proofs.Common.{◌≡◌, ◌≢◌, inl, inr, ◌≤◌, List, Option, Some, None, refl, ap, sym, subst, arith}
use Rattle.normalizer_tables.specs.conditions.Conditions.{IsFirstFailing, item_limit}
use Rattle.normalizer_packing.specs.declared.Packed.{Packed}
use Rattle.normalizer_tables.specs.Entries.{EntryValue}
use Rattle.normalizer_packing.specs.Stored.{needed_items}
use Rattle.normalizer_records.specs.declared.records.BuildError.{BuildError}
use Rattle.normalizer_records.specs.declared.records.BuildError.TheVariants as error
use Rattle.normalizer_records.specs.RecordValue.{RecordValue, Uts46RecordValue}
use Rattle.normalizer_records.specs.Faults.{faults, HasFault, IsFirstRefusal}
use Rattle.normalizer_records.specs.AtFault.{IsRefusal}
use Rattle.normalizer_records.specs.declared.at_fault.Refusal.{Refusal}
use Rattle.normalizer_builder.specs.declared.demand.Demand.{Demand}
use Rattle.normalizer_builder.specs.Building.{Builds, HasTooManyItems, IsSmallest, PacksRecords}
use Rattle.normalizer_builder.specs.Demands.{demands, error_of, IsFirstUnmet, Meets}
use Rattle.normalizer_builder.proofs.FirstUnmet.{one_first}
use Rattle.normalizer_builder.proofs.SameParts.{one_packing_of_records, same_entries}

module _ (records : List RecordValue) (uts46 : List Uts46RecordValue) where
  failing : (r : Option BuildError) → IsFirstRefusal records uts46 r → IsFirstFailing (λ e. ¬ HasFault records uts46 e) faults r
  unfolding IsFirstRefusal IsFirstFailing
  failing None h = h
  failing (Some e) h = (h.0, h.1, h.2, h.3, λ never. never h.4)

  pub one_refusal : (o p : Option BuildError) → IsFirstRefusal records uts46 o → IsFirstRefusal records uts46 p → o ≡ p
  one_refusal o p h k = one_first (λ e. ¬ HasFault records uts46 e) faults o p (failing o h) (failing p k)

  refused_first : (e : BuildError) → IsFirstRefusal records uts46 (Some e) → IsSmallest records uts46 e
  unfolding IsSmallest IsFirstRefusal HasFault
  refused_first error.Memory h = tt
  refused_first error.TableFull h = absurd h.4
  refused_first (error.Unfit marker condition) h = absurd h.4
  refused_first e h = h

  -- a refusal of the records themselves is the smallest fault
  pub IsSmallest-refusal : (r : Refusal) → IsRefusal records uts46 r → IsSmallest records uts46 r.error
  unfolding IsSmallest
  IsSmallest-refusal r (inl memory) = subst (IsSmallest records uts46) (sym memory) tt
  IsSmallest-refusal r (inr h) = refused_first r.error h.0

  -- what becomes of records that aren't refused: too many items, or data, and the first requirement that they don't meet
  abbrev pub Becomes : Option (Option Demand) → Type 0
  Becomes None = HasTooManyItems records uts46
  Becomes (Some o) = (p : Packed) × PacksRecords records uts46 p × IsFirstUnmet records p o

  too_many : (p : Packed) → PacksRecords records uts46 p → ¬ HasTooManyItems records uts46
  too_many p packs h =
      let few = subst (λ (es : List EntryValue). needed_items es ≤ item_limit) (same_entries records uts46 packs.entries h.entries packs.made h.made) packs.packs.within in
      omega (arith, few, h.full)

  pub one_outcome : (v w : Option (Option Demand)) → Becomes v → Becomes w → v ≡ w
  one_outcome None None h k = refl
  one_outcome None (Some o) h k = absurd (too_many k.0 k.1 h)
  one_outcome (Some o) None h k = absurd (too_many h.0 h.1 k)
  one_outcome (Some o) (Some q) h k = ap Some (one_first (Meets records k.0) demands o q
      (subst (λ (p : Packed). IsFirstUnmet records p o) (one_packing_of_records records uts46 h.0 k.0 h.1 k.1) h.2) k.2)

  abbrev error_of_outcome : Option (Option Demand) → BuildError
  error_of_outcome None = error.TableFull
  error_of_outcome (Some None) = error.Memory
  error_of_outcome (Some (Some d)) = error_of d

  -- the result, with `Memory` in place of data
  data Cause : BuildError → Type 0 where
    refused : (e : BuildError) → IsFirstRefusal records uts46 (Some e) → Cause e
    become : (v : Option (Option Demand)) → IsFirstRefusal records uts46 None → Becomes v → Cause (error_of_outcome v)

  cause_of : (e : BuildError) → (e ≡ error.Memory → Cause e) → IsSmallest records uts46 e → Cause e
  unfolding IsSmallest
  cause_of error.Memory memory h = memory refl
  cause_of error.TableFull memory h = become None h.0 h.1
  cause_of (error.Unfit marker condition) memory h = subst Cause h.1.4 (become (Some (Some h.1.1)) h.0 (h.1.0, h.1.2, h.1.3))
  cause_of e memory h = refused e h

  one_cause : (e f : BuildError) → Cause e → Cause f → e ≡ f
  one_cause e f (refused r h) (refused s k) = (let some = one_refusal (Some r) (Some s) h k in cc)
  one_cause e f (refused r h) (become v none k) = absurd (let never = one_refusal (Some r) None h none in cc)
  one_cause e f (become v none h) (refused s k) = absurd (let never = one_refusal (Some s) None k none in cc)
  one_cause e f (become v none h) (become w also k) = ap error_of_outcome (one_outcome v w h k)

  pub one_smallest : (e f : BuildError) → IsSmallest records uts46 e → IsSmallest records uts46 f → e ≢ error.Memory → f ≢ error.Memory → e ≡ f
  one_smallest e f h k some also = one_cause e f (cause_of e (λ m. absurd (some m)) h) (cause_of f (λ m. absurd (also m)) k)

  pub built_or_memory : (p : Packed) (e : BuildError) → Builds records uts46 p → IsSmallest records uts46 e → e ≡ error.Memory
  built_or_memory p e built h =
      let data' : Cause error.Memory = become (Some None) built.unrefused (p, built.packs, built.fit) in one_cause e error.Memory (cause_of e (λ m. subst Cause (sym m) data') h) data'
