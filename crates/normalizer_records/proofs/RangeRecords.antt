-- The records that ranges list: those of each range, in order.
use Rattle.std.proofs.Common.{◌≡◌, ℕ, zero, suc, ◌+◌, ◌-◌, ◌≤◌, ◌<◌, List, [], ◌∷◌, ◌++◌, Bool, true, false, All, Contains, inl, inr, refl, arith}
use Rattle.std.specs.Prelude.{if◌then◌else◌, ◌||◌}
use Rattle.std.specs.Char.{IsScalar}
use Rattle.std.specs.Int.{is_in_range}
use Rattle.std.specs.List.{flat_map, range_with_len}
use Rattle.std.proofs.lemmas.Bool.{cases_Bool, cases_lt}
use Rattle.std.proofs.lemmas.Bool.Decides.{nat_tests}
use Rattle.std.proofs.lemmas.List.Elements.{All-append, All-cons, All-nil, Contains-append_left, Contains-append_right}
use Rattle.normalizer_records.specs.RecordValue.{Status, Uts46RecordValue}
use Rattle.normalizer_records.specs.Ranges.{Uts46RangeValue, entries_at, entries_of}
use Rattle.normalizer_records.proofs.RisingLemmas.{from_less, joined, AreWithin, IsWithin}

abbrev is_scalar_value : ℕ → Bool
is_scalar_value n = is_in_range 0 0xD7FF n || is_in_range 0xE000 0x10FFFF n

abbrev pub character : Uts46RecordValue → ℕ
character r = r.c

abbrev pub AreRanges : ℕ → ℕ → List Uts46RangeValue → Type 0
AreRanges = IsWithin (λ r. r.first) (λ r. r.end)

-- the record of a character, if it is one, and those of what follows
first_or_none : (scalar : Bool) (status : Status) (c m : ℕ) (later : List Uts46RecordValue) →
    AreWithin character (c + 1) m later →
    AreWithin character c m ((if scalar then record { c = c; status = status } ∷ [] else []) ++ later)
first_or_none true status c m later h = (omega arith, omega arith, h)
first_or_none false status c m later h = from_less character (λ r. r.c + 1) c (c + 1) m later h (omega arith)

all_within : (status : Status) (count first end : ℕ) → end ≡ first + count →
    AreWithin character first end (flat_map (entries_at status) (range_with_len first count))
all_within status zero first end is = omega arith
all_within status (suc count) first end is =
    first_or_none (is_scalar_value first) status first end
    (flat_map (entries_at status) (range_with_len (first + 1) count))
    (all_within status count (first + 1) end (omega arith))

pub of_ranges : (n m : ℕ) (ranges : List Uts46RangeValue) → AreRanges n m ranges →
    AreWithin character n m (flat_map entries_of ranges)
unfolding entries_of
of_ranges n m [] h = h
of_ranges n m (r ∷ ranges) h =
    joined character (λ e. e.c + 1) n r.end m (entries_of r) (flat_map entries_of ranges)
    (from_less character (λ e. e.c + 1) n r.first r.end (entries_of r)
    (all_within r.status (r.end - r.first) r.first r.end (let le : r.first ≤ r.end = h.1 in omega arith)) h.0)
    (of_ranges r.end m ranges h.2)

scalar_values : (n : ℕ) → is_scalar_value n ≡ true → IsScalar n
scalar_values n h = grind (arith, nat_tests)

values_of_scalars : (n : ℕ) → IsScalar n → is_scalar_value n ≡ true
values_of_scalars n h = grind (arith, nat_tests)

-- a record of a character of a range
pub record IsOfRange (first end : ℕ) (status : Status) (x : Uts46RecordValue) : Type 0 where
  pub low : first ≤ x.c
  pub high : x.c < end
  pub scalar : IsScalar x.c
  pub is : x.status ≡ status

module _ (status : Status) where
  one_of : (first end : ℕ) → first < end → All (IsOfRange first end status) (entries_at status first)
  one_of first end some = elim (cases_Bool (is_scalar_value first)) as (λ _. All (IsOfRange first end status) (entries_at status first)) [
    | inl scalar ↦ rw scalar (All-cons (IsOfRange first end status) _ [] (record { low = omega arith; high = some; scalar = scalar_values first scalar; is = refl }) (All-nil (IsOfRange first end status)))
    | inr other ↦ rw other (All-nil (IsOfRange first end status))
  ]

  each_of : (count first end : ℕ) → end ≡ first + count → All (IsOfRange first end status) (flat_map (entries_at status) (range_with_len first count))
  each_of zero first end is = All-nil (IsOfRange first end status)
  each_of (suc count) first end is =
      All-append (IsOfRange first end status) (entries_at status first) (flat_map (entries_at status) (range_with_len (first + 1) count)) (one_of first end (omega arith))
      (λ k d within. let h = each_of count (first + 1) end (omega arith) k d within in record { low = (let low = h.low in omega arith); high = h.high; scalar = h.scalar; is = h.is })

  -- each character has its record
  listed_of : (count first n : ℕ) → first ≤ n → n < first + count → IsScalar n → Contains (flat_map (entries_at status) (range_with_len first count)) (record { c = n; status = status })
  listed_of zero first n low high scalar = absurd (omega arith)
  listed_of (suc count) first n low high scalar = elim (cases_lt first n) as (λ _. Contains (flat_map (entries_at status) (range_with_len first (suc count))) (record { c = n; status = status })) [
    | inl later ↦ Contains-append_right (entries_at status first) _ _ (listed_of count (first + 1) n (omega arith) (omega arith) scalar)
    | inr here ↦ (
        let same : first ≡ n = omega arith in
        Contains-append_left (entries_at status first) _ _ (rw (same, values_of_scalars n scalar) (0, omega arith, refl)))
  ]

pub records_of_range : (r : Uts46RangeValue) → r.first ≤ r.end → All (IsOfRange r.first r.end r.status) (entries_of r)
unfolding entries_of
records_of_range r some = each_of r.status (r.end - r.first) r.first r.end (omega arith)

pub record_in_range : (r : Uts46RangeValue) (n : ℕ) → r.first ≤ n → n < r.end → IsScalar n → Contains (entries_of r) (record { c = n; status = r.status })
unfolding entries_of
record_in_range r n low high scalar = listed_of r.status (r.end - r.first) r.first n low (omega arith) scalar
