-- The word of a number in a list of ranges.
use Rattle.std.proofs.Common.{◌≡◌, ℕ, ◌+◌, ◌-◌, ◌<◌, ◌≤◌, ◌&&◌, ◌⊎◌, true, false, List, [], ◌∷◌, refl, inl, inr, nat_le, if◌then◌else◌, All, arith, ◌∙◌, sym, suc, length, get_or, take, drop}
use Rattle.std.proofs.lemmas.Bool.{le-leb, lt-leb}
use Rattle.std.proofs.lemmas.List.{take_all}
use Rattle.std.proofs.lemmas.List.Elements.{All-tail, All-cons}
use Rattle.normalizer_tables.specs.inner.Blocks.{AreFrom, AreLeft, IsRun}
use Rattle.normalizer_tables.specs.Ranges.{WordRange, IsRange, IsRangeList, word_in}

-- the number lies before the range or after it
abbrev pub Misses : ℕ → WordRange → Type 0
Misses n r = (r.1 < n) ⊎ (n < r.0)

-- a range that holds the number decides
pub word_in-held : (r : WordRange) (rs : List WordRange) (n : ℕ) → r.0 ≤ n → n ≤ r.1 → word_in (r ∷ rs) n ≡ r.2
unfolding word_in
word_in-held r rs n low high = rw (le-leb r.0 n low, le-leb n r.1 high) refl

-- a range that misses the number is passed over
pub word_in-missed : (r : WordRange) (rs : List WordRange) (n : ℕ) → Misses n r → word_in (r ∷ rs) n ≡ word_in rs n
unfolding word_in
word_in-missed r rs n (inl below) = elim (nat_le r.0 n) as (λ b. (if b && nat_le n r.1 then r.2 else word_in rs n) ≡ word_in rs n) [ true ↦ rw (lt-leb n r.1 below) refl | false ↦ refl ]
word_in-missed r rs n (inr above) = rw (lt-leb r.0 n above) refl

-- a number in front of all ranges has no word
pub word_in-before : (rs : List WordRange) (n : ℕ) → All (λ r. n < r.0) rs → word_in rs n ≡ 0
unfolding word_in
word_in-before [] n before = refl
word_in-before (r ∷ rs) n before = word_in-missed r rs n (inr (before 0 r (omega arith))) ∙ word_in-before rs n (All-tail (λ s. n < s.0) r rs before)

-- what follows the first range is a list of ranges that begin after it
pub IsRangeList-tail : (r : WordRange) (rs : List WordRange) → IsRangeList (r ∷ rs) → IsRangeList rs × All (λ s. r.1 < s.0) rs
IsRangeList-tail r rs h = (
  record { ranges = All-tail IsRange r rs h.ranges; rising = λ i j d below within. h.rising (suc i) (suc j) d (omega arith) (omega arith) },
  λ k d within. h.rising 0 (suc k) d (omega arith) (omega arith),
)

-- those after the first range end later
AreFrom-tail : (r : WordRange) (rs : List WordRange) (m : ℕ) → IsRangeList (r ∷ rs) → m ≤ r.1 + 1 → AreFrom m rs
AreFrom-tail r rs m h low =
    let behind = IsRangeList-tail r rs h in
    record { list = behind.0; ends = λ k d below. omega (arith, behind.1 k d below, (behind.0.ranges k d below).0) }

AreFrom-to : (r : WordRange) (rs : List WordRange) (m : ℕ) → IsRangeList (r ∷ rs) → m ≤ r.1 → AreFrom m (r ∷ rs)
AreFrom-to r rs m h low = record { list = h; ends = All-cons (λ s. m ≤ s.1) r rs low (AreFrom-tail r rs m h (omega arith)).ends }

pub AreFrom-earlier : (rs : List WordRange) (n m : ℕ) → m ≤ n → AreFrom n rs → AreFrom m rs
AreFrom-earlier rs n m low f = record { list = f.list; ends = λ k d below. omega (arith, f.ends k d below) }

-- the run of a number: up to the first range, or to its end
pub IsRun-none : (rs : List WordRange) (n last : ℕ) → length rs < 1 → n ≤ last → AreFrom n rs → IsRun rs n 0 last
IsRun-none rs n last none some f = record {
  some = some;
  words = λ m low high. word_in-before rs m (λ k d below. absurd (omega arith));
  from = record { list = f.list; ends = λ k d below. absurd (omega arith) };
}

pub IsRun-gap : (rs : List WordRange) (n : ℕ) → 1 ≤ length rs → n < (get_or rs 0 (0, 0, 0)).0 → AreFrom n rs → IsRun rs n 0 ((get_or rs 0 (0, 0, 0)).0 - 1)
IsRun-gap [] n some gap f = absurd (omega arith)
IsRun-gap (r ∷ rs) n some gap f =
    let range = f.list.ranges 0 r (omega arith) in
    record {
      some = omega arith;
      words = λ m low high. word_in-before (r ∷ rs) m (All-cons (λ s. m < s.0) r rs (omega arith) (λ k d below. omega (arith, (IsRangeList-tail r rs f.list).1 k d below, range.0)));
      from = AreFrom-to r rs (r.0 - 1) f.list (omega (arith, range.0));
    }

pub IsRun-held : (rs : List WordRange) (n : ℕ) → 1 ≤ length rs → (get_or rs 0 (0, 0, 0)).0 ≤ n → AreFrom n rs → IsRun rs n (get_or rs 0 (0, 0, 0)).2 (get_or rs 0 (0, 0, 0)).1
IsRun-held [] n some begun f = absurd (omega arith)
IsRun-held (r ∷ rs) n some begun f =
    record { some = f.ends 0 r (omega arith); words = λ m low high. word_in-held r rs m (omega arith) high; from = AreFrom-to r rs r.1 f.list (omega arith) }

-- what is left after a number
pub AreLeft-tail : (rs : List WordRange) (n : ℕ) → 1 ≤ length rs → (get_or rs 0 (0, 0, 0)).1 ≤ n → AreFrom n rs → AreLeft rs (n + 1) (take (length rs - 1) (drop 1 rs))
AreLeft-tail [] n some ends f = absurd (omega arith)
AreLeft-tail (r ∷ rs) n some ends f = rw (take_all (length (r ∷ rs) - 1) rs (omega arith))
    (record { from = AreFrom-tail r rs (n + 1) f.list (omega (arith, f.ends 0 r (omega arith))); words = λ m low. sym (word_in-missed r rs m (inl (omega arith))) })

pub AreLeft-all : (rs : List WordRange) (n : ℕ) → (1 ≤ length rs → n < (get_or rs 0 (0, 0, 0)).1) → AreFrom n rs → AreLeft rs (n + 1) rs
AreLeft-all [] n later f = record { from = record { list = f.list; ends = λ k d below. absurd (omega arith) }; words = λ m low. refl }
AreLeft-all (r ∷ rs) n later f = record { from = AreFrom-to r rs (n + 1) f.list (omega (arith, later (omega arith))); words = λ m low. refl }
