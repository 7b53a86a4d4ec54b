-- The words of characters in ranges: neighbours in one range have the same.
use Rattle.std.proofs.Common.{◌≡◌, ◌≢◌, ◌∙◌, ℕ, ◌+◌, ◌<◌, ◌&&◌, nat_le, List, [], ◌∷◌, flat_map, Contains, Option, Some, None, refl, sym, subst, arith}
use Rattle.std.specs.Char.{OutOfScalarRange}
use Rattle.std.proofs.lemmas.Bool.Decides.{nat_tests}
use Rattle.std.proofs.lemmas.List.Elements.{All-cons, All-head, All-nil, All-tail, Contains-append_right}
use Rattle.normal_forms.specs.Composition.{compose}
use Rattle.normal_forms.specs.Reading.{Reading}
use Rattle.normalizer_tables.specs.conditions.CharacterConditions.{is_surrogate}
use Rattle.normalizer_tables.specs.Data.{Decompositions}
use Rattle.normalizer_tables.specs.Entries.{EntryValue, reading_of_entries}
use Rattle.normalizer_tables.specs.Hangul.{is_hangul_syllable}
use Rattle.normalizer_tables.specs.Pairs.{Pair}
use Rattle.normalizer_tables.specs.Table.{Table, code_points}
use Rattle.normalizer_tables.specs.declared.entry.Kind.{Kind}
use Rattle.normalizer_packing.specs.Disallowed.{is_in}
use Rattle.normalizer_packing.specs.Flags.{IsFlagged}
use Rattle.normalizer_packing.specs.Packing.{IsPackedWord}
use Rattle.normalizer_packing.specs.Spelling.{final_word}
use Rattle.normalizer_packing.specs.TableWords.{HasWords}
use Rattle.normalizer_packing.specs.declared.packed_words.OtherWords.{OtherWords}
use Rattle.normalizer_packing.specs.inner.Beside.{HasEnds, ends, IsReplacedWord, IsWordBeside, PacksKindBeside}
use Rattle.normalizer_packing.specs.inner.Breakpoints.{AreBreakpoints, IsConstantBetween}
use Rattle.normalizer_packing.specs.inner.PackedWords.{ArePacked, SharesWords}
use Rattle.normalizer_packing.proofs.constant_words.ConstantWords.{IsUnlisted-missing, compose-alone, packed_alike, same_final}
use Rattle.normalizer_packing.proofs.words_of_lists.SpelledWords.{surrogate_packs}

-- neighbours of which neither is an end are in the same ranges
in-alike : (ranges : List (ℕ × ℕ)) (breakpoints : List ℕ) → HasEnds ranges breakpoints → (n : ℕ) → (Contains breakpoints n → ⊥) → (Contains breakpoints (n + 1) → ⊥) → is_in ranges n ≡ is_in ranges (n + 1)
unfolding is_in
in-alike [] breakpoints has n one next = refl
in-alike (r ∷ ranges) breakpoints has n one next =
    let P = λ (s : ℕ × ℕ). Contains breakpoints s.0 × Contains breakpoints s.1 in
    let here = All-head P r ranges has in
    let first : r.0 ≢ n + 1 = λ e. next (subst (Contains breakpoints) e here.0) in
    let last : r.1 ≢ n = λ e. one (subst (Contains breakpoints) e here.1) in
    let rest = in-alike ranges breakpoints (All-tail P r ranges has) n one next in
    let same : (nat_le r.0 n && nat_le n r.1) ≡ (nat_le r.0 (n + 1) && nat_le (n + 1) r.1) = grind (arith, nat_tests) in
    rw (same, rest) refl

not_replacement : (n : ℕ) → final_word n ≡ None → n ≢ 0xFFFD
unfolding final_word
not_replacement n none same = absurd (grind (arith, nat_tests))

-- U+FFFD composes to no other character
pub not_composed : (d : Reading) (n : ℕ) → n ≢ 0xFFFD → compose d (0xFFFD ∷ []) ≡ n ∷ [] → ⊥
not_composed d n other is = other (head (sym (compose-alone d 0xFFFD) ∙ is))
  where
    head : 0xFFFD ∷ [] ≡ n ∷ [] → n ≡ 0xFFFD
    head e = cc

module _ (entries : List EntryValue) (pairs : List Pair) where
  flags-alike : (n m w : ℕ) → n ≢ 0xFFFD → m ≢ 0xFFFD → IsFlagged (reading_of_entries entries pairs) pairs n (0xFFFD ∷ []) w → IsFlagged (reading_of_entries entries pairs) pairs m (0xFFFD ∷ []) w
  flags-alike n m w other also h = record {
    within = h.within;
    round_trip = (
      λ clear. absurd (not_composed (reading_of_entries entries pairs) n other (h.round_trip.0 clear)),
      λ is. absurd (not_composed (reading_of_entries entries pairs) m also is),
    );
    backward = h.backward;
  }

  replaced-alike : (n m w : ℕ) → final_word n ≡ final_word m → IsReplacedWord entries pairs n w → IsReplacedWord entries pairs m w
  replaced-alike n m w same h = record {
    final = λ v is. h.final v (same ∙ is);
    word = λ none. h.word (same ∙ none);
    flags = λ none. flags-alike n m w (not_replacement n (same ∙ none)) (not_replacement m none) (h.flags (same ∙ none));
  }

  module _ (ranges : List (ℕ × ℕ)) (breakpoints : List ℕ) (lists : AreBreakpoints entries pairs breakpoints) (has : HasEnds ranges breakpoints) where
    pub words_alike : (kind : Kind) → IsConstantBetween (IsWordBeside ranges kind entries pairs) breakpoints
    unfolding IsConstantBetween
    words_alike kind n w unlisted next h =
        let same = in-alike ranges breakpoints has n unlisted next in
        let one = IsUnlisted-missing entries pairs breakpoints lists n unlisted in
        let two = IsUnlisted-missing entries pairs breakpoints lists (n + 1) next in
        record {
          replaced = λ is. replaced-alike n (n + 1) w (same_final entries pairs n one two) (h.replaced (same ∙ is));
          packed = λ apart. packed_alike entries pairs breakpoints lists kind n w unlisted next (h.packed (same ∙ apart));
        }

surrogate_final : (n : ℕ) → n < code_points → OutOfScalarRange n → final_word n ≡ Some 0xC000FFFD
unfolding final_word is_hangul_syllable is_surrogate code_points
surrogate_final n within out = grind (arith, nat_tests)

-- the word of a number that is no character
pub surrogate_beside : (ranges : List (ℕ × ℕ)) (kind : Kind) (entries : List EntryValue) (pairs : List Pair) (n : ℕ) → n < code_points → OutOfScalarRange n →
    IsWordBeside ranges kind entries pairs n 0xC000FFFD
surrogate_beside ranges kind entries pairs n within out =
    let final = surrogate_final n within out in
    record {
      replaced = λ is. record {
        final = λ v other. (let same : Some 0xC000FFFD ≡ Some v = sym final ∙ other in cc);
        word = λ none. absurd (let same : Some 0xC000FFFD ≡ None = sym final ∙ none in cc);
        flags = λ none. absurd (let same : Some 0xC000FFFD ≡ None = sym final ∙ none in cc);
      };
      packed = λ apart. surrogate_packs kind entries pairs n within out;
    }

-- the ends are listed if each of them is
pub HasEnds-listed : (ranges : List (ℕ × ℕ)) (breakpoints : List ℕ) → ((n : ℕ) → Contains (flat_map ends ranges) n → Contains breakpoints n) → HasEnds ranges breakpoints
HasEnds-listed [] breakpoints all = All-nil (λ r. Contains breakpoints r.0 × Contains breakpoints r.1)
HasEnds-listed (r ∷ ranges) breakpoints all =
    All-cons (λ (s : ℕ × ℕ). Contains breakpoints s.0 × Contains breakpoints s.1) r ranges
    (all r.0 (0, omega arith, refl), all r.1 (1, omega arith, refl))
    (HasEnds-listed ranges breakpoints (λ n there. all n (Contains-append_right (ends r) (flat_map ends ranges) n there)))

-- without ranges the words are those of the entries
words_beside_none : (kind : Kind) (entries : List EntryValue) (pairs : List Pair) (t : Table) → HasWords (IsWordBeside [] kind entries pairs) t → HasWords (IsPackedWord kind entries pairs) t
unfolding is_in
words_beside_none kind entries pairs t h = record { complete = h.complete; words = λ n within. (h.words n within).packed refl; past = h.past }

-- so data without ranges can lend them
pub ArePacked-shared : (ranges : List (ℕ × ℕ)) (kind : Kind) (entries : List EntryValue) (pairs : List Pair) (d : Decompositions) (t : Table) (o : Option OtherWords) → ranges ≡ [] → d.table ≡ t →
    SharesWords kind t o → PacksKindBeside ranges kind entries pairs d → ArePacked entries pairs o
ArePacked-shared ranges kind entries pairs d t None none same shares h = absurd shares
ArePacked-shared ranges kind entries pairs d t (Some o) none same shares h =
    rw (shares.0, shares.1, sym same) (words_beside_none kind entries pairs d.table (subst (λ (r : List (ℕ × ℕ)). HasWords (IsWordBeside r kind entries pairs) d.table) none h.words))
