use Rattle.std.proofs.Common.{ℕ, ◌++◌, nat_eq, flat_map, List, subst}
use Rattle.std.specs.List.Sorted.{IsPermutation}
use Rattle.std.proofs.lemmas.List.Elements.{Contains-append_left, Contains-append_right}
use Rattle.std.proofs.lemmas.List.Filters.{dedup_is}
use Rattle.std.proofs.lemmas.List.Kept.{Contains-dedup_nat}
use Rattle.std.proofs.lemmas.List.Sorted.{Contains-permutation}
use Rattle.std.proofs.lemmas.Map.Keys.{IsStrictlyIncreasing-dedup}
use Rattle.normalizer_packing.specs.inner.Beside.{ends}
use Rattle.normalizer_packing.specs.inner.Breakpoints.{breakpoint_numbers}
use Rattle.normalizer_packing.proofs.beside.BesideWords.{HasEnds-listed}
use Rattle.normalizer_packing.proofs.breakpoints.breakpoints_of.Goals as goal

-- the sort only moves the characters, and one of each is kept
pub returns-clause-listed : goal.returns-clause-listed
returns-clause-listed c =
    let numbers : List ℕ = breakpoint_numbers c.args.entries.now c.args.pairs.now in
    let all : List ℕ = numbers ++ flat_map ends c.args.ranges.now in
    let sorted : List ℕ = c.sort.new.self.items in
    let moved : IsPermutation all sorted = subst (λ (x : List ℕ). IsPermutation x sorted) c.in_ok-breakpoints.ensures c.sort.ensures.permutation in
    let kept = dedup_is nat_eq sorted _ c.dedup.ensures.filtered in
    record {
      all = λ n there. rw kept (Contains-dedup_nat sorted n (Contains-permutation all sorted n moved (Contains-append_left numbers (flat_map ends c.args.ranges.now) n there)));
      rising = rw kept (IsStrictlyIncreasing-dedup sorted c.in_ok-sort.ensures.sorted);
    }

pub returns-clause-ends : goal.returns-clause-ends
returns-clause-ends c =
    let numbers : List ℕ = breakpoint_numbers c.args.entries.now c.args.pairs.now in
    let all : List ℕ = numbers ++ flat_map ends c.args.ranges.now in
    let sorted : List ℕ = c.sort.new.self.items in
    let moved : IsPermutation all sorted = subst (λ (x : List ℕ). IsPermutation x sorted) c.in_ok-breakpoints.ensures c.sort.ensures.permutation in
    let kept = dedup_is nat_eq sorted _ c.dedup.ensures.filtered in
    HasEnds-listed c.args.ranges.now _ (λ n there. rw kept (Contains-dedup_nat sorted n (Contains-permutation all sorted n moved (Contains-append_right numbers (flat_map ends c.args.ranges.now) n there))))
