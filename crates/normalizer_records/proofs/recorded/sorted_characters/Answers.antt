use Rattle.std.proofs.Common.{ℕ, nat_eq, List, Contains, subst}
use Rattle.std.specs.List.Sorted.{IsPermutation}
use Rattle.std.proofs.lemmas.List.Elements.{All-weaker, All-contains_itself}
use Rattle.std.proofs.lemmas.List.Filters.{dedup_is, All-dedup}
use Rattle.std.proofs.lemmas.List.Kept.{Contains-dedup_nat}
use Rattle.std.proofs.lemmas.List.Sorted.{All-permutation, Contains-permutation}
use Rattle.std.proofs.lemmas.Map.Keys.{IsStrictlyIncreasing-dedup}
use Rattle.normalizer_records.specs.Recorded.{recorded_characters}
use Rattle.normalizer_records.proofs.recorded.sorted_characters.Goals as goal

-- the sort only moves the characters, and one of each is kept
pub returns : goal.returns
returns c =
    let all : List ℕ = recorded_characters c.args.records.now c.args.uts46.now in
    let sorted : List ℕ = c.sort_unstable.new.self.items in
    let moved : IsPermutation all sorted = subst (λ (x : List ℕ). IsPermutation x sorted) c.in_ok-characters.ensures c.sort_unstable.ensures.permutation in
    let kept = dedup_is nat_eq sorted _ c.dedup.ensures.filtered in
    record {
      all = rw kept (All-weaker (Contains all) _ (λ n h. Contains-dedup_nat sorted n (Contains-permutation all sorted n moved h)) all (All-contains_itself all));
      recorded = rw kept (All-dedup nat_eq (Contains all) sorted (All-permutation (Contains all) all sorted moved (All-contains_itself all)));
      rising = rw kept (IsStrictlyIncreasing-dedup sorted c.sort_unstable.ensures.sorted);
    }
