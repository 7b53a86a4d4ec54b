use Rattle.std.proofs.Common.{◌≡◌, ◌<◌, ℕ, get_or, map}
use Rattle.normalizer_tables.specs.Table.{code_points}
use Rattle.normalizer_tables.proofs.lists.PlaceTables.{place_ranges}
use Rattle.normalizer_tables.proofs.places.places_of.Given as goal

abbrev pub invariant-loop-item : goal.invariant-loop-item
invariant-loop-item g l =
    let cs = map g.T.HasCharacter.character l.items in
    record {
      counted : l.place ≡ l.item-index;
      ranges : l.ranges.items ≡ place_ranges cs l.item-index;
      low : (k : ℕ) → k < l.item-index → get_or cs k 0 < code_points;
    }
