use Rattle.std.proofs.Common.{◌≡◌, map, take}
use Rattle.normalizer_tables.proofs.places.characters_of.Given as goal

abbrev pub invariant-loop-item : goal.invariant-loop-item
invariant-loop-item g l = l.characters.items ≡ map g.T.HasCharacter.character (take l.item-index l.items)
