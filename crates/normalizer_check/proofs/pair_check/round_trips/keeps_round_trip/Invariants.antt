use Rattle.std.proofs.Common.{◌≡◌, [], ◌∷◌, drop}
use Rattle.normal_forms.specs.Composition.{compose, compose_from}
use Rattle.normalizer_tables.specs.Readings.{reading_by}
use Rattle.normalizer_tables.specs.declared.characters.IgnoredCharacters.TheVariants.{Dropped}
use Rattle.normalizer_check.proofs.pair_check.round_trips.keeps_round_trip.Given as goal

-- the rest composes after the composite as the whole list does
abbrev pub invariant-loop-place : goal.invariant-loop-place
invariant-loop-place l =
    let d = reading_by l.data Dropped l.compositions in
    compose_from d (l.composite ∷ []) (drop l.place l.list) ≡ compose d l.list
