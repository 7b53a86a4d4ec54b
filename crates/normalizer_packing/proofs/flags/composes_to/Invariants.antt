use Rattle.std.proofs.Common.{◌≡◌, [], ◌∷◌, drop}
use Rattle.normal_forms.specs.Composition.{compose, compose_from}
use Rattle.normalizer_tables.specs.Entries.{reading_of_entries}
use Rattle.normalizer_packing.proofs.flags.composes_to.Given as goal

-- the rest composes after the composite as the whole list does
abbrev pub invariant-loop-place : goal.invariant-loop-place
invariant-loop-place l =
    let d = reading_of_entries l.entries l.compositions in
    compose_from d (l.composite ∷ []) (drop l.place l.list) ≡ compose d l.list
