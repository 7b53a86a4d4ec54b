use Rattle.std.proofs.Common.{[]}
use Rattle.std.specs.List.{AllWithin}
use Rattle.normal_forms.specs.Reading.{IsStarter}
use Rattle.normalizer_tables.specs.Readings.{reading_by}
use Rattle.normalizer_tables.specs.declared.characters.IgnoredCharacters.TheVariants.{Dropped}
use Rattle.normalizer_check.proofs.check.lists.are_starters.Given as goal

abbrev pub invariant-loop-place : goal.invariant-loop-place
invariant-loop-place l = AllWithin (IsStarter (reading_by l.data Dropped [])) l.list 0 l.place
