use Rattle.normalizer_tables.specs.declared.characters.IgnoredCharacters.TheVariants.{Dropped}
use Rattle.icu_normalizer.proofs.uts46.Uts46MapperBorrowed.map_normalize.Goals as goal

pub composed-requires-clause-reading : goal.composed-requires-clause-reading
composed-requires-clause-reading g c = rw c.copied-characters.ensures (c.args.self.now.serves.reading Dropped)
