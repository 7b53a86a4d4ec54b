use Rattle.std.proofs.Common.{ap, sym, ◌∙◌}
use Rattle.normalizer_tables.specs.Entries.{class_in}
use Rattle.normalizer_packing.specs.Spelling.{spelling}
use Rattle.normalizer_packing.proofs.spellings.KeptSpellings.{spelled_alone, spelled_at}
use Rattle.normalizer_packing.proofs.spelled.SpelledEntries.spelling.Goals as goal

pub returns-in-Some-clause-line : goal.returns-in-Some-clause-line
returns-in-Some-clause-line c =
    c.of.ensures
    ∙ rw (← c.self.view_is) (spelled_at c.args.kind c.self.inside.entries c.self.inside.spellings.items c.self.invariant c.args.character c.in-Some.place (sym c.position.ensures ∙ c.in-Some.is)
    c.index.result.now c.index.ensures)

pub returns-in-None-clause-line : goal.returns-in-None-clause-line
returns-in-None-clause-line c =
    c.spell.ensures.line ∙ rw (← c.self.view_is) (ap (spelling (class_in c.self.inside.entries) c.args.character) (sym (spelled_alone c.args.kind c.self.inside.entries c.args.character (sym c.position.ensures ∙ c.in-None.is))))
