use Rattle.std.proofs.Common.{◌≡◌, Some, arith, ◌∙◌}
use Rattle.normalizer_tables.specs.Entries.{entry_of}
use Rattle.normalizer_tables.specs.declared.entry.Kind.TheVariants.{Canonical}
use Rattle.normalizer_packing.specs.StepWords.{step_in}
use Rattle.normalizer_packing.proofs.spellings.KeptSpellings.{spelled_entry}
use Rattle.normalizer_packing.proofs.step_words.StepWords.step_of.Goals as goal

pub returns-in-Some : goal.returns-in-Some
unfolding step_in entry_of
returns-in-Some c =
    let found : entry_of c.args.self.now.entries.now c.args.character ≡ Some c.in-Some.entry.now = grind arith in
    let asked = c.asked_step.ensures c.args.self.now.entries.now (c.spelling.ensures.line ∙ spelled_entry Canonical c.args.self.now.entries.now c.args.character c.in-Some.entry.now found) in
    grind arith
