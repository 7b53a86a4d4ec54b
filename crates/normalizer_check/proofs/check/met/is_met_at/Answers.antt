use Rattle.normalizer_tables.specs.conditions.Conditions.{says}
use Rattle.normalizer_check.proofs.words.FdfaWords.{AvoidsFdfa-word}
use Rattle.normalizer_check.proofs.check.met.is_met_at.Goals as goal

pub returns-in-FdfaForms : goal.returns-in-FdfaForms
unfolding says
returns-in-FdfaForms c =
    rw c.in-FdfaForms.is (AvoidsFdfa-word c.args.data.now.characters c.args.read.now.character c.args.read.now.word c.requires.word c.avoids_fdfa.result c.avoids_fdfa.ensures)
