use Rattle.normalizer_tables.specs.conditions.Conditions.{says}
use Rattle.normalizer_check.proofs.check.met.is_met_of_all.Goals as goal

pub returns-in-Hangul : goal.returns-in-Hangul
unfolding says
returns-in-Hangul c = rw (c.in-Hangul.is, ← c.data.view_is) c.have_sound_hangul.ensures
