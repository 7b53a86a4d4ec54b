use Rattle.normalizer_tables.specs.Table.{code_points}
use Rattle.normalizer_tables.proofs.code_points.NextWords.{IsEndOfDisallowed-some, IsEndOfDisallowed-none}
use Rattle.normalizer_tables.proofs.characters.CharacterData.end_of_disallowed.Goals as goal

pub returns-in-Some : goal.returns-in-Some
returns-in-Some c = rw (← c.self.view_is, ← c.decompositions.view_is) (IsEndOfDisallowed-some _ _ _ _ c.in-Some.ensures)

pub returns-in-None : goal.returns-in-None
unfolding code_points
returns-in-None c = rw (← c.self.view_is, ← c.decompositions.view_is) (IsEndOfDisallowed-none _ _ c.requires c.in-None.ensures)
