use Rattle.std.proofs.Common.{◌≡◌}
use Rattle.normalizer_tables.specs.Characters.{IsNextWord, word_of}
use Rattle.normalizer_tables.specs.Table.{code_points}
use Rattle.normalizer_tables.proofs.code_points.NextWords.{IsNextWord-some, IsNextWord-none}
use Rattle.normalizer_tables.proofs.characters.CharacterData.next_with_word.Goals as goal

pub returns-in-Some : goal.returns-in-Some
returns-in-Some c =
    let found : IsNextWord c.args.self.now c.args.from c.in-Some.next.0 × (c.in-Some.next.1 ≡ word_of c.args.self.now c.in-Some.next.0) =
    rw (← c.self.view_is, ← c.decompositions.view_is) (IsNextWord-some _ _ _ _ c.in-Some.ensures) in
    record { next = found.0; word = found.1 }

pub returns-in-None-clause-next : goal.returns-in-None-clause-next
unfolding code_points
returns-in-None-clause-next c = rw (← c.self.view_is, ← c.decompositions.view_is) (IsNextWord-none _ _ c.requires c.in-None.ensures)
