use Rattle.normalizer_check.proofs.check.end_of_equal_words.Goals as goal

pub returns-then-word-eq-DISALLOWED_WORD : goal.returns-then-word-eq-DISALLOWED_WORD
returns-then-word-eq-DISALLOWED_WORD c = c.end_of_disallowed.ensures c.args.hangul_is_sound
