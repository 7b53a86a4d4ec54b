-- The next number with a word, by the table.
use Rattle.std.proofs.Common.{◌≡◌, ℕ, ◌≤◌, Some, None, eq-eqb, ne_eqb, arith, subst, sym, false}
use Rattle.normalizer_tables.specs.Characters.{Characters, word_of}
use Rattle.normalizer_tables.specs.Table.{IsNextOther, HaveBits, code_points}
use Rattle.normalizer_tables.specs.Characters.{IsEndOfDisallowed, IsNextWord}
use Rattle.normalizer_tables.specs.Words.{is_disallowed, is_plain}

module _ (s : Characters) (from : ℕ) where
  pub IsNextWord-some : (n w : ℕ) → IsNextOther s.decompositions.table 0x3FFFFFFF 0 from (Some (n, w)) → IsNextWord s from n × (w ≡ word_of s n)
  unfolding IsNextOther HaveBits word_of is_plain
  IsNextWord-some n w next = (
    record {
      least = next.0;
      within = omega (arith, next.1);
      between = λ m low high. eq-eqb _ _ (next.4 m low high);
      found = λ below. subst (λ v. is_plain v ≡ false) (sym next.2) (ne_eqb _ _ next.3);
    },
    sym next.2,
  )

  pub IsNextWord-none : from ≤ code_points → IsNextOther s.decompositions.table 0x3FFFFFFF 0 from None → IsNextWord s from code_points
  unfolding IsNextOther HaveBits word_of is_plain
  IsNextWord-none within none = record {
    least = within;
    within = omega arith;
    between = λ m low high. eq-eqb _ _ (none m low high);
    found = λ below. absurd (omega arith);
  }

  pub IsEndOfDisallowed-some : (n w : ℕ) → IsNextOther s.decompositions.table 0xFFFFFFFF 0x4000FFFD from (Some (n, w)) → IsEndOfDisallowed s from n
  unfolding IsNextOther HaveBits word_of is_disallowed
  IsEndOfDisallowed-some n w next = record {
    least = next.0;
    within = omega (arith, next.1);
    between = λ m low high. eq-eqb _ _ (next.4 m low high);
    found = λ below. subst (λ v. is_disallowed v ≡ false) (sym next.2) (ne_eqb _ _ next.3);
  }

  pub IsEndOfDisallowed-none : from ≤ code_points → IsNextOther s.decompositions.table 0xFFFFFFFF 0x4000FFFD from None → IsEndOfDisallowed s from code_points
  unfolding IsNextOther HaveBits word_of is_disallowed
  IsEndOfDisallowed-none within none = record {
    least = within;
    within = omega arith;
    between = λ m low high. eq-eqb _ _ (none m low high);
    found = λ below. absurd (omega arith);
  }
