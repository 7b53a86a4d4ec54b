-- A table as a function of all numbers.
use Rattle.std.proofs.Common.{◌≡◌, ◌↔◌, ℕ, ◌≤◌, ◌&&◌, true, nat_eq, get_or, arith, ap, sym, ◌∙◌}
use Rattle.std.specs.Cmp.Lexicographic.{pointwise, bytes_decides}
use Rattle.std.proofs.lemmas.Bool.Decides.{Decides-and, Decides-eqb, Decides-like}
use Rattle.std.proofs.lemmas.List.{ext_get_or}
use Rattle.std.proofs.Math.ListN.{get_or-eq_default}
use Rattle.normalizer_tables.specs.Ranges.{IsComplete}
use Rattle.normalizer_tables.specs.Table.{Table, word_at, code_points}

-- a number above the code points has the word `past`
pub word_at-past : (t : Table) (n : ℕ) → IsComplete t → code_points ≤ n → word_at t n ≡ t.past
unfolding word_at IsComplete
word_at-past t n complete high = get_or-eq_default t.words t.past (omega arith)

same_words_from_word_at : (t u : Table) → IsComplete t → IsComplete u → t.past ≡ u.past → ((n : ℕ) → word_at t n ≡ word_at u n) → t.words ≡ u.words
unfolding word_at IsComplete
same_words_from_word_at t u t_complete u_complete same_past agree =
    ext_get_or t.past t.words u.words (t_complete ∙ sym u_complete) (λ n below. agree n ∙ ap (get_or u.words n) (sym same_past))

-- tables that have the same word for every number are equal
pub same_from_word_at : (t u : Table) → IsComplete t → IsComplete u → ((n : ℕ) → word_at t n ≡ word_at u n) → t ≡ u
same_from_word_at t u t_complete u_complete agree =
    let same_past : t.past ≡ u.past = sym (word_at-past t code_points t_complete (omega arith)) ∙ agree code_points ∙ word_at-past u code_points u_complete (omega arith) in
    let same_words : t.words ≡ u.words = same_words_from_word_at t u t_complete u_complete same_past agree in
    λ i. record { words = same_words i; past = same_past i }

-- the test of the words and of the word past the end says whether two tables are equal
pub same_table-decides : (t u : Table) → ((pointwise nat_eq t.words u.words && nat_eq t.past u.past) ≡ true) ↔ (t ≡ u)
same_table-decides t u =
    Decides-like _ (λ p i. record { words = p.0 i; past = p.1 i }) (λ e. (ap (λ (x : Table). x.words) e, ap (λ (x : Table). x.past) e))
    (Decides-and _ _ (bytes_decides t.words u.words) (Decides-eqb t.past u.past))
