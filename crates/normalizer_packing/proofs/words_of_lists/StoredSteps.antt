-- The words of the supplement.
use Rattle.std.proofs.Common.{◌≡◌, ℕ, ◌+◌, ◌<◌, true, false, List, [], ◌∷◌, take, filter_map, get_or, length, Option, Some, None, refl, arith, ap, sym, ◌∙◌}
use Rattle.std.specs.Char.{OutOfScalarRange}
use Rattle.std.proofs.lemmas.List.{take_more}
use Rattle.normalizer_tables.specs.Table.{code_points}
use Rattle.normalizer_tables.specs.declared.step.Step.{Step}
use Rattle.normalizer_tables.specs.declared.step.Step.TheVariants.{Default, Expansion}
use Rattle.normalizer_packing.specs.declared.store.Store.{Store}
use Rattle.normalizer_tables.specs.Entries.{EntryValue, class_in, entry_of}
use Rattle.normalizer_packing.specs.StepWords.{are_narrow, asked_step, asks_supplement, step_in, step_lists, stored_step, stored_steps, word_of_step}
use Rattle.normalizer_packing.specs.Stored.{first_come, is_among}
use Rattle.normalizer_packing.specs.inner.Stores.{Holds, HoldsMore}
use Rattle.normalizer_packing.proofs.lists.TableLemmas.{first_come-append, is_among-first_come}
use Rattle.normalizer_packing.proofs.words_of_lists.SpelledWords.{given_among, surrogate_spelled}
use Rattle.normalizer_packing.proofs.entry_data.EntryLemmas.{entry_of-own}

not_narrow : (a b : ℕ) → are_narrow a b ≡ false → stored_step (Expansion a b) ≡ Some (a ∷ b ∷ [])
unfolding stored_step
not_narrow a b wide = rw (wide, stored_step) refl

-- a step that only the table can hold is one of those in it
pub step_among : (entries : List EntryValue) (n : ℕ) (a b : ℕ) → step_in entries n ≡ Expansion a b → are_narrow a b ≡ false → is_among (a ∷ b ∷ []) (step_lists entries) ≡ true
unfolding step_in step_lists stored_steps
step_among entries n a b asked wide = by (entry_of entries n) refl asked
  where
    by : (o : Option EntryValue) → entry_of entries n ≡ o → elim o as (λ _. Step) [ Some e ↦ asked_step entries e | None ↦ Default ] ≡ Expansion a b →
        is_among (a ∷ b ∷ []) (first_come (filter_map (λ f. stored_step (asked_step entries f)) entries)) ≡ true
    by None found own = cc
    by (Some e) found own =
        is_among-first_come (a ∷ b ∷ []) (stored_steps entries)
        ∙ given_among (λ f. stored_step (asked_step entries f)) entries e (a ∷ b ∷ []) (entry_of-own entries n e found).1 (ap stored_step own ∙ not_narrow a b wide)

-- a number that is no character has no step
asked_none : (entries : List EntryValue) (e : EntryValue) → e.character < code_points → OutOfScalarRange e.character → asked_step entries e ≡ Default
unfolding asked_step asks_supplement
asked_none entries e within out = let is = surrogate_spelled (class_in entries) e.character (Some e.canonical) within out in grind arith

pub no_step : (entries : List EntryValue) (n : ℕ) → n < code_points → OutOfScalarRange n → 0 ≡ word_of_step (step_lists entries) (step_in entries n)
unfolding step_in word_of_step
no_step entries n within out = sym (ap (word_of_step (step_lists entries)) (by (entry_of entries n) refl))
  where
    by : (o : Option EntryValue) → entry_of entries n ≡ o → elim o as (λ _. Step) [ Some e ↦ asked_step entries e | None ↦ Default ] ≡ Default
    by None found = refl
    by (Some e) found = let same = (entry_of-own entries n e found).0 in asked_none entries e (rw same within) (rw same out)

-- one more list
pub Holds-more : (lists : List (List ℕ)) (i : ℕ) (old new : Store) → i < length lists → Holds (first_come (take i lists)) old → HoldsMore old (get_or lists i []) new →
    Holds (first_come (take (i + 1) lists)) new
Holds-more lists i old new within h more =
    rw (take_more lists i [] within, first_come-append (take i lists) (get_or lists i [])) (more (first_come (take i lists)) h)
