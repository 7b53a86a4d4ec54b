use Rattle.std.proofs.Common.{◌≡◌, All, List, sym, subst}
use Rattle.std.proofs.lemmas.Result.{IfOk-weaker}
use Rattle.normalizer_tables.specs.Characters.{Characters}
use Rattle.normalizer_tables.specs.Ignored.{ignored_list}
use Rattle.normalizer_tables.specs.conditions.PairConditions.{HasOrderedLists}
use Rattle.normalizer_tables.specs.Pairs.{Pair}
use Rattle.normalizer_tables.specs.declared.characters.IgnoredCharacters.TheVariants.{Dropped}
use Rattle.normalizer_calls.proofs.composing_form.NormalizerBorrowed+ComposingForm.normalize_iter.Goals as goal

-- the same data and pairs under other names
results_by : (s t : Characters) (pairs others : List Pair) → s ≡ t → pairs ≡ others → All (HasOrderedLists t (ignored_list Dropped)) others → All (HasOrderedLists s (ignored_list Dropped)) pairs
results_by s t pairs others same same_pairs h =
    subst (λ k. All (HasOrderedLists k (ignored_list Dropped)) pairs) (sym same) (subst (All (HasOrderedLists t (ignored_list Dropped))) (sym same_pairs) h)

pub returns-clause-results : goal.returns-clause-results
unfolding HasOrderedLists
returns-clause-results g c =
    IfOk-weaker c.items.result _ _ (λ it kept. results_by _ _ _ _ kept.0 kept.1 c.args.self.now.form.serves.results) c.items.ensures.kept
