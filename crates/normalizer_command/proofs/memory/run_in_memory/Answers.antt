use Rattle.std.proofs.Common.{◌≡◌, true, arith, refl, rules}
use Rattle.std.specs.Prelude.{All, Some, ⊤}
use Rattle.std.proofs.lemmas.Grind.{common_steps}
use Rattle.normalizer_command.specs.InMemory.{bytes_in}
use Rattle.normalizer_command.specs.inner.Kept.{kept_reports, IsOfData}
use Rattle.normalizer_command.proofs.InMemoryLemmas.{effect-of-run}
use Rattle.normalizer_command.proofs.KeptLemmas.{known-all, known-none}
use Rattle.normalizer_command.proofs.memory.run_in_memory.Goals as goal

pub returns : goal.returns
returns c =
    let is_whole = c.if-not-are_of_data.ensures.whole in
    let are_of_data = c.if-not-are_of_data.ensures.of_data in
    let whole : c.run-status.new.reports.is_whole ≡ true = first_of (search rules, grind (arith, common_steps), cc) in
    let of_data : All IsOfData (kept_reports c.run-status.new.reports.kept.items) = first_of (search rules, grind (arith, common_steps), cc) in
    effect-of-run (λ t. Some t.0.items) (λ t. t.0.items) (λ t. refl) (λ _ _. ⊤) (bytes_in c.args.files.now) c.args.command c.args.path.now _ _ _ (kept_reports c.run-status.new.reports.kept.items)
    (known-none c.new-2.result.items c.new-2.ensures.items) c.new.ensures.items refl
    (known-all c.run-status.new.reports.is_whole c.run-status.new.reports.kept.items whole) of_data c.run-status.ensures
