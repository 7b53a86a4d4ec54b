use Rattle.std.proofs.Common.{◌≡◌, None, Some, sym, ap, ◌∙◌}
use Rattle.std.proofs.lemmas.Result.{IfOk-weaker}
use Rattle.normalizer_records.specs.RecordValue.{Uts46RecordValue}
use Rattle.normalizer_records.specs.Statuses.{status_of as status_value}
use Rattle.normalizer_records.specs.Meaning.{mapper_list, mapped_list, status_of}
use Rattle.normalizer_records.proofs.cut_lists.cut_mapper_list.Goals as goal

pub returns-in-None-clause-list : goal.returns-in-None-clause-list
unfolding mapper_list mapped_list
returns-in-None-clause-list c =
    let none : status_of c.args.uts46.now c.args.c ≡ None = sym c.in-None.ensures in
    rw none (λ canonical stands. stands)

pub returns-in-Some-clause-list : goal.returns-in-Some-clause-list
unfolding mapper_list mapped_list
returns-in-Some-clause-list c =
    let seen = ap (λ (e : Uts46RecordValue). e.status) c.record.view_is in
    let known : status_of c.args.uts46.now c.args.c ≡ Some (status_value c.record.inside.status) = sym c.in-Some.ensures ∙ ap (λ s. Some s) (sym seen) in
    rw known (IfOk-weaker c.cut_mapped_list.result _ _ (λ m h canonical stands. h canonical) c.cut_mapped_list.ensures.list)
