use Rattle.normalizer_records.specs.Meaning.{list_of_status}
use Rattle.normalizer_records.proofs.checked_lists.ChecksOfCuts.{StandsFor-itself}
use Rattle.normalizer_records.proofs.cut_lists.cut_mapped_list.Goals as goal

pub returns-in-Ignored-clause-list : goal.returns-in-Ignored-clause-list
unfolding list_of_status
returns-in-Ignored-clause-list c = rw c.in-Ignored.is (λ canonical. tt)

pub returns-in_ok-vec-in-Disallowed-clause-list : goal.returns-in_ok-vec-in-Disallowed-clause-list
unfolding list_of_status
returns-in_ok-vec-in-Disallowed-clause-list c = rw (c.in-Disallowed.is, c.in_ok-vec-in-Disallowed.ensures.items) (λ canonical. StandsFor-itself c.args.records.now _)

pub returns-in_ok-list-in-Mapped-clause-list : goal.returns-in_ok-list-in-Mapped-clause-list
unfolding list_of_status
returns-in_ok-list-in-Mapped-clause-list c = rw c.in-Mapped.is (λ canonical. rw c.deref.ensures.value at c.in_ok-list-in-Mapped.ensures.list)
