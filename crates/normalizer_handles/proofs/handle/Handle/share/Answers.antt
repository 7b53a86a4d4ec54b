use Rattle.std.proofs.Common.{Some, ap, ◌∙◌}
use Rattle.normalizer_handles.specs.Handles.{owned_by}
use Rattle.normalizer_handles.proofs.handle.Handle.share.Goals as goal

pub returns-clause-shares : goal.returns-clause-shares
returns-clause-shares c =
    let is_same = rw c.deref.ensures at c.in_ok-another.ensures in
    (owned_by c.in_ok-owner.owner.value, c.in_ok-owner.ensures.was, c.put-2.ensures ∙ ap (λ n. Some n) is_same)
