use Rattle.normalizer_handles.proofs.opening.normalizers_of.Goals as goal

pub returns-in_ok-over-in-Ok : goal.returns-in_ok-over-in-Ok
returns-in_ok-over-in-Ok c = c.in_ok-over-in-Ok.ensures.by c.args.records.now c.in-Ok.ensures
