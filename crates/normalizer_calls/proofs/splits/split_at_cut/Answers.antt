use Rattle.std.proofs.Common.{refl}
use Rattle.normalizer_calls.proofs.results.CheckLemmas.{boundary_at_cut, cut_or_end, IsSplitAtCut-parts}
use Rattle.normalizer_calls.proofs.splits.split_at_cut.Goals as goal

pub before-requires : goal.before-requires
before-requires g c =
    boundary_at_cut _ _ _ _ _ (cut_or_end _ _ _ _ _ _ _ c.in_ok-cut_of.ensures.cut c.unwrap_or-place.ensures c.len.ensures)

pub after-requires : goal.after-requires
after-requires g c =
    boundary_at_cut _ _ _ _ _ (cut_or_end _ _ _ _ _ _ _ c.in_ok-cut_of.ensures.cut c.unwrap_or-place.ensures c.len.ensures)

pub returns : goal.returns
returns g c = record {
  is = rw (c.before-2.ensures, c.after.ensures) (IsSplitAtCut-parts _ _ _ (g.met.N.Forming.suits c.args.normalizer.now) _
      (cut_or_end _ _ _ _ _ _ _ c.in_ok-cut_of.ensures.cut c.unwrap_or-place.ensures c.len.ensures));
  room = λ _. refl;
  refused = tt;
}
