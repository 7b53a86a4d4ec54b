use Rattle.std.proofs.Common.{refl}
use Rattle.normalizer_handles.proofs.normalizers.Normalizers.over.Goals as goal

pub returns-clause-by : goal.returns-clause-by
returns-clause-by c = λ records builds. record {
  make = λ form. rw c.in-Ok.ensures.forms (c.in_ok-forms.ensures.form records _ builds form);
  map = c.in_ok-mapper.ensures.maps records builds;
  tell = (c.args.built.now.packed, builds.means, c.in-Ok.ensures.data);
  states = refl;
}
