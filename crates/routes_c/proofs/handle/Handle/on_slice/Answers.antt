use Rattle.std.proofs.Common.{◌∙◌, ap, is_some, refl}
use Rattle.routes_c.proofs.handle.Handle.on_slice.Goals as goal

pub returns-in-Some : goal.returns-in-Some
returns-in-Some g c = (
  c.requires.handle ∙ ap is_some c.lend.ensures.value,
  rw (c.lend.ensures.value, c.in-Some.ensures.value, g.met.K.Kind.comes_back c.call.new.arg2) (record { first = _; second = _; first-shows = refl; second-shows = refl; first-left = _; second-left = _; met = c.call.ensures; first-leaves = refl; second-leaves = refl }),
)
