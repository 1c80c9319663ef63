use Rattle.routes_fib.proofs.Ended.{at_note, at_unfit, at_wanting}
use Rattle.routes_fib.proofs.install_by.Goals as goal

pub returns-in-Err-clause-line : goal.returns-in-Err-clause-line
returns-in-Err-clause-line g c = at_unfit _ _ _ _ _ _ _ c.in-Err.ensures.ends

pub returns-in-Err-clause-memory : goal.returns-in-Err-clause-memory
returns-in-Err-clause-memory g c = at_wanting _ _ _ _ _ _ _ c.in-Err.ensures.ends

pub returns-in-Err-clause-write : goal.returns-in-Err-clause-write
returns-in-Err-clause-write g c = at_note _ _ _ _ _ _ _ c.in-Err.ensures.ends
