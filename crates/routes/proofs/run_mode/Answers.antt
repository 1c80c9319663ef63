use Rattle.std.proofs.Common.{Global, ◌≡◌, ℕ, inl, inr, ⊎_elim, List, Option, Err, subst, arith}
use Rattle.std.proofs.lemmas.List.{length-map}
use Rattle.std.specs.Io.Buffered.{writer_contents}
use Rattle.std.specs.declared.io.buffered.BufWriter.{BufWriter}
use Rattle.route_program.specs.declared.output.Output.{Output}
use Rattle.route_lines.specs.Bytes.{lines}
use Rattle.route_lines.specs.Spelled.{command_of}
use Rattle.route_program.specs.declared.counted.Counted.{Counted}
use Rattle.route_program.specs.declared.error.RunError.TheVariants.{Write}
use Rattle.routes.specs.Runs.{ModeEnds, MayFailToWrite}
use Rattle.routes.specs.declared.Mode.{Mode}
use Rattle.routes.specs.declared.Mode.TheVariants.{Lead, Follow, Least}
use Rattle.routes.proofs.run_mode.Goals as goal

may_fail : {R W : Type 0} (remaining : R → Option (List ℕ)) (contents : W → Option (List ℕ)) (mode : Mode) (from to : Counted R) (old new : Counted W)
    → ModeEnds remaining contents mode from to old new (Err Write) → MayFailToWrite remaining mode from to
may_fail remaining contents Lead from to old new x = ⊎_elim
    (λ s. inl (record { bytes = s.0.bytes; read = s.0.read; holds = let another = s.0.holds.1.another in omega (arith, another, length-map (lines s.0.bytes) command_of) }, s.1))
    (λ s. inr (record { bytes = s.0.bytes; read = s.0.read; holds = tt }, s.1))
    x
may_fail remaining contents Follow from to old new x = (record { bytes = x.0.bytes; read = x.0.read; holds = x.0.holds.0 }, x.1)
may_fail remaining contents Least from to old new x = (record { bytes = x.0.bytes; read = x.0.read; holds = x.0.holds.0 }, x.1)

pub returns-in-Err-clause-write : goal.returns-in-Err-clause-write
returns-in-Err-clause-write g c e =
    let written : Output (BufWriter g.row.W.Denot Global) → Option (List ℕ) = λ o. writer_contents g.W.Write.contents o.device.device in
    let why : c.in-Err.error ≡ Write = cc in
    may_fail g.R.Read.remaining written c.args.mode _ _ _ _ (subst (λ k. ModeEnds g.R.Read.remaining written c.args.mode c.args.reader.now c.run_as.new.reader c.new-writer.result c.run_as.new.writer (Err k)) why c.in-Err.ensures.ends)
