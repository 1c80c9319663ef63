use Rattle.std.proofs.Common.{suc, ◌∷◌, ◌++◌, ◌∙◌, sym, ap, subst, arith, take, drop}
use Rattle.std.proofs.Math.Seq.{split_at}
use Rattle.route_laws.specs.Networks.{routes_of}
use Rattle.route_laws.specs.Operations.{after}
use Rattle.route_table.specs.Operations.{IsNewInstall, operation_of}
use Rattle.route_table.proofs.Outcomes.{when_err}
use Rattle.route_table.proofs.Updating.{after_next}
use Rattle.route_table.proofs.updates.HopTable.carry_out.Goals as goal

pub loop-operation-preserved : goal.loop-operation-preserved
loop-operation-preserved c = (
  c.in_ok-carry_one.ensures.tables.1,
  c.in_ok-carry_one.ensures.routes ∙ ap (λ M. after M (operation_of c.operation-item.result)) c.loop-operation.invariant.1
      ∙ sym (after_next (routes_of c.args.self.now) c.args.operations.now c.loop-operation.operation-index c.operation-item.result (omega arith) c.operation-item.is),
)

pub returns-in_err-carry_one-clause-first : goal.returns-in_err-carry_one-clause-first
returns-in_err-carry_one-clause-first c =
    let os = c.args.operations.now in
    let i = c.loop-operation.operation-index in
    let o = c.operation-item.result in
    let same = c.in_err-carry_one.ensures.unchanged in
    when_err c.from_residual.result (record {
      done = take i os;
      refused = o;
      later = drop (suc i) os;
      all = split_at os i o (omega arith) ∙ ap (λ p. take i os ++ p ∷ drop (suc i) os) (sym c.operation-item.is);
      routes = ap routes_of same ∙ c.loop-operation.invariant.1;
      new = subst (λ T. IsNewInstall T o) (sym same) c.in_err-carry_one.ensures.absent;
    })
