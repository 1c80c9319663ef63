use Rattle.std.proofs.Common.{List, [], refl, sym, subst}
use Rattle.std.proofs.lemmas.Result.{IfOk-weaker}
use Rattle.ipnet_addr.specs.Addresses.{width}
use Rattle.nearest_table.specs.Changed.{MakeNearest}
use Rattle.nearest_table.proofs.Puts.{made_none}
use Rattle.route_laws.specs.Networks.{routes_of}
use Rattle.route_laws.specs.Tables.{Route}
use Rattle.route_table.specs.InnerLeast.{entries_of}
use Rattle.route_table.proofs.Painted.{width_is_short}
use Rattle.route_table.proofs.Updating.{edits_within}
use Rattle.route_table.proofs.FewestUpdates.{side_bits}
use Rattle.route_table.proofs.updates.edits_of.Goals as goal

pub nearest-requires : goal.nearest-requires
nearest-requires g c = record {
  same = refl;
  short = width_is_short g.P.FamilyNet.family;
  fits = c.in-Some.ensures.0;
  installed = (side_bits g.P.FamilyNet.family c.args.installed.now c.requires.installed).0;
  order = (side_bits g.P.FamilyNet.family c.args.installed.now c.requires.installed).1;
  changes = (side_bits g.P.FamilyNet.family c.args.changes.now c.requires.changes).0;
  inside = c.in-Some.ensures.1;
}

pub returns-in-Some : goal.returns-in-Some
returns-in-Some g c = record {
  edits = c.nearest.ensures;
  within = IfOk-weaker c.nearest.result _ _ (λ es m. edits_within _ _ _ es.items (side_bits g.P.FamilyNet.family c.args.installed.now c.requires.installed).0 m) c.nearest.ensures;
}

pub returns-in-None : goal.returns-in-None
returns-in-None g c =
    let w = width g.P.FamilyNet.family in
    let old = entries_of (routes_of c.args.installed.now) in
    let bits = side_bits g.P.FamilyNet.family c.args.installed.now c.requires.installed in
    let made = subst (λ (C : List Route). MakeNearest w (entries_of C) old c.new.result.items) (sym c.in-None.ensures) (subst (MakeNearest w [] old) (sym c.new.ensures.items) (made_none w old bits.0 bits.1)) in
    record { edits = made; within = edits_within w _ old c.new.result.items bits.0 made }
