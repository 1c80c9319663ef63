use Rattle.std.proofs.Common.{refl, subst}
use Rattle.route_feed.proofs.AnsweredChanges.{flat_is}
use Rattle.route_laws.specs.Networks.{routes_of}
use Rattle.routes_c.specs.Lists.{MakesPieces}
use Rattle.routes_c.proofs.session.Session.flat.Goals as goal

pub returns : goal.returns
returns c =
    record {
      answers = c.flat-2.ensures.answers;
      made = subst (λ ps. MakesPieces c.args.self.now.lists c.flat-2.new.self ps c.flat-2.result) (flat_is (routes_of c.args.self.now.table) c.flat.result c.flat.ensures.flat) c.flat-2.ensures.list;
      table = refl;
      reply = refl;
    }
