use Rattle.std.proofs.Common.{◌≡◌, ◌-◌, ◌<◌, ℕ, List, None, ap, ◌∙◌, arith}
use Rattle.std.proofs.lemmas.List.Elements.{All-push}
use Rattle.hop_index.specs.Ranges.{HopRange}
use Rattle.hop_index.proofs.Searches.{below_later, push_ascends, push_none, push_reaches}
use Rattle.hop_index.proofs.ranges.Ranges.reach.Goals as goal

pub returns : goal.returns
returns g c =
    let rs : List HopRange = c.args.self.now in
    let before : ℕ = g.N.Key.number c.from_bits.result in
    let r : HopRange = record { last = before; hop = None } in
    let within = c.requires.within in
    let some = c.if-number-eq0.false in
    let is : before ≡ c.args.number - 1 = ap g.N.Key.number c.from_bits.ensures ∙ g.met.N.Key.numbered (c.args.number - 1) (omega arith) in
    rw c.in_ok-push.ensures (record {
      ascending = push_ascends rs r c.requires.ascending (below_later rs _ _ (omega arith) c.requires.below);
      below = All-push (λ s. s.last < c.args.number) rs r c.requires.below (omega arith);
      hops = λ x. push_none rs before x;
      reached = λ x l. push_reaches rs r x (omega arith);
    })
