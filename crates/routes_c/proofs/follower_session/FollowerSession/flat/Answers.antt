use Rattle.std.proofs.Common.{◌≡◌, Bool, true, false, true≢false, None, Some, is_some, ap, arith, inl, inr, refl, subst}
use Rattle.route_feed.proofs.AnsweredChanges.{flat_is}
use Rattle.route_laws.specs.Networks.{routes_of}
use Rattle.routes_c.specs.Lists.{MakesPieces}
use Rattle.routes_c.proofs.follower_session.FollowerSession.flat.Goals as goal

-- where there is a list, there was no fault
works_at : {A : Type 0} (b : Bool) (x : A) → (b ≡ true → Some x ≡ None) → b ≡ false
works_at true x h = absurd (true≢false (ap is_some (h refl)))
works_at false x h = refl

pub returns : goal.returns
returns c =
    record {
      answers = elim c.flat-2.ensures.answers [ inl e ↦ inl e | inr e ↦ inr (inl e) ];
      made = subst (λ ps. MakesPieces c.args.self.now.lists c.flat-2.new.self ps c.flat-2.result) (flat_is (routes_of c.args.self.now.follower.table) c.in-Some.flat c.in-Some.ensures.flat) c.flat-2.ensures.list;
      failed = λ e. absurd (elim c.flat-2.ensures.answers [ inl z ↦ omega (arith, e, z) | inr z ↦ omega (arith, e, z) ]);
      works = λ _. works_at c.args.self.now.follower.failed c.in-Some.flat c.in-Some.ensures.failed;
      follower = refl;
    }
