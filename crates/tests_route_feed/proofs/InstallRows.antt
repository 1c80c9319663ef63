-- A worked row: a session of three commands, with a route that is installed already, and a `sync` after the first reply.
use Rattle.std.proofs.Common.{◌≡◌, ℕ, ◌≤◌, List, [], ◌∷◌, ◌++◌, Option, Some, None, map, take, length, ⊎_elim, refl, sym, ap, ◌∙◌, subst, arith}
use Rattle.std.proofs.lemmas.List.Elements.{All-cons, All-nil}
use Rattle.ipnet_addr.specs.Addresses.{Address, Ipv4, IsAddress}
use Rattle.ipnet_blocks.specs.Blocks.{Block, IsBlock}
use Rattle.ipnet.specs.IpNets.{network_at}
use Rattle.ipnet.specs.declared.ip_net.IpNet.{IpNet}
use Rattle.route_choices.specs.declared.hop.Hop.{Hop}
use Rattle.route_choices.specs.declared.hop.Hop.TheVariants.{Number, Drop}
use Rattle.route_choices.specs.Hops.{IsHop}
use Rattle.route_lines.specs.declared.command.Command.TheVariants.{Add, Del}
use Rattle.route_lines.specs.declared.fib_input.FibInput.{FibInput}
use Rattle.route_lines.specs.declared.fib_input.FibInput.TheVariants as N
use Rattle.route_lines.specs.declared.reply.Closing.TheVariants.{Done}
use Rattle.route_lines.specs.declared.reply.Reply.TheVariants.{Set, Unset, Close}
use Rattle.route_lines.specs.declared.fib_update.FibUpdate.TheVariants as U
use Rattle.route_laws.specs.LeastTables.{HasHops, IsLeast}
use Rattle.route_laws.specs.Networks.{routes_of}
use Rattle.route_laws.specs.Nearest.{IsNearest}
use Rattle.route_laws.specs.Operations.{Operation, after_all, between}
use Rattle.route_laws.specs.Painted.{AreChanges, painted_all}
use Rattle.route_laws.specs.Runs.{MayAllCome, start}
use Rattle.route_laws.specs.Tables.{Route, IsTable, hop_at}
use Rattle.route_laws.proofs.Between.{between_reaches}
use Rattle.route_laws.proofs.Insides.{Sound, table_of}
use Rattle.route_laws.proofs.Overwritten.{changes_from, painted_all_is_table}
use Rattle.route_installer.specs.Installing.{Noted, begin, events, update_lines}
use Rattle.route_installer.specs.Laws.{installed_by, operations_at, replies_of}
use Rattle.route_feed.specs.Output.{table_after}
use Rattle.route_feed.specs.Streams.{closings}

abbrev at : ℕ → ℕ → Block
at len quotient = record { family = Ipv4; len = len; quotient = quotient }

-- 10.0.0.0/8, 10.0.0.0/9, 10.128.0.0/9
abbrev whole : IpNet
whole = network_at (at 8 10)

abbrev low : IpNet
low = network_at (at 9 20)

abbrev high : IpNet
high = network_at (at 9 21)

abbrev route : ℕ → ℕ → Hop → Route
route len quotient hop = record { block = at len quotient; hop = hop; pref = 100 }

-- the installed tables
abbrev one : List Route
one = route 8 10 (Number 1) ∷ []

abbrev two : List Route
two = route 8 10 (Number 1) ∷ route 9 20 (Number 2) ∷ []

abbrev three : List Route
three = route 8 10 (Number 1) ∷ route 9 20 (Number 2) ∷ route 9 21 Drop ∷ []

abbrev noted : FibInput → Noted
noted note = record { note = note; table = [] }

-- have 10.0.0.0/8 3; set 10.0.0.0/8 1; ok; sync; set 10.0.0.0/9 2; ok
abbrev two_replies : List Noted
two_replies =
    noted (N.Have whole (Number 3))
    ∷ noted (N.Reply (Set whole 1)) ∷ noted (N.Reply (Close Done))
    ∷ record { note = N.Sync; table = one }
    ∷ noted (N.Reply (Set low 2)) ∷ record { note = N.Reply (Close Done); table = two } ∷ []

-- unset 10.128.0.0/9; ok
abbrev three_replies : List Noted
three_replies = two_replies ++ noted (N.Reply (Unset high)) ∷ record { note = N.Reply (Close Done); table = three } ∷ []

-- these may come: the table of the `sync` is a least one
least_row : IsLeast (hop_at one) one
least_row = record {
  hops = record {
    table = table_of one
        (λ r i. ⊎_elim (λ e. subst Sound (sym e) (record { in_width = omega arith; in_range = omega arith }, omega arith)) (λ j. absurd j) i)
        ((λ r i. absurd i), tt);
    same = λ x a. refl;
  };
  fewest = fewest;
}
  where
    fewest : (L : List Route) → HasHops (hop_at one) L → 1 ≤ length L
    fewest [] h = let e = h.same (record { family = Ipv4; number = 167772160 }) (omega arith) in absurd (cc)
    fewest (r ∷ rs) h = omega arith

one_change : (len quotient : ℕ) (hop : Hop) → IsBlock (at len quotient) → IsHop hop → AreChanges (route len quotient hop ∷ [])
one_change len quotient hop b h = record {
  blocks = All-cons (λ (r : Route). IsBlock r.block) (route len quotient hop) [] b (All-nil (λ (r : Route). IsBlock r.block));
  hops = All-cons (λ (r : Route). IsHop r.hop) (route len quotient hop) [] h (All-nil (λ (r : Route). IsHop r.hop));
}

-- the tables of the later replies are nearest ones: some hop turns, so one operation at least is needed
nearest_row : (M rs : List Route) → IsTable M → AreChanges rs → length (between M (painted_all M rs)) ≤ 1 → (x : Address) → IsAddress x → (hop_at M x ≡ hop_at (painted_all M rs) x → ⊥)
    → IsNearest M (hop_at (painted_all M rs)) (painted_all M rs)
nearest_row M rs m are few x a turns = record {
  hops = record { table = painted_all_is_table M rs m (changes_from rs are); same = λ y b. refl };
  nearest = λ L l. go L l (between M L) refl;
}
  where
    go : (L : List Route) → HasHops (hop_at (painted_all M rs)) L → (os : List Operation) → between M L ≡ os → length (between M (painted_all M rs)) ≤ length os
    go L l [] e = absurd (turns (ap (λ T. hop_at T x) (ap (after_all M) (sym e) ∙ between_reaches M L m l.table) ∙ l.same x a))
    go L l (o ∷ os) e = omega (arith, few)

low_change : AreChanges (route 9 20 (Number 2) ∷ [])
low_change = one_change 9 20 (Number 2) (record { in_width = omega arith; in_range = omega arith }) (omega arith)

high_change : AreChanges (route 9 21 Drop ∷ [])
high_change = one_change 9 21 Drop (record { in_width = omega arith; in_range = omega arith }) tt

two_row : IsNearest one (hop_at (painted_all one (route 9 20 (Number 2) ∷ []))) two
two_row = nearest_row one (route 9 20 (Number 2) ∷ []) least_row.hops.table low_change (omega arith) (record { family = Ipv4; number = 167772160 }) (omega arith) (λ e. cc)

three_row : IsNearest two (hop_at (painted_all two (route 9 21 Drop ∷ []))) three
three_row = nearest_row two (route 9 21 Drop ∷ []) two_row.hops.table high_change (omega arith) (record { family = Ipv4; number = 176160768 }) (omega arith) (λ e. cc)

may_row : MayAllCome start (events begin three_replies)
may_row =
    let eight : IsBlock (at 8 10) = record { in_width = omega arith; in_range = omega arith } in (
      (refl, eight, omega arith),
      (
        (one_change 8 10 (Number 1) eight (omega arith), λ k. absurd (cc)),
        (
          (least_row, λ k l. absurd (cc)),
          ((low_change, λ k. two_row), ((high_change, λ k. three_row), tt)),
        ),
      ),
    )

-- install 10.0.0.0/8 1; ok; install 10.0.0.0/9 2; ok; install 10.128.0.0/9 drop; ok
lines_row : update_lines start (events begin three_replies)
    ≡ U.Install whole (Number 1) ∷ U.Done ∷ U.Install low (Number 2) ∷ U.Done ∷ U.Install high Drop ∷ U.Done ∷ []
lines_row = refl

installed_row : installed_by three_replies ≡ route 8 10 (Number 1) ∷ route 9 20 (Number 2) ∷ route 9 21 Drop ∷ []
installed_row = refl

-- the leader: add 10.0.0.0/8 1; add 10.0.0.0/9 2; del 10.0.0.0/8 1
leader_row : routes_of (table_after [] (Some (Add whole (Number 1) 100) ∷ Some (Add low (Number 2) 100) ∷ Some (Del whole (Number 1)) ∷ []) []) ≡ route 9 20 (Number 2) ∷ []
leader_row = refl

closings_row : closings (replies_of three_replies) ≡ 3
closings_row = refl

-- both have the hop 2 at 10.0.0.0, and none at 10.128.0.0
abbrev hops : List Route → List (Option ℕ)
hops M = hop_at M (record { family = Ipv4; number = 167772160 }) ∷ hop_at M (record { family = Ipv4; number = 176160768 }) ∷ []

hops_row : hops (installed_by three_replies) ≡ hops (route 9 20 (Number 2) ∷ [])
hops_row = refl

-- on the way of the last batch 10.128.0.0 has its hop of before, and then that of after
abbrev before_last : List Noted
before_last = two_replies ++ noted (N.Reply (Unset high)) ∷ []

way_row : map (λ i. hops (after_all (installed_by before_last) (take i (operations_at before_last (record { note = N.Reply (Close Done); table = three }))))) (0 ∷ 1 ∷ []) ≡ (Some 2 ∷ Some 1 ∷ []) ∷ (Some 2 ∷ None ∷ []) ∷ []
way_row = refl
