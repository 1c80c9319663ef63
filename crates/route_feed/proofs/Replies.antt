-- What each reply tells, and that it paints the hops of the table after it.
use Rattle.std.proofs.Common.{◌≡◌, ◌==◌, ℕ, ◌+◌, ◌≤◌, ◌<◌, ◌^◌, arith, inl, Bool, false, not, ◌&&◌, cond, List, [], ◌∷◌, map, take, filter, length, All, Option, Some, None, MatchOption, refl, sym, ap, subst}
use Rattle.std.proofs.lemmas.Bool.{cond_both}
use Rattle.std.proofs.lemmas.List.{length-append, length-map}
use Rattle.std.proofs.lemmas.List.Elements.{All-nil, All-cons, All-map, All-filter, All-take}
use Rattle.std.proofs.lemmas.Simd.{map-map}
use Rattle.std.specs.Option.{option_map_or}
use Rattle.ipnet_addr.specs.Addresses.{Address, IsAddress, Ipv4, Ipv6, same_family}
use Rattle.ipnet_addr.proofs.Basics.{filtered_length}
use Rattle.ipnet_addr.proofs.Members.{In}
use Rattle.ipnet_addr.proofs.Ascending.{In-from_All, All-from_In, Contains-from_In}
use Rattle.ipnet_blocks.specs.Blocks.{Block, IsBlock, first_of, is_before, same_block}
use Rattle.ipnet_blocks.specs.Maximal.{maximal_of}
use Rattle.ipnet_blocks.proofs.BlockLaws.{strict}
use Rattle.ipnet_blocks.proofs.BlockTests.{before_from_test}
use Rattle.ipnet.specs.IpNets.{block}
use Rattle.route_lines.specs.declared.command.Command.{Command}
use Rattle.route_lines.specs.declared.command.Command.TheVariants as C
use Rattle.route_lines.specs.declared.reply.Closing.{Closing}
use Rattle.route_lines.specs.declared.reply.Closing.TheVariants.{Done, Missing, Bad, Refused}
use Rattle.route_lines.specs.declared.reply.Reply.{Reply}
use Rattle.route_choices.specs.Choices.{Choice, AreChoices, best_preference, choices_with, choices_without, holds_hop}
use Rattle.route_choices.specs.Hops.{IsHop}
use Rattle.route_choices.proofs.Kept.{In-from_filter, In-map, length-apart}
use Rattle.route_choices.proofs.ChoiceLists.{with_are, without_are}
use Rattle.route_laws.specs.Changes.{changed}
use Rattle.route_laws.specs.Flats.{Piece, blocks_of, flat_of}
use Rattle.route_laws.specs.Onwards.{count_of}
use Rattle.route_laws.specs.Networks.{Stored, IsStoredTable, best_route, choices_at, routes_of, with_choices}
use Rattle.route_laws.specs.Tables.{Route, IsTable, hop_at, match_of, match_number, covering}
use Rattle.route_laws.proofs.Alterations.{changed_is_maximal}
use Rattle.route_laws.proofs.Matches.{AtLeast, best_of}
use Rattle.route_laws.proofs.Networks.{choices_have_one_hop, at_are, routes_are_table, stored_choices, with_choices_is}
use Rattle.route_feed.specs.Steps.{Answer, closed, listed, change_line, change_lines, changed_to, route_line, flat_line, is_too_many, may_refuse, accepted, step}
use Rattle.route_feed.specs.Streams.{Change, change_of, is_done, painted_over}
use Rattle.route_feed.specs.InnerReplies.{choice_line, own_line}
use Rattle.route_feed.specs.Laws.{IsInRange}
use Rattle.route_feed.proofs.AnsweredChanges.{changes_in, change_painted}
use Rattle.route_feed.proofs.PrintedLines.{IsTold, route_told, piece_within, piece_told, change_told, count_told, own_told}

-- the changes of lines that this one closes
abbrev pub gain : List Reply → Closing → List Change
gain body closing = cond (is_done closing) (changes_in body) []

-- a step of a leader adds at most one network
pub record Form (M : List Stored) (t : Answer) : Type 0 where
  pub told : All (IsTold (length M < 2 ^ 64)) t.body
  pub paints : (x : Address) → IsAddress x → painted_over (hop_at (routes_of M) x) (gain t.body t.closing) x ≡ hop_at (routes_of t.next) x
  pub table : IsStoredTable t.next
  pub grown : length t.next ≤ length M + 1

no_changes : {A : Type 0} (f : A → Reply) → ((x : A) → change_of (f x) ≡ None) → (xs : List A) → changes_in (map f xs) ≡ []
no_changes f h [] = refl
no_changes f h (x ∷ xs) = rw (h x) (no_changes f h xs)

small_best : (cs : List Choice) → AreChoices cs → best_preference cs < 2 ^ 16
small_best [] are = omega arith
small_best (c ∷ cs) are = In-from_All (λ d. d.pref < 2 ^ 16) (c ∷ cs) are.prefs c (inl refl)

changed_length : (M : List Stored) (b : Block) (cs : List Choice) → length (with_choices M b cs) ≤ length M + 1
changed_length M b [] = let h = filtered_length (λ (s : Stored). not (same_block s.block b)) M in omega (arith, h)
changed_length M b (c ∷ cs) =
    let below = λ (t : Stored). is_before t.block b in
    let above = λ (t : Stored). is_before b t.block in
    let apart = length-apart below above M (λ t e f.
    strict t.block b (before_from_test t.block b e) (before_from_test b t.block f)) in
    let s : Stored = record { block = b; choices = c ∷ cs } in
    omega (arith, apart, length-append (filter below M) (s ∷ filter above M))

module _ (M : List Stored) (m : IsStoredTable M) where
  abbrev few : Type 0
  few = length M < 2 ^ 64

  abbrev routes : List Route
  routes = routes_of M

  best : IsTable routes
  best = routes_are_table M m

  -- lines that tell no change
  form_kept : (ls : List Reply) (closing : Closing) → All (IsTold few) ls → changes_in ls ≡ []
      → Form M (record { body = ls; closing = closing; next = M })
  form_kept ls closing h e =
      let none = cond_both (is_done closing) (changes_in ls) [] (λ cs. cs ≡ []) (λ _. e) (λ _. refl) in
      record { told = h; paints = λ x a. ap (λ cs. painted_over (hop_at routes x) cs x) none; table = m; grown = omega arith }

  form_closed : (closing : Closing) → Form M (closed M closing)
  form_closed closing = form_kept [] closing (All-nil (IsTold few)) refl

  form_listed : {A : Type 0} (line : A → Reply) → ((x : A) → change_of (line x) ≡ None)
      → (xs : List A) → All (λ x. IsTold few (line x)) xs → Form M (listed M (map line xs))
  form_listed line none xs h = form_kept (map line xs) Done (All-map (IsTold few) line xs h) (no_changes line none xs)

  -- a change of the choices of one block
  form_choices : (b : Block) (cs : List Choice) → IsBlock b → AreChoices cs → Form M (changed_to M (with_choices M b cs))
  unfolding change_lines
  form_choices b cs ok are =
      let N = routes_of (with_choices M b cs) in
      let n = with_choices_is M m b cs ok are in
      let bs = maximal_of (changed routes N) in
      let line = λ (d : Block). change_line (hop_at N (first_of d)) d in
      let lines = All-from_In (λ d. IsTold few (line d)) bs (λ d i.
      let is = ((changed_is_maximal routes N).exact d).0 (Contains-from_In bs d i) in
      change_told few N (routes_are_table (with_choices M b cs) n) d is.within.block) in
      let one = λ (d : Block) (i : In d bs). choices_have_one_hop M m b ok cs are d (Contains-from_In bs d i) in
      record {
        told = All-map (IsTold few) line bs lines;
        paints = change_painted routes N (match_number (match_of N b)) one;
        table = n;
        grown = changed_length M b cs;
      }

  member_told : (r : Route) → In r routes → IsTold few (route_line r)
  member_told r i =
      let t = In-map best_route M r i in
      let small = subst (λ (s : Route). s.pref < 2 ^ 16) (sym t.2) (small_best t.0.choices (stored_choices M m t.0 t.1)) in
      let hop = In-from_All (λ s. IsHop s.hop) routes best.hops r i in
      route_told few r.block r.hop r.pref (In-from_All (λ s. IsBlock s.block) routes best.blocks r i) hop small

  abbrev IsToldRoute : Route → Type 0
  IsToldRoute r = IsTold few (route_line r)

  form_routes : (rs : List Route) → All IsToldRoute rs → Form M (listed M (map route_line rs))
  form_routes = form_listed route_line (λ r. refl)

  some_told : (p : Route → Bool) → All IsToldRoute (filter p routes)
  some_told p = All-filter p IsToldRoute routes (All-from_In IsToldRoute routes member_told)

  form_page : (limit : ℕ) (p : Route → Bool) → Form M (listed M (map route_line (take limit (filter p routes))))
  form_page limit p = form_routes (take limit (filter p routes)) (All-take IsToldRoute limit (filter p routes) (some_told p))

  -- all choices of a block
  form_all : (b : Block) → IsBlock b → Form M (listed M (map (choice_line b) (choices_at M b)))
  form_all b ok =
      let cs = choices_at M b in
      let are = at_are M m b in
      form_listed (choice_line b) (λ c. refl) cs (All-from_In (λ c. IsTold few (choice_line b c)) cs
      (λ c i.
      let pref = In-from_All (λ d. d.pref < 2 ^ 16) cs are.prefs c i in
      route_told few b c.hop c.pref ok (In-from_All (λ d. IsHop d.hop) cs are.hops c i) pref))

  form_match : (n : Block) → Form M (option_map_or (λ r. listed M (route_line r ∷ [])) (match_of routes n) (closed M Missing))
  form_match n = go (match_of routes n) (best_of (covering routes n))
    where
      go : (o : Option Route) → MatchOption o ((s : Route) → In s (covering routes n) → ⊥) (λ s. AtLeast s (covering routes n)) → Form M (option_map_or (λ r. listed M (route_line r ∷ [])) o (closed M Missing))
      go None h = form_closed Missing
      go (Some r) h =
          form_routes (r ∷ []) (All-cons IsToldRoute r [] (member_told r (In-from_filter _ routes r h.0).0) (All-nil IsToldRoute))

  form_owned : (number : ℕ) → Form M (listed M (map own_line (blocks_of (filter (λ p. p.number == number) (flat_of (hop_at routes))))))
  form_owned number =
      let all = flat_of (hop_at routes) in
      let told = λ (p : Piece). IsTold few (own_line p.block) in
      let ps = filter (λ (p : Piece). p.number == number) all in
      let each = All-from_In told all (λ p i. own_told few p.block (piece_within routes p i).block) in
      subst (λ ls. Form M (listed M ls)) (sym (map-map own_line (λ (p : Piece). p.block) ps))
      (form_listed (λ p. own_line p.block) (λ p. refl) ps (All-filter _ told all each))

  few_counted : few → (count_of Ipv4 routes ≤ 0xffffffffffffffff) × (count_of Ipv6 routes ≤ 0xffffffffffffffff)
  few_counted h =
      let all = length-map M best_route in
      let v4 = filtered_length (λ (r : Route). same_family r.block.family Ipv4) routes in
      let v6 = filtered_length (λ (r : Route). same_family r.block.family Ipv6) routes in
      (omega (arith, all, v4, h), omega (arith, all, v6, h))

  form_answer : (command : Option Command) → IsInRange command → is_too_many M command ≡ false → Form M (accepted M command)
  form_answer (Some (C.Add net hop pref)) h room =
      let cs = choices_at M (block net) in
      form_choices (block net) (choices_with cs (record { hop = hop; pref = pref })) h.0 (with_are cs (at_are M m (block net)) (record { hop = hop; pref = pref }) h.1 h.2 room)
  form_answer (Some (C.Del net hop)) h room =
      let cs = choices_at M (block net) in
      let left = form_choices (block net) (choices_without cs hop) h (without_are cs (at_are M m (block net)) hop) in
      cond_both (holds_hop cs hop) _ _ (Form M) (λ _. left) (λ _. form_closed Missing)
  form_answer (Some (C.Get net)) h room = form_match (block net)
  form_answer (Some (C.Cover net)) h room = form_routes _ (some_told _)
  form_answer (Some (C.List net)) h room = form_routes _ (some_told _)
  form_answer (Some (C.All net)) h room = form_all (block net) h
  form_answer (Some (C.PageFrom net limit)) h room = form_page limit _
  form_answer (Some (C.PageAfter net limit)) h room = form_page limit _
  form_answer (Some (C.Own number)) h room = form_owned number
  form_answer (Some C.Count) h room =
      let line = count_told (count_of Ipv4 routes) (count_of Ipv6 routes) few few_counted in
      form_kept _ Done (All-cons (IsTold few) _ [] line (All-nil (IsTold few))) refl
  form_answer (Some C.Flat) h room =
      let all = flat_of (hop_at routes) in
      form_listed flat_line (λ p. refl) all (All-from_In (λ p. IsTold few (flat_line p)) all (piece_told few routes best))
  form_answer None h room = form_closed Bad

  pub form_step : (command : Option Command) (refused : Bool) → IsInRange command → Form M (step M command refused)
  form_step command refused h =
      let no = form_closed Refused in
      cond_both (is_too_many M command) _ _ (Form M) (λ _. no)
      (λ room. cond_both (may_refuse M command && refused) _ _ (Form M) (λ _. no) (λ _. form_answer command h room))
