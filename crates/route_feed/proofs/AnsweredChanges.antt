-- The lines of a change: the blocks that the changed network governs, what each tells, and the hops that they paint.
use Rattle.std.proofs.Common.{true≢false, ◌≡◌, ◌≢◌, ℕ, ◌⊎◌, inl, inr, ⊎_elim, Bool, true, false, not, cond, List, [], ◌∷◌, ◌++◌, map, Option, Some, None, Result, refl, sym, ap, ◌∙◌, subst, option_map, filter_map}
use Rattle.std.proofs.lemmas.Bool.{and_right, cases_Bool, false_from_ne_true, not_from_false}
use Rattle.ipnet_addr.proofs.Members.{In}
use Rattle.ipnet_addr.proofs.Ascending.{In-from_Contains, Contains-from_In, In-from_Any}
use Rattle.ipnet_addr.specs.Addresses.{Address, IsAddress}
use Rattle.ipnet_blocks.specs.Blocks.{Block, IsBlock, HasAddress, first_of, same_block, has_address}
use Rattle.ipnet_blocks.specs.Maximal.{IsMaximal, maximal_of}
use Rattle.ipnet_blocks.proofs.BlockLaws.{has_first}
use Rattle.ipnet_blocks.proofs.BlockTests as test
use Rattle.ipnet_blocks.proofs.Maximals.{maximal_is_unique, maximal_is_union}
use Rattle.ipnet_blocks.proofs.Unions.{maximal_same}
use Rattle.ipnet.specs.IpNets.{block, network_at}
use Rattle.ipnet.specs.declared.ip_net.IpNet.{IpNet}
use Rattle.route_lines.specs.declared.command.Command.{Command}
use Rattle.route_lines.specs.declared.command.Command.TheVariants.{Add}
use Rattle.route_lines.specs.declared.reply.Closing.TheVariants.{Done, Refused}
use Rattle.route_lines.specs.declared.reply.Reply.TheVariants.{Close}
use Rattle.route_choices.specs.declared.hop.Hop.{Hop}
use Rattle.route_choices.specs.Choices.{Choice, AreChoices, choices_without, holds_hop}
use Rattle.route_choices.proofs.ChoiceLists.{none_of}
use Rattle.route_choices.proofs.Kept.{all_kept, map_same}
use Rattle.route_laws.specs.Changes.{changed, same_number}
use Rattle.route_laws.specs.Flats.{Piece, IsFlat, flat_of}
use Rattle.route_laws.proofs.Flats.{search_is_flat, same_flat}
use Rattle.route_laws.proofs.NetworksAt.{of_network_at}
use Rattle.route_laws.specs.Networks.{Stored, IsStoredTable, choices_at, routes_of, with_choices, with_stored, without_choice}
use Rattle.route_table.specs.Refusals.{IsRefused}
use Rattle.route_table.specs.declared.refused.AddRefused.{AddRefused}
use Rattle.route_table.specs.declared.refused.AddRefused.TheVariants.{Store, TooMany}
use Rattle.route_laws.specs.Tables.{Route, Changed, Governed, match_of, match_number, hop_at, item_of}
use Rattle.route_laws.proofs.Alterations.{no_blocks, changed_is_maximal, same_from_test, same_itself}
use Rattle.route_laws.proofs.Networks.{blocks_of_choices, changed_by_choices, choices_have_one_hop, is_change, at_cases, at_some, del_none, stored_block, stored_choices}
use Rattle.route_laws.proofs.Matches.{put_itself}
use Rattle.route_program.specs.declared.counted.Counted.{Counted}
use Rattle.route_program.specs.declared.error.RunError.{RunError}
use Rattle.route_feed.specs.InnerReplies.{TellsGoverned}
use Rattle.route_feed.specs.Replies.{printed}
use Rattle.route_feed.specs.Steps.{change_line, change_lines, closed, is_too_many, may_refuse, accepted, step}
use Rattle.route_program.specs.Devices.{Closes}
use Rattle.std.specs.List.{AllZip}
use Rattle.route_lines.specs.declared.reply.Reply.{Reply}
use Rattle.route_feed.specs.Laws.{ChangesHaveOneHop}
use Rattle.ipnet_blocks.proofs.BlockTests.{has_from_test, test_from_has}
use Rattle.route_feed.specs.Streams.{Change, change_of, painted_over}

-- a table with choices at a block has a block there, and choices
pub changed_is : (M : List Stored) (b : Block) (cs : List Choice) → (cs ≡ [] → ⊥) → IsStoredTable (with_choices M b cs) → IsBlock b × AreChoices cs
changed_is M b [] some n = absurd (some refl)
changed_is M b (c ∷ cs) some n =
    let s : Stored = record { block = b; choices = c ∷ cs } in
    let i = put_itself Stored.block M s in
    (stored_block (with_stored M s) n s i, stored_choices (with_stored M s) n s i)

-- what has the hop is a block
pub held_is : (M : List Stored) → IsStoredTable M → (b : Block) (h : Hop) → holds_hop (choices_at M b) h ≡ true → IsBlock b
held_is M m b h e = stored_block M m (record { block = b; choices = choices_at M b }) (at_some M m b (λ none. let f : holds_hop [] h ≡ true = rw none at e in cc))

-- a hop that is not there takes nothing out
pub none_left : (M : List Stored) → IsStoredTable M → (b : Block) (h : Hop) → holds_hop (choices_at M b) h ≡ false → without_choice M b h ≡ M
none_left M m b h e = ⊎_elim
    (λ t. del_none M b h m (subst IsBlock t.2 (stored_block M m t.0 t.1)) (none_of (choices_at M b) h e))
    (λ t. ap (λ cs. with_choices M b (choices_without cs h)) t.1
    ∙ all_kept (λ s. not (same_block s.block b)) M (λ s i. not_from_false (same_block s.block b) (false_from_ne_true (same_block s.block b) (λ f. t.0 s i (test.same_from_test s.block b f)))))
    (at_cases M b)

-- what is found is handed out without host bits
pub found_is_printable : (o : Option Route) (p : IpNet × Hop × ℕ) → option_map item_of o ≡ Some p → p.0 ≡ network_at (block p.0)
found_is_printable None p e = absurd (cc)
found_is_printable (Some r) p e =
    let same : item_of r ≡ p = cc in
    subst (λ (q : IpNet × Hop × ℕ). q.0 ≡ network_at (block q.0)) same (sym (ap network_at (of_network_at r.block)))

pub same_or_not : (o p : Option ℕ) → (o ≡ p) ⊎ (o ≢ p)
same_or_not o p = ⊎_elim
    (λ e. inl (same_from_test o p e))
    (λ e. inr (λ q. true≢false (sym (same_itself p) ∙ ap (λ l. same_number l p) (sym q) ∙ e)))
    (cases_Bool (same_number o p))

-- ---- a change of the choices of one block

-- with the same routes of all blocks but n, n governs the same
governed_from : (M N : List Route) (n : Block) → ((s : Route) → (s.block ≡ n → ⊥) → In s N → In s M)
    → (x : Address) → Governed M n x → Governed N n x
governed_from M N n back x g = record {
  inside = g.inside;
  free = λ u c l h.
      let member = back u (λ e. l.1 (λ y k. subst (λ (b : Block). HasAddress b y) (sym e) k)) (In-from_Contains N u c) in
      g.free u (Contains-from_In M u member) l h;
}

module _ (M : List Stored) (m : IsStoredTable M) (b : Block) (ok : IsBlock b) (cs : List Choice) (are : AreChoices cs) where
  abbrev before : List Route
  before = routes_of M

  abbrev after : List Route
  after = routes_of (with_choices M b cs)

  -- each block of the change has the hop that the block has then
  lines_are : (bs : List Block) → IsMaximal (Changed before after) bs
      → change_lines before after ≡ map (change_line (match_number (match_of after b))) bs
  unfolding change_lines
  lines_are bs changes =
      let found = maximal_of (changed before after) in
      let hop = match_number (match_of after b) in
      let one = λ (d : Block) (i : In d found). choices_have_one_hop M m b ok cs are d (Contains-from_In found d i) in
      map_same (λ d. change_line (hop_at after (first_of d)) d) (change_line hop) found
      (λ d i. ap (λ o. change_line o d) (one d i (first_of d) (has_first d)))
      ∙ ap (map (change_line hop)) (maximal_is_unique (Changed before after) found bs (changed_is_maximal before after) changes)

  governed_before : (bs : List Block) → IsMaximal (Governed after b) bs → IsMaximal (Governed before b) bs
  governed_before = maximal_same (Governed after b) (Governed before b)
      (λ x a. governed_from after before b (λ s f. ((is_change M m b ok cs are).others s f).0) x)
      (λ x a. governed_from before after b (λ s f. ((is_change M m b ok cs are).others s f).1) x)

  -- the lines, written
  pub Closes-change : {W : Type 0} (contents : W → Option (List ℕ)) (T : List Stored) → T ≡ with_choices M b cs
      → (was has : Option ℕ) → was ≡ match_number (match_of before b) → has ≡ match_number (match_of (routes_of T) b)
      → (old new : Counted W) (result : Result Unit RunError) → (was ≡ has → Closes contents 1 old new result (printed (Close Done ∷ [])))
      → (was ≢ has → TellsGoverned contents T b has old new result)
      → Closes contents 1 old new result (printed (change_lines before after ++ Close Done ∷ []))
  Closes-change contents T is was has first then old new result same differs =
      let last = then ∙ ap (λ (U : List Stored). match_number (match_of (routes_of U) b)) is in
      ⊎_elim
      (λ e.
      let none = no_blocks (Changed before after) (λ x a c. ((changed_by_choices M m b ok cs are x a).0 c).1 (sym first ∙ e ∙ last)) in
      rw (lines_are [] none) (same e))
      (λ d.
      let (bs, governed, written) = differs d in
      let blocks = governed_before bs (subst (λ (U : List Stored). IsMaximal (Governed (routes_of U) b) bs) is governed) in
      rw (lines_are bs ((blocks_of_choices M m b ok cs bs are blocks).0 (λ q. d (first ∙ q ∙ sym last))), ← last) written)
      (same_or_not was has)

-- a command that is not refused
pub plain_step : (M : List Stored) (command : Option Command) → is_too_many M command ≡ false → step M command false ≡ accepted M command
plain_step M command room = rw (room, and_right (may_refuse M command) false refl) refl

-- an `add` that is refused, for want of memory or since eight other hops are stored
pub refused_step : (M : List Stored) (net : IpNet) (hop : Hop) (pref : ℕ) (why : AddRefused) → IsRefused (choices_at M (block net)) hop why
    → (refusal : Bool) × (step M (Some (Add net hop pref)) refusal ≡ closed M Refused)
refused_step M net hop pref (Store e) h = (true, rw h.1 refl)
refused_step M net hop pref TooMany h = (false, rw h refl)

-- a table has one flat list
pub flat_is : (M : List Route) (ps : List Piece) → IsFlat (hop_at M) ps → ps ≡ flat_of (hop_at M)
flat_is M ps h = (same_flat (hop_at M) (hop_at M) ps (flat_of (hop_at M)) h (search_is_flat (hop_at M))).1 (λ x a. refl)

-- ---- a line tells the hop of every address of its block

module _ (N : List Route) where
  abbrev line : Block → Reply
  line b = change_line (hop_at N (first_of b)) b

  abbrev IsLine : Block → Reply → Type 0
  IsLine b r = (x : Address) → HasAddress b x → r ≡ change_line (hop_at N x) b

  each : (bs : List Block) → ((b : Block) → In b bs → IsLine b (line b)) → AllZip IsLine bs (map line bs)
  each [] h = tt
  each (b ∷ bs) h = (h b (inl refl), each bs (λ c i. h c (inr i)))

  these : (bs : List Block) (rs : List Reply) → AllZip IsLine bs rs → rs ≡ map line bs
  these [] [] h = refl
  these [] (r ∷ rs) h = absurd h
  these (b ∷ bs) [] h = absurd h
  these (b ∷ bs) (r ∷ rs) h =
      let first = h.0 (first_of b) (has_first b) in
      let later = these bs rs h.1 in
      λ i. first i ∷ later i

pub changes_have_one_hop : ChangesHaveOneHop
unfolding change_lines
changes_have_one_hop M b cs lines m ok are =
    let N = routes_of (with_choices M b cs) in
    let bs = maximal_of (changed (routes_of M) N) in
    let found = changed_is_maximal (routes_of M) N in
    let one : (d : Block) → In d bs → (x : Address) → HasAddress d x → hop_at N x ≡ match_number (match_of N b) = λ d i. choices_have_one_hop M m b ok cs are d (Contains-from_In bs d i) in (
      (λ e. (bs, found, subst (AllZip (IsLine N) bs) (sym e) (each N bs (λ d i x h. ap (λ hop. change_line hop d) (one d i (first_of d) (has_first d) ∙ sym (one d i x h)))))),
      (λ t. let (ds, most, zip) = t in these N ds lines zip ∙ ap (map (line N)) (maximal_is_unique (Changed (routes_of M) N) ds bs most found)),
    )

-- ---- the lines paint what has changed

-- the changes that lines tell
abbrev pub changes_in : List Reply → List Change
changes_in ls = filter_map change_of ls

abbrev change_at : (Address → Option ℕ) → Block → Change
change_at h b = record { block = b; number = h (first_of b) }

-- a line of a change, read
change_read : (o : Option ℕ) (b : Block) → change_of (change_line o b) ≡ Some (record { block = b; number = o })
change_read (Some number) b = ap (λ c. Some (record { block = c; number = Some number })) (of_network_at b)
change_read None b = ap (λ c. Some (record { block = c; number = None })) (of_network_at b)

changes_read : (h : Address → Option ℕ) (bs : List Block) → changes_in (map (λ b. change_line (h (first_of b)) b) bs) ≡ map (change_at h) bs
changes_read h [] = refl
changes_read h (b ∷ bs) = rw (change_read (h (first_of b)) b) (ap (λ cs. change_at h b ∷ cs) (changes_read h bs))

module _ (h : Address → Option ℕ) (x : Address) (hop : Option ℕ) where
  -- blocks with one hop paint an address, if it has that hop or lies in one of them
  paints : (now : Option ℕ) (bs : List Block) → ((b : Block) → In b bs → HasAddress b x → h (first_of b) ≡ hop)
      → (now ≡ hop) ⊎ ((b : Block) × In b bs × HasAddress b x) → painted_over now (map (change_at h) bs) x ≡ hop
  paints now [] all (inl e) = e
  paints now [] all (inr some) = absurd some.1
  paints now (b ∷ bs) all some = go (has_address b x) refl (λ o h. paints o bs (λ c i k. all c (inr i) k) h)
    where
      later : has_address b x ≡ false → (now ≡ hop) ⊎ ((c : Block) × In c (b ∷ bs) × HasAddress c x) → (now ≡ hop) ⊎ ((c : Block) × In c bs × HasAddress c x)
      later f (inl e) = inl e
      later f (inr (c, inl same, k)) = let t = test_from_has c x k in let g : has_address c x ≡ false = ap (λ (d : Block). has_address d x) same ∙ f in cc
      later f (inr (c, inr i, k)) = inr (c, i, k)

      go : (t : Bool) → has_address b x ≡ t
          → ((o : Option ℕ) → (o ≡ hop) ⊎ ((c : Block) × In c bs × HasAddress c x) → painted_over o (map (change_at h) bs) x ≡ hop)
          → painted_over (cond t (h (first_of b)) now) (map (change_at h) bs) x ≡ hop
      go true e more = more (h (first_of b)) (inl (all b (inl refl) (has_from_test b x e)))
      go false e more = more now (later e some)

module _ (M N : List Route) where
  -- an address that has changed lies in a block of the change
  in_changes : (x : Address) → IsAddress x → Changed M N x → (b : Block) × In b (maximal_of (changed M N)) × HasAddress b x
  in_changes x a d =
      let decide = λ (y : Address). ⊎_elim (λ e. inr (λ d. d e)) (λ d. inl d) (same_or_not (hop_at M y) (hop_at N y)) in
      let union = maximal_is_union (Changed M N) decide (maximal_of (changed M N)) (changed_is_maximal M N) in
      In-from_Any (λ b. HasAddress b x) (maximal_of (changed M N)) ((union.exact x a).0 d)

  -- where all addresses that have changed have one hop, the lines of the change paint each address with its new hop
  pub change_painted : (one : Option ℕ) → ((b : Block) → In b (maximal_of (changed M N)) → (x : Address) → HasAddress b x → hop_at N x ≡ one)
      → (x : Address) → IsAddress x → painted_over (hop_at M x) (changes_in (change_lines M N)) x ≡ hop_at N x
  unfolding change_lines
  change_painted one all x a =
      ap (λ cs. painted_over (hop_at M x) cs x) (changes_read (hop_at N) (maximal_of (changed M N)))
      ∙ paints (hop_at N) x (hop_at N x) (hop_at M x) (maximal_of (changed M N))
      (λ b i k. all b i (first_of b) (has_first b) ∙ sym (all b i x k))
      (⊎_elim (λ e. inl e) (λ d. inr (in_changes x a d)) (same_or_not (hop_at M x) (hop_at N x)))
