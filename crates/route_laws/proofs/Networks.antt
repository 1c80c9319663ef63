-- Tables with several choices a network: what a change leaves, and the table of the best routes.
use Rattle.std.proofs.Common.{◌≡◌, ◌≢◌, ◌<◌, ◌^◌, ◌⊎◌, inl, inr, ⊎_elim, Bool, not, cond, List, [], ◌∷◌, ◌++◌, Some, MatchOption, filter, map, refl, sym, ap, ◌∙◌, subst, ◌↔◌, Contains}
use Rattle.std.proofs.lemmas.List.{map-append}
use Rattle.std.proofs.lemmas.Bool.{cases_Bool, cond-false, cond-true}
use Rattle.ipnet_addr.proofs.Members.{In}
use Rattle.ipnet_addr.proofs.Ascending.{In-from_All, All-from_In, Rising, Rising-from_pairs, pairs_from_Rising, same_rising}
use Rattle.ipnet_blocks.specs.Blocks.{Block, IsBlock, IsBefore, is_before, same_block, HasAddress}
use Rattle.ipnet_blocks.proofs.BlockLaws.{strict}
use Rattle.ipnet_blocks.proofs.BlockTests.{same_from_test, test_from_same}
use Rattle.route_choices.specs.Hops.{IsHop, number_of}
use Rattle.route_choices.specs.declared.hop.Hop.{Hop}
use Rattle.route_choices.specs.Choices.{Choice, beats, AreChoices, best, best_hop, is_one_too_many, choices_with, choices_without}
use Rattle.route_choices.proofs.Kept.{filter_map_swap, In-map, map_In, In-from_filter, Rising-kept}
use Rattle.route_choices.proofs.Preferences.{test_from_hop, test_from_apart}
use Rattle.route_choices.proofs.ChoiceLists.{left_back, without_are, without_none, with_are, none_are}
use Rattle.route_laws.specs.Tables.{Route, IsTable, with_route, without_block, match_of, match_number, hop_at, Changed, Governed}
use Rattle.route_laws.proofs.Matches.{same_or_not, put_back, put_itself, put_other, put_rises, gone_back, gone_other, one_of_block, Rising-map, put_again, put_gone, no_members}
use Rattle.route_laws.proofs.Insides.{Sooner, Sound, rising as table_rises, table_of}
use Rattle.route_laws.specs.Networks.{Stored, IsStoredTable, best_route, routes_of, choices_at, with_stored, without_stored, without_each, with_choices, with_choice, without_choice}
use Rattle.ipnet_addr.specs.Addresses.{Address, IsAddress}
use Rattle.ipnet_blocks.specs.Maximal.{IsMaximal, maximal_of}
use Rattle.route_laws.specs.Changes.{changed}
use Rattle.route_laws.proofs.Alterations.{IsChange, added_change, added_number, blocks_by, changed_by, left_change, lines_by}
pub use Rattle.route_laws.proofs.Matches.{match_of_own}

abbrev pub Earlier : Stored → Stored → Type 0
Earlier s t = IsBefore s.block t.block

-- ---- the best routes of a change: no condition on the table

pub routes_with : (T : List Stored) (s : Stored) → routes_of (with_stored T s) ≡ with_route (routes_of T) (best_route s)
routes_with T s =
    map-append best_route (filter (λ t. is_before t.block s.block) T) (s ∷ filter (λ t. is_before s.block t.block) T)
    ∙ ap (λ rs. rs ++ best_route s ∷ map best_route (filter (λ t. is_before s.block t.block) T)) (sym (filter_map_swap best_route (λ r. is_before r.block s.block) T))
    ∙ ap (λ rs. filter (λ r. is_before r.block s.block) (map best_route T) ++ best_route s ∷ rs) (sym (filter_map_swap best_route (λ r. is_before s.block r.block) T))

pub routes_without : (T : List Stored) (b : Block) → routes_of (without_stored T b) ≡ without_block (routes_of T) b
routes_without T b = sym (filter_map_swap best_route (λ r. not (same_block r.block b)) T)

append_some : {A : Type 0} (c : A) (xs ys : List A) → xs ++ c ∷ ys ≡ [] → ⊥
append_some c [] ys e = cc
append_some c (x ∷ xs) ys e = cc

pub with_some : (cs : List Choice) (c : Choice) → choices_with cs c ≡ [] → ⊥
with_some cs c = append_some c (filter (λ d. beats d c) (choices_without cs c.hop)) (filter (λ d. beats c d) (choices_without cs c.hop))

pub routes_with_choices : (T : List Stored) (b : Block) (cs : List Choice) → (cs ≡ [] → ⊥) → routes_of (with_choices T b cs) ≡ with_route (routes_of T) (best_route (record { block = b; choices = cs }))
routes_with_choices T b [] some = absurd (some refl)
routes_with_choices T b (c ∷ cs) some = routes_with T (record { block = b; choices = c ∷ cs })

pub routes_left : (T : List Stored) (b : Block) (cs : List Choice) → MatchOption (best cs) (routes_of (with_choices T b cs) ≡ without_block (routes_of T) b) (λ d. routes_of (with_choices T b cs) ≡ with_route (routes_of T) (record { block = b; hop = d.hop; pref = d.pref }))
routes_left T b [] = routes_without T b
routes_left T b (c ∷ cs) = routes_with T (record { block = b; choices = c ∷ cs })

-- ---- a table stays a table

-- what a stored network is
abbrev pub IsGood : Stored → Type 0
IsGood s = IsBlock s.block × (s.choices ≡ [] → ⊥) × AreChoices s.choices

pub stored_table_of : (T : List Stored) → ((s : Stored) → In s T → IsGood s) → Rising Earlier T → IsStoredTable T
stored_table_of T k up = record {
  blocks = All-from_In (λ s. IsBlock s.block) T (λ s i. (k s i).0);
  some = All-from_In (λ s. s.choices ≡ [] → ⊥) T (λ s i. (k s i).1);
  choices = All-from_In (λ s. AreChoices s.choices) T (λ s i. (k s i).2);
  ascending = pairs_from_Rising Earlier T up;
}

module _ (T : List Stored) (ok : IsStoredTable T) where
  pub rising : Rising Earlier T
  rising = Rising-from_pairs Earlier T ok.ascending

  pub stored_block : (t : Stored) → In t T → IsBlock t.block
  stored_block t i = In-from_All (λ s. IsBlock s.block) T ok.blocks t i

  pub stored_some : (t : Stored) → In t T → t.choices ≡ [] → ⊥
  stored_some t i = In-from_All (λ s. s.choices ≡ [] → ⊥) T ok.some t i

  pub stored_choices : (t : Stored) → In t T → AreChoices t.choices
  stored_choices t i = In-from_All (λ s. AreChoices s.choices) T ok.choices t i

  pub good : (t : Stored) → In t T → IsGood t
  good t i = (stored_block t i, stored_some t i, stored_choices t i)

  -- what passes a test
  pub stored_kept : (p : Stored → Bool) → IsStoredTable (filter p T)
  stored_kept p = stored_table_of (filter p T) (λ s i. good s (In-from_filter p T s i).0) (Rising-kept Earlier p T rising)

  pub without_is : (b : Block) → IsStoredTable (without_stored T b)
  without_is b = stored_kept (λ t. not (same_block t.block b))

  pub with_is : (s : Stored) → IsBlock s.block → (s.choices ≡ [] → ⊥) → AreChoices s.choices → IsStoredTable (with_stored T s)
  with_is s okb some are = stored_table_of (with_stored T s) (λ t i. ⊎_elim (λ e. subst IsGood (sym e) (okb, some, are)) (λ u. good t u.0) (put_back Stored.block T s t i)) (put_rises Stored.block T s rising)

  pub with_choices_is : (b : Block) (cs : List Choice) → IsBlock b → AreChoices cs → IsStoredTable (with_choices T b cs)
  with_choices_is b [] okb are = without_is b
  with_choices_is b (c ∷ cs) okb are = with_is (record { block = b; choices = c ∷ cs }) okb (λ e. cc) are

-- ---- what stands at a block

-- the choices at a block are those of the member of this block, or there is none
pub at_cases : (T : List Stored) (b : Block) → ((s : Stored) × In s T × (s.block ≡ b) × (choices_at T b ≡ s.choices)) ⊎ (((s : Stored) → In s T → s.block ≡ b → ⊥) × (choices_at T b ≡ []))
at_cases [] b = inr ((λ s i. absurd i), refl)
at_cases (s ∷ T) b = ⊎_elim
    (λ e. inl (s, inl refl, same_from_test s.block b e, cond-true (same_block s.block b) s.choices (choices_at T b) e))
    (λ e. let k = cond-false (same_block s.block b) s.choices (choices_at T b) e in ⊎_elim
    (λ u. inl (u.0, inr u.1, u.2, k ∙ u.3))
    (λ u. inr ((λ t i q. ⊎_elim (λ p. let f = test_from_same s.block b (ap Stored.block (sym p) ∙ q) in cc) (λ j. u.0 t j q) i), k ∙ u.1))
    (at_cases T b))
    (cases_Bool (same_block s.block b))

module _ (T : List Stored) (ok : IsStoredTable T) where
  pub at_member : (s : Stored) → In s T → choices_at T s.block ≡ s.choices
  at_member s i = ⊎_elim
      (λ t. t.3 ∙ ap Stored.choices (one_of_block Stored.block T (rising T ok) t.0 s t.1 i t.2))
      (λ t. absurd (t.0 s i refl))
      (at_cases T s.block)

  pub at_none : (b : Block) → ((s : Stored) → In s T → s.block ≡ b → ⊥) → choices_at T b ≡ []
  at_none b none = ⊎_elim (λ t. absurd (none t.0 t.1 t.2)) (λ t. t.1) (at_cases T b)

  pub at_are : (b : Block) → AreChoices (choices_at T b)
  at_are b = ⊎_elim
      (λ t. subst (λ (cs : List Choice). AreChoices cs) (sym t.3) (stored_choices T ok t.0 t.1))
      (λ t. subst (λ (cs : List Choice). AreChoices cs) (sym t.1) none_are)
      (at_cases T b)

  -- a block with choices is stored
  pub at_some : (b : Block) → (choices_at T b ≡ [] → ⊥) → In (record { block = b; choices = choices_at T b }) T
  at_some b some = ⊎_elim
      (λ t. subst (λ (s : Stored). In s T) (λ i. record { block = t.2 i; choices = sym t.3 i }) t.1)
      (λ t. absurd (some t.1))
      (at_cases T b)

  pub del_is : (b : Block) (h : Hop) → IsBlock b → IsStoredTable (without_choice T b h)
  del_is b h okb = with_choices_is T ok b (choices_without (choices_at T b) h) okb (without_are (choices_at T b) (at_are b) h)

-- two tables with equal choices at each block are equal
pub same_tables : (T U : List Stored) → IsStoredTable T → IsStoredTable U → ((b : Block) → choices_at T b ≡ choices_at U b) → T ≡ U
same_tables T U okt oku same = same_rising Earlier (λ s t. strict s.block t.block) T U (rising T okt) (rising U oku)
    (λ s i. into T U okt oku same s i)
    (λ s i. into U T oku okt (λ b. sym (same b)) s i)
  where
    into : (T U : List Stored) → IsStoredTable T → IsStoredTable U → ((b : Block) → choices_at T b ≡ choices_at U b) → (s : Stored) → In s T → In s U
    into T U okt oku same s i =
        let e = sym (same s.block) ∙ at_member T okt s i in
        subst (λ (t : Stored). In t U) (λ j. record { block = s.block; choices = e j }) (at_some U oku s.block (λ q. stored_some T okt s i (sym e ∙ q)))

-- what a change leaves at each block
module _ (T : List Stored) (ok : IsStoredTable T) (b : Block) (okb : IsBlock b) where
  pub at_changed : (cs : List Choice) → AreChoices cs → choices_at (with_choices T b cs) b ≡ cs
  at_changed [] are = at_none (without_stored T b) (without_is T ok b) b (λ s i. (gone_back Stored.block T b s i).1)
  at_changed (c ∷ cs) are =
      let s : Stored = record { block = b; choices = c ∷ cs } in
      at_member (with_stored T s) (with_is T ok s okb (λ e. cc) are) s (put_itself Stored.block T s)

  at_others : (N : List Stored) → IsStoredTable N → (d : Block) → ((t : Stored) → In t N → t.block ≡ d → In t T) → ((t : Stored) → In t T → t.block ≡ d → In t N) → choices_at N d ≡ choices_at T d
  at_others N okn d f g = ⊎_elim
      (λ t. t.3 ∙ sym (at_member T ok t.0 (f t.0 t.1 t.2)) ∙ ap (choices_at T) t.2)
      (λ t. t.1 ∙ sym (at_none T ok d (λ s i e. t.0 s (g s i e) e)))
      (at_cases N d)

  pub at_other : (cs : List Choice) → AreChoices cs → (d : Block) → (d ≡ b → ⊥) → choices_at (with_choices T b cs) d ≡ choices_at T d
  at_other [] are d apart = at_others (without_stored T b) (without_is T ok b) d (λ t i e. (gone_back Stored.block T b t i).0) (λ t i e. gone_other Stored.block T b t i (λ q. apart (sym e ∙ q)))
  at_other (c ∷ cs) are d apart =
      let s : Stored = record { block = b; choices = c ∷ cs } in
      at_others (with_stored T s) (with_is T ok s okb (λ e. cc) are) d
      (λ t i e. ⊎_elim (λ q. absurd (apart (sym e ∙ ap Stored.block q))) (λ u. u.0) (put_back Stored.block T s t i))
      (λ t i e. put_other Stored.block T s t i (λ q. apart (sym e ∙ q)))

-- ---- the best routes are a table

best_is_hop : (cs : List Choice) → AreChoices cs → IsHop (best_hop cs)
best_is_hop [] are = tt
best_is_hop (c ∷ cs) are = In-from_All (λ d. IsHop d.hop) (c ∷ cs) are.hops c (inl refl)

pub routes_are_table : (T : List Stored) → IsStoredTable T → IsTable (routes_of T)
routes_are_table T ok = table_of (routes_of T)
    (λ r i. let t = In-map best_route T r i in subst Sound (sym t.2) (stored_block T ok t.0 t.1, best_is_hop t.0.choices (stored_choices T ok t.0 t.1)))
    (Rising-map Earlier Sooner best_route (λ s t l. l) T (rising T ok))

-- ---- a choice that is not the best

-- taking out a choice that is not the first leaves the first
first_stays : (cs : List Choice) (h : Hop) (c : Choice) → best cs ≡ Some c → c.hop ≢ h → (choices_without cs h ≡ [] → ⊥) × (best (choices_without cs h) ≡ best cs)
first_stays [] h c e apart = absurd (cc)
first_stays (d ∷ cs) h c e apart =
    let q : d ≡ c = (let f = e in cc) in
    let k : choices_without (d ∷ cs) h ≡ d ∷ choices_without cs h = ap (λ b. cond b (d ∷ choices_without cs h) (choices_without cs h)) (test_from_apart d.hop h (λ p. apart (ap Choice.hop (sym q) ∙ p))) in
    ((λ p. let z = sym k ∙ p in cc), ap best k)

-- choices with the same best have the same best route
pub same_best : (b : Block) (cs ds : List Choice) → best cs ≡ best ds → best_route (record { block = b; choices = cs }) ≡ best_route (record { block = b; choices = ds })
same_best b [] [] e = refl
same_best b [] (d ∷ ds) e = absurd (cc)
same_best b (c ∷ cs) [] e = absurd (cc)
same_best b (c ∷ cs) (d ∷ ds) e = let q : c ≡ d = (let f = e in cc) in ap (λ (x : Choice). record { block = b; hop = x.hop; pref = x.pref }) q

pub del_other : (T : List Stored) (b : Block) (h : Hop) (c : Choice) → IsStoredTable T → best (choices_at T b) ≡ Some c → c.hop ≢ h → routes_of (without_choice T b h) ≡ routes_of T
del_other T b h c ok e apart =
    let s = first_stays (choices_at T b) h c e apart in
    let i = at_some T ok b (λ q. let f = ap best q in cc) in
    routes_with_choices T b (choices_without (choices_at T b) h) s.0
    ∙ ap (with_route (routes_of T)) (same_best b (choices_without (choices_at T b) h) (choices_at T b) s.1)
    ∙ put_again Route.block (routes_of T) (best_route (record { block = b; choices = choices_at T b })) (table_rises (routes_of T) (routes_are_table T ok)) (map_In best_route T (record { block = b; choices = choices_at T b }) i)

-- the choices that stand at a block, put there again
pub put_same : (T : List Stored) → IsStoredTable T → (b : Block) → IsBlock b → with_choices T b (choices_at T b) ≡ T
put_same T ok b okb = same_tables (with_choices T b (choices_at T b)) T (with_choices_is T ok b (choices_at T b) okb (at_are T ok b)) ok
    (λ d. ⊎_elim
    (λ e. ap (choices_at (with_choices T b (choices_at T b))) e ∙ at_changed T ok b okb (choices_at T b) (at_are T ok b) ∙ ap (choices_at T) (sym e))
    (λ apart. at_other T ok b okb (choices_at T b) (at_are T ok b) d apart)
    (same_or_not d b))

-- a hop that is not there takes nothing out
pub del_none : (T : List Stored) (b : Block) (h : Hop) → IsStoredTable T → IsBlock b → ((d : Choice) → In d (choices_at T b) → d.hop ≢ h) → without_choice T b h ≡ T
del_none T b h ok okb none =
    let cs = choices_at T b in
    let e = without_none cs (at_are T ok b) h none in
    ap (with_choices T b) e ∙ put_same T ok b okb

-- ---- a `del` next after an `add` of a new network

pub restored : (T : List Stored) (b : Block) (c : Choice) → IsStoredTable T → IsBlock b → IsHop c.hop → c.pref < 2 ^ 16 → choices_at T b ≡ [] → without_choice (with_choice T b c) b c.hop ≡ T
restored T b c ok okb hop pref none =
    let s : Stored = record { block = b; choices = c ∷ [] } in
    let are = subst AreChoices (ap (λ cs. choices_with cs c) none) (with_are (choices_at T b) (at_are T ok b) c hop pref (ap (λ cs. is_one_too_many cs c.hop) none)) in
    let here = at_member (with_stored T s) (with_is T ok s okb (λ e. cc) are) s (put_itself Stored.block T s) in
    ap (λ cs. without_choice (with_choices T b (choices_with cs c)) b c.hop) none
    ∙ ap (λ cs. with_choices (with_stored T s) b (choices_without cs c.hop)) here
    ∙ ap (λ e. with_choices (with_stored T s) b (cond (not e) (c ∷ []) [])) (test_from_hop c.hop c.hop refl)
    ∙ put_gone Stored.block T s (rising T ok) (λ t i q. stored_some T ok t i (sym (at_member T ok t i) ∙ ap (choices_at T) q ∙ none))

-- ---- a `del` of each choice

-- after it: what is left at the block is of other hops, and other blocks have their choices
each_gone : (T : List Stored) (b : Block) (cs : List Choice) → IsStoredTable T → IsBlock b → let N = without_each T b cs in
    IsStoredTable N × ((d : Choice) → In d (choices_at N b) → In d (choices_at T b) × ((e : Choice) → In e cs → d.hop ≢ e.hop))
    × ((d : Block) → (d ≡ b → ⊥) → choices_at N d ≡ choices_at T d)
each_gone T b [] ok okb = (ok, (λ d i. (i, λ e j. absurd j)), λ d apart. refl)
each_gone T b (c ∷ cs) ok okb =
    let t = each_gone (without_choice T b c.hop) b cs (del_is T ok b c.hop okb) okb in
    let are = without_are (choices_at T b) (at_are T ok b) c.hop in
    let k = at_changed T ok b okb (choices_without (choices_at T b) c.hop) are in (
      t.0,
      (λ d i.
          let s = t.1 d i in
          let u = left_back (choices_at T b) c.hop d (subst (λ (ds : List Choice). In d ds) k s.0) in
          (u.0, λ e j. ⊎_elim (λ q f. u.1 (f ∙ ap Choice.hop q)) (λ m. s.1 e m) j)),
      λ d apart. t.2 d apart ∙ at_other T ok b okb (choices_without (choices_at T b) c.hop) are d apart,
    )

pub emptied : (T : List Stored) (b : Block) → IsStoredTable T → IsBlock b → without_each T b (choices_at T b) ≡ without_stored T b
emptied T b ok okb =
    let g = each_gone T b (choices_at T b) ok okb in
    same_tables (without_each T b (choices_at T b)) (without_stored T b) g.0 (without_is T ok b)
    (λ d. ⊎_elim
    (λ e. ap (choices_at (without_each T b (choices_at T b))) e
    ∙ no_members (choices_at (without_each T b (choices_at T b)) b) (λ c i. let t = g.1 c i in t.1 c t.0 refl)
    ∙ sym (at_changed T ok b okb [] none_are) ∙ ap (choices_at (without_stored T b)) (sym e))
    (λ apart. g.2 d apart ∙ sym (at_other T ok b okb [] none_are d apart))
    (same_or_not d b))

-- ---- what a change of the choices of a block changes, by the laws on one route more or less

pub match_of_choices : (T : List Stored) (b : Block) (c : Choice) → IsStoredTable T → best (choices_at T b) ≡ Some c → match_of (routes_of T) b ≡ Some (record { block = b; hop = c.hop; pref = c.pref })
match_of_choices T b c ok e = match_of_own (routes_of T) (routes_are_table T ok) (record { block = b; hop = c.hop; pref = c.pref })
    (subst (λ (r : Route). In r (routes_of T)) (same_best b (choices_at T b) (c ∷ []) e) (map_In best_route T (record { block = b; choices = choices_at T b }) (at_some T ok b (λ q. let f = sym e ∙ ap best q in cc))))

module _ (T : List Stored) (ok : IsStoredTable T) (b : Block) (okb : IsBlock b) where
  before : IsTable (routes_of T)
  before = routes_are_table T ok

  -- the number at the block is that of the first choice
  pub number_of_choices : (cs : List Choice) → AreChoices cs → (cs ≡ [] → ⊥) → number_of (best_hop cs) ≡ match_number (match_of (routes_of (with_choices T b cs)) b)
  number_of_choices [] are some = absurd (some refl)
  number_of_choices (c ∷ cs) are some = sym (ap (λ N. match_number (match_of N b)) (routes_with T (record { block = b; choices = c ∷ cs }))
      ∙ added_number (routes_of T) before (record { block = b; hop = c.hop; pref = c.pref }) okb (best_is_hop (c ∷ cs) are))

  pub is_change : (cs : List Choice) → AreChoices cs → IsChange (routes_of T) (routes_of (with_choices T b cs)) b
  is_change [] are = subst (λ (N : List Route). IsChange (routes_of T) N b) (sym (routes_without T b)) (left_change (routes_of T) before b okb)
  is_change (c ∷ cs) are = subst (λ (N : List Route). IsChange (routes_of T) N b) (sym (routes_with T (record { block = b; choices = c ∷ cs })))
      (added_change (routes_of T) before (record { block = b; hop = c.hop; pref = c.pref }) okb (best_is_hop (c ∷ cs) are))

  pub changed_by_choices : (cs : List Choice) → AreChoices cs → (x : Address) → IsAddress x →
      Changed (routes_of T) (routes_of (with_choices T b cs)) x ↔ (Governed (routes_of T) b x × (match_number (match_of (routes_of T) b) ≢ match_number (match_of (routes_of (with_choices T b cs)) b)))
  changed_by_choices cs are = changed_by (routes_of T) _ b before okb (is_change cs are) _ refl

  pub blocks_of_choices : (cs : List Choice) (bs : List Block) → AreChoices cs → IsMaximal (Governed (routes_of T) b) bs →
      ((match_number (match_of (routes_of T) b) ≢ match_number (match_of (routes_of (with_choices T b cs)) b)) → IsMaximal (Changed (routes_of T) (routes_of (with_choices T b cs))) bs)
      × (match_number (match_of (routes_of T) b) ≡ match_number (match_of (routes_of (with_choices T b cs)) b) → IsMaximal (Changed (routes_of T) (routes_of (with_choices T b cs))) [])
  blocks_of_choices cs bs are = blocks_by (routes_of T) _ b before okb (is_change cs are) _ refl bs

  pub choices_have_one_hop : (cs : List Choice) → AreChoices cs → (d : Block) → Contains (maximal_of (changed (routes_of T) (routes_of (with_choices T b cs)))) d → (x : Address) → HasAddress d x →
      hop_at (routes_of (with_choices T b cs)) x ≡ match_number (match_of (routes_of (with_choices T b cs)) b)
  choices_have_one_hop cs are = lines_by (routes_of T) _ b before okb (is_change cs are) _ refl
