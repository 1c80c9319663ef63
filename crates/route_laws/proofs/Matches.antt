-- Lists of things at blocks, ascending by these: one put in the place of any other of its block, or taken out. The longest match.
use Rattle.std.proofs.Common.{◌≡◌, ◌⊎◌, ◌<◌, arith, inl, inr, ⊎_elim, Bool, true, not, Option, None, Some, List, [], ◌∷◌, ◌++◌, filter, map, sym, refl, ap, ◌∙◌, subst, append-nil, append_assoc, ◌≤◌, ◌-◌, ◌/◌, ◌^◌, false, nat_lt, AllPairs, slice_index_or, MatchOption}
use Rattle.std.proofs.lemmas.Bool.{cases_lt, false_from_ne_true, not_from_false, cond_both, ltb-false, ltb-true}
use Rattle.ipnet_addr.specs.Addresses.{Address, rank, IsAddress, width}
use Rattle.ipnet_addr.proofs.Members.{In, In-left, In-right, In-cases}
use Rattle.ipnet_addr.proofs.Ascending.{Rising, same_rising, In-from_Contains, Contains-from_In, In-from_All, All-from_In, Rising-from_pairs}
use Rattle.ipnet_blocks.specs.Blocks.{Block, IsBlock, HasAddress, IsBefore, IsInside, IsLarger, first, first_of, is_before, same_block, free_bits, is_inside, host}
use Rattle.ipnet_blocks.proofs.BlockLaws.{common, has_first, strict, total, transitive, block_path, nested, inside_by_numbers, numbers_from_inside}
use Rattle.ipnet_blocks.proofs.Parents.{larger_is_shorter, decide_inside}
use Rattle.ipnet_blocks.proofs.Search.{first_within, leaf_address}
use Rattle.ipnet_blocks.proofs.BlockTests.{before_from_test, test_from_before, same_from_test, test_from_same}
use Rattle.route_choices.proofs.Kept.{Rising-kept, Rising-joined, In-from_filter, In-filter, In-map, all_kept, none_kept, same_kept}
use Rattle.std.proofs.lemmas.List.Kept.{AllPairs-filter}
use Rattle.std.proofs.lemmas.Option.{MatchOption-at_none, MatchOption-at_some}
use Rattle.ipnet_blocks.proofs.Maximals.{host_is_block, in_host, has_host}
use Rattle.route_laws.specs.Tables.{Route, IsTable, IsMatch, covering, longer, longest, match_of, Governed}

-- of each pair in order the images are in order
pub Rising-map : {A B : Type 0} (R : A → A → Type 0) (S : B → B → Type 0) (f : A → B) → ((a b : A) → R a b → S (f a) (f b)) → (xs : List A) → Rising R xs → Rising S (map f xs)
Rising-map R S f h [] up = tt
Rising-map {A} {B} R S f h (x ∷ xs) up =
    ((λ y i. let t = In-map f xs y i in subst (S (f x)) (sym t.2) (h x t.0 (up.0 t.0 t.1))), Rising-map R S f h xs up.1)

pub not_cases : (b : Bool) → not b ≡ true → b ≡ true → ⊥
not_cases b e f = let g = ap not f in cc

pub not_from : (b : Bool) → (b ≡ true → ⊥) → not b ≡ true
not_from b f = not_from_false b (false_from_ne_true b f)

pub none_or_some : {A : Type 0} (o : Option A) → (o ≡ None) ⊎ ((a : A) × (o ≡ Some a))
none_or_some None = inl refl
none_or_some (Some a) = inr (a, refl)

pub no_members : {A : Type 0} (xs : List A) → ((a : A) → In a xs → ⊥) → xs ≡ []
no_members [] none = refl
no_members (x ∷ xs) none = absurd (none x (inl refl))

pub before_apart : (a b : Block) → IsBefore a b → a ≡ b → ⊥
before_apart a b l q = strict b b (subst (λ (c : Block). IsBefore c b) q l) (subst (λ (c : Block). IsBefore c b) q l)

pub same_or_not : (a b : Block) → (a ≡ b) ⊎ (a ≡ b → ⊥)
same_or_not a b = ⊎_elim (λ l. inr (λ e. before_apart a b l e)) (λ r. ⊎_elim (λ e. inl e) (λ l. inr (λ e. before_apart b a l (sym e))) r) (total a b)

-- of two blocks with a common address the shorter comes first
pub shorter_first : (a b : Block) (x : Address) → IsBlock b → HasAddress a x → HasAddress b x → a.len < b.len → IsBefore a b
shorter_first a b x q h k l =
    let i : IsInside b a = common b a x q k h (omega arith) in
    let f = sym (ap rank (i (first_of b) (has_first b)).0) in
    let low = (first_within b a i).0 in
    ⊎_elim (λ n. inr (inl (f, n))) (λ y. inr (inr (f, omega arith, l))) (cases_lt (first a) (first b))

-- so a block comes before those strictly inside it
pub before_inner : (b c : Block) → IsBlock b → IsBlock c → IsLarger b c → IsBefore b c
before_inner b c p q l = shorter_first b c (first_of c) q (l.0 (first_of c) (has_first c)) (has_first c) (larger_is_shorter b c p q l)

-- a block of one address is inside each block that is inside it
pub alone : (b d : Block) → free_bits b ≡ 0 → IsInside d b → IsInside b d
alone b d h i x m = subst (HasAddress d) (sym (leaf_address b h (first_of d) (i (first_of d) (has_first d))) ∙ leaf_address b h x m) (has_first d)

module _ {X : Type 0} (at : X → Block) where
  abbrev pub Earlier : X → X → Type 0
  Earlier x y = IsBefore (at x) (at y)

  abbrev pub before : X → X → Bool
  before x y = is_before (at y) (at x)

  abbrev pub behind : X → X → Bool
  behind x y = is_before (at x) (at y)

  abbrev pub put : List X → X → List X
  put M x = filter (before x) M ++ x ∷ filter (behind x) M

  abbrev pub without : List X → Block → List X
  without M b = filter (λ y. not (same_block (at y) b)) M

  module _ (M : List X) (x : X) where
    pub put_back : (y : X) → In y (put M x) → (y ≡ x) ⊎ (In y M × (at y ≡ at x → ⊥))
    put_back y i =
        ⊎_elim
        (λ j. let t = In-from_filter (before x) M y j in inr (t.0, λ e. before_apart (at y) (at x) (before_from_test (at y) (at x) t.1) e))
        (λ j. ⊎_elim (λ e. inl e)
        (λ k. let t = In-from_filter (behind x) M y k in inr (t.0, λ e. before_apart (at x) (at y) (before_from_test (at x) (at y) t.1) (sym e))) j)
        (In-cases y (filter (before x) M) (x ∷ filter (behind x) M) i)

    pub put_itself : In x (put M x)
    put_itself = In-right x (filter (before x) M) (x ∷ filter (behind x) M) (inl refl)

    pub put_other : (y : X) → In y M → (at y ≡ at x → ⊥) → In y (put M x)
    put_other y i apart =
        ⊎_elim
        (λ l. In-left y (filter (before x) M) (x ∷ filter (behind x) M) (In-filter (before x) M y i (test_from_before (at y) (at x) l)))
        (λ e. ⊎_elim (λ q. absurd (apart q))
        (λ l. In-right y (filter (before x) M) (x ∷ filter (behind x) M) (inr (In-filter (behind x) M y i (test_from_before (at x) (at y) l)))) e)
        (total (at y) (at x))

    pub put_rises : Rising Earlier M → Rising Earlier (put M x)
    put_rises up = Rising-joined Earlier (filter (before x) M) (x ∷ filter (behind x) M)
        (Rising-kept Earlier (before x) M up)
        ((λ y i. before_from_test (at x) (at y) (In-from_filter (behind x) M y i).1), Rising-kept Earlier (behind x) M up)
        (λ y z i j.
        let l = before_from_test (at y) (at x) (In-from_filter (before x) M y i).1 in
        ⊎_elim (λ e. subst (λ (t : X). Earlier y t) (sym e) l)
        (λ k. transitive (at y) (at x) (at z) l (before_from_test (at x) (at z) (In-from_filter (behind x) M z k).1)) j)

    -- what comes after all others stands last
    pub put_last : ((y : X) → In y M → Earlier y x) → put M x ≡ M ++ x ∷ []
    put_last after =
        ap (λ ys. ys ++ x ∷ filter (behind x) M) (all_kept (before x) M (λ y i. test_from_before (at y) (at x) (after y i)))
        ∙ ap (λ ys. M ++ x ∷ ys) (none_kept (behind x) M (λ y i. false_from_ne_true (behind x y) (λ e. strict (at y) (at x) (after y i) (before_from_test (at x) (at y) e))))

  module _ (M : List X) (b : Block) where
    pub gone_back : (y : X) → In y (without M b) → In y M × (at y ≡ b → ⊥)
    gone_back y i =
        let t = In-from_filter (λ y. not (same_block (at y) b)) M y i in
        (t.0, λ e. not_cases (same_block (at y) b) t.1 (test_from_same (at y) b e))

    pub gone_other : (y : X) → In y M → (at y ≡ b → ⊥) → In y (without M b)
    gone_other y i apart = In-filter (λ y. not (same_block (at y) b)) M y i (not_from (same_block (at y) b) (λ e. apart (same_from_test (at y) b e)))

  -- two members of one block are one
  pub one_of_block : (M : List X) → Rising Earlier M → (x y : X) → In x M → In y M → at x ≡ at y → x ≡ y
  one_of_block [] r x y i j e = absurd i
  one_of_block (z ∷ M) r x y (inl p) (inl q) e = p ∙ sym q
  one_of_block (z ∷ M) r x y (inl p) (inr j) e = absurd (before_apart (at z) (at y) (r.0 y j) (ap at (sym p) ∙ e))
  one_of_block (z ∷ M) r x y (inr i) (inl q) e = absurd (before_apart (at z) (at x) (r.0 x i) (ap at (sym q) ∙ sym e))
  one_of_block (z ∷ M) r x y (inr i) (inr j) e = one_of_block M r.1 x y i j e

  -- what is put where nothing of its block is, and taken out again
  pub put_gone : (M : List X) (x : X) → Rising Earlier M → ((y : X) → In y M → at y ≡ at x → ⊥) → without (put M x) (at x) ≡ M
  put_gone M x up none = same_rising Earlier (λ y z. strict (at y) (at z)) (without (put M x) (at x)) M (Rising-kept Earlier (λ y. not (same_block (at y) (at x))) (put M x) (put_rises M x up)) up
      (λ y i. let t = gone_back (put M x) (at x) y i in ⊎_elim (λ e. absurd (t.1 (ap at e))) (λ u. u.0) (put_back M x y t.0))
      (λ y i. gone_other (put M x) (at x) y (put_other M x y i (none y i)) (none y i))

  -- a member that is put in again
  pub put_again : (M : List X) (x : X) → Rising Earlier M → In x M → put M x ≡ M
  put_again M x up i = same_rising Earlier (λ y z. strict (at y) (at z)) (put M x) M (put_rises M x up) up
      (λ y j. ⊎_elim (λ e. subst (λ (z : X). In z M) (sym e) i) (λ t. t.0) (put_back M x y j))
      (λ y j. ⊎_elim (λ e. subst (λ (z : X). In z (put M x)) (one_of_block M up x y i j (sym e)) (put_itself M x)) (λ apart. put_other M x y j apart) (same_or_not (at y) (at x)))

-- things put in one after the other, each after all that stand there, stand at the end
module _ {X Y : Type 0} (at : X → Block) (f : Y → X) (step : List X → Y → List X) (all : List X → List Y → List X)
    (none : (M : List X) → all M [] ≡ M) (next : (M : List X) (y : Y) (ys : List Y) → all M (y ∷ ys) ≡ all (step M y) ys)
    (last : (M : List X) (y : Y) → ((x : X) → In x M → IsBefore (at x) (at (f y))) → step M y ≡ M ++ f y ∷ []) where
  pub each_last : (ys : List Y) (M : List X) → Rising (λ y z. IsBefore (at (f y)) (at (f z))) ys → ((y : Y) → In y ys → (x : X) → In x M → IsBefore (at x) (at (f y))) → all M ys ≡ M ++ map f ys
  each_last [] M up after = none M ∙ sym (append-nil M)
  each_last (y ∷ ys) M up after = next M y ys ∙ ap (λ N. all N ys) (last M y (after y (inl refl)))
      ∙ each_last ys (M ++ f y ∷ []) up.1 (λ z j x i. ⊎_elim (after z (inr j) x) (λ k. ⊎_elim (λ e. subst (λ (u : X). IsBefore (at u) (at (f z))) (sym e) (up.0 z j)) (λ no. absurd no) k) (In-cases x M (f y ∷ []) i))
      ∙ append_assoc M (f y ∷ []) (map f ys)

-- ---- what the longest match is

pub bools_same : (a b : Bool) → (a ≡ true → b ≡ true) → (b ≡ true → a ≡ true) → a ≡ b
bools_same true b f g = sym (f refl)
bools_same false true f g = g refl
bools_same false false f g = refl

pub same_length : (a b : Block) (x : Address) → HasAddress a x → HasAddress b x → a.len ≡ b.len → a ≡ b
same_length a b x h k l =
    let f : a.family ≡ b.family = sym h.0 ∙ k.0 in
    let w : free_bits a ≡ free_bits b = ap (λ g. width g - a.len) f ∙ ap (λ n. width b.family - n) l in
    block_path a b f l (sym h.1 ∙ ap (λ n. x.number / 2 ^ n) w ∙ k.1)

-- of two blocks with a common address the earlier is shorter
earlier_is_shorter : (a b : Block) (x : Address) → IsBlock a → HasAddress a x → HasAddress b x → IsBefore a b → a.len < b.len
earlier_is_shorter a b x p h k l = ⊎_elim
    (λ less. less)
    (λ more. absurd (⊎_elim (λ m. strict a b l (shorter_first b a x p k h m)) (λ m. before_apart a b l (same_length a b x h k (omega arith))) (cases_lt b.len a.len)))
    (cases_lt a.len b.len)

pub inside_from_test : (a b : Block) → IsBlock a → IsBlock b → is_inside a b ≡ true → IsInside a b
inside_from_test a b p q = (inside_by_numbers a b p q).1

pub test_from_inside : (a b : Block) → IsBlock a → IsBlock b → IsInside a b → is_inside a b ≡ true
test_from_inside a b p q = (inside_by_numbers a b p q).0

-- of a route and a match the longer is the route, or the match, which is longer then
pub longer_cases : (r : Route) (o : Option Route) → (longer r o ≡ r) ⊎ ((Some (longer r o) ≡ o) × (Block.len r.block < Block.len (Route.block (longer r o))))
longer_cases r None = inl refl
longer_cases r (Some s) = cond_both (nat_lt r.block.len s.block.len) s r
    (λ t. (t ≡ r) ⊎ ((Some t ≡ Some s) × (r.block.len < t.block.len))) (λ e. inr (refl, ltb-true _ _ e)) (λ e. inl refl)

abbrev pub AtLeast : Route → List Route → Type 0
AtLeast r rs = In r rs × ((s : Route) → In s rs → Block.len s.block ≤ Block.len r.block)

pick : (r : Route) (rs : List Route) (o : Option Route) → MatchOption o ((s : Route) → In s rs → ⊥) (λ s. AtLeast s rs) → AtLeast (longer r o) (r ∷ rs)
pick r rs None none = (inl refl, λ s i. ⊎_elim (λ e. let l : Block.len s.block ≡ Block.len r.block = ap (λ (t : Route). Block.len t.block) e in omega arith) (λ j. absurd (none s j)) i)
pick r rs (Some s) best = cond_both (nat_lt r.block.len s.block.len) s r (λ t. AtLeast t (r ∷ rs))
    (λ e. (inr best.0, λ t i. ⊎_elim (λ q. let l = ltb-true _ _ e in let m = ap (λ (u : Route). Block.len u.block) q in omega arith) (λ j. best.1 t j) i))
    (λ e. (inl refl, λ t i. ⊎_elim (λ q. let m = ap (λ (u : Route). Block.len u.block) q in omega arith) (λ j. let l = ltb-false _ _ e in let b = best.1 t j in omega arith) i))

pub best_of : (rs : List Route) → MatchOption (longest rs) ((s : Route) → In s rs → ⊥) (λ s. AtLeast s rs)
best_of [] = λ s i. i
best_of (r ∷ rs) = pick r rs (longest rs) (best_of rs)

module _ (M : List Route) (table : IsTable M) where
  pub block_in : (r : Route) → In r M → IsBlock r.block
  block_in r i = In-from_All (λ s. IsBlock s.block) M table.blocks r i

  module _ (n : Block) (ok : IsBlock n) where
    pub covers_in : (r : Route) → In r M → IsInside n r.block → In r (covering M n)
    covers_in r i h = In-filter (λ s. is_inside n s.block) M r i (test_from_inside n r.block ok (block_in r i) h)

    pub in_covers : (r : Route) → In r (covering M n) → In r M × IsInside n r.block
    in_covers r i =
        let t = In-from_filter (λ s. is_inside n s.block) M r i in
        (t.0, inside_from_test n r.block ok (block_in r t.0) t.1)

    pub cover_ascends : AllPairs (λ r s. r.block.len < s.block.len) (covering M n)
    cover_ascends i j d l m =
        let up = AllPairs-filter (Earlier Route.block) (λ r. is_inside n r.block) M table.ascending in
        let holds = All-from_In (λ r. IsBlock r.block × HasAddress r.block (first_of n)) (covering M n)
        (λ r k. let t = in_covers r k in (block_in r t.0, t.1 (first_of n) (has_first n))) in
        let r = slice_index_or (covering M n) i d in
        let s = slice_index_or (covering M n) j d in
        let k = holds i d (omega arith) in
        earlier_is_shorter r.block s.block (first_of n) k.0 k.1 (holds j d m).1 (up i j d l m)

    pub no_match : match_of M n ≡ None → (r : Route) → In r M → IsInside n r.block → ⊥
    no_match e r i h = MatchOption-at_none ((s : Route) → In s (covering M n) → ⊥) (λ s. AtLeast s (covering M n)) e (best_of (covering M n)) r (covers_in r i h)

    pub none_from : ((r : Route) → In r M → IsInside n r.block → ⊥) → match_of M n ≡ None
    none_from f = ap longest (none_kept (λ r. is_inside n r.block) M (λ r i. false_from_ne_true (is_inside n r.block) (λ e. f r i (inside_from_test n r.block ok (block_in r i) e))))

    pub match_meets : (r : Route) → match_of M n ≡ Some r → IsMatch M n r
    match_meets r e =
        let best = MatchOption-at_some ((s : Route) → In s (covering M n) → ⊥) (λ s. AtLeast s (covering M n)) r e (best_of (covering M n)) in
        let t = in_covers r best.0 in
        record { member = Contains-from_In M r t.0; holds = t.1; longest = λ s c h. best.1 s (covers_in s (In-from_Contains M s c) h) }

    pub match_from : (r : Route) → IsMatch M n r → match_of M n ≡ Some r
    match_from r m = ⊎_elim
        (λ e. absurd (no_match e r (In-from_Contains M r m.member) m.holds))
        (λ t.
        let s = t.0 in
        let k = match_meets s t.1 in
        let p = m.longest s k.member k.holds in
        let q = k.longest r m.member m.holds in
        let l : Block.len s.block ≡ Block.len r.block = omega arith in
        let same = same_length s.block r.block (first_of n) (k.holds (first_of n) (has_first n)) (m.holds (first_of n) (has_first n)) l in
        let one = one_of_block Route.block M (Rising-from_pairs (Earlier Route.block) M table.ascending) s r (In-from_Contains M s k.member) (In-from_Contains M r m.member) same in
        t.1 ∙ ap (λ (t : Route). Some t) one)
        (none_or_some (match_of M n))

    -- the match of an address that n governs is the match of n
    pub governed_match : (x : Address) → IsAddress x → Governed M n x → match_of M (host x) ≡ match_of M n
    governed_match x a g = ap longest (same_kept (λ r. is_inside (host x) r.block) (λ r. is_inside n r.block) M (λ r i.
        bools_same (is_inside (host x) r.block) (is_inside n r.block)
        (λ e. test_from_inside n r.block ok (block_in r i) (up r i (inside_from_test (host x) r.block (host_is_block x a) (block_in r i) e x (has_host x))))
        (λ e. test_from_inside (host x) r.block (host_is_block x a) (block_in r i)
        (λ y m. inside_from_test n r.block ok (block_in r i) e y (subst (λ (z : Address). HasAddress n z) (sym (in_host x y m)) g.inside)))))
      where
        up : (r : Route) → In r M → HasAddress r.block x → IsInside n r.block
        up r i h = ⊎_elim (λ k. k)
            (λ k. ⊎_elim (λ l. l) (λ no. absurd (g.free r (Contains-from_In M r i) (k, no) h)) (decide_inside n r.block ok (block_in r i)))
            (nested n r.block x ok (block_in r i) g.inside h)

-- a route is the match of its own block
pub match_of_own : (M : List Route) → IsTable M → (r : Route) → In r M → match_of M r.block ≡ Some r
match_of_own M m r i = match_from M m r.block (block_in M m r i) r (record {
  member = Contains-from_In M r i;
  holds = λ x h. h;
  longest = λ s c h. (numbers_from_inside r.block s.block (block_in M m r i) (block_in M m s (In-from_Contains M s c)) h).long;
})
