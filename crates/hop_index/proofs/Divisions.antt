-- Cells lead each number on to fewer ranges.
use Rattle.std.proofs.Common.{rules, ◌≡◌, ℕ, ◌+◌, ◌-◌, ◌*◌, ◌/◌, ◌%◌, ◌^◌, ◌<◌, ◌≤◌, ⊎_elim, List, [], ◌∷◌, ◌++◌, Option, Some, None, length, length-append, get_or, refl, sym, ap, ◌∙◌, subst, arith}
use Rattle.std.proofs.lemmas.Bool.{cases_lt}
use Rattle.std.proofs.lemmas.List.{get_or_append_left, get_or-append-add, get_or_push, length_push}
use Rattle.std.proofs.lemmas.Nat.{mod-pow-add, pow-add, pow_pos}
use Rattle.std.proofs.Math.Nat.{div-div-eq-div-mul, div-lt_iff_lt-mul, mul-le-mul_right, mul-lt-mul_of_pos_right}
use Rattle.hop_index.specs.Ranges.{HopRange, hop_in}
use Rattle.hop_index.specs.InnerRanges.{ArePadded, AreTops, IsBetween, cell_of, head_of, range_at}
use Rattle.hop_index.specs.InnerNodes.{AreEntries, AreNodes, HasHop, Leads, StoredNode, cell_by, cell_in, hop_in_entry}
use Rattle.hop_index.proofs.Searches.{before_pads, divided_ascends, found, head_ascends, lowered, raised}

-- the cell of a higher number is no lower in a node
cell_in_ascends : (n : StoredNode) (x y : ℕ) → x ≤ y → cell_in n x ≤ cell_in n y
cell_in_ascends n x y le = let d = divided_ascends (x - n.first) (y - n.first) n.shift (omega arith) in omega arith

-- how many steps of 2 ^ s a number is above a multiple of 2 ^ s, by their first bits
pub steps_by_head : (x first s : ℕ) → 64 ≤ s → first % 2 ^ s ≡ 0 → (x - first) / 2 ^ s ≡ (x / 2 ^ 64 - first / 2 ^ 64) / 2 ^ (s - 64)
steps_by_head x first s more whole =
    let parts : 2 ^ s ≡ 2 ^ 64 * 2 ^ (s - 64) = subst (λ (k : ℕ). 2 ^ k ≡ 2 ^ 64 * 2 ^ (s - 64)) {x = 64 + (s - 64)} (omega arith) (pow-add 2 64 (s - 64)) in
    let low : first % 2 ^ 64 ≡ 0 = subst (λ (k : ℕ). first % 2 ^ k ≡ 0 → first % 2 ^ 64 ≡ 0) {x = s - 64 + 64} (omega arith) (λ e. let m = mod-pow-add first (s - 64) 64 in omega arith) whole in
    let heads : x / 2 ^ 64 - first / 2 ^ 64 ≡ (x - first) / 2 ^ 64 = omega arith in
    sym (ap (λ (k : ℕ). k / 2 ^ (s - 64)) heads ∙ (div-div-eq-div-mul (x - first) (2 ^ 64) (2 ^ (s - 64)) ∙ ap (λ (k : ℕ). (x - first) / k) (sym parts)))

-- a cell with few ranges leads by their number
pub few_lead : (nodes : List StoredNode) (rs : List HopRange) (end x before after : ℕ) → ArePadded rs end → x < end → length rs < 1073741824 → after ≤ before + 4 → IsBetween rs x before after → Leads nodes rs x before
few_lead nodes rs end x before after p l few le b =
    let pads = before_pads rs end x before after p l b in
    search (rules, b.below, b.from)

-- the entry of a hop leads on the numbers that have it
pub hop_leads : (nodes : List StoredNode) (rs : List HopRange) (x e : ℕ) → HasHop e → hop_in rs x ≡ hop_in_entry e → Leads nodes rs x e
hop_leads nodes rs x e h is = search rules

-- one more node
module _ (nodes : List StoredNode) (n : StoredNode) (rs : List HopRange) where
  pub leads_more : (x e : ℕ) → Leads nodes rs x e → Leads (nodes ++ n ∷ []) rs x e
  leads_more x e h =
      let l = length_push nodes n in
      search (rules, h.many, get_or_append_left)

  pub leads_to_it : (x e : ℕ) → e ≡ 2147483648 + length nodes → IsBetween rs x n.before n.after → Leads (nodes ++ n ∷ []) rs x e
  leads_to_it x e is b =
      let l = length_push nodes n in
      let at : length nodes ≡ e - 2147483648 = omega arith in
      search (rules, get_or_push)

  module _ (end : ℕ) (cells entries : List ℕ) (at : n.place ≡ length cells) (are : AreEntries (cell_in n) end (nodes ++ n ∷ []) rs n.before n.after entries) where
    abbrev IsLeading : StoredNode → Type 0
    IsLeading m = AreEntries (λ x. m.place + cell_in m x) end (nodes ++ n ∷ []) rs m.before m.after (cells ++ entries)

    last_leads : IsLeading n
    last_leads x l = (omega (arith, length-append cells entries, (are x l).0), λ b. subst (λ (p : ℕ). Leads (nodes ++ n ∷ []) rs x (get_or (cells ++ entries) (p + cell_in n x) 0)) (sym at) (rw (get_or-append-add cells entries (cell_in n x) 0) ((are x l).1 b)))

    old_leads : (m : StoredNode) → AreEntries (λ x. m.place + cell_in m x) end nodes rs m.before m.after cells → IsLeading m
    old_leads m h x l = (omega (arith, length-append cells entries, (h x l).0), λ b. rw (get_or_append_left cells entries 0 (m.place + cell_in m x) (h x l).0) (leads_more x _ ((h x l).1 b)))

    pub one_more_node : AreNodes rs end nodes cells → AreNodes rs end (nodes ++ n ∷ []) (cells ++ entries)
    one_more_node h k d l = ⊎_elim
        (λ less. subst IsLeading (sym (get_or_append_left nodes (n ∷ []) d k less)) (old_leads (get_or nodes k d) (h k d less)))
        (λ more. subst IsLeading (sym (get_or_push nodes n d k (omega (arith, length_push nodes n)))) last_leads)
        (cases_lt k (length nodes))

-- the cell of a higher number is no lower among those of all chunks
module _ (tops : List ℕ) (are : AreTops tops) where
  cell_ascends : (h k : ℕ) → h ≤ k → k < 2 ^ 64 → cell_of tops h ≤ cell_of tops k
  cell_ascends h k le l =
      let all = are.all in
      let c : ℕ = h / 2 ^ 48 in
      let part : ℕ = h % 2 ^ 48 / 2 ^ 16 in
      let n : ℕ = get_or tops (c + 1) 0 - get_or tops c 0 in
      ⊎_elim
      (λ (less : c < k / 2 ^ 48).
      let t : get_or tops (c + 1) 0 ≤ get_or tops (k / 2 ^ 48) 0 = grind (arith, are.rising (c + 1) (k / 2 ^ 48) 0) in
      let some : get_or tops c 0 < get_or tops (c + 1) 0 = are.rising c (c + 1) 0 (omega arith) (omega arith) in
      let m : part * n < 2 ^ 32 * n = mul-lt-mul_of_pos_right (omega arith) (omega arith) in
      omega arith)
      (λ (more : k / 2 ^ 48 ≤ c).
      let same : k / 2 ^ 48 ≡ c = omega arith in
      let m : part * n ≤ k % 2 ^ 48 / 2 ^ 16 * n = mul-le-mul_right n (omega arith) in
      rw same (omega arith))
      (cases_lt c (k / 2 ^ 48))

pub cell_by_ascends : (width : ℕ) (tops : Option (List ℕ)) → ((ts : List ℕ) → tops ≡ Some ts → AreTops ts) → (n : StoredNode) (x y : ℕ) → x ≤ y → y < 2 ^ width → cell_by width tops n x ≤ cell_by width tops n y
cell_by_ascends width None are n x y le l = cell_in_ascends n x y le
cell_by_ascends width (Some tops) are n x y le l =
    let head : head_of width y < 2 ^ 64 = (div-lt_iff_lt-mul {k = 2 ^ width} {x = y * 2 ^ 64} {y = 2 ^ 64} (pow_pos width)).1 (omega arith) in
    cell_ascends tops (are tops refl) (head_of width x) (head_of width y) (head_ascends width x y le) head

-- entries lead on the numbers of the first c cells of a node, and `place` of its ranges end below those of all other cells
pub record AreLed (width : ℕ) (tops : Option (List ℕ)) (n : StoredNode) (rs : List HopRange) (nodes : List StoredNode) (c place : ℕ) (entries : List ℕ) : Type 0 where
  pub least : n.before ≤ place
  pub most : place ≤ n.after
  pub all : length entries ≡ c
  pub between : (x : ℕ) → c ≤ cell_by width tops n x → x < 2 ^ width → IsBetween rs x n.before n.after → IsBetween rs x place n.after
  pub leads : (x : ℕ) → cell_by width tops n x < c → x < 2 ^ width → IsBetween rs x n.before n.after → Leads nodes rs x (get_or entries (cell_by width tops n x) 0)

module _ (width : ℕ) (tops : Option (List ℕ)) (are : (ts : List ℕ) → tops ≡ Some ts → AreTops ts) (n : StoredNode) (rs : List HopRange) (padded : ArePadded rs (2 ^ width)) where
  abbrev cell : ℕ → ℕ
  cell x = cell_by width tops n x

  lower : (x y : ℕ) → x < 2 ^ width → cell x < cell y → x < y
  lower x y x_in less = ⊎_elim (λ is. is) (λ not. let u : cell y ≤ cell x = cell_by_ascends width tops are n y x not x_in in absurd (omega arith)) (cases_lt x y)

  -- a cell that ends in the range at `place` at the latest, where no earlier range ends, has its hop
  pub one_hop : (place c x high : ℕ) → place < length rs → ((range_at rs place).last + 1 < 2 ^ width → c < cell ((range_at rs place).last + 1))
      → x < 2 ^ width → cell x ≡ c → IsBetween rs x place high → hop_in rs x ≡ (range_at rs place).hop
  one_hop place c x high place_in later x_in is b =
      let last : ℕ = (range_at rs place).last in
      let here : x ≤ last = ⊎_elim (λ less. let l = lower x (last + 1) x_in (rw is (later (omega arith))) in omega arith) (λ more. more) (cases_lt last x) in
      found rs place x place_in (lowered rs padded.ascending x place high place (omega arith) b.order (λ _. here) b)

  pub led_on : n.after ≤ length rs → (nodes new : List StoredNode) (c place next e : ℕ) (entries : List ℕ) → AreLed width tops n rs nodes c place entries → place ≤ next → next ≤ n.after
      → ((k : ℕ) → place ≤ k → k < next → cell (range_at rs k).last ≤ c) → (next < n.after → c < cell (range_at rs next).last)
      → ((x f : ℕ) → Leads nodes rs x f → Leads new rs x f) → ((x : ℕ) → x < 2 ^ width → cell x ≡ c → IsBetween rs x place next → Leads new rs x e) → AreLed width tops n rs new (c + 1) next (entries ++ e ∷ [])
  led_on within nodes new c place next e entries i least most inside beyond kept leads = record {
    least = let l = i.least in omega arith;
    most = most;
    all = omega (arith, i.all, length_push entries e);
    between = λ x c_in x_in b. raised rs x place n.after next most (λ k from to. lower _ x (padded.within k _ (omega arith)) (let o = inside k from to in omega arith)) (i.between x (omega arith) x_in b);
    leads = λ x l x_in b. ⊎_elim
        (λ less. subst (λ (v : ℕ). Leads new rs x v) (sym (get_or_append_left entries (e ∷ []) 0 (cell x) (omega (arith, i.all)))) (kept x _ (i.leads x less x_in b)))
        (λ more.
        let is : cell x ≡ c = omega arith in
        subst (λ (v : ℕ). Leads new rs x v) (sym (get_or_push entries e 0 (cell x) (omega (arith, i.all))))
        (leads x x_in is (lowered rs padded.ascending x place n.after next least most (λ less. let l = lower x (range_at rs next).last x_in (rw is (beyond less)) in omega arith) (i.between x more x_in b))))
        (cases_lt (cell x) c);
  }
