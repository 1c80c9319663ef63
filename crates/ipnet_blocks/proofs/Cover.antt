-- Covers by maximal blocks are the shortest, over any kind of blocks of which two with a common point are nested.
use Rattle.std.proofs.Common.{◌≡◌, ◌≤◌, ◌⊎◌, inl, inr, ⊎_elim, List, length, sym, subst, arith}
use Rattle.ipnet_addr.proofs.Members.{In, Distinct, Without, without, one_or_all, no_more}

module _ (B X : Type 0) (Has : B → X → Type 0) (Good : B → Type 0) where
  abbrev pub Inside : B → B → Type 0
  Inside a b = (x : X) → Has a x → Has b x

  -- a good block that lies in no other
  abbrev pub Top : B → Type 0
  Top m = Good m × ((c : B) → Good c → Inside m c → c ≡ m)

  -- good blocks that cover each point of the others
  abbrev pub Covers : List B → List B → Type 0
  Covers cs bs = ((c : B) → In c cs → Good c) × ((b : B) (x : X) → In b bs → Has b x → (c : B) × In c cs × Has c x)

  module _ (point : (b : B) → Good b → (x : X) × Has b x)
      (nested : (a b : B) (x : X) → Good a → Good b → Has a x → Has b x → Inside a b ⊎ Inside b a)
      (ext : (a b : B) → Good a → Good b → Inside a b → Inside b a → a ≡ b) where
    -- a good block that meets a top block is inside it
    meets_top : (m c : B) (x : X) → Top m → Good c → Has m x → Has c x → Inside c m
    meets_top m c x top good p q =
        ⊎_elim (λ i y h. subst (λ (b : B). Has b y) (top.1 c good i) h) (λ i. i) (nested m c x top.0 good p q)

    -- two top blocks that meet are one
    tops_meet : (m n : B) (x : X) → Top m → Top n → Has m x → Has n x → m ≡ n
    tops_meet m n x s t p q = t.1 m s.0 (meets_top m n x s t.0 p q)

    module _ (bs cs : List B) (apart : Distinct bs) (tops : (b : B) → In b bs → Top b) (covers : Covers cs bs) where
      Serves : B → B → Type 0
      Serves m c = Good c × Inside c m

      served_once : (m n c : B) → In m bs → In n bs → Serves m c → Serves n c → m ≡ n
      unfolding Serves
      served_once m n c i j s t =
          let p = point c s.0 in tops_meet m n p.0 (tops m i) (tops n j) (s.1 p.0 p.1) (t.1 p.0 p.1)

      pub least : length bs ≤ length cs
      unfolding Serves
      least = no_more Serves bs cs apart
          (λ m i. let p = point m (tops m i).0 in
          let t = covers.1 m p.0 i p.1 in
          let good = covers.0 t.0 t.1 in
          (t.0, t.1, (good, meets_top m t.0 p.0 (tops m i) good p.1 t.2)))
          served_once

      module _ (few : length cs ≤ length bs) where
        -- a list that serves each top block without one of its members is too short
        too_few : (c : B) (w : Without c cs) → ((m : B) → In m bs → (d : B) × In d w.rest × Serves m d) → ⊥
        unfolding Serves
        too_few c w total =
            let h : length bs ≤ length w.rest = no_more Serves bs w.rest apart total served_once in
            let s = w.shorter in
            omega arith

        -- each block of the cover lies in a top block of the list
        lies_in : (c : B) → In c cs → (m : B) × In m bs × Inside c m
        unfolding Serves
        lies_in c i =
            let w = without c cs i in
            ⊎_elim (λ t. t) (λ all. absurd (too_few c w all))
            (one_or_all (λ m. Inside c m) (λ m. (d : B) × In d w.rest × Serves m d) bs
            (λ m j. let p = point m (tops m j).0 in
            let t = covers.1 m p.0 j p.1 in
            let good = covers.0 t.0 t.1 in
            let ins = meets_top m t.0 p.0 (tops m j) good p.1 t.2 in
            ⊎_elim (λ e. inl (subst (λ (b : B). Inside b m) e ins)) (λ r. inr (t.0, r, (good, ins))) (w.others t.0 t.1)))

        -- and is that block
        fills : (c m : B) → In c cs → In m bs → Inside c m → Inside m c
        unfolding Serves
        fills c m i j ins x h =
            let w = without c cs i in
            let t = covers.1 m x j h in
            ⊎_elim (λ e. subst (λ (b : B). Has b x) e t.2)
            (λ r. absurd (too_few c w (λ n k.
            let p = point n (tops n k).0 in
            let s = covers.1 n p.0 k p.1 in
            let good = covers.0 s.0 s.1 in
            let within = meets_top n s.0 p.0 (tops n k) good p.1 s.2 in
            ⊎_elim
            (λ e. let same = served_once m n c j k (covers.0 c i, ins) (covers.0 c i, subst (λ (b : B). Inside b n) e within) in
            let good' = covers.0 t.0 t.1 in
            (t.0, r, (good', subst (λ (b : B). Inside t.0 b) same (meets_top m t.0 x (tops m j) good' h t.2))))
            (λ q. (s.0, q, (good, within))) (w.others s.0 s.1))))
            (w.others t.0 t.1)

        pub cover_in : (c : B) → In c cs → In c bs
        cover_in c i =
            let t = lies_in c i in
            let e = ext c t.0 (covers.0 c i) (tops t.0 t.1).0 t.2 (fills c t.0 i t.1 t.2) in
            subst (λ (b : B). In b bs) (sym e) t.1

        pub in_cover : (m : B) → In m bs → In m cs
        in_cover m i =
            let p = point m (tops m i).0 in
            let t = covers.1 m p.0 i p.1 in
            let good = covers.0 t.0 t.1 in
            let ins = meets_top m t.0 p.0 (tops m i) good p.1 t.2 in
            let e = tops_meet m t.0 p.0 (tops m i) (tops t.0 (cover_in t.0 t.1)) p.1 t.2 in
            subst (λ (b : B). In b cs) (sym e) t.1
