-- Results that are stored group by group, and in a group in two steps.
use Rattle.std.proofs.Common.{◌≡◌, ℕ, ◌+◌, ◌-◌, ◌<◌, ◌≤◌, ⊎_elim, [], ◌∷◌, ◌++◌, List, get_or, length, length-drop, length-take, drop, map, set, take, take-add, refl, sym, ap, subst, ◌∙◌, arith}
use Rattle.std.proofs.lemmas.Bool.{cases_eq, cases_lt}
use Rattle.std.proofs.lemmas.List.{get_or-map, get_or-set_other, length-map, length-set, map-append, same_lists}
use Rattle.std.proofs.lemmas.Grind.{get_or-set_at}
use Rattle.std.proofs.lemmas.Slice.{take-put_mid}
use Rattle.hop_index.specs.InnerNodes.{AreFound, IsUnlisted}
use borrow.Rule.Slice.PartMut.{put_mid}

pub one_more_group : {A B : Type 0} (f : A → B) (xs : List A) (old new : List B) (place end : ℕ) → place ≤ end → end ≤ length xs → length old ≡ length xs → new ≡ map f (take (end - place) (drop place xs)) → take place old ≡ map f (take place xs)
    → take end (put_mid place (end - place) old new) ≡ map f (take end xs)
one_more_group {A} f xs old new place end some within as_long is done =
    let count : length new ≡ end - place = grind (arith, is, length-map, length-take, length-drop) in
    let whole : place + (end - place) ≡ end = omega arith in
    take-put_mid place (end - place) old new end (omega arith) (omega arith)
    ∙ ((λ i. done i ++ is i) ∙ sym (map-append f (take place xs) (take (end - place) (drop place xs))) ∙ ap (map f) (subst (λ (k : ℕ). take place xs ++ take (end - place) (drop place xs) ≡ take k xs) whole (sym (take-add place (end - place) xs))))

-- one more place, which is listed unless it has a property
pub listed_on : (P : ℕ → Type 0) (place count more : ℕ) (places : List ℕ) → count < length places → more ≤ 1 → (more ≡ 0 → P place) → ((k : ℕ) → k < place → IsUnlisted k 0 count places → P k)
    → (k : ℕ) → k < place + 1 → IsUnlisted k 0 (count + more) (set places count place) → P k
listed_on P place count more places within few has old k l none = ⊎_elim
    (λ less. old k less (λ j from to at. none j from (omega arith) (get_or-set_other places count j place 0 (λ e. omega arith) ∙ at)))
    (λ le.
    let is : place ≡ k = omega arith in
    ⊎_elim (λ zero. subst P is (has (omega arith))) (λ one. absurd (none count (omega arith) (omega arith) (get_or-set_at places count count place 0 refl within ∙ is))) (cases_lt more 1))
    (cases_lt k place)

module _ {A H : Type 0} (hop : A → H) (addrs : List A) (places : List ℕ) where
  -- the hop of the address at one more place
  pub found_one : (at place : ℕ) (v : H) (hops : List H) → get_or places at 0 ≡ place → place < length addrs → ((a : A) → v ≡ hop (get_or addrs place a)) → AreFound hop addrs places at hops → AreFound hop addrs places (at + 1) (set hops place v)
  found_one at place v hops is place_in has f = record {
    all = length-set hops place v ∙ f.all;
    each = λ k a h k_in none. ⊎_elim
        (λ (e : k ≡ place). get_or-set_at hops place k v h e (omega (arith, f.all)) ∙ (has a ∙ ap (λ (m : ℕ). hop (get_or addrs m a)) (sym e)))
        (λ n. get_or-set_other hops place k v h n ∙ f.each k a h k_in (λ j from to e. ⊎_elim (λ l. none j (omega arith) to e) (λ le. n (sym e ∙ (ap (λ (m : ℕ). get_or places m 0) (omega arith) ∙ is))) (cases_lt at j)))
        (cases_eq k place);
  }

  some : (xs : List A) (k : ℕ) → k < length xs → A
  some [] k l = absurd (omega arith)
  some (x ∷ xs) k l = x

  pub found_all : (hops : List H) → AreFound hop addrs places (length places) hops → hops ≡ map hop addrs
  found_all hops f = same_lists hops (map hop addrs) (f.all ∙ sym (length-map addrs hop)) (λ k h k_in.
      let l : k < length addrs = omega (arith, f.all) in
      let a : A = some addrs k l in
      f.each k a h l (λ j from to e. omega arith) ∙ sym (get_or-map hop addrs k a h l))
