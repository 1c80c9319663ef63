-- Lines taken one after another.
use Rattle.std.proofs.Common.{◌≡◌, ◌≢◌, ◌==◌, false, ℕ, ◌+◌, ◌-◌, ◌<◌, ◌≤◌, All, eq-eqb, eqb-true, ne_eqb, inl, inr, ⊎_elim, List, [], ◌∷◌, ◌++◌, length, length-append, take, drop, zero, suc, get_or, Option, Some, Result, Ok, Err, refl, sym, ap, ◌∙◌, subst, append_assoc, take-append-drop, option_to_list, OnOk, arith}
use Rattle.route_lines.specs.Kept.{Kept}
use Rattle.std.proofs.lemmas.Result.{on_ok_weaker}
use Rattle.std.specs.Io.KnownBytes.{Consumes}
use Rattle.std.proofs.KnownBytes.{Consumes-nil, Consumes-trans}
use Rattle.route_lines.specs.Lines.{answers, fed_answer, fed, fed_all, kept_of, line_of, lines_in}
use Rattle.route_lines.proofs.Cutting.{new_answers, quiet, new_line}
use Rattle.memchr.specs.Find.{Nowhere, Passes, is_byte}
use Rattle.std.proofs.lemmas.List.Elements.{All-from_get_or}
use Rattle.std.proofs.lemmas.List.{take_more, take_rest}
use Rattle.route_lines.specs.declared.cutter.Line.{Line}
use Rattle.route_program.specs.declared.counted.Counted.{Counted}
use Rattle.route_program.specs.declared.error.RunError.{RunError}
use Rattle.route_program.proofs.InTurn.{after-append, made-append}
use Rattle.route_program.specs.Run.{TakesAll}

pub fed_all-append : (c : Kept) (bs cs : List ℕ) → fed_all c (bs ++ cs) ≡ fed_all (fed_all c bs) cs
fed_all-append = after-append fed fed_all (λ s. refl) (λ s e es. refl)

pub answers-append : (k : Kept) (bs cs : List ℕ) → answers k (bs ++ cs) ≡ answers k bs ++ answers (fed_all k bs) cs
answers-append = made-append fed fed_all (λ s. refl) (λ s e es. refl) (λ k b. option_to_list (fed_answer k b)) answers (λ s. refl) (λ s e es. refl)

-- a text in which no line end was found
pub none_found : (xs : List ℕ) → Nowhere (Passes (is_byte 10) xs) 0 (length xs) → All (λ c. c ≢ 10) xs
none_found xs none = All-from_get_or (λ c. c ≢ 10) xs 0 (λ k below e. none k (omega arith) below (eq-eqb _ 10 e))

-- a text after some of its bytes, at the next line end
pub at_end : (all front left : List ℕ) (i : ℕ) → all ≡ front ++ left → i < length left → Passes (is_byte 10) left i
    → all ≡ (front ++ (take i left ++ 10 ∷ [])) ++ take (length left - (i + 1)) (drop (i + 1) left)
at_end all front left i is h e =
    let line = take_more left i 0 h ∙ ap (λ b. take i left ++ b ∷ []) (eqb-true (get_or left i 0) 10 e) in
    is ∙ ap (λ l. front ++ l) (sym (take-append-drop (i + 1) left) ∙ ap (λ l. l ++ drop (i + 1) left) line)
    ∙ simp (append_assoc, take_rest)

module _ {S W : Type 0} (takes : S → Line → Counted W → Result Unit RunError → S → Counted W → Type 0) where
  TakesAll-one : (a b : S) (l : Line) (u v : Counted W) (r : Result Unit RunError) → takes a l u r b v → TakesAll takes a (l ∷ []) u r b v
  TakesAll-one a b l u v (Ok x) t = inl (b, v, t, (refl, refl, refl))
  TakesAll-one a b l u v (Err e) t = inr (refl, t)

  TakesAll-append : (a b c : S) (ls ms : List Line) (u v w : Counted W) (r : Result Unit RunError)
      → TakesAll takes a ls u (Ok tt) b v → TakesAll takes b ms v r c w → TakesAll takes a (ls ++ ms) u r c w
  TakesAll-append a b c [] ms u v w r p q = subst (λ s. TakesAll takes s ms u r c w) p.1 (subst (λ k. TakesAll takes b ms k r c w) p.2 q)
  TakesAll-append a b c (l ∷ ls) ms u v w r p q =
      ⊎_elim (λ t. inl (t.0, t.1, t.2, TakesAll-append t.0 b c ls ms t.1 v w r t.3 q)) (λ t. absurd (let e = t.0 in cc)) p

  TakesAll-longer : (a c : S) (ls ms : List Line) (u w : Counted W) (e : RunError) → TakesAll takes a ls u (Err e) c w → TakesAll takes a (ls ++ ms) u (Err e) c w
  TakesAll-longer a c [] ms u w e p = absurd (let q = p.0 in cc)
  TakesAll-longer a c (l ∷ ls) ms u w e p = ⊎_elim (λ t. inl (t.0, t.1, t.2, TakesAll-longer t.0 c ls ms t.1 w e t.3)) (λ t. inr t) p

  -- a line that a new cutter's bytes make, and one that ends after what a cutter has
  pub takes_new : (a b : S) (k : Kept) (piece : List ℕ) (u v : Counted W) (r : Result Unit RunError) → All (λ c. c ≢ 10) piece → k ≡ kept_of [] → takes a (line_of piece) u r b v → TakesAll takes a (answers k (piece ++ 10 ∷ [])) u r b v
  takes_new a b k piece u v r clean new t =
      subst (λ ls. TakesAll takes a ls u r b v) (sym (new_line piece clean) ∙ ap (λ n. answers n (piece ++ 10 ∷ [])) (sym new)) (TakesAll-one a b (line_of piece) u v r t)

  pub takes_held : (a b : S) (k m : Kept) (piece : List ℕ) (l : Line) (u v : Counted W) (r : Result Unit RunError) → All (λ c. c ≢ 10) piece → m ≡ fed_all k piece → fed_answer m 10 ≡ Some l → takes a l u r b v → TakesAll takes a (answers k (piece ++ 10 ∷ [])) u r b v
  takes_held a b k m piece l u v r clean kept e t =
      let last : answers (fed_all k piece) (10 ∷ []) ≡ l ∷ [] = ap (λ n. answers n (10 ∷ [])) (sym kept) ∙ ap (λ o. option_to_list o ++ []) e in
      let all : answers k (piece ++ 10 ∷ []) ≡ l ∷ [] = answers-append k piece (10 ∷ []) ∙ ap (λ ls. ls ++ answers (fed_all k piece) (10 ∷ [])) (quiet k piece clean) ∙ last in
      subst (λ ls. TakesAll takes a ls u r b v) (sym all) (TakesAll-one a b l u v r t)

  -- bytes after bytes
  pub takes_more : (a b c : S) (k m : Kept) (bs cs : List ℕ) (u v w : Counted W) (r : Result Unit RunError)
      → TakesAll takes a (answers k bs) u (Ok tt) b v → m ≡ fed_all k bs → TakesAll takes b (answers m cs) v r c w → TakesAll takes a (answers k (bs ++ cs)) u r c w
  takes_more a b c k m bs cs u v w r p e q =
      subst (λ ls. TakesAll takes a ls u r c w) (sym (answers-append k bs cs))
      (TakesAll-append a b c (answers k bs) (answers (fed_all k bs) cs) u v w r p (subst (λ n. TakesAll takes b (answers n cs) v r c w) e q))

  -- a line was refused, so there are bytes
  pub refused_some : (a c : S) (k : Kept) (n : ℕ) (bs : List ℕ) (u w : Counted W) (e : RunError) → TakesAll takes a (answers k (take n bs)) u (Err e) c w → (n == 0) ≡ false
  refused_some a c k zero bs u w e p = absurd (let q = p.0 in cc)
  refused_some a c k (suc n) bs u w e p = ne_eqb (suc n) 0 (omega arith)

  pub takes_longer : (a c : S) (k : Kept) (bs cs : List ℕ) (u w : Counted W) (e : RunError) → TakesAll takes a (answers k bs) u (Err e) c w → TakesAll takes a (answers k (bs ++ cs)) u (Err e) c w
  takes_longer a c k bs cs u w e p = subst (λ ls. TakesAll takes a ls u (Err e) c w) (sym (answers-append k bs cs)) (TakesAll-longer a c (answers k bs) (answers (fed_all k bs) cs) u w e p)

-- the reader gave some bytes, in at most `more` calls more than these are, and the lines that they end were taken
pub record Went {S R W : Type 0} (takes : S → Line → Counted W → Result Unit RunError → S → Counted W → Type 0) (remaining : R → Option (List ℕ)) (more : ℕ)
    (a : S) (from : Counted R) (old : Counted W) (result : Result Unit RunError) (b : S) (to : Counted R) (new : Counted W) (cutter : Kept) : Type 0 where
  pub bytes : List ℕ
  pub read : Consumes (remaining from.device) (remaining to.device) bytes
  pub few : to.reads ≤ from.reads + length bytes + more
  pub taken : TakesAll takes a (lines_in bytes) old result b new
  pub kept : OnOk result (cutter ≡ fed_all (kept_of []) bytes)

module _ {S R W : Type 0} (takes : S → Line → Counted W → Result Unit RunError → S → Counted W → Type 0) (remaining : R → Option (List ℕ)) where
  pub Went-nil : (a : S) (r : Counted R) (u : Counted W) → Went takes remaining 0 a r u (Ok tt) a r u (kept_of [])
  Went-nil a r u = record { bytes = []; read = Consumes-nil (remaining r.device); few = omega arith; taken = (refl, refl, refl); kept = refl }

  -- some more bytes came
  pub Went-more : (more : ℕ) (a b c : S) (p q r : Counted R) (u v w : Counted W) (k m : Kept) (piece : List ℕ) (result : Result Unit RunError) → Went takes remaining 0 a p u (Ok tt) b q v k
      → r.reads ≤ q.reads + length piece + more → Consumes (remaining q.device) (remaining r.device) piece → TakesAll takes b (answers k piece) v result c w → OnOk result (m ≡ fed_all k piece)
      → Went takes remaining more a p u result c r w m
  Went-more more a b c p q r u v w k m piece result x few read taken fed = record {
    bytes = x.bytes ++ piece;
    read = Consumes-trans _ _ _ x.bytes piece x.read read;
    few = let f = x.few in omega (arith, f, few, length-append x.bytes piece);
    taken = rw (← new_answers (x.bytes ++ piece))
        (takes_more takes a b c (kept_of []) k x.bytes piece u v w result (rw new_answers x.taken) x.kept taken);
    kept = on_ok_weaker result (λ e. e ∙ ap (λ n. fed_all n piece) x.kept ∙ sym (fed_all-append (kept_of []) x.bytes piece)) fed;
  }
