-- A cutter's answers are the lines of its bytes.
use Rattle.std.proofs.Common.{eqb-true, ◌≡◌, ◌≢◌, ℕ, All, None, ◌<◌, ◌≤◌, Bool, true, false, cond, ltb, eqb, ◌==◌, List, [], ◌∷◌, ◌++◌, length, take, map, refl, sym, ap, ◌∙◌, ⊎_elim, append_assoc, append-nil, length-append, le-ltb, lt-ltb, eq-eqb, ne_eqb, length-take, option_to_list, flat_map, arith}
use Rattle.std.proofs.lemmas.Bool.{cases_lt}
use Rattle.std.proofs.lemmas.List.Elements.{All-head, All-tail}
use Rattle.std.proofs.lemmas.List.{take-append-le, length-take-le, take_all}
use Rattle.route_lines.specs.declared.cutter.Line.TheVariants.{Text, TooLong}
use Rattle.route_lines.specs.Kept.{Kept}
use Rattle.route_lines.specs.Bytes.{onto_first, lines, if_no_piece, rest}
use Rattle.route_lines.specs.Lines.{lines_in, line_of, kept_of, fed_answer, fed, answers, fed_all, rest_in, rest_of}

fed_short : (p : List ℕ) (b : ℕ) → eqb b 10 ≡ false → length p < 80 → fed (kept_of p) b ≡ kept_of (p ++ b ∷ [])
fed_short p b e h =
    let whole : take 80 p ≡ p = take_all 80 p (omega arith) in
    let whole_next : take 80 (p ++ b ∷ []) ≡ p ++ b ∷ [] = take_all 80 (p ++ b ∷ []) (omega (arith, length-append p (b ∷ []))) in
    let no : eqb (length p) 80 ≡ false = ne_eqb _ _ (omega arith) in
    let less : ltb 80 (length p) ≡ false = le-ltb _ _ (omega arith) in
    let less_next : ltb 80 (length (p ++ b ∷ [])) ≡ false = le-ltb _ _ (omega (arith, length-append p (b ∷ []))) in
    rw (e, whole, whole_next, no, less, less_next) refl

fed_long : (p : List ℕ) (b : ℕ) → eqb b 10 ≡ false → 80 ≤ length p → fed (kept_of p) b ≡ kept_of (p ++ b ∷ [])
fed_long p b e h =
    let same : take 80 (p ++ b ∷ []) ≡ take 80 p = take-append-le 80 p (b ∷ []) h in
    let full : eqb (length (take 80 p)) 80 ≡ true = eq-eqb _ _ (length-take-le 80 p h) in
    let more : ltb 80 (length (p ++ b ∷ [])) ≡ true = lt-ltb _ _ (omega (arith, length-append p (b ∷ []))) in
    rw (e, full, same, more) refl

-- a cutter after a byte that ends no line
pub fed_more : (p : List ℕ) (b : ℕ) → eqb b 10 ≡ false → fed (kept_of p) b ≡ kept_of (p ++ b ∷ [])
fed_more p b e = ⊎_elim (fed_short p b e) (fed_long p b e) (cases_lt (length p) 80)

-- bytes before the pieces: they go onto the first of them
abbrev pub onto : List ℕ → List (List ℕ) → List (List ℕ)
onto p [] = []
onto p (piece ∷ pieces) = (p ++ piece) ∷ pieces

onto-snoc : (p : List ℕ) (b : ℕ) (ls : List (List ℕ)) → onto (p ++ b ∷ []) ls ≡ onto p (onto_first b ls)
onto-snoc p b [] = refl
onto-snoc p b (l ∷ ls) = ap (λ x. x ∷ ls) (append_assoc p (b ∷ []) l)

onto-nil : (ls : List (List ℕ)) → onto [] ls ≡ ls
onto-nil [] = refl
onto-nil (l ∷ ls) = refl

-- what a cutter answers at a line end
ended : (p : List ℕ) → cond (ltb 80 (length p)) TooLong (Text (record { items = take 80 p })) ≡ line_of p
ended p =
    ⊎_elim
    (λ h. let more : ltb 80 (length p) ≡ true = lt-ltb 80 (length p) h in rw more refl)
    (λ h. let whole : take 80 p ≡ p = take_all 80 p h in rw whole refl)
    (cases_lt 80 (length p))

-- the answers of a cutter that has these bytes
module _ (b : ℕ) (bs p : List ℕ) where
  answers_step : (ends : Bool) → (b == 10 ≡ ends)
      → ((q : List ℕ) → answers (kept_of q) bs ≡ map line_of (onto q (lines bs)))
      → answers (kept_of p) (b ∷ bs) ≡ map line_of (onto p (lines (b ∷ bs)))
  answers_step true e ih =
      let tail : answers (kept_of []) bs ≡ map line_of (lines bs) = ih [] ∙ ap (map line_of) (onto-nil (lines bs)) in
      rw (e, tail, append-nil p) (ap (λ x. x ∷ map line_of (lines bs)) (ended p))
  answers_step false e ih =
      let tail : answers (kept_of (p ++ b ∷ [])) bs ≡ map line_of (onto p (onto_first b (lines bs))) = ih (p ++ b ∷ []) ∙ ap (map line_of) (onto-snoc p b (lines bs)) in
      ap (λ c. option_to_list (fed_answer (kept_of p) b) ++ answers c bs) (fed_more p b e) ∙ rw e tail

pub answers_at : (bs p : List ℕ) → answers (kept_of p) bs ≡ map line_of (onto p (lines bs))
answers_at [] p = refl
answers_at (b ∷ bs) p = answers_step b bs p (b == 10) refl (answers_at bs)

-- ---- the rest

same_rest : (ls : List (List ℕ)) (xs ys : List ℕ) → if_no_piece ls xs (if_no_piece ls xs ys) ≡ if_no_piece ls xs ys
same_rest [] xs ys = refl
same_rest (l ∷ ls) xs ys = refl

-- where no line ends, all of it is the rest
rest_whole : (bs : List ℕ) → if_no_piece (lines bs) bs (rest bs) ≡ rest bs
rest_whole [] = refl
rest_whole (b ∷ bs) = same_rest (lines (b ∷ bs)) (b ∷ bs) (rest bs)

rest_onto : (b : ℕ) (ls : List (List ℕ)) (xs ys zs : List ℕ) → if_no_piece ls xs ys ≡ if_no_piece (onto_first b ls) xs (if_no_piece (onto_first b ls) zs ys)
rest_onto b [] xs ys zs = refl
rest_onto b (l ∷ ls) xs ys zs = refl

module _ (b : ℕ) (bs p : List ℕ) where
  rest_step : (ends : Bool) → (b == 10 ≡ ends)
      → ((q : List ℕ) → fed_all (kept_of q) bs ≡ kept_of (if_no_piece (lines bs) (q ++ bs) (rest bs)))
      → fed_all (kept_of p) (b ∷ bs) ≡ kept_of (if_no_piece (lines (b ∷ bs)) (p ++ b ∷ bs) (rest (b ∷ bs)))
  rest_step true e ih =
      let tail : fed_all (kept_of []) bs ≡ kept_of (rest bs) = ih [] ∙ ap kept_of (rest_whole bs) in
      rw e tail
  rest_step false e ih =
      let regrouped : (p ++ b ∷ []) ++ bs ≡ p ++ b ∷ bs = append_assoc p (b ∷ []) bs in
      let tail : fed_all (kept_of (p ++ b ∷ [])) bs ≡ kept_of (if_no_piece (lines bs) (p ++ b ∷ bs) (rest bs)) =
      ih (p ++ b ∷ []) ∙ ap (λ l. kept_of (if_no_piece (lines bs) l (rest bs))) regrouped in
      ap (λ c. fed_all c bs) (fed_more p b e) ∙ (tail ∙ rw e (ap kept_of (rest_onto b (lines bs) (p ++ b ∷ bs) (rest bs) (b ∷ bs))))

pub rest_at : (bs p : List ℕ) → fed_all (kept_of p) bs ≡ kept_of (if_no_piece (lines bs) (p ++ bs) (rest bs))
rest_at [] p = ap kept_of (sym (append-nil p))
rest_at (b ∷ bs) p = rest_step b bs p (b == 10) refl (rest_at bs)

-- ---- a new cutter

pub new_answers : (bs : List ℕ) → answers (kept_of []) bs ≡ lines_in bs
new_answers bs = answers_at bs [] ∙ ap (map line_of) (onto-nil (lines bs))

pub new_rest : (bs : List ℕ) → fed_all (kept_of []) bs ≡ kept_of (rest bs)
new_rest bs = rest_at bs [] ∙ ap kept_of (rest_whole bs)

-- what is kept tells whether there is a rest
end_rest : (bs : List ℕ) → rest_in (kept_of bs) ≡ rest_of bs
end_rest [] = refl
end_rest (b ∷ bs) =
    let held : eqb (length (take 80 (b ∷ bs))) 0 ≡ false = ne_eqb _ 0 (omega (arith, length-take 80 (b ∷ bs))) in
    rw held refl

pub new_rest_in : (bs : List ℕ) → rest_in (fed_all (kept_of []) bs) ≡ rest_of (rest bs)
new_rest_in bs = ap rest_in (new_rest bs) ∙ end_rest (rest bs)

-- ---- a piece and its line end

-- bytes without a line end are answered by nothing
pub quiet : (k : Kept) (piece : List ℕ) → All (λ c. c ≢ 10) piece → answers k piece ≡ []
quiet k [] h = refl
quiet k (b ∷ piece) h =
    let e : eqb b 10 ≡ false = ne_eqb b 10 (All-head (λ c. c ≢ 10) b piece h) in
    let none : fed_answer k b ≡ None = rw e refl in
    ap (λ o. option_to_list o ++ answers (fed k b) piece) none ∙ quiet (fed k b) piece (All-tail (λ c. c ≢ 10) b piece h)

one_piece : (piece : List ℕ) → All (λ c. c ≢ 10) piece → lines (piece ++ 10 ∷ []) ≡ piece ∷ []
one_piece [] h = refl
one_piece (b ∷ piece) h =
    let e : eqb b 10 ≡ false = ne_eqb b 10 (All-head (λ c. c ≢ 10) b piece h) in
    rw e (ap (onto_first b) (one_piece piece (All-tail (λ c. c ≢ 10) b piece h)))

-- and with it, in a new cutter, by the line of the piece
pub new_line : (piece : List ℕ) → All (λ c. c ≢ 10) piece → answers (kept_of []) (piece ++ 10 ∷ []) ≡ line_of piece ∷ []
new_line piece h = new_answers (piece ++ 10 ∷ []) ∙ ap (map line_of) (one_piece piece h)

-- a cutter is a new one then
pub new_after : (k : Kept) (piece : List ℕ) → fed_all k (piece ++ 10 ∷ []) ≡ kept_of []
new_after k [] = refl
new_after k (b ∷ piece) = new_after (fed k b) piece

-- ---- the pieces make the bytes

abbrev pub with_end : List ℕ → List ℕ
with_end piece = piece ++ 10 ∷ []

whole_step : (b : ℕ) (bs : List ℕ) (ends : Bool) (ls : List (List ℕ)) → b == 10 ≡ ends → lines bs ≡ ls
    → bs ≡ flat_map with_end (lines bs) ++ rest bs → b ∷ bs ≡ flat_map with_end (lines (b ∷ bs)) ++ rest (b ∷ bs)
whole_step b bs true ls e f h = let same : b ≡ 10 = eqb-true b 10 e in rw e (ap (λ x. x ∷ bs) same ∙ ap (λ l. 10 ∷ l) h)
whole_step b bs false [] e f h = rw (e, f) refl
whole_step b bs false (l ∷ ls) e f h =
    let open_h : bs ≡ flat_map with_end (l ∷ ls) ++ rest bs = h ∙ ap (λ x. flat_map with_end x ++ rest bs) f in
    rw (e, f) (ap (λ x. b ∷ x) open_h)

pub pieces_make : (bs : List ℕ) → bs ≡ flat_map with_end (lines bs) ++ rest bs
pieces_make [] = refl
pieces_make (b ∷ bs) = whole_step b bs (b == 10) (lines bs) refl refl (pieces_make bs)
