-- Bytes have one split into lines and a rest. Lines that are printed, and what is read of them again.
use Rattle.std.proofs.Common.{◌≡◌, ◌≢◌, ℕ, zero, suc, ◌+◌, ◌/◌, ◌%◌, ◌≤◌, ◌<◌, ◌^◌, ◌==◌, nat_lt, Bool, true, false, true≢false, cond, List, [], ◌∷◌, ◌++◌, get_or, map, codes, decimal, All, Option, Some, None, refl, sym, ap, ◌∙◌, subst, arith, append_assoc, append-nil, eq-eqb, ne_eqb}
use Rattle.std.specs.List.{filter_map, flat_map, AllByRecursion}
use Rattle.std.specs.Fmt.{digits, digits_onto, digit_glyph}
use Rattle.std.proofs.lemmas.Bool.{cond_both}
use Rattle.std.proofs.lemmas.List.Elements.{All-append, All-nil, All-cons, All-head, All-tail, All-map, All-weaker, recursion_from_All}
use Rattle.std.proofs.lemmas.List.Folds.{flat_map-map}
use Rattle.ipnet_addr.proofs.Members.{In}
use Rattle.ipnet_addr.proofs.Ascending.{In-from_All, In-from_Contains, Contains-from_In}
use Rattle.ipnet_blocks.specs.Blocks.{Block, IsBlock, first_of, host}
use Rattle.ipnet_blocks.specs.Maximal.{IsWithin}
use Rattle.ipnet_blocks.proofs.BlockLaws.{has_first}
use Rattle.ipnet_blocks.proofs.Maximals.{host_is_block, member_is_address}
use Rattle.ipnet.specs.IpNets.{block, network_at}
use Rattle.ipnet.proofs.Spelled.{net_reads}
use Rattle.route_lines.specs.Bytes.{lines, rest, onto_first, if_no_piece}
use Rattle.route_lines.specs.InnerPhrase.{Gives}
use Rattle.route_lines.specs.Spelled.{reply_of}
use Rattle.route_lines.specs.Texts.{IsReply, reply_text, hop_text}
use Rattle.route_lines.specs.Words as word
use Rattle.route_lines.specs.declared.reply.Closing.TheVariants.{Done, Missing, Bad, Refused}
use Rattle.route_lines.specs.declared.reply.Reply.{Reply}
use Rattle.route_lines.specs.declared.reply.Reply.TheVariants as R
use Rattle.route_lines.proofs.Cutting.{pieces_make, with_end}
use Rattle.route_lines.proofs.Good.{written}
use Rattle.route_lines.proofs.Printed.{prints}
use Rattle.route_lines.proofs.Replies.{replies}
use Rattle.route_lines.proofs.Spells.{reply_found}
use Rattle.route_feed.proofs.ReadLines.{of_replies, read_is}
use Rattle.route_choices.specs.Hops.{IsHop, number_of}
use Rattle.route_choices.specs.declared.hop.Hop.{Hop}
use Rattle.route_choices.specs.declared.hop.Hop.TheVariants.{Number, Drop}
use Rattle.route_laws.specs.Flats.{Piece, flat_of}
use Rattle.route_laws.specs.Tables.{Route, IsTable, hop_at, match_of, match_number}
use Rattle.route_laws.proofs.Flats.{search_is_flat}
use Rattle.route_laws.proofs.NetworksAt.{of_network_at}
use Rattle.route_laws.proofs.Matches.{match_meets}
use Rattle.route_feed.specs.Laws.{SplitIsLines}
use Rattle.route_feed.specs.Replies.{printed}
use Rattle.route_feed.specs.Steps.{change_line, flat_line}
use Rattle.route_feed.specs.Streams.{change_of, closes, replies_in}

abbrev pub HasNoEnd : List ℕ → Type 0
HasNoEnd text = All (λ c. c ≢ 10) text

-- ---- lines and a rest

pub first_line : (text bytes : List ℕ) → AllByRecursion (λ c. c ≢ 10) text → lines (text ++ 10 ∷ bytes) ≡ text ∷ lines bytes
first_line [] bytes h = refl
first_line (c ∷ cs) bytes h = rw (ne_eqb c 10 h.0, first_line cs bytes h.1) refl

no_end : (b : ℕ) → b == 10 ≡ false → b ≢ 10
no_end b e q = true≢false (sym (eq-eqb b 10 q) ∙ e)

clean_step : (b : ℕ) (ends : Bool) (ls : List (List ℕ)) → b == 10 ≡ ends → All HasNoEnd ls → All HasNoEnd (cond ends ([] ∷ ls) (onto_first b ls))
clean_step b true ls e h = All-cons HasNoEnd [] ls (All-nil (λ c. c ≢ 10)) h
clean_step b false [] e h = h
clean_step b false (l ∷ ls) e h =
    All-cons HasNoEnd (b ∷ l) ls (All-cons (λ c. c ≢ 10) b l (no_end b e) (All-head HasNoEnd l ls h)) (All-tail HasNoEnd l ls h)

lines_clean : (bs : List ℕ) → All HasNoEnd (lines bs)
lines_clean [] = All-nil HasNoEnd
lines_clean (b ∷ bs) = clean_step b (b == 10) (lines bs) refl (lines_clean bs)

no_step : (b : ℕ) (ends : Bool) (ls : List (List ℕ)) → cond ends ([] ∷ ls) (onto_first b ls) ≡ [] → (ends ≡ false) × (ls ≡ [])
no_step b true ls f = (cc, cc)
no_step b false [] f = (refl, refl)
no_step b false (l ∷ ls) f = (cc, cc)

no_lines_clean : (bs : List ℕ) → lines bs ≡ [] → HasNoEnd bs
no_lines_clean [] e = All-nil (λ c. c ≢ 10)
no_lines_clean (b ∷ bs) e =
    let (ends, none) = no_step b (b == 10) (lines bs) e in
    All-cons (λ c. c ≢ 10) b bs (no_end b ends) (no_lines_clean bs none)

rest_clean : (bs : List ℕ) → HasNoEnd (rest bs)
rest_clean [] = All-nil (λ c. c ≢ 10)
rest_clean (b ∷ bs) = go (lines (b ∷ bs)) refl (rest_clean bs)
  where
    go : (ls : List (List ℕ)) → lines (b ∷ bs) ≡ ls → HasNoEnd (rest bs) → HasNoEnd (if_no_piece ls (b ∷ bs) (rest bs))
    go [] e h = no_lines_clean (b ∷ bs) e
    go (l ∷ ls) e h = h

no_lines : (r : List ℕ) → AllByRecursion (λ c. c ≢ 10) r → lines r ≡ []
no_lines [] h = refl
no_lines (c ∷ cs) h = rw (ne_eqb c 10 h.0, no_lines cs h.1) refl

all_rest : (r : List ℕ) → AllByRecursion (λ c. c ≢ 10) r → rest r ≡ r
all_rest [] h = refl
all_rest (c ∷ cs) h = ap (λ ps. if_no_piece ps (c ∷ cs) (rest cs)) (no_lines (c ∷ cs) h)

-- after a line come the rest of the bytes
rest_after : (text bytes : List ℕ) → AllByRecursion (λ c. c ≢ 10) text → rest (text ++ 10 ∷ bytes) ≡ rest bytes
rest_after [] bytes h = refl
rest_after (c ∷ cs) bytes h = ap (λ ps. if_no_piece ps (c ∷ cs ++ 10 ∷ bytes) (rest (cs ++ 10 ∷ bytes))) (first_line (c ∷ cs) bytes h) ∙ rest_after cs bytes h.1

split_one : (ps : List (List ℕ)) (r : List ℕ) → All HasNoEnd ps → HasNoEnd r
    → (ps ≡ lines (flat_map with_end ps ++ r)) × (r ≡ rest (flat_map with_end ps ++ r))
split_one [] r h k = let clean = recursion_from_All (λ c. c ≢ 10) r k in (sym (no_lines r clean), sym (all_rest r clean))
split_one (p ∷ ps) r h k =
    let (same, last) = split_one ps r (All-tail HasNoEnd p ps h) k in
    let bytes = flat_map with_end ps ++ r in
    let clean = recursion_from_All (λ c. c ≢ 10) p (All-head HasNoEnd p ps h) in
    let whole : flat_map with_end (p ∷ ps) ++ r ≡ p ++ 10 ∷ bytes = simp append_assoc in (
      ap (λ ls. p ∷ ls) same ∙ sym (ap lines whole ∙ first_line p bytes clean),
      last ∙ sym (ap rest whole ∙ rest_after p bytes clean),
    )

pub split_is_lines : SplitIsLines
split_is_lines bytes ps r = (
  (λ s. rw s.made (split_one ps r s.clean s.ended)),
  (λ e. rw (e.0, e.1) (record { made = pieces_make bytes; clean = lines_clean bytes; ended = rest_clean bytes })),
)

-- texts without a line end, each with one, are the lines of all together, and there is no rest
pub text_lines : {A : Type 0} (text : A → List ℕ) (xs : List A) → All (λ a. HasNoEnd (text a)) xs
    → (map text xs ≡ lines (flat_map (λ a. with_end (text a)) xs)) × ([] ≡ rest (flat_map (λ a. with_end (text a)) xs))
text_lines text xs h = (split_is_lines (flat_map (λ a. with_end (text a)) xs) (map text xs) []).0
    (record {
      made = sym (append-nil _ ∙ flat_map-map with_end text xs);
      clean = All-map HasNoEnd text xs h;
      ended = All-nil (λ c. c ≢ 10);
    })

-- ---- what is read of printed lines

abbrev pub reread : List Reply → List Reply
reread ls = filter_map reply_of (map reply_text ls)

-- what is read of a line closes a reply as the line does, and tells the same change
abbrev pub Keeps : Reply → Option Reply → Type 0
Keeps l None = (closes l ≡ None) × (change_of l ≡ None)
Keeps l (Some m) = (closes m ≡ closes l) × (change_of m ≡ change_of l)

-- a line of an output, which is a reply line if there are few routes
pub record IsPrinted (few : Type 0) (l : Reply) : Type 0 where
  pub clean : HasNoEnd (reply_text l)
  pub kept : Keeps l (reply_of (reply_text l))
  pub spelled : few → IsReply (reply_text l) l

-- and it closes no reply
abbrev pub IsTold : Type 0 → Reply → Type 0
IsTold few l = IsPrinted few l × (closes l ≡ None)

pub printed_if_read : (few : Type 0) (l : Reply) → IsReply (reply_text l) l → IsPrinted few l
printed_if_read few l h = record {
  clean = replies.clean (reply_text l) l h;
  kept = subst (Keeps l) (sym (read_is of_replies (reply_text l) l h)) (refl, refl);
  spelled = λ _. h;
}

pub lines_of_printed : (few : Type 0) (ls : List Reply) → All (IsPrinted few) ls → map reply_text ls ≡ lines (printed ls)
lines_of_printed few ls h =
    (text_lines reply_text ls (All-weaker (IsPrinted few) (λ l. HasNoEnd (reply_text l)) (λ l p. p.clean) ls h)).0

pub read_again : (few : Type 0) (ls : List Reply) → All (IsPrinted few) ls → replies_in (printed ls) ≡ reread ls
read_again few ls h = ap (filter_map reply_of) (sym (lines_of_printed few ls h))

-- ---- networks, hops and numbers

pub is_cut : (b : Block) → network_at b ≡ network_at (block (network_at b))
is_cut b = sym (ap network_at (of_network_at b))

number_small : (hop : Hop) (n : ℕ) → IsHop hop → number_of hop ≡ Some n → n ≤ 0xffffffff
number_small (Number m) n h e = let same : m ≡ n = cc in omega (arith, h, same)
number_small Drop n h e = absurd (cc)

hop_small : (M : List Route) → IsTable M → (b : Block) → IsBlock b → (n : ℕ) → hop_at M (first_of b) ≡ Some n → n ≤ 0xffffffff
hop_small M m b ok n e = go (match_of M first) refl e
  where
    first : Block
    first = host (first_of b)

    go : (o : Option Route) → match_of M first ≡ o → match_number o ≡ Some n → n ≤ 0xffffffff
    go None f q = absurd (cc)
    go (Some r) f q =
        let is = match_meets M m first (host_is_block (first_of b) (member_is_address b (first_of b) ok (has_first b))) r f in
        number_small r.hop n (In-from_All (λ s. IsHop s.hop) M m.hops r (In-from_Contains M r is.member)) q

pub word_hop : (hop : Hop) → IsHop hop → word.IsHop (hop_text hop) hop
word_hop (Number n) h = (refl, omega arith, omega (arith, h))
word_hop Drop h = refl

pub piece_within : (M : List Route) (p : Piece) → In p (flat_of (hop_at M)) → IsWithin (λ x. hop_at M x ≡ Some p.number) p.block
piece_within M p i = (((search_is_flat (hop_at M)).exact p).0 (Contains-from_In (flat_of (hop_at M)) p i)).within

-- ---- lines that are told

module _ (few : Type 0) where
  pub route_told : (b : Block) (hop : Hop) (pref : ℕ) → IsBlock b → IsHop hop → pref < 2 ^ 16
      → IsTold few (R.Route (network_at b) hop (Some pref))
  route_told b hop pref ok is small =
      let line = R.Route (network_at b) hop (Some pref) in
      (printed_if_read few line (prints line (is_cut b) (net_reads b ok, word_hop hop is, omega (arith, small))), refl)

  pub own_told : (b : Block) → IsBlock b → IsTold few (R.Own (network_at b))
  own_told b ok = (printed_if_read few (R.Own (network_at b)) (prints (R.Own (network_at b)) (is_cut b) (net_reads b ok)), refl)

  module _ (M : List Route) (m : IsTable M) where
    -- the line of a block whose addresses have one hop in a table
    pub change_told : (b : Block) → IsBlock b → IsTold few (change_line (hop_at M (first_of b)) b)
    change_told b ok = go (hop_at M (first_of b)) refl
      where
        go : (o : Option ℕ) → hop_at M (first_of b) ≡ o → IsTold few (change_line o b)
        go None e = let line = R.Unset (network_at b) in (printed_if_read few line (prints line (is_cut b) (net_reads b ok)), refl)
        go (Some n) e =
            let line = R.Set (network_at b) n in
            (printed_if_read few line (prints line (is_cut b) (net_reads b ok, hop_small M m b ok n e)), refl)

    -- a line of the flat list
    pub piece_told : (p : Piece) → In p (flat_of (hop_at M)) → IsTold few (flat_line p)
    piece_told p i =
        let w = piece_within M p i in
        let small = hop_small M m p.block w.block p.number (w.all (first_of p.block) (has_first p.block)) in
        (printed_if_read few (flat_line p) (prints (flat_line p) (is_cut p.block) (net_reads p.block w.block, small)), refl)

-- ---- the line of the counts, however many routes there are

digits_clean : (k n : ℕ) (acc : List ℕ) → HasNoEnd acc → HasNoEnd (digits_onto k 10 false n acc)
digits_clean zero n acc h = h
digits_clean (suc k) n acc h =
    let d = n % 10 in
    let glyph = cond_both (nat_lt d 10) (48 + d) (87 + d) (λ c. c ≢ 10) (λ _ e. omega (arith, e)) (λ _ e. omega (arith, e)) in
    let next = All-cons (λ c. c ≢ 10) (digit_glyph false d) acc glyph h in
    cond_both (n / 10 == 0) _ _ HasNoEnd (λ _. next) (λ _. digits_clean k (n / 10) (digit_glyph false d ∷ acc) next)

decimal_clean : (n : ℕ) → HasNoEnd (decimal n)
unfolding digits
decimal_clean n = digits_clean 64 n [] (All-nil (λ c. c ≢ 10))

module _ (v4 v6 : ℕ) where
  abbrev count : Reply
  count = R.Count v4 v6

  -- no line with this text changes a hop or closes a reply
  as_told : (r : Reply) → IsReply (reply_text count) r → Keeps count (Some r)
  as_told (R.Set net n) h = absurd (let e = ap (λ t. get_or t 0 0) h.spelled in omega (arith, e))
  as_told (R.Unset net) h = absurd (let e = ap (λ t. get_or t 0 0) h.spelled in omega (arith, e))
  as_told (R.Close Done) h = absurd (let e = ap (λ t. get_or t 0 0) h in omega (arith, e))
  as_told (R.Close Missing) h = absurd (let e = ap (λ t. get_or t 0 0) h in omega (arith, e))
  as_told (R.Close Bad) h = absurd (let e = ap (λ t. get_or t 0 0) h in omega (arith, e))
  as_told (R.Close Refused) h = absurd (let e = ap (λ t. get_or t 0 0) h in omega (arith, e))
  as_told r h = (refl, refl)

  pub count_told : (few : Type 0) → (few → (v4 ≤ 0xffffffffffffffff) × (v6 ≤ 0xffffffffffffffff)) → IsTold few count
  count_told few small = (
    record {
      clean = All-append (λ c. c ≢ 10) (codes "count " ++ decimal v4 ++ codes " ") (decimal v6)
          (All-append (λ c. c ≢ 10) (codes "count " ++ decimal v4) (codes " ")
          (All-append (λ c. c ≢ 10) (codes "count ") (decimal v4) (written (codes "count ") refl) (decimal_clean v4)) (written (codes " ") refl))
          (decimal_clean v6);
      kept = go (reply_of (reply_text count)) (reply_found (reply_text count));
      spelled = λ f. prints count tt (small f);
    },
    refl,
  )
    where
      go : (o : Option Reply) → Gives IsReply (reply_text count) o → Keeps count o
      go None h = (refl, refl)
      go (Some r) h = as_told r h
