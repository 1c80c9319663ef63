-- A beginning of an output, followed: as values, and as bytes.
use Rattle.std.proofs.Common.{◌≡◌, suc, Bool, true, false, cond, List, [], ◌∷◌, ◌++◌, take, length, Option, Some, None, refl, sym, ap, ◌∙◌, subst, ◌⊎◌, inl, inr, ⊎_elim, append_assoc, get_or, option_to_list, ℕ, ◌==◌, map, append-nil, take_all, arith, slice_index_or, All, ◌+◌, ◌^◌, ◌<◌}
use Rattle.route_table.proofs.FamilyMap.{no_networks}
use Rattle.std.specs.List.{cons_option, filter_map}
use Rattle.std.proofs.lemmas.List.Elements.{All-nil, filter_map-append, All-cons, All-head, All-tail, All-map, All-append, All-push, All-weaker}
use Rattle.ipnet_addr.specs.Addresses.{Address, IsAddress}
use Rattle.route_lines.specs.declared.command.Command.{Command}
use Rattle.route_lines.specs.declared.reply.Closing.{Closing}
use Rattle.route_lines.specs.declared.reply.Reply.{Reply}
use Rattle.route_lines.specs.declared.reply.Reply.TheVariants.{Close}
use Rattle.route_laws.specs.Networks.{Stored, IsStoredTable, routes_of}
use Rattle.route_laws.specs.Tables.{hop_at}
use Rattle.route_feed.specs.Laws.{IsInRange, LinesAgree, AllAreAnswered, BeginningsAgree, BeginningsAreLines, CommandsAreInRange, FlatListsAgree, OutputIsFollowed, table_told}
use Rattle.route_feed.specs.Output.{replies, table_after, refusals_after, whole_commands, at_end, lines_output, output}
use Rattle.route_feed.specs.Steps as steps
use Rattle.route_feed.specs.Streams.{Change, change_of, closes, is_done, ends_well, committed, closings, painted_over, painted_hop, replies_in}
use Rattle.route_feed.proofs.Carried.{painted-append, either}
use Rattle.route_feed.proofs.Replies.{form_step, gain}
use Rattle.route_feed.proofs.PrintedLines.{IsTold, Keeps, read_again, reread, IsPrinted, printed_if_read}
use Rattle.route_lines.specs.Bytes.{lines, rest, onto_first}
use Rattle.route_lines.specs.Spelled.{command_of, reply_of}
use Rattle.route_lines.specs.Texts.{reply_text}
use Rattle.route_lines.specs.declared.reply.Closing.TheVariants.{Done}
use Rattle.route_laws.specs.Flats.{Piece, flat_of}
use Rattle.route_laws.proofs.Flats.{same_flat, search_is_flat}
use Rattle.route_feed.specs.Replies.{printed}
use Rattle.route_feed.specs.Steps.{flat_line}
use Rattle.route_feed.proofs.ReadNets.{piece_in_range}
use Rattle.route_feed.proofs.AnsweredChanges.{changes_in}

-- ---- where the first lines end

abbrev IsOpen : Reply → Type 0
IsOpen l = closes l ≡ None

-- no closing line stands in these lines, and they commit nothing
record Waits (p : List Reply) : Type 0 where
  closings : closings p ≡ 0
  committed : committed p ≡ []
  done : ends_well p ≡ false

waits_more : (l : Reply) (p : List Reply) → closes l ≡ None → Waits p → Waits (l ∷ p)
waits_more l p o w = record { closings = rw o w.closings; committed = rw w.done w.committed; done = rw o w.done }

-- a beginning of a reply and what follows: it waits, or has the whole reply
split_at_closing : (p q body : List Reply) (closing : Closing) (tail : List Reply) → All IsOpen body
    → p ++ q ≡ body ++ Close closing ∷ tail
    → Waits p ⊎ ((later : List Reply) × (p ≡ body ++ Close closing ∷ later) × (later ++ q ≡ tail))
split_at_closing [] q body closing tail o e = inl (record { closings = refl; committed = refl; done = refl })
split_at_closing (x ∷ p) q [] closing tail o e =
    let first : x ≡ Close closing = cc in
    let later : p ++ q ≡ tail = cc in
    inr (p, ap (λ y. y ∷ p) first, later)
split_at_closing (x ∷ p) q (y ∷ body) closing tail o e =
    let first : x ≡ y = cc in
    let later : p ++ q ≡ body ++ Close closing ∷ tail = cc in
    ⊎_elim
    (λ w. inl (waits_more x p (ap closes first ∙ All-head IsOpen y body o) w))
    (λ h. inr (h.0, ap (λ z. z ∷ p) first ∙ ap (λ l. y ∷ l) h.1, h.2))
    (split_at_closing p q body closing tail (All-tail IsOpen y body o) later)

-- what a whole reply and more lines commit
record Commits (body : List Reply) (closing : Closing) (p : List Reply) : Type 0 where
  committed : committed (body ++ Close closing ∷ p) ≡ gain body closing ++ committed p
  closings : closings (body ++ Close closing ∷ p) ≡ suc (closings p)
  done : ends_well (body ++ Close closing ∷ p) ≡ is_done closing

one_more : (d : Bool) (o : Option Change) (cs ds : List Change) → cond d (option_to_list o ++ (cond d cs [] ++ ds)) (cond d cs [] ++ ds) ≡ cond d (cons_option o cs) [] ++ ds
one_more true None cs ds = refl
one_more true (Some c) cs ds = refl
one_more false o cs ds = refl

commits : (body : List Reply) (closing : Closing) (p : List Reply) → All IsOpen body → Commits body closing p
commits [] closing p o = record {
  committed = either (ends_well p) (committed p) ∙ ap (λ cs. cs ++ committed p) (sym (either (is_done closing) []));
  closings = refl;
  done = refl;
}
commits (l ∷ body) closing p o =
    let is_open = All-head IsOpen l body o in
    let h = commits body closing p (All-tail IsOpen l body o) in
    record {
      committed = rw (h.done, h.committed) (one_more (is_done closing) (change_of l) (changes_in body) (committed p));
      closings = rw is_open h.closings;
      done = rw is_open h.done;
    }

-- ---- the first lines of replies

nothing_left : {A : Type 0} (p q : List A) → p ++ q ≡ [] → p ≡ []
nothing_left [] q e = refl
nothing_left (x ∷ p) q e = cc

taken : (M : List Stored) (commands : List (Option Command)) (r : List Bool) (p q : List Reply) → IsStoredTable M → All IsInRange commands → p ++ q ≡ replies M commands r
    → (x : Address) → IsAddress x → painted_over (hop_at (routes_of M) x) (committed p) x ≡ hop_at (routes_of (table_after M (take (closings p) commands) r)) x
taken M [] r p q m h e x a =
    subst (λ l. painted_over (hop_at (routes_of M) x) (committed l) x ≡ hop_at (routes_of (table_after M (take (closings l) []) r)) x) (sym (nothing_left p q e)) refl
taken M (c ∷ cs) r p q m h e x a =
    let t = steps.step M c (get_or r 0 false) in
    let rs = refusals_after M c r in
    let form = form_step M m c (get_or r 0 false) (All-head IsInRange c cs h) in
    let tail = replies t.next cs rs in
    let open_lines = All-weaker (IsTold (length M < 2 ^ 64)) IsOpen (λ l k. k.1) t.body form.told in
    ⊎_elim
    (λ w. rw (w.committed, w.closings) refl)
    (λ s. let (p2, split, later) = s in
    let k = commits t.body t.closing p2 open_lines in
    let ih = taken t.next cs rs p2 q form.table (All-tail IsInRange c cs h) later x a in
    subst (λ l. painted_over (hop_at (routes_of M) x) (committed l) x ≡ hop_at (routes_of (table_after M (take (closings l) (c ∷ cs)) r)) x) (sym split)
    (rw (k.committed, k.closings) (
    painted-append (hop_at (routes_of M) x) (gain t.body t.closing) (committed p2) x
    ∙ ap (λ o. painted_over o (committed p2) x) (form.paints x a)
    ∙ ih)))
    (split_at_closing p q t.body t.closing tail open_lines (e ∙ append_assoc t.body (Close t.closing ∷ []) tail))

pub lines_agree : LinesAgree
lines_agree commands r front back h e x a = taken [] commands r front back no_networks h (sym e) x a

-- each command is answered by one closing line
all_closed : (M : List Stored) (commands : List (Option Command)) (r : List Bool) → IsStoredTable M → All IsInRange commands → closings (replies M commands r) ≡ length commands
all_closed M [] r m h = refl
all_closed M (c ∷ cs) r m h =
    let t = steps.step M c (get_or r 0 false) in
    let rs = refusals_after M c r in
    let form = form_step M m c (get_or r 0 false) (All-head IsInRange c cs h) in
    let open_lines = All-weaker (IsTold (length M < 2 ^ 64)) IsOpen (λ l k. k.1) t.body form.told in
    ap closings (append_assoc t.body (Close t.closing ∷ []) (replies t.next cs rs))
    ∙ (commits t.body t.closing (replies t.next cs rs) open_lines).closings
    ∙ ap suc (all_closed t.next cs rs form.table (All-tail IsInRange c cs h))

-- ---- a beginning's lines

first_step : (b : ℕ) (front back : List ℕ) (later : List (List ℕ)) (ends : Bool) (ls : List (List ℕ)) → b == 10 ≡ ends → lines front ≡ ls → lines (front ++ back) ≡ ls ++ later
    → (more : List (List ℕ)) × (lines (b ∷ front ++ back) ≡ lines (b ∷ front) ++ more)
first_step b front back later true ls e f h = (later, rw (e, f, h) refl)
first_step b front back later false [] e f h = (onto_first b later, rw (e, f, h) refl)
first_step b front back later false (l ∷ ls) e f h = (later, rw (e, f, h) refl)

-- the lines of a beginning are the first lines
pub first_lines : (front back : List ℕ) → (later : List (List ℕ)) × (lines (front ++ back) ≡ lines front ++ later)
first_lines [] back = (lines back, refl)
first_lines (b ∷ front) back = let (later, e) = first_lines front back in first_step b front back later (b == 10) (lines front) refl refl e

-- ---- the reply lines of an output

pub replies_printed : (few : Type 0) (M : List Stored) (commands : List (Option Command)) (r : List Bool)
    → IsStoredTable M → All IsInRange commands
    → (few → length M + length commands < 2 ^ 64) → All (IsPrinted few) (replies M commands r)
replies_printed few M [] r m h small = All-nil (IsPrinted few)
replies_printed few M (c ∷ cs) r m h small =
    let t = steps.step M c (get_or r 0 false) in
    let form = form_step M m c (get_or r 0 false) (All-head IsInRange c cs h) in
    let body = All-weaker (IsTold (length M < 2 ^ 64)) (IsPrinted few) (λ l k.
    record { clean = k.0.clean; kept = k.0.kept; spelled = λ f. k.0.spelled (omega (arith, small f)) }) t.body form.told in
    All-append (IsPrinted few) (steps.answer_lines t) (replies t.next cs (refusals_after M c r))
    (All-push (IsPrinted few) t.body (Close t.closing) body (printed_if_read few (Close t.closing) refl))
    (replies_printed few t.next cs (refusals_after M c r) form.table (All-tail IsInRange c cs h)
    (λ f. omega (arith, small f, form.grown)))

-- ---- what is read of first lines

-- the same changes are committed, and as many replies are closed
record Same (ms ls : List Reply) : Type 0 where
  committed : committed ms ≡ committed ls
  closings : closings ms ≡ closings ls
  done : ends_well ms ≡ ends_well ls

Same-nil : Same [] []
Same-nil = record { committed = refl; closings = refl; done = refl }

Same-more : (l : Reply) (o : Option Reply) (ms ls : List Reply) → Keeps l o → Same ms ls → Same (cons_option o ms) (l ∷ ls)
Same-more l None ms ls k s = record {
  committed = rw k.1 (s.committed ∙ sym (either (ends_well ls) (committed ls)));
  closings = rw k.0 s.closings;
  done = rw k.0 s.done;
}
Same-more l (Some m) ms ls k s = record {
  committed = rw (k.1, s.done, s.committed) refl;
  closings = rw (k.0, s.closings) refl;
  done = rw (k.0, s.done) refl;
}

-- these are lines that are read of first lines
abbrev AreFirst : List Reply → List Reply → Type 0
AreFirst ls p = (first : List Reply) × (later : List Reply) × (ls ≡ first ++ later) × Same p first

module _ (few : Type 0) where
  same_read : (ls : List Reply) → All (IsPrinted few) ls → Same (reread ls) ls
  same_read [] h = Same-nil
  same_read (l ∷ ls) h =
      let later = same_read ls (All-tail (IsPrinted few) l ls h) in
      Same-more l (reply_of (reply_text l)) (reread ls) ls (All-head (IsPrinted few) l ls h).kept later

  -- a beginning of what is read is what is read of a beginning
  first_read : (ls : List Reply) → All (IsPrinted few) ls → (p q : List Reply) → p ++ q ≡ reread ls → AreFirst ls p
  first_read [] h p q e = ([], [], refl, rw (nothing_left p q e) Same-nil)
  first_read (l ∷ ls) h p q e =
      go (reply_of (reply_text l)) (All-head (IsPrinted few) l ls h).kept p e (first_read ls (All-tail (IsPrinted few) l ls h))
    where
      go : (o : Option Reply) → Keeps l o → (p : List Reply) → p ++ q ≡ cons_option o (reread ls)
          → ((p q : List Reply) → p ++ q ≡ reread ls → AreFirst ls p) → AreFirst (l ∷ ls) p
      go None k p e more =
          let (first, later, split, same) = more p q e in
          (l ∷ first, later, ap (λ ms. l ∷ ms) split, Same-more l None p first k same)
      go (Some m) k [] e more = ([], l ∷ ls, refl, Same-nil)
      go (Some m) k (z ∷ p) e more =
          let is : m ≡ z = cc in
          let (first, later, split, same) = more p q (cc) in
          let longer = Same-more l (Some m) p first k same in
          (l ∷ first, later, ap (λ ms. l ∷ ms) split, subst (λ n. Same (n ∷ p) (l ∷ first)) is longer)

lines_in_range : (pieces : List (List ℕ)) → All IsInRange (map command_of pieces)
lines_in_range pieces = All-map IsInRange command_of pieces (λ k d _. piece_in_range (slice_index_or pieces k d))

end_in_range : (bytes : List ℕ) → All IsInRange (at_end bytes)
end_in_range [] = All-nil IsInRange
end_in_range (b ∷ bs) = All-cons IsInRange None [] tt (All-nil IsInRange)

abbrev pub commands_of : List ℕ → List (Option Command)
commands_of bytes = whole_commands bytes ++ at_end (rest bytes)

pub commands_are_in_range : CommandsAreInRange
commands_are_in_range bytes =
    All-append IsInRange (whole_commands bytes) (at_end (rest bytes)) (lines_in_range (lines bytes)) (end_in_range (rest bytes))

module _ (commands : List (Option Command)) (refusals : List Bool) (range : All IsInRange commands) where
  pub output_printed : All (IsPrinted (length commands < 2 ^ 64)) (replies [] commands refusals)
  output_printed = replies_printed (length commands < 2 ^ 64) [] commands refusals no_networks range (λ h. omega (arith, h))

  -- what is read of the output
  output_read : replies_in (printed (replies [] commands refusals)) ≡ reread (replies [] commands refusals)
  output_read = read_again (length commands < 2 ^ 64) (replies [] commands refusals) output_printed

  commands_answered : closings (replies_in (printed (replies [] commands refusals))) ≡ length commands
  commands_answered =
      ap closings output_read
      ∙ (same_read (length commands < 2 ^ 64) (replies [] commands refusals) output_printed).closings
      ∙ all_closed [] commands refusals no_networks range

-- the first of the reply lines in an output are read of first lines
first_again : (bytes : List ℕ) (refusals : List Bool) (p q : List Reply) → p ++ q ≡ replies_in (output bytes refusals)
    → AreFirst (replies [] (commands_of bytes) refusals) p
first_again bytes refusals p q e =
    let commands = commands_of bytes in
    let range = commands_are_in_range bytes in
    let printed = output_printed commands refusals range in
    first_read (length commands < 2 ^ 64) (replies [] commands refusals) printed p q (e ∙ output_read commands refusals range)

pub followed : (bytes : List ℕ) (refusals : List Bool) (p q : List Reply) → p ++ q ≡ replies_in (output bytes refusals)
    → (x : Address) → IsAddress x → painted_hop (committed p) x ≡ hop_at (routes_of (table_after [] (take (closings p) (commands_of bytes)) refusals)) x
followed bytes refusals p q e x a =
    let (first, later, split, same) = first_again bytes refusals p q e in
    let range = commands_are_in_range bytes in
    rw (same.committed, same.closings) (lines_agree (commands_of bytes) refusals first later range split x a)

-- the replies in a beginning are the first of those in the output
pub first_replies : (bytes front back : List ℕ) (refusals : List Bool) → output bytes refusals ≡ front ++ back
    → (later : List Reply) × (replies_in front ++ later ≡ replies_in (output bytes refusals))
first_replies bytes front back refusals e =
    let (later, first) = first_lines front back in
    (filter_map reply_of later, sym (filter_map-append reply_of (lines front) later) ∙ ap (filter_map reply_of) (sym first) ∙ ap replies_in (sym e))

pub beginnings_are_lines : BeginningsAreLines
beginnings_are_lines bytes front back refusals e =
    let (more, whole) = first_replies bytes front back refusals e in
    let (first, later, split, same) = first_again bytes refusals (replies_in front) more whole in
    (first, later, split, same.committed, same.closings)

pub beginnings_agree : BeginningsAgree
beginnings_agree bytes front back refusals e x a = let (later, split) = first_replies bytes front back refusals e in followed bytes refusals (replies_in front) later split x a

pub flat_lists_agree : FlatListsAgree
flat_lists_agree bytes front back refusals e =
    let h = painted_hop (committed (replies_in front)) in
    let g = hop_at (routes_of (table_told bytes refusals front)) in
    (same_flat h g (flat_of h) (flat_of g) (search_is_flat h) (search_is_flat g)).1 (beginnings_agree bytes front back refusals e)

pub all_answered : AllAreAnswered
all_answered bytes refusals = commands_answered (commands_of bytes) refusals (commands_are_in_range bytes)

pub lines_answered : (bytes : List ℕ) (refusals : List Bool) → closings (replies_in (lines_output bytes refusals)) ≡ length (whole_commands bytes)
lines_answered bytes refusals = commands_answered (whole_commands bytes) refusals (lines_in_range (lines bytes))

pub output_followed : OutputIsFollowed
output_followed bytes refusals =
    ap (λ (ps : List Piece). printed (map flat_line ps ++ Close Done ∷ [])) (flat_lists_agree bytes (output bytes refusals) [] refusals (sym (append-nil (output bytes refusals))))
    ∙ ap (λ (cs : List (Option Command)). printed (map flat_line (flat_of (hop_at (routes_of (table_after [] cs refusals)))) ++ Close Done ∷ []))
    (ap (λ n. take n (commands_of bytes)) (all_answered bytes refusals) ∙ take_all (length (commands_of bytes)) (commands_of bytes) (omega arith))
