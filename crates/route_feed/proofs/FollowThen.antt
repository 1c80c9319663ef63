-- A follower that takes lines, what it has at the end of its input, and `follow` and `shorten` with it.
use Rattle.std.proofs.Common.{◌≡◌, ℕ, inl, inr, ⊎_elim, Bool, true, false, true≢false, cond, List, [], ◌∷◌, ◌++◌, map, Option, Some, None, Result, Ok, Err, IsErr, refl, sym, ap, ◌∙◌, subst, append_assoc, append-nil, filter_map, IfSome, IsSome, OnOk, is_some}
use Rattle.std.specs.Io.KnownBytes.{Appends}
use Rattle.std.specs.Option.{option_to_list, option_map_or}
use Rattle.std.proofs.KnownBytes.{Consumes-whole}
use Rattle.std.proofs.lemmas.List.Elements.{All-cons, All-head, All-nil, All-tail}
use Rattle.ipnet_addr.specs.Addresses.{Address, IsAddress}
use Rattle.route_lines.specs.Bytes.{lines}
use Rattle.route_lines.specs.Lines.{line_of}
use Rattle.route_lines.specs.Spelled.{reply_of}
use Rattle.route_lines.specs.declared.cutter.Line.{Line}
use Rattle.route_lines.specs.declared.cutter.Rest.{Rest}
use Rattle.route_lines.specs.declared.reply.Closing.{Closing}
use Rattle.route_lines.specs.declared.reply.Closing.TheVariants.{Done}
use Rattle.route_lines.specs.declared.reply.Reply.{Reply}
use Rattle.route_lines.specs.declared.reply.Reply.TheVariants.{Close}
use Rattle.route_laws.specs.Flats.{Piece, IsFlat, flat_of}
use Rattle.route_laws.specs.LeastTables.{IsLeast}
use Rattle.route_laws.specs.Networks.{routes_of}
use Rattle.route_laws.specs.Tables.{Route, hop_at}
use Rattle.route_laws.proofs.Insides.{least_too}
use Rattle.route_laws.proofs.Flats.{search_is_flat, same_flat}
use Rattle.route_program.specs.declared.counted.Counted.{Counted}
use Rattle.route_program.specs.declared.error.RunError.{RunError}
use Rattle.route_program.specs.declared.error.RunError.TheVariants as Why
use Rattle.route_program.specs.Counted.{ReadWell}
use Rattle.route_program.specs.Devices.{Closes, Delivers}
use Rattle.route_program.specs.Run.{Runs, TakesAll}
use Rattle.route_feed.specs.AddLines.{add_lines}
use Rattle.route_feed.specs.Following.{FollowsLine, State, TakesLine, hop_after}
use Rattle.route_feed.specs.Follows.{AreReplies, MeetsWant, followed, FollowEnds}
use Rattle.route_feed.specs.InnerReaching.{Reached, Reaches}
use Rattle.route_feed.specs.Replies.{printed}
use Rattle.route_feed.specs.Shortens.{AppendsLeast, ShortenEnds}
use Rattle.route_feed.specs.Steps.{flat_line}
use Rattle.route_feed.specs.Streams.{Change, WantsMemory, change_of, closes, committed, ends_well, is_done, painted_hop, painted_over, pending_after, pending_over, replies_in}
use Rattle.route_feed.proofs.Carried.{either, painted-append}
use Rattle.route_feed.proofs.ReadLines.{of_replies, piece_spells}

-- ---- one line

-- the hop of an address after these reply lines
abbrev hop_once : State → List Reply → Address → Option ℕ
hop_once s ls x = painted_over (hop_at (routes_of s.table) x) (cond (ends_well ls) s.pending [] ++ committed ls) x

over_line : (h : Option ℕ) (p cs more : List Change) (e : Bool) (x : Address) → painted_over h (cond e p [] ++ cond e (cs ++ more) more) x ≡ painted_over h (cond e (p ++ cs) [] ++ more) x
over_line h p cs more true x = ap (λ l. painted_over h l x) (sym (append_assoc p cs more))
over_line h p cs more false x = refl

over_closing : (d : Bool) (h : Option ℕ) (p more : List Change) (e : Bool) (x : Address) → painted_over h (cond d p [] ++ cond e more more) x ≡ painted_over (cond d (painted_over h p x) h) (cond e [] [] ++ more) x
over_closing true h p more e x = rw (either e more, either {A = List Change} e []) (painted-append h p more x)
over_closing false h p more e x = rw (either e more, either {A = List Change} e []) refl

closes_without_change : (l : Reply) → IsSome (closes l) → change_of l ≡ None
closes_without_change (Close closing) s = refl
closes_without_change l s = absurd (cc)

over_reply : (s : State) (o : Option Closing) (ch : Option Change) (more : List Reply) (x : Address) → (IsSome o → ch ≡ None)
    → painted_over (hop_at (routes_of s.table) x) (cond (option_map_or is_done o (ends_well more)) s.pending [] ++ cond (ends_well more) (option_to_list ch ++ committed more) (committed more)) x
    ≡ painted_over (hop_after s o x) (cond (ends_well more) (pending_after s.pending o ch) [] ++ committed more) x
over_reply s None ch more x f = over_line (hop_at (routes_of s.table) x) s.pending (option_to_list ch) (committed more) (ends_well more) x
over_reply s (Some closing) ch more x f =
    ap (λ c. painted_over (hop_at (routes_of s.table) x) (cond (is_done closing) s.pending [] ++ cond (ends_well more) (option_to_list c ++ committed more) (committed more)) x) (f refl)
    ∙ over_closing (is_done closing) (hop_at (routes_of s.table) x) s.pending (committed more) (ends_well more) x

line_taken : (s t : State) (l : Reply) → TakesLine s t l → (more : List Reply) (x : Address) → IsAddress x
    → hop_once s (l ∷ more) x ≡ hop_once t more x
line_taken s t l k more x a =
    over_reply s (closes l) (change_of l) more x (closes_without_change l)
    ∙ ap (λ h. painted_over h (cond (ends_well more) (pending_after s.pending (closes l) (change_of l)) [] ++ committed more) x) (sym (k.hops x a))
    ∙ ap (λ p. painted_over (hop_at (routes_of t.table) x) (cond (ends_well more) p [] ++ committed more) x) (sym k.pending)

-- ---- lines

abbrev IsOne : List ℕ → Type 0
IsOne piece = IsSome (reply_of piece)

is_one : (piece : List ℕ) (reply : Reply) → reply_of piece ≡ Some reply → IsOne piece
is_one piece reply is = subst IsSome (sym is) refl

-- the pieces were followed, whatever reply lines come after them
record Followed (a : State) (ps : List (List ℕ)) (b : State) : Type 0 where
  same : (more : List Reply) (x : Address) → IsAddress x → hop_once a (filter_map reply_of ps ++ more) x ≡ hop_once b more x
  replies : AreReplies ps

-- one of the pieces is a reply line that wanted memory, and those before it were taken: `MeetsWant`, from any state
record Wanted (a : State) (pieces : List (List ℕ)) : Type 0 where
  before : List (List ℕ)
  piece : List ℕ
  after : List (List ℕ)
  reply : Reply
  split : pieces ≡ before ++ piece ∷ after
  replies : AreReplies before
  is_reply : reply_of piece ≡ Some reply
  wants : WantsMemory (pending_over a.pending (filter_map reply_of before)) reply

-- the pieces that a follower has taken, by the result; it never fails to read or write
abbrev Taken : State → List (List ℕ) → Result Unit RunError → State → Type 0
Taken a ps (Ok done) b = Followed a ps b
Taken a ps (Err Why.Line) b = AreReplies ps → ⊥
Taken a ps (Err Why.Memory) b = Wanted a ps
Taken a ps (Err Why.Read) b = ⊥
Taken a ps (Err Why.Write) b = ⊥

module _ (a b : State) (p : List ℕ) (ps : List (List ℕ)) where
  first_failed : (r : Result Unit RunError) → IsErr r → FollowsLine a (line_of p) r b → Taken a (p ∷ ps) r b
  first_failed (Ok done) err f = absurd (cc)
  first_failed (Err Why.Line) err f = λ all.
      true≢false (sym (All-head IsOne p ps all) ∙ ap is_some (sym (piece_spells of_replies p) ∙ f.0))
  first_failed (Err Why.Memory) err f =
      let is = sym (piece_spells of_replies p) ∙ f.1 in
      record { before = []; piece = p; after = ps; reply = f.0; split = refl; replies = All-nil IsOne; is_reply = is; wants = f.2 }
  first_failed (Err Why.Read) err f = f
  first_failed (Err Why.Write) err f = f

  module _ (c : State) (reply : Reply) (is : reply_of p ≡ Some reply) (taken : TakesLine a c reply) where
    first_taken : (r : Result Unit RunError) → Taken c ps r b → Taken a (p ∷ ps) r b
    first_taken (Ok done) t = record {
      same = λ more x h. rw is (line_taken a c reply taken (filter_map reply_of ps ++ more) x h ∙ t.same more x h);
      replies = All-cons IsOne p ps (is_one p reply is) t.replies;
    }
    first_taken (Err Why.Line) t = λ all. t (All-tail IsOne p ps all)
    first_taken (Err Why.Memory) t = record {
      before = p ∷ t.before;
      piece = t.piece;
      after = t.after;
      reply = t.reply;
      split = ap (λ l. p ∷ l) t.split;
      replies = All-cons IsOne p t.before (is_one p reply is) t.replies;
      is_reply = t.is_reply;
      wants = rw is (subst (λ cs. WantsMemory (pending_over cs (filter_map reply_of t.before)) t.reply) taken.pending t.wants);
    }
    first_taken (Err Why.Read) t = t
    first_taken (Err Why.Write) t = t

module _ {W : Type 0} where
  abbrev pub Takes : State → Line → Counted W → Result Unit RunError → State → Counted W → Type 0
  Takes a line old result b new = FollowsLine a line result b × (new ≡ old)

  -- nothing is written meanwhile
  all_taken : (a b : State) (ps : List (List ℕ)) (old new : Counted W) (r : Result Unit RunError)
      → TakesAll Takes a (map line_of ps) old r b new → Taken a ps r b × (new ≡ old)
  all_taken a b [] old new r t = (rw (t.0, t.1) (record { same = λ more x h. refl; replies = All-nil IsOne }), t.2)
  all_taken a b (p ∷ ps) old new r t = ⊎_elim
      (λ q.
      let later = all_taken q.0 b ps q.1 new r q.3 in
      (first_taken a b p ps q.0 q.2.0.0 (sym (piece_spells of_replies p) ∙ q.2.0.1) q.2.0.2 r later.0, later.1 ∙ q.2.1))
      (λ q. (first_failed a b p ps r q.0 q.1.0, q.1.1))
      t

-- ---- a run of a new follower

abbrev pub new_state : State
new_state = record { table = []; pending = []; failed = false }

module _ {R W : Type 0} (remaining : R → Option (List ℕ)) (contents : W → Option (List ℕ)) (from to : Counted R) (old new : Counted W) (b : State) where
  -- that did not reach the end
  pub stopped : (e : RunError) → Runs Takes remaining new_state from old (Err e) b to new
      → Reaches remaining contents from to old new (Err e)
  stopped e x = ⊎_elim
      (λ p.
      let t = all_taken new_state b (lines x.bytes) old new (Ok tt) p.0 in
      subst (λ k. Reaches remaining contents from to old new (Err k)) (sym p.1)
      ((λ k. cc), (record { bytes = x.bytes; read = x.read; holds = t.0.replies }, p.2, t.1)))
      (λ p. let t = all_taken new_state b (lines x.bytes) old new (Err e) p.0 in go e t.0 t.1 p.1)
      x.ends
    where
      go : (k : RunError) → Taken new_state (lines x.bytes) (Err k) b → new ≡ old → ReadWell from to
          → Reaches remaining contents from to old new (Err k)
      go Why.Memory w same well =
          let want : MeetsWant (lines x.bytes) = record {
            before = w.before;
            piece = w.piece;
            after = w.after;
            reply = w.reply;
            split = w.split;
            replies = w.replies;
            is_reply = w.is_reply;
            wants = w.wants;
          } in
          ((λ k. cc), (inr (record { bytes = x.bytes; read = x.read; holds = want }, well), same))
      go Why.Line none same well = ((λ k. cc), ((record { bytes = x.bytes; read = x.read; holds = none }, well), same))
      go Why.Read t same well = absurd t
      go Why.Write t same well = absurd t

  -- that did: the hops are those that the committed changes paint
  pub reached : (left : Rest) → Runs Takes remaining new_state from old (Ok left) b to new
      → Reaches remaining contents from to old new (Ok b)
  reached left x =
      let (steps, same) = all_taken new_state b (lines x.bytes) old new (Ok tt) x.ends.0 in
      let told = replies_in x.bytes in
      let hops = λ (y : Address) (h : IsAddress y).
      sym (steps.same [] y h)
      ∙ ap (λ ls. hop_once new_state ls y) (append-nil told)
      ∙ ap (λ l. painted_over None (l ++ committed told) y) (either {A = List Change} (ends_well told) []) in
      (record { bytes = x.bytes; read = x.read; replies = steps.replies; hops = hops; met = x.ends.2 }, same)

module _ {R W : Type 0} (remaining : R → Option (List ℕ)) (contents : W → Option (List ℕ)) (from to : Counted R) (old : Counted W) where
  -- ---- the flat list of the hops that were told

  -- all was read, and the list written
  pub follow_ended : (b : State) (mid new : Counted W) (ps : List Piece) (r : Result Unit RunError)
      → Reaches remaining contents from to old mid (Ok b) → IsFlat (hop_at (routes_of b.table)) ps
      → Closes contents 1 mid new r (printed (map flat_line ps ++ Close Done ∷ [])) → FollowEnds remaining contents from to old new r
  follow_ended b mid new ps r x flat w =
      let h = painted_hop (committed (replies_in end.bytes)) in
      let list = (same_flat (hop_at (routes_of b.table)) h ps (flat_of h) flat (search_is_flat h)).1 end.hops in
      let text = ap (λ qs. printed (map flat_line qs ++ Close Done ∷ [])) list in
      go r (subst (λ u. Closes contents 1 u new r (followed end.bytes)) x.1 (subst (Closes contents 1 mid new r) text w))
    where
      end : Reached remaining contents from to b
      end = x.0

      go : (k : Result Unit RunError) → Closes contents 1 old new k (followed end.bytes) → FollowEnds remaining contents from to old new k
      go (Ok done) q = (record { bytes = end.bytes; read = end.read; holds = (end.replies, q) }, end.met)
      go (Err e) q =
          subst (λ k. FollowEnds remaining contents from to old new (Err k)) (sym q.0)
          (record { bytes = end.bytes; read = end.read; holds = (end.replies, q.1) }, end.met)

  -- where the reader tells its bytes
  pub follow_known : (new : Counted W) (r : Result Unit RunError) → FollowEnds remaining contents from to old new r
      → OnOk r (IfSome (remaining from.device) (λ bytes. AreReplies (lines bytes) × Appends (contents old.device) (contents new.device) (followed bytes)))
  follow_known new (Ok done) x =
      let s = x.0 in
      Consumes-whole (remaining from.device) (remaining to.device) s.bytes _ s.read.0 x.1.at_end (s.holds.0, s.holds.1.appended)
  follow_known new (Err e) x = tt

  -- ---- the lines of a least table

  pub shorten_stopped : (e : RunError) (new : Counted W) → Reaches remaining contents from to old new (Err e)
      → ShortenEnds remaining contents from to old new (Err e)
  shorten_stopped Why.Memory new x = (⊎_elim (λ e. inl e) (λ w. inr (inl w)) x.1.0, x.1.1)
  shorten_stopped Why.Read new x = x.1
  shorten_stopped Why.Write new x = absurd (x.0 refl)
  shorten_stopped Why.Line new x = x.1

  module _ (b : State) (mid : Counted W) (x : Reaches remaining contents from to old mid (Ok b)) where
    -- all was read, and there was no memory for the list
    pub shorten_wants : (e : RunError) → e ≡ Why.Memory → ShortenEnds remaining contents from to old mid (Err e)
    shorten_wants e is = rw is (inr (inr (record { bytes = x.0.bytes; read = x.0.read; holds = x.0.replies }, x.0.met)), x.1)

    -- all was read, and the lines written
    pub shorten_ended : (new : Counted W) (routes : List Route) (r : Result Unit RunError) → IsLeast (hop_at (routes_of b.table)) routes
        → Delivers contents mid new r (add_lines routes) → ShortenEnds remaining contents from to old new r
    shorten_ended new routes r least w = go r (subst (λ u. Delivers contents u new r (add_lines routes)) x.1 w)
      where
        end : Reached remaining contents from to b
        end = x.0

        is_least : IsLeast (painted_hop (committed (replies_in end.bytes))) routes
        is_least = least_too (hop_at (routes_of b.table)) (painted_hop (committed (replies_in end.bytes))) end.hops routes least

        go : (k : Result Unit RunError) → Delivers contents old new k (add_lines routes) → ShortenEnds remaining contents from to old new k
        go (Ok done) q = (record { bytes = end.bytes; read = end.read; holds = (end.replies, (routes, is_least, q)) }, end.met)
        go (Err e) q =
            subst (λ k. ShortenEnds remaining contents from to old new (Err k)) (sym q.0)
            (record { bytes = end.bytes; read = end.read; holds = (end.replies, (routes, is_least, q.1)) }, end.met)

  -- where the reader tells its bytes
  pub shorten_known : (new : Counted W) (r : Result Unit RunError) → ShortenEnds remaining contents from to old new r
      → OnOk r (IfSome (remaining from.device) (λ bytes. AreReplies (lines bytes) × AppendsLeast bytes (contents old.device) (contents new.device)))
  shorten_known new (Ok done) x =
      let s = x.0 in
      Consumes-whole (remaining from.device) (remaining to.device) s.bytes _ s.read.0 x.1.at_end (s.holds.0, (s.holds.1.0, s.holds.1.1, s.holds.1.2.appended))
  shorten_known new (Err e) x = tt
