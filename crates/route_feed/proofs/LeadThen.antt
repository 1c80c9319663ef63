-- What a leader writes, as a function of the bytes and of the refusals.
use Rattle.std.proofs.Common.{◌≡◌, ℕ, suc, ◌+◌, inl, inr, ⊎_elim, Bool, true, false, List, [], ◌∷◌, ◌++◌, length, map, take, Option, None, IfSome, Result, Ok, Err, refl, sym, ap, ◌∙◌, subst, append_assoc, append-nil, IsErr, OnOk, arith}
use Rattle.std.specs.Io.KnownBytes.{Appends}
use Rattle.std.proofs.KnownBytes.{Appends-trans, Consumes-whole}
use Rattle.std.proofs.lemmas.Grind.{flat_map-append}
use Rattle.route_lines.specs.Bytes.{lines, rest}
use Rattle.route_lines.specs.Lines.{line_of, rest_of}
use Rattle.route_lines.specs.Spelled.{command_of}
use Rattle.route_lines.specs.declared.command.Command.{Command}
use Rattle.route_lines.specs.declared.cutter.Line.{Line}
use Rattle.route_lines.specs.declared.cutter.Rest.{Rest}
use Rattle.route_lines.specs.declared.cutter.Rest.TheVariants.{Held}
use Rattle.route_laws.specs.Networks.{Stored}
use Rattle.route_program.specs.declared.counted.Counted.{Counted}
use Rattle.route_program.specs.declared.error.RunError.{RunError}
use Rattle.route_program.specs.declared.error.RunError.TheVariants as Why
use Rattle.route_program.specs.Counted.{CanCount, more_by}
use Rattle.route_feed.specs.InnerReplies.{replies_to_rest, reply_to_rest}
use Rattle.route_feed.specs.Lines.{command_in, reply_line}
use Rattle.route_program.specs.Run.{TakesAll, Runs}
use Rattle.route_feed.specs.LeadsLine.{Answers}
use Rattle.route_feed.specs.Leads.{LeadEnds, Stopped}
use Rattle.route_feed.specs.Output.{replies, whole_commands, at_end, output}
use Rattle.route_feed.specs.Replies.{printed}
use Rattle.route_feed.specs.Steps.{step, may_refuse, answer_lines}
use Rattle.route_program.specs.Devices.{Closed, Closes, Torn}
use Rattle.route_feed.proofs.ReadLines.{of_commands, piece_spells}
use Rattle.route_feed.proofs.Beginnings.{all_answered, lines_answered}
use Rattle.route_program.proofs.Written.{Closed-nil, Closed-after}

-- the refusals of one command
abbrev refusals_of : Bool → Bool → List Bool
refusals_of true x = x ∷ []
refusals_of false x = []

module _ {W : Type 0} (contents : W → Option (List ℕ)) where
  -- another fault can be counted after an answer
  pub answer_counts : (M N : List Stored) (command : Option Command) (old new : Counted W) (r : Result Unit RunError) → Answers contents M N command old new r → CanCount old → OnOk r (CanCount new)
  answer_counts M N command old new (Ok x) a h = rw a.reply.faults h
  answer_counts M N command old new (Err e) a h = tt

  abbrev pub Takes : List Stored → Line → Counted W → Result Unit RunError → List Stored → Counted W → Type 0
  Takes M line old r N new = Answers contents M N (command_in line) old new r

  -- the replies to these commands were written and flushed
  abbrev Answered : List Stored → List (Option Command) → List Bool → Counted W → Counted W → Type 0
  Answered M commands refusals old new = Closed contents (length commands) old new (printed (replies M commands refusals))

  -- ---- a first command

  module _ (M : List Stored) (command : Option Command) (x : Bool) where
    abbrev text : List ℕ
    text = printed (answer_lines (step M command x))

    abbrev next : List Stored
    next = (step M command x).next

    abbrev with_own : List Bool → List Bool
    with_own refusals = refusals_of (may_refuse M command) x ++ refusals

    -- it takes its value of the refusals, if it may be refused, and leaves the others
    printed_after : (commands : List (Option Command)) (refusals : List Bool)
        → printed (replies M (command ∷ commands) (with_own refusals)) ≡ text ++ printed (replies next commands refusals)
    printed_after commands refusals =
        ap printed (go (may_refuse M command) refl)
        ∙ flat_map-append reply_line (answer_lines (step M command x)) (replies next commands refusals)
      where
        go : (may : Bool) → may_refuse M command ≡ may
            → replies M (command ∷ commands) (refusals_of may x ++ refusals)
            ≡ answer_lines (step M command x) ++ replies (step M command x).next commands refusals
        go true e = rw e refl
        go false e = rw e refl

    Answered-more : (commands : List (Option Command)) (old mid new : Counted W) (refusals : List Bool)
        → Closed contents 1 old mid text → Answered next commands refusals mid new → Answered M (command ∷ commands) (with_own refusals) old new
    Answered-more commands old mid new refusals p q =
        subst (Closed contents (length (command ∷ commands)) old new) (sym (printed_after commands refusals))
        (Closed-after contents (command ∷ []) commands old mid new _ _ p q)

    -- the writer failed in the first reply
    Stopped-first : (commands : List (Option Command)) (old new : Counted W) → Torn contents old new text
        → Stopped contents M (command ∷ commands) (with_own []) old new
    Stopped-first commands old new q =
        let later = printed (replies next commands []) in
        record {
          front = q.front;
          back = q.back ++ later;
          answered = 0;
          is_front = printed_after commands [] ∙ ap (λ t. t ++ later) q.is_front ∙ append_assoc q.front q.back later;
          appended = q.appended;
          begun = q.front;
          missing = q.back;
          another = omega arith;
          is = refl;
          next = printed_after [] [] ∙ append-nil text ∙ q.is_front;
          flushed = q.flushes;
          failed = q.failed;
        }

    -- after the first reply
    Stopped-more : (commands : List (Option Command)) (old mid new : Counted W) (refusals : List Bool)
        → Closed contents 1 old mid text → Stopped contents next commands refusals mid new → Stopped contents M (command ∷ commands) (with_own refusals) old new
    Stopped-more commands old mid new refusals p q =
        let first = λ (n : ℕ). printed_after (take n commands) refusals in
        let done = printed (replies next (take q.answered commands) refusals) in
        record {
          front = text ++ q.front;
          back = q.back;
          answered = suc q.answered;
          is_front = printed_after commands refusals ∙ ap (λ t. text ++ t) q.is_front ∙ sym (append_assoc text q.front q.back);
          appended = Appends-trans _ _ _ text q.front p.appended q.appended;
          begun = q.begun;
          missing = q.missing;
          another = omega (arith, q.another);
          is = ap (λ t. text ++ t) q.is ∙ sym (append_assoc text done q.begun) ∙ ap (λ t. t ++ q.begun) (sym (first q.answered));
          next = first (suc q.answered) ∙ ap (λ t. text ++ t) q.next ∙ sym (append_assoc text q.front q.missing);
          flushed = q.flushed ∙ ap (more_by q.answered) p.flushed.0;
          failed = (q.failed.0 ∙ ap (λ n. n + 1) p.faults, q.failed.1);
        }

  -- ---- pieces

  -- a piece was answered as its command
  answer_of : (M N : List Stored) (piece : List ℕ) (old new : Counted W) (r : Result Unit RunError)
      → Takes M (line_of piece) old r N new → Answers contents M N (command_of piece) old new r
  answer_of M N piece old new r a = subst (λ c. Answers contents M N c old new r) (piece_spells of_commands piece) a

  -- all pieces were answered: what holds of the commands after them holds of all commands
  module _ (E : List Stored → List (Option Command) → List Bool → Counted W → Counted W → Type 0)
      (more : (M : List Stored) (command : Option Command) (x : Bool) (commands : List (Option Command)) (old mid new : Counted W)
      → (refusals : List Bool) → Closed contents 1 old mid (text M command x)
      → E (next M command x) commands refusals mid new → E M (command ∷ commands) (with_own M command x refusals) old new)
      (N : List Stored) (after : List (Option Command)) where
    answered : (M : List Stored) (ps : List (List ℕ)) (old mid new : Counted W)
        → TakesAll Takes M (map line_of ps) old (Ok tt) N mid → (refusals : List Bool) × E N after refusals mid new
        → (refusals : List Bool) × E M (map command_of ps ++ after) refusals old new
    answered M [] old mid new t k = (k.0, subst (λ T. E T after k.0 old new) t.1 (subst (λ w. E N after k.0 w new) t.2 k.1))
    answered M (p ∷ ps) old mid new t k = ⊎_elim
        (λ q.
        let a = answer_of M q.0 p old q.1 (Ok tt) q.2 in
        let (refusals, later) = answered q.0 ps q.1 mid new q.3 k in
        let commands = map command_of ps ++ after in
        let then = subst (λ T. E T commands refusals q.1 new) a.table later in
        (with_own M (command_of p) a.refused refusals, more M (command_of p) a.refused commands old q.1 new refusals a.reply then))
        (λ q. absurd (cc (q.0)))
        t

  -- the writer failed
  stopped : (M N : List Stored) (ps : List (List ℕ)) (old new : Counted W) (e : RunError)
      → TakesAll Takes M (map line_of ps) old (Err e) N new
      → (refusals : List Bool) × (e ≡ Why.Write) × Stopped contents M (map command_of ps) refusals old new
  stopped M N [] old new e t = absurd (cc (t.0))
  stopped M N (p ∷ ps) old new e t = ⊎_elim
      (λ q.
      let a = answer_of M q.0 p old q.1 (Ok tt) q.2 in
      let (refusals, write, later) = stopped q.0 N ps q.1 new e q.3 in
      let commands = map command_of ps in
      let then = subst (λ T. Stopped contents T commands refusals q.1 new) a.table later in (
        with_own M (command_of p) a.refused refusals,
        write,
        Stopped-more M (command_of p) a.refused commands old q.1 new refusals a.reply then,
      ))
      (λ q.
      let a = answer_of M N p old new (Err e) q.1 in (
        with_own M (command_of p) a.refused [],
        a.reply.0,
        Stopped-first M (command_of p) a.refused (map command_of ps) old new a.reply.1,
      ))
      t

  -- what stands after the last line end is answered, if there is anything
  end_answered : (M : List Stored) (bs : List ℕ) (old new : Counted W)
      → Closed contents (replies_to_rest (rest_of bs)) old new (reply_to_rest (rest_of bs)) → Answered M (at_end bs) [] old new
  end_answered M [] old new q = q
  end_answered M (b ∷ bs) old new q = q

  end_stopped : (M : List Stored) (bs : List ℕ) (old new : Counted W) → rest_of bs ≡ Held
      → Torn contents old new (reply_to_rest (rest_of bs)) → Stopped contents M (at_end bs) [] old new
  end_stopped M [] old new held q = absurd (cc)
  end_stopped M (b ∷ bs) old new held q = Stopped-first M None false [] old new q

-- ---- a run of a new leader

module _ {R W : Type 0} (remaining : R → Option (List ℕ)) (contents : W → Option (List ℕ)) (from to : Counted R) (old : Counted W) (N : List Stored) where
  lines_closed : (bytes : List ℕ) (mid : Counted W) → TakesAll (Takes contents) [] (map line_of (lines bytes)) old (Ok tt) N mid
      → (refusals : List Bool) × Answered contents [] (whole_commands bytes) refusals old mid
  lines_closed bytes mid t =
      subst (λ cs. (refusals : List Bool) × Answered contents [] cs refusals old mid) (append-nil (whole_commands bytes))
      (answered contents (Answered contents) (Answered-more contents) N [] [] (lines bytes) old mid mid t ([], Closed-nil contents mid))

  -- that did not reach the end
  pub lead_stopped : (e : RunError) (new : Counted W) → Runs (Takes contents) remaining [] from old (Err e) N to new
      → LeadEnds remaining contents from to old new (Err e)
  lead_stopped e new x = ⊎_elim
      (λ p.
      let a = lines_closed x.bytes new p.0 in
      subst (λ k. LeadEnds remaining contents from to old new (Err k)) (sym p.1)
      (record { bytes = x.bytes; read = x.read; holds = (a.0, rw (lines_answered x.bytes a.0) a.1) }, p.2))
      (λ p.
      let a = stopped contents [] N (lines x.bytes) old new e p.0 in
      subst (λ k. LeadEnds remaining contents from to old new (Err k)) (sym a.1) (inl (record { bytes = x.bytes; read = x.read; holds = (a.0, a.2) }, p.1)))
      x.ends

  module _ (left : Rest) (mid : Counted W) (x : Runs (Takes contents) remaining [] from old (Ok left) N to mid) where
    pub lead_counts : CanCount old → CanCount mid
    lead_counts h = rw (lines_closed x.bytes mid x.ends.0).1.faults h

    -- that did, and wrote the reply to the rest
    pub lead_ended : (new : Counted W) (r : Result Unit RunError) → Closes contents (replies_to_rest left) mid new r (reply_to_rest left) → (IsErr r → left ≡ Held) → LeadEnds remaining contents from to old new r
    lead_ended new (Ok done) w held =
        let last = rw x.ends.1 at w in
        let bs = rest x.bytes in
        let a = answered contents (Answered contents) (Answered-more contents) N (at_end bs) [] (lines x.bytes) old mid new x.ends.0
        ([], end_answered contents N bs mid new last) in
        (record { bytes = x.bytes; read = x.read; holds = (a.0, rw (all_answered x.bytes a.0) a.1) }, x.ends.2)
    lead_ended new (Err e) w held =
        let last = rw x.ends.1 at w.1 in
        let bs = rest x.bytes in
        let a = answered contents (Stopped contents) (Stopped-more contents) N (at_end bs) [] (lines x.bytes) old mid new x.ends.0
        ([], end_stopped contents N bs mid new (sym x.ends.1 ∙ held refl) last) in
        subst (λ k. LeadEnds remaining contents from to old new (Err k)) (sym w.0)
        (inr (record { bytes = x.bytes; read = x.read; holds = a }, x.ends.2))

-- where the reader tells its bytes
pub lead_known : {R W : Type 0} (remaining : R → Option (List ℕ)) (contents : W → Option (List ℕ)) (from to : Counted R) (old new : Counted W) (r : Result Unit RunError) → LeadEnds remaining contents from to old new r
    → OnOk r (IfSome (remaining from.device) (λ bytes. (refusals : List Bool) × Appends (contents old.device) (contents new.device) (output bytes refusals)))
lead_known remaining contents from to old new (Ok done) x = Consumes-whole (remaining from.device) (remaining to.device) x.0.bytes _ x.0.read.0 x.1.at_end (x.0.holds.0, x.0.holds.1.appended)
lead_known remaining contents from to old new (Err e) x = tt
