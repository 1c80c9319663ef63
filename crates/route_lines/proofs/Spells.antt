-- The functions find the line that a text spells.
use Rattle.std.proofs.Common.{◌≡◌, ◌≢◌, ℕ, ◌^◌, ◌<◌, Bool, true, false, true≢false, cond, ◌&&◌, ◌==◌, nat_le, List, [], ◌∷◌, ◌++◌, length, take, drop, codes, decimal, Option, Some, None, MatchOption, option_map, option_and_then, refl, sym, ap, ◌∙◌, take-append-drop, take_at, unwrap_or, bytes_eq, arith}
use Rattle.std.specs.Str.Parse.{digits_value}
use Rattle.std.proofs.lemmas.Bool.{and_parts}
use Rattle.std.proofs.lemmas.Bool.Decides.{nat_tests}
use Rattle.std.proofs.lemmas.Fmt.{decimal_is_IsNumeral}
use Rattle.std.proofs.lemmas.List.Elements.{All-nil, All-cons}
use Rattle.std.proofs.lemmas.Slice.Eq.{bytes_eq-Decides}
use Rattle.ipnet.specs.IpNets.{block, network_at}
use Rattle.ipnet.specs.IpNetText.{ip_net_of, Reads}
use Rattle.ipnet.specs.declared.ip_net.IpNet.{IpNet}
use Rattle.ipnet.proofs.IpNetworks.{ip_found}
use Rattle.route_choices.specs.declared.hop.Hop.{Hop}
use Rattle.route_choices.specs.declared.hop.Hop.TheVariants.{Number, Drop}
use Rattle.route_lines.specs.InnerFree as Free
use Rattle.route_lines.specs.Phrase.{IsUnspaced, IsDecimal, Then, After}
use Rattle.route_lines.specs.InnerPhrase.{Gives, IsFree}
use Rattle.route_lines.specs.Words.{IsNet, IsHop, IsNumber, IsLimit, IsCount, IsPreference, IsOptional, IsPreferred}
use Rattle.route_choices.specs.Choices.{default_preference}
use Rattle.route_lines.specs.Texts.{IsCommand, IsReply, IsNote, IsUpdate, closing_text}
use Rattle.route_lines.specs.Spelled.{split, net_of_text, number_of_text, hop_of_text, optional_of_text, preferred_of_text, of_word, of_both, after_prefix, or_else, command_of, closing_of_text, reply_of, note_of, update_of}
use Rattle.route_lines.specs.declared.command.Command.TheVariants as C
use Rattle.route_lines.specs.declared.reply.Closing.{Closing}
use Rattle.route_lines.specs.declared.reply.Closing.TheVariants.{Done, Missing, Bad, Refused}
use Rattle.route_lines.specs.declared.reply.Reply.{Reply}
use Rattle.route_lines.specs.declared.reply.Reply.TheVariants as R
use Rattle.route_lines.specs.declared.fib_input.FibInput.{FibInput}
use Rattle.route_lines.specs.declared.fib_input.FibInput.TheVariants as N
use Rattle.route_lines.specs.declared.fib_update.FibUpdate.TheVariants as U
use Rattle.route_lines.proofs.Words.{not_two, no_first, no_second, both, gives_after}
use Rattle.route_lines.proofs.Exits.{no_optional, no_preferred, no_command, no_closing, no_reply, no_note, no_update}

-- ---- words

gives_net : (s : List ℕ) → Gives IsNet s (net_of_text s)
gives_net s = go (ip_net_of s) (ip_found s)
  where
    go : (o : Option IpNet) → MatchOption o ((n : IpNet) → Reads s n → ⊥) (Reads s) → Gives IsNet s (option_map (λ n. network_at (block n)) o)
    go None h = λ net k. h k.0 k.1
    go (Some n) h = (n, h, refl)

gives_number : (low high : ℕ) → high < 2 ^ 64 → (s : List ℕ) → Gives (IsDecimal low high) s (number_of_text low high s)
gives_number low high bound s = go (bytes_eq s (decimal (digits_value 10 s)) && nat_le low (digits_value 10 s) && nat_le (digits_value 10 s) high) refl
  where
    go : (b : Bool) → (bytes_eq s (decimal (digits_value 10 s)) && nat_le low (digits_value 10 s) && nat_le (digits_value 10 s) high) ≡ b → Gives (IsDecimal low high) s (cond b (Some (digits_value 10 s)) None)
    go true e =
        let p = and_parts (bytes_eq s (decimal (digits_value 10 s)) && nat_le low (digits_value 10 s)) (nat_le (digits_value 10 s) high) e in
        let q = and_parts (bytes_eq s (decimal (digits_value 10 s))) (nat_le low (digits_value 10 s)) p.0 in
        ((bytes_eq-Decides s (decimal (digits_value 10 s))).0 q.0, grind (arith, nat_tests, q.1), grind (arith, nat_tests, p.1))
    go false e = λ m h.
        let v : digits_value 10 s ≡ m = ap (digits_value 10) h.0 ∙ (decimal_is_IsNumeral m (omega (arith, h.2))).1 in
        let same : bytes_eq s (decimal (digits_value 10 s)) ≡ true = (bytes_eq-Decides s (decimal (digits_value 10 s))).1 (h.0 ∙ ap decimal (sym v)) in
        let low_test : nat_le low (digits_value 10 s) ≡ true = let l = h.1 in grind (arith, nat_tests) in
        let high_test : nat_le (digits_value 10 s) high ≡ true = let l = h.2 in grind (arith, nat_tests) in
        true≢false (sym ((λ i. same i && low_test i && high_test i)) ∙ e)

gives_hop : (s : List ℕ) → Gives IsHop s (hop_of_text s)
gives_hop s = go (bytes_eq s (codes "drop")) refl
  where
    numbers : (o : Option ℕ) → (s ≡ codes "drop" → ⊥) → Gives IsNumber s o → Gives IsHop s (option_map Number o)
    numbers None other h = none
      where
        none : (k : Hop) → ¬ (IsHop s k)
        none (Number n) k = h n k
        none Drop k = other k
    numbers (Some n) other h = h

    go : (b : Bool) → bytes_eq s (codes "drop") ≡ b → Gives IsHop s (cond b (Some Drop) (option_map Number (number_of_text 0 0xffffffff s)))
    go true e = (bytes_eq-Decides s (codes "drop")).0 e
    go false e = numbers (number_of_text 0 0xffffffff s) (λ h. true≢false (sym ((bytes_eq-Decides s (codes "drop")).1 h) ∙ e)) (gives_number 0 0xffffffff (omega arith) s)

-- ---- two words, and a word after a prefix

parted : (s : List ℕ) → MatchOption (split s) (IsUnspaced s) (λ p. (s ≡ p.0 ++ 32 ∷ p.1) × IsUnspaced p.0)
parted [] = All-nil (λ c. c ≢ 32)
parted (c ∷ cs) = go (c == 32) refl (split cs) (parted cs)
  where
    go : (b : Bool) → (c == 32) ≡ b → (o : Option (List ℕ × List ℕ)) → MatchOption o (IsUnspaced cs) (λ p. (cs ≡ p.0 ++ 32 ∷ p.1) × IsUnspaced p.0)
        → MatchOption {T = List ℕ × List ℕ} (cond b (Some ([], cs)) (option_map (λ p. (c ∷ p.0, p.1)) o)) (IsUnspaced (c ∷ cs)) (λ p. (c ∷ cs ≡ p.0 ++ 32 ∷ p.1) × IsUnspaced p.0)
    go true e o h =
        let q : c ≡ 32 = grind (arith, nat_tests, e) in
        let r : (c ∷ cs ≡ [] ++ 32 ∷ cs) × IsUnspaced [] = (ap (λ x. x ∷ cs) q, All-nil (λ c. c ≢ 32)) in
        r
    go false e None h = All-cons (λ c. c ≢ 32) c cs (λ q. let t : (c == 32) ≡ true = grind (arith, nat_tests, q) in true≢false (sym t ∙ e)) h
    go false e (Some p) h =
        let other : c ≢ 32 = λ q. let t : (c == 32) ≡ true = grind (arith, nat_tests, q) in true≢false (sym t ∙ e) in
        let r : (c ∷ cs ≡ (c ∷ p.0) ++ 32 ∷ p.1) × IsUnspaced (c ∷ p.0) = (ap (λ x. c ∷ x) h.0, All-cons (λ c. c ≢ 32) c p.0 other h.1) in
        r

module _ {A B : Type 0} (P : List ℕ → A → Type 0) (Q : List ℕ → B → Type 0) (f : List ℕ → Option A) (g : List ℕ → Option B) (free : IsFree P) (p : (s : List ℕ) → Gives P s (f s)) (q : (s : List ℕ) → Gives Q s (g s)) where
  gives_both : (s : List ℕ) → Gives (Then P Q) s (of_both f g s)
  gives_both s = go (split s) (parted s)
    where
      second : (front back : List ℕ) (a : A) → s ≡ front ++ 32 ∷ back → IsUnspaced front → P front a → (o : Option B) → Gives Q back o → Gives (Then P Q) s (option_map (λ b. (a, b)) o)
      second front back a e u h None k = λ x. no_second s front back x free e u k
      second front back a e u h (Some b) k = both s front back a b e h k

      first : (front back : List ℕ) → s ≡ front ++ 32 ∷ back → IsUnspaced front → (o : Option A) → Gives P front o → Gives (Then P Q) s (option_and_then (λ a. option_map (λ b. (a, b)) (g back)) o)
      first front back e u None h = λ x. no_first s front back x free e u h
      first front back e u (Some a) h = second front back a e u h (g back) (q back)

      go : (o : Option (List ℕ × List ℕ)) → MatchOption o (IsUnspaced s) (λ r. (s ≡ r.0 ++ 32 ∷ r.1) × IsUnspaced r.0) → Gives (Then P Q) s (option_and_then (λ r. option_and_then (λ a. option_map (λ b. (a, b)) (g r.1)) (f r.0)) o)
      go None u = λ x. not_two s x u
      go (Some r) h = first r.0 r.1 h.0 h.1 (f r.0) (p r.0)

gives_prefix : {A : Type 0} (P : List ℕ → A → Type 0) (prefix : List ℕ) (f : List ℕ → Option A) → ((s : List ℕ) → Gives P s (f s)) → (s : List ℕ) → Gives (After prefix P) s (after_prefix prefix f s)
gives_prefix P prefix f p s = go (bytes_eq (take (length prefix) s) prefix) refl
  where
    go : (b : Bool) → bytes_eq (take (length prefix) s) prefix ≡ b → Gives (After prefix P) s (cond b (f (drop (length prefix) s)) None)
    go true e =
        let front : take (length prefix) s ≡ prefix = (bytes_eq-Decides (take (length prefix) s) prefix).0 e in
        gives_after P s prefix (drop (length prefix) s) (f (drop (length prefix) s)) (sym (take-append-drop (length prefix) s) ∙ ap (λ t. t ++ drop (length prefix) s) front) (p (drop (length prefix) s))
    go false e = λ x h.
        let front : take (length prefix) s ≡ prefix = ap (take (length prefix)) h.spelled ∙ take_at prefix h.rest (length prefix) refl in
        true≢false (sym ((bytes_eq-Decides (take (length prefix) s) prefix).1 front) ∙ e)

-- ---- lines

-- one kind of line, or the others where it is none of this kind
or_kind : {A L : Type 0} (P : List ℕ → A → Type 0) (IsLine : List ℕ → L → Type 0) (make : A → L) (s : List ℕ) (o : Option A) (rest : Option L)
    → ((a : A) → P s a → IsLine s (make a)) → Gives P s o → (((a : A) → ¬ (P s a)) → Gives IsLine s rest) → Gives IsLine s (or_else (option_map make o) rest)
or_kind P IsLine make s None rest is h more = more h
or_kind P IsLine make s (Some a) rest is h more = is a h

or_word : {L : Type 0} (IsLine : List ℕ → L → Type 0) (word : List ℕ) (x : L) (s : List ℕ) (rest : Option L)
    → (s ≡ word → IsLine s x) → (s ≢ word → Gives IsLine s rest) → Gives IsLine s (or_else (of_word word x s) rest)
or_word IsLine word x s rest is more = go (bytes_eq s word) refl
  where
    go : (b : Bool) → bytes_eq s word ≡ b → Gives IsLine s (or_else (cond b (Some x) None) rest)
    go true e = is ((bytes_eq-Decides s word).0 e)
    go false e = more (λ h. true≢false (sym ((bytes_eq-Decides s word).1 h) ∙ e))

last_word : {L : Type 0} (IsLine : List ℕ → L → Type 0) (word : List ℕ) (x : L) (s : List ℕ) → (s ≡ word → IsLine s x) → (s ≢ word → (l : L) → ¬ (IsLine s l)) → Gives IsLine s (of_word word x s)
last_word IsLine word x s is none = go (bytes_eq s word) refl
  where
    go : (b : Bool) → bytes_eq s word ≡ b → Gives IsLine s (cond b (Some x) None)
    go true e = is ((bytes_eq-Decides s word).0 e)
    go false e = none (λ h. true≢false (sym ((bytes_eq-Decides s word).1 h) ∙ e))

gives_net_number : (low high : ℕ) → high < 2 ^ 64 → (s : List ℕ) → Gives (Then IsNet (IsDecimal low high)) s (of_both net_of_text (number_of_text low high) s)
gives_net_number low high bound = gives_both IsNet (IsDecimal low high) net_of_text (number_of_text low high) Free.net gives_net (gives_number low high bound)

gives_net_and : {B : Type 0} (Q : List ℕ → B → Type 0) (g : List ℕ → Option B) → ((s : List ℕ) → Gives Q s (g s)) → (s : List ℕ) → Gives (Then IsNet Q) s (of_both net_of_text g s)
gives_net_and Q g q = gives_both IsNet Q net_of_text g Free.net gives_net q

gives_hop_preference : (s : List ℕ) → Gives (Then IsHop IsPreference) s (of_both hop_of_text (number_of_text 0 0xffff) s)
gives_hop_preference = gives_both IsHop IsPreference hop_of_text (number_of_text 0 0xffff) Free.hop gives_hop (gives_number 0 0xffff (omega arith))

gives_optional : (s : List ℕ) → Gives IsOptional s (optional_of_text s)
gives_optional s = go (of_both hop_of_text (number_of_text 0 0xffff) s) (gives_hop_preference s) (hop_of_text s) (gives_hop s)
  where
    go : (p : Option (Hop × ℕ)) → Gives (Then IsHop IsPreference) s p → (o : Option Hop) → Gives IsHop s o → Gives IsOptional s (or_else (option_map (λ x. (x.0, Some x.1)) p) (option_map (λ hop. (hop, None)) o))
    go (Some x) h o k = h
    go None h None k = no_optional s h k
    go None h (Some hop) k = k

gives_preferred : (s : List ℕ) → Gives IsPreferred s (preferred_of_text s)
gives_preferred s = go (optional_of_text s) (gives_optional s)
  where
    go : (o : Option (Hop × Option ℕ)) → Gives IsOptional s o → Gives IsPreferred s (option_map (λ x. (x.0, unwrap_or x.1 default_preference)) o)
    go None h = no_preferred s h
    go (Some x) h = (x.1, h, refl)

pub command_found : (s : List ℕ) → Gives IsCommand s (command_of s)
unfolding command_of
command_found s =
    or_kind (After (codes "add ") (Then IsNet IsPreferred)) IsCommand (λ x. C.Add x.0 x.1.0 x.1.1) s _ _ (λ x h. h) (gives_prefix (Then IsNet IsPreferred) (codes "add ") (of_both net_of_text preferred_of_text) (gives_net_and IsPreferred preferred_of_text gives_preferred) s) (λ add.
    or_kind (After (codes "del ") (Then IsNet IsHop)) IsCommand (λ x. C.Del x.0 x.1) s _ _ (λ x h. h) (gives_prefix (Then IsNet IsHop) (codes "del ") (of_both net_of_text hop_of_text) (gives_net_and IsHop hop_of_text gives_hop) s) (λ del.
    or_kind (After (codes "get ") IsNet) IsCommand C.Get s _ _ (λ x h. h) (gives_prefix IsNet (codes "get ") net_of_text gives_net s) (λ get.
    or_kind (After (codes "cover ") IsNet) IsCommand C.Cover s _ _ (λ x h. h) (gives_prefix IsNet (codes "cover ") net_of_text gives_net s) (λ cover.
    or_kind (After (codes "list ") IsNet) IsCommand C.List s _ _ (λ x h. h) (gives_prefix IsNet (codes "list ") net_of_text gives_net s) (λ list.
    or_kind (After (codes "all ") IsNet) IsCommand C.All s _ _ (λ x h. h) (gives_prefix IsNet (codes "all ") net_of_text gives_net s) (λ all.
    or_kind (After (codes "from ") (Then IsNet IsLimit)) IsCommand (λ x. C.PageFrom x.0 x.1) s _ _ (λ x h. h) (gives_prefix (Then IsNet IsLimit) (codes "from ") (of_both net_of_text (number_of_text 1 1000)) (gives_net_number 1 1000 (omega arith)) s) (λ from.
    or_kind (After (codes "after ") (Then IsNet IsLimit)) IsCommand (λ x. C.PageAfter x.0 x.1) s _ _ (λ x h. h) (gives_prefix (Then IsNet IsLimit) (codes "after ") (of_both net_of_text (number_of_text 1 1000)) (gives_net_number 1 1000 (omega arith)) s) (λ after.
    or_kind (After (codes "own ") IsNumber) IsCommand C.Own s _ _ (λ x h. h) (gives_prefix IsNumber (codes "own ") (number_of_text 0 0xffffffff) (gives_number 0 0xffffffff (omega arith)) s) (λ own.
    or_word IsCommand (codes "count") C.Count s _ (λ h. h) (λ count.
    last_word IsCommand (codes "flat") C.Flat s (λ h. h) (λ flat. no_command s add del get cover list all from after own count flat)))))))))))

closing_found : (s : List ℕ) → Gives (λ text c. text ≡ closing_text c) s (closing_of_text s)
closing_found s =
    or_word (λ text c. text ≡ closing_text c) (codes "ok") Done s _ (λ h. h) (λ done.
    or_word (λ text c. text ≡ closing_text c) (codes "none") Missing s _ (λ h. h) (λ missing.
    or_word (λ text c. text ≡ closing_text c) (codes "bad") Bad s _ (λ h. h) (λ bad.
    last_word (λ text c. text ≡ closing_text c) (codes "refused") Refused s (λ h. h) (λ refused. no_closing s done missing bad refused))))

closes : (s : List ℕ) (o : Option Closing) → Gives (λ text c. text ≡ closing_text c) s o → (((c : Closing) → s ≢ closing_text c) → (r : Reply) → ¬ (IsReply s r)) → Gives IsReply s (option_map R.Close o)
closes s None h none = none h
closes s (Some c) h none = h

pub reply_found : (s : List ℕ) → Gives IsReply s (reply_of s)
unfolding reply_of
reply_found s =
    or_kind (After (codes "set ") (Then IsNet IsNumber)) IsReply (λ x. R.Set x.0 x.1) s _ _ (λ x h. h) (gives_prefix (Then IsNet IsNumber) (codes "set ") (of_both net_of_text (number_of_text 0 0xffffffff)) (gives_net_number 0 0xffffffff (omega arith)) s) (λ set.
    or_kind (After (codes "unset ") IsNet) IsReply R.Unset s _ _ (λ x h. h) (gives_prefix IsNet (codes "unset ") net_of_text gives_net s) (λ unset.
    or_kind (After (codes "route ") (Then IsNet IsOptional)) IsReply (λ x. R.Route x.0 x.1.0 x.1.1) s _ _ (λ x h. h)
    (gives_prefix (Then IsNet IsOptional) (codes "route ") (of_both net_of_text optional_of_text) (gives_net_and IsOptional optional_of_text gives_optional) s) (λ route.
    or_kind (After (codes "flat ") (Then IsNet IsNumber)) IsReply (λ x. R.Flat x.0 x.1) s _ _ (λ x h. h) (gives_prefix (Then IsNet IsNumber) (codes "flat ") (of_both net_of_text (number_of_text 0 0xffffffff)) (gives_net_number 0 0xffffffff (omega arith)) s) (λ flat.
    or_kind (After (codes "own ") IsNet) IsReply R.Own s _ _ (λ x h. h) (gives_prefix IsNet (codes "own ") net_of_text gives_net s) (λ own.
    or_kind (After (codes "count ") (Then IsCount IsCount)) IsReply (λ x. R.Count x.0 x.1) s _ _ (λ x h. h)
    (gives_prefix (Then IsCount IsCount) (codes "count ") (of_both (number_of_text 0 0xffffffffffffffff) (number_of_text 0 0xffffffffffffffff))
    (gives_both IsCount IsCount (number_of_text 0 0xffffffffffffffff) (number_of_text 0 0xffffffffffffffff) (Free.decimal_word 0 0xffffffffffffffff (omega arith)) (gives_number 0 0xffffffffffffffff (omega arith)) (gives_number 0 0xffffffffffffffff (omega arith))) s) (λ count.
    closes s (closing_of_text s) (closing_found s) (λ close. no_reply s set unset route flat own count close)))))))

gives_net_hop : (s : List ℕ) → Gives (Then IsNet IsHop) s (of_both net_of_text hop_of_text s)
gives_net_hop = gives_net_and IsHop hop_of_text gives_hop

replies : (s : List ℕ) (o : Option Reply) → Gives IsReply s o → (((r : Reply) → ¬ (IsReply s r)) → (n : FibInput) → ¬ (IsNote s n)) → Gives IsNote s (option_map N.Reply o)
replies s None h none = none h
replies s (Some r) h none = h

pub note_found : (s : List ℕ) → Gives IsNote s (note_of s)
unfolding note_of
note_found s =
    or_kind (After (codes "have ") (Then IsNet IsHop)) IsNote (λ x. N.Have x.0 x.1) s _ _ (λ x h. h) (gives_prefix (Then IsNet IsHop) (codes "have ") (of_both net_of_text hop_of_text) gives_net_hop s) (λ have.
    or_word IsNote (codes "sync") N.Sync s _ (λ h. h) (λ sync.
    replies s (reply_of s) (reply_found s) (λ reply. no_note s have sync reply)))

pub update_found : (s : List ℕ) → Gives IsUpdate s (update_of s)
unfolding update_of
update_found s =
    or_kind (After (codes "install ") (Then IsNet IsHop)) IsUpdate (λ x. U.Install x.0 x.1) s _ _ (λ x h. h) (gives_prefix (Then IsNet IsHop) (codes "install ") (of_both net_of_text hop_of_text) gives_net_hop s) (λ install.
    or_kind (After (codes "remove ") IsNet) IsUpdate U.Remove s _ _ (λ x h. h) (gives_prefix IsNet (codes "remove ") net_of_text gives_net s) (λ remove.
    last_word IsUpdate (codes "ok") U.Done s (λ h. h) (λ done. no_update s install remove done)))
