-- What the laws ask of each relation of the grammar: one value, a longest text, no line end. Built up word by word.
use Rattle.std.proofs.Common.{◌≡◌, ◌≢◌, ℕ, ◌+◌, ◌^◌, ◌<◌, ◌≤◌, true, List, [], ◌∷◌, ◌++◌, length, All, codes, decimal, refl, sym, ap, ap₂, ◌∙◌, subst, length-append, Option, Some, None, ltb-true, arith}
use Rattle.std.specs.Prelude.{⊤, ltb, unwrap_or}
use Rattle.std.specs.List.{list_all}
use Rattle.std.proofs.lemmas.List.{append_cancel_left}
use Rattle.std.proofs.lemmas.List.Elements.{All-append}
use Rattle.std.proofs.lemmas.List.Sums.{AllPass-from_list_all}
use Rattle.std.proofs.lemmas.Fmt.{decimal_injective, decimal_is_IsNumeral, length-decimal-le}
use Rattle.std.specs.Str.Parse.{AllDigits}
use Rattle.std.specs.Char.{digit_value}
use Rattle.ipnet.specs.IpNets.{block, network_at}
use Rattle.ipnet.specs.declared.ip_net.IpNet.{IpNet}
use Rattle.ipnet.proofs.NoSpace.{no_line_end}
use Rattle.ipnet.proofs.Longest.{longest}
use Rattle.ipnet.proofs.IpNetworks.{ip_unique}
use Rattle.route_lines.specs.Grammar.{IsGrammar}
use Rattle.route_lines.specs.Phrase.{IsDecimal, Then, After}
use Rattle.route_lines.specs.InnerPhrase.{IsFree}
use Rattle.route_lines.specs.Words.{IsNet, IsNumber, IsLimit, IsCount, IsHop, IsPreference, IsOptional, IsPreferred}
use Rattle.route_choices.specs.Choices.{default_preference}
use Rattle.route_choices.specs.declared.hop.Hop.{Hop}
use Rattle.route_choices.specs.declared.hop.Hop.TheVariants.{Number, Drop}
use Rattle.route_lines.specs.InnerFree as Free
use Rattle.route_lines.proofs.Words.{same_word, split_at, not_two}

-- of a text that is written out
pub written : (text : List ℕ) → list_all (ltb 10) text ≡ true → All (λ c. c ≢ 10) text
written text e = λ k d within same. (let above = ltb-true 10 _ (AllPass-from_list_all (ltb 10) text e k d within) in omega arith)

and : (xs ys : List ℕ) → All (λ c. c ≢ 10) xs → All (λ c. c ≢ 10) ys → All (λ c. c ≢ 10) (xs ++ ys)
and xs ys h k = All-append (λ c. c ≢ 10) xs ys h k

pub word : (text : List ℕ) (limit : ℕ) → list_all (ltb 10) text ≡ true → length text ≤ limit → IsGrammar {A = ⊤} (λ t x. t ≡ text) limit
word text limit e within = record { one = λ t a b h k. refl; short = λ t a h. omega (arith, ap length h); clean = λ t a h. rw h (written text e) }

pub net : IsGrammar IsNet 51
net = record {
  one = λ t a b h k. h.2 ∙ ap (λ (n : IpNet). network_at (block n)) (ip_unique t h.0 k.0 h.1 k.1) ∙ sym k.2;
  short = λ t a h. longest t h.0 h.1;
  clean = λ t a h. no_line_end t h.0 h.1;
}

digits : (text : List ℕ) → AllDigits 10 text → All (λ c. c ≢ 10) text
digits [] h = written [] refl
digits (c ∷ cs) h =
    let other : c ≢ 10 = λ end. (let below : digit_value 10 < 10 = rw end at h.0 in omega arith) in
    and (c ∷ []) cs (λ k d within. (let first : k ≡ 0 = omega arith in rw first other)) (digits cs h.1)

pub number : (low high count : ℕ) → 0 < count → high < 2 ^ 64 → high < 10 ^ count → IsGrammar (IsDecimal low high) count
number low high count some small fits = record {
  one = λ t a b h k. decimal_injective a b (omega (arith, h.2)) (omega (arith, k.2)) (sym h.0 ∙ k.0);
  short = λ t a h. omega (arith, ap length h.0, length-decimal-le count a some (omega (arith, h.2)) (omega (arith, h.2)));
  clean = λ t a h. rw h.0 (digits (decimal a) (decimal_is_IsNumeral a (omega (arith, h.2))).0.1);
}

pub limit : IsGrammar IsLimit 4
limit = number 1 1000 4 (omega arith) (omega arith) (omega arith)

pub u64 : IsGrammar IsCount 20
u64 = number 0 0xffffffffffffffff 20 (omega arith) (omega arith) (omega arith)

pub u32 : IsGrammar IsNumber 10
u32 = number 0 0xffffffff 10 (omega arith) (omega arith) (omega arith)

not_drop : (text : List ℕ) (m : ℕ) → IsNumber text m → ¬ (text ≡ codes "drop")
not_drop text m h e =
    let digits = rw (sym h.0 ∙ e) at (decimal_is_IsNumeral m (omega (arith, h.2))).0.1 in
    omega (arith, digits.0)

one_hop : (text : List ℕ) (x y : Hop) → IsHop text x → IsHop text y → x ≡ y
one_hop text (Number m) (Number n) h k = ap Number (u32.one text m n h k)
one_hop text (Number m) Drop h k = absurd (not_drop text m h k)
one_hop text Drop (Number n) h k = absurd (not_drop text n k h)
one_hop text Drop Drop h k = refl

short_hop : (text : List ℕ) (x : Hop) → IsHop text x → length text ≤ 10
short_hop text (Number n) h = u32.short text n h
short_hop text Drop h = omega (arith, ap length h)

clean_hop : (text : List ℕ) (x : Hop) → IsHop text x → All (λ c. c ≢ 10) text
clean_hop text (Number n) h = u32.clean text n h
clean_hop text Drop h = rw h (written (codes "drop") refl)

pub hop : IsGrammar IsHop 10
hop = record { one = one_hop; short = short_hop; clean = clean_hop }

pub then : {A B : Type 0} {P : List ℕ → A → Type 0} {Q : List ℕ → B → Type 0} {m n : ℕ} → IsFree P → IsGrammar P m → IsGrammar Q n → IsGrammar (Then P Q) (m + 1 + n)
then {A} {B} {P} {Q} {m} {n} free p q = record {
  one = λ t x y h k.
      let same = same_word h.front k.front h.back k.back (free h.front x.0 h.first) (free k.front y.0 k.first) (sym (h.spelled ∙ split_at h.front h.back) ∙ k.spelled ∙ split_at k.front k.back) in
      let first : x.0 ≡ y.0 = p.one k.front x.0 y.0 (subst (λ s. P s x.0) same.0 h.first) k.first in
      let second : x.1 ≡ y.1 = q.one k.back x.1 y.1 (subst (λ s. Q s x.1) same.1 h.second) k.second in
      ap₂ (λ a b. (a, b)) first second;
  short = λ t x h. omega (arith, ap length h.spelled, length-append (h.front ++ codes " ") h.back, length-append h.front (codes " "), p.short h.front x.0 h.first, q.short h.back x.1 h.second);
  clean = λ t x h. rw h.spelled (and (h.front ++ codes " ") h.back (and h.front (codes " ") (p.clean h.front x.0 h.first) (written (codes " ") refl)) (q.clean h.back x.1 h.second));
}

pub hop_preference : IsGrammar (Then IsHop IsPreference) 16
hop_preference = then Free.hop hop (number 0 0xffff 5 (omega arith) (omega arith) (omega arith))

one_optional : (text : List ℕ) (x y : Hop × Option ℕ) → IsOptional text x → IsOptional text y → x ≡ y
one_optional text (a, Some m) (b, Some n) h k = ap (λ (x : Hop × ℕ). (x.0, Some x.1)) (hop_preference.one text (a, m) (b, n) h k)
one_optional text (a, Some m) (b, None) h k = absurd (not_two text (a, m) (Free.hop text b k) h)
one_optional text (a, None) (b, Some n) h k = absurd (not_two text (b, n) (Free.hop text a h) k)
one_optional text (a, None) (b, None) h k = ap (λ c. (c, None)) (hop.one text a b h k)

short_optional : (text : List ℕ) (x : Hop × Option ℕ) → IsOptional text x → length text ≤ 16
short_optional text (a, Some m) h = hop_preference.short text (a, m) h
short_optional text (a, None) h = (let alone = hop.short text a h in omega arith)

clean_optional : (text : List ℕ) (x : Hop × Option ℕ) → IsOptional text x → All (λ c. c ≢ 10) text
clean_optional text (a, Some m) h = hop_preference.clean text (a, m) h
clean_optional text (a, None) h = hop.clean text a h

pub optional : IsGrammar IsOptional 16
optional = record { one = one_optional; short = short_optional; clean = clean_optional }

pub preferred : IsGrammar IsPreferred 16
preferred = record {
  one = λ t x y h k.
      let same : (x.0, h.0) ≡ (y.0, k.0) = optional.one t (x.0, h.0) (y.0, k.0) h.1 k.1 in
      let pref : x.1 ≡ y.1 = h.2 ∙ ap (λ (z : Hop × Option ℕ). unwrap_or z.1 default_preference) same ∙ sym k.2 in
      ap₂ (λ a b. (a, b)) (ap (λ (z : Hop × Option ℕ). z.0) same) pref;
  short = λ t x h. optional.short t (x.0, h.0) h.1;
  clean = λ t x h. optional.clean t (x.0, h.0) h.1;
}

pub after : {A : Type 0} {P : List ℕ → A → Type 0} {n : ℕ} (prefix : List ℕ) (limit : ℕ) → list_all (ltb 10) prefix ≡ true → length prefix + n ≤ limit → IsGrammar P n → IsGrammar (After prefix P) limit
after {A} {P} {n} prefix limit e within p = record {
  one = λ t x y h k. (let same : h.rest ≡ k.rest = append_cancel_left prefix h.rest k.rest (sym h.spelled ∙ k.spelled) in p.one k.rest x y (subst (λ s. P s x) same h.phrase) k.phrase);
  short = λ t x h. omega (arith, within, ap length h.spelled, length-append prefix h.rest, p.short h.rest x h.phrase);
  clean = λ t x h. rw h.spelled (and prefix h.rest (written prefix e) (p.clean h.rest x h.phrase));
}
