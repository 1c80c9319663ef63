-- The readers read the grammar: what they read of a front, and of a whole text.
use Rattle.std.proofs.Common.{◌≡◌, ℕ, List, [], ◌++◌, Some, sym, subst, ◌∙◌, arith, lit≤}
use Rattle.std.proofs.lemmas.List.{append-nil}
use Rattle.std.specs.Net.Reader.{Read}
use Rattle.ipnet_addr.specs.AddressText.{IsShort, IsIpv4, IsIpv6}
use Rattle.ipnet_addr.specs.AddressReader.{read_short, read_ipv4, read_ipv6}
use Rattle.ipnet_addr.specs.Laws.{ReadsFront, ReadsGrammar, ShortIsRead, Ipv4IsRead, Ipv6IsRead}
use Rattle.ipnet_addr.proofs.Ipv4Text.{read_short_complete, read_short_sound, read_ipv4_complete, read_ipv4_sound}
use Rattle.ipnet_addr.proofs.Ipv6Text.{read_ipv6_complete, read_ipv6_sound}

module _ {A : Type 0} (read : List ℕ → Read A) (Spells : List ℕ → A → Type 0) where
  -- what is read at the front with nothing after it is the whole text
  reads_grammar : ReadsFront read Spells → ((text : List ℕ) (a : A) → Spells text a → read (text ++ []) ≡ Some (a, [])) → ReadsGrammar read Spells
  reads_grammar sound complete = (
    sound,
    λ text a. (
      (λ e. let t = sound text [] a e in subst (λ s. Spells s a) (sym (t.1 ∙ append-nil t.0)) t.2),
      (λ h. subst (λ s. read s ≡ Some (a, [])) (append-nil text) (complete text a h)),
    ),
  )

pub short_is_read : ShortIsRead
short_is_read radix digits max small = reads_grammar (read_short radix digits max) (IsShort radix digits max)
    (λ text rest n e. let t = read_short_sound radix digits max text rest n small e in (t.0, t.1, t.2))
    (λ text n h. read_short_complete radix digits max text [] n h small)

pub ipv4_is_read : Ipv4IsRead
ipv4_is_read = reads_grammar read_ipv4 IsIpv4
    (λ text rest octets e. read_ipv4_sound text octets rest e)
    (λ text octets h. read_ipv4_complete text octets [] h (lit≤ tt))

pub ipv6_is_read : Ipv6IsRead
ipv6_is_read = reads_grammar read_ipv6 IsIpv6
    (λ text rest units e. read_ipv6_sound text units rest e)
    (λ text units h. read_ipv6_complete text units [] h ((lit≤ tt, omega arith), λ colon. absurd (omega arith)))
