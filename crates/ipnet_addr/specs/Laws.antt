-- The theorems about addresses, as statements.
use Rattle.std.specs.Prelude.{◌≡◌, ◌≢◌, ◌≤◌, ◌↔◌, ℕ, List, [], ◌++◌, AllPairs, Some, None}
use Rattle.std.specs.Net.Reader.{Read}
use Rattle.ipnet_addr.specs.AddressText.{IsShort, IsIpv4, IsIpv6}
use Rattle.ipnet_addr.specs.Ranges.{Ends}
use Rattle.ipnet_addr.specs.Calls.{Call, answer_of, ends_after, given}
use Rattle.ipnet_addr.specs.AddressReader.{read_short, read_ipv4, read_ipv6}

-- no sequence of calls returns a number twice
abbrev pub GivesEachOnce : Type 0
GivesEachOnce = (calls : List Call) (e : Ends) → AllPairs (λ m n. m ≢ n) (given calls e)

-- after a call that returned `None`, every call returns `None`
abbrev pub StaysEmpty : Type 0
StaysEmpty = (c d : Call) (e : Ends) → answer_of c e ≡ None → answer_of d (ends_after c e) ≡ None

-- if the reader returns a value, a beginning of the text spells this value
abbrev pub ReadsFront : {A : Type 0} → (List ℕ → Read A) → (List ℕ → A → Type 0) → Type 0
ReadsFront {A} read Spells = (text rest : List ℕ) (a : A) → read text ≡ Some (a, rest) → (front : List ℕ) × (text ≡ front ++ rest) × Spells front a

-- a text is read to its end, with a value, exactly if it spells this value
abbrev pub ReadsWhole : {A : Type 0} → (List ℕ → Read A) → (List ℕ → A → Type 0) → Type 0
ReadsWhole {A} read Spells = (text : List ℕ) (a : A) → read text ≡ Some (a, []) ↔ Spells text a

-- the reader reads exactly the grammar
abbrev pub ReadsGrammar : {A : Type 0} → (List ℕ → Read A) → (List ℕ → A → Type 0) → Type 0
ReadsGrammar read Spells = ReadsFront read Spells × ReadsWhole read Spells

-- for short numbers of a radix of at most 36
abbrev pub ShortIsRead : Type 0
ShortIsRead = (radix digits max : ℕ) → radix ≤ 36 → ReadsGrammar (read_short radix digits max) (IsShort radix digits max)

-- for IPv4 addresses
abbrev pub Ipv4IsRead : Type 0
Ipv4IsRead = ReadsGrammar read_ipv4 IsIpv4

-- for IPv6 addresses
abbrev pub Ipv6IsRead : Type 0
Ipv6IsRead = ReadsGrammar read_ipv6 IsIpv6
