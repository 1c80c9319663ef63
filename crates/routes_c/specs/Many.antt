-- Hops of addresses as numbers, one or many at once.
use Rattle.std.specs.Prelude.{◌≡◌, ◌+◌, ◌*◌, ◌^◌, ◌++◌, ℕ, List, Option, drop, length, map, min, take, option_map}
use Rattle.hop_index.specs.Indexes.{Index, hop_number, hop_of}
use Rattle.ipnet_addr.specs.Addresses.{Ipv4, Ipv6}
use Rattle.ipnet_blocks.specs.Networks.{block_of}
use Rattle.route_laws.specs.Networks.{Stored, routes_of}
use Rattle.route_laws.specs.Tables.{item_of, match_of}
use Rattle.routes_c.specs.Handles.{KeepsContent}
use Rattle.routes_c.specs.Shown.{match_shown}
use Rattle.routes_c.specs.declared.handle.Handle.{Handle}
use Rattle.routes_c.specs.declared.shown.Addr6.{Addr6}

-- the hop of the address's longest match, as one number
abbrev pub hop4_at : List Stored → ℕ → ℕ
hop4_at T addr = match_shown (option_map item_of (match_of (routes_of T) (block_of Ipv4 (record { number = addr; len = 32 }))))

-- the same for an IPv6 address
abbrev pub hop6_at : List Stored → Addr6 → ℕ
hop6_at T a = match_shown (option_map item_of (match_of (routes_of T) (block_of Ipv6 (record { number = a.high * 2 ^ 64 + a.low; len = 128 }))))

-- the hop of an address in an index, as one number: 2^32 if it has none
abbrev pub index_hop4 : Index → ℕ → ℕ
index_hop4 i addr = hop_number (hop_of i (record { family = Ipv4; number = addr }))

-- the same for an IPv6 address
abbrev pub index_hop6 : Index → Addr6 → ℕ
index_hop6 i a = hop_number (hop_of i (record { family = Ipv6; number = a.high * 2 ^ 64 + a.low }))

-- the results for as many addresses as there is room for, in the same order; the rest of the room is unchanged
abbrev pub Fills : {A : Type 0} → (A → ℕ) → List A → List ℕ → List ℕ → Type 0
Fills answer addrs old new = new ≡ map answer (take (min (length old) (length addrs)) addrs) ++ drop (min (length old) (length addrs)) old

-- a call that looks up many addresses; 3 if the content isn't there, and then all is unchanged
abbrev pub LooksUpMany : {S A : Type 0} → (Handle → Option S) → Handle → Handle → (S → A → ℕ) → List A → ℕ → List ℕ → List ℕ → Type 0
LooksUpMany of old new answer addrs code was now = KeepsContent of old new ((code ≡ 3) × (now ≡ was)) (λ s. (code ≡ 0) × Fills (answer s) addrs was now)
