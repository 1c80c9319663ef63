-- The effects of the calls that open a handle.
use Rattle.std.specs.Prelude.{◌≡◌, ◌⊎◌, ℕ, [], true, false, List, Option, None, Some, MatchOption}
use Rattle.ipnet_addr.specs.Addresses.{Address, IsAddress}
use Rattle.hop_index.specs.Indexes.{Index, hop_of}
use Rattle.route_laws.specs.Networks.{Stored, routes_of}
use Rattle.route_laws.specs.Tables.{hop_at}
use Rattle.routes_c.specs.Contents.{follower_in, hops_of_index, index_in, table_in}
use Rattle.routes_c.specs.declared.content.Content.{Content}
use Rattle.routes_c.specs.declared.follower_session.FollowerSession.{FollowerSession}
use Rattle.routes_c.specs.declared.index_session.IndexSession.{IndexSession}
use Rattle.routes_c.specs.declared.last_lists.LastLists.{LastLists}
use Rattle.routes_c.specs.declared.session.Session.{Session}

-- an open handle is unchanged, with 4; a closed one gets content of this property, with 0, or stays closed, with another number
abbrev pub Opens : Option Content → Option Content → (ℕ → Type 0) → (Content → Type 0) → ℕ → Type 0
Opens (Some c) after refused opened code = (code ≡ 4) × (after ≡ Some c)
Opens None None refused opened code = refused code
Opens None (Some d) refused opened code = (code ≡ 0) × opened d

-- no list was made yet
pub record IsEmpty (k : LastLists) : Type 0 where
  pub pieces : k.pieces.items ≡ []
  pub routes : k.routes.items ≡ []

-- a new table
abbrev pub IsNewTable : Content → Type 0
IsNewTable c = MatchOption (table_in c) ⊥ (λ s. (s.table ≡ []) × (s.reply.items ≡ []) × IsEmpty s.lists)

-- a follower that has read no line
abbrev pub IsNewFollower : Content → Type 0
IsNewFollower c = MatchOption (follower_in c) ⊥ (λ s. (s.follower ≡ record { table = []; pending = []; failed = false }) × IsEmpty s.lists)

-- the index has the hops of the table
abbrev pub HasHopsOf : List Stored → Index → Type 0
HasHopsOf T i = (x : Address) → IsAddress x → hop_of i x ≡ hop_at (routes_of T) x

-- an index with the hops of the table
abbrev pub IsIndexOf : List Stored → Content → Type 0
IsIndexOf T c = MatchOption (index_in c) ⊥ (λ i. HasHopsOf T (hops_of_index i))

-- an index of a table: 3 if there is no table, 2 if an allocation fails
abbrev pub OpensIndex : Option Content → Option Content → Option Session → ℕ → Type 0
OpensIndex before after None code = Opens before after (λ k. k ≡ 3) (λ c. ⊥) code
OpensIndex before after (Some s) code = Opens before after (λ k. k ≡ 2) (IsIndexOf s.table) code

-- another handle of an index: 3 if there is no index, 2 if an allocation fails, or if too many handles share it
abbrev pub SharesIndex : Option Content → Option Content → Option IndexSession → ℕ → Type 0
SharesIndex before after None code = Opens before after (λ k. k ≡ 3) (λ c. ⊥) code
SharesIndex before after (Some s) code = Opens before after (λ k. k ≡ 2) (λ c. MatchOption (index_in c) ⊥ (λ i. hops_of_index i ≡ hops_of_index s)) code

-- the number for an index that could not be made: 8 exactly after a fault, else 2
abbrev pub IsNoIndex : FollowerSession → ℕ → Type 0
IsNoIndex s code = ((code ≡ 8) × (s.follower.failed ≡ true)) ⊎ ((code ≡ 2) × (s.follower.failed ≡ false))

-- an index of a follower: 3 if there is no follower
abbrev pub OpensIndexOf : Option Content → Option Content → Option FollowerSession → ℕ → Type 0
OpensIndexOf before after None code = Opens before after (λ k. k ≡ 3) (λ c. ⊥) code
OpensIndexOf before after (Some s) code = Opens before after (IsNoIndex s) (λ c. (s.follower.failed ≡ false) × IsIndexOf s.follower.table c) code
