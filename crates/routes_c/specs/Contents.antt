-- The contents that a handle may have.
use Rattle.std.specs.Prelude.{Option, None, Some}
use Rattle.std.specs.Borrow.{Fml, LendsIf, MutBor, RattleType}
use Rattle.hop_index.specs.Indexes.{Index as Hops}
use Rattle.routes_c.specs.contracts.content.Content.{the_row}
use Rattle.routes_c.specs.declared.content.Content.{Content}
use Rattle.routes_c.specs.declared.content.Content.TheVariants.{Table, Index, Follower}
use Rattle.routes_c.specs.declared.follower_session.FollowerSession.{FollowerSession}
use Rattle.routes_c.specs.declared.index_session.IndexSession.{IndexSession}
use Rattle.routes_c.specs.declared.session.Session.{Session}
use Rattle.std_alloc.specs.Arc.{arc_value}

-- the table, if the content is one
abbrev pub table_in : Content → Option Session
table_in (Table s) = Some s
table_in (Index i) = None
table_in (Follower f) = None

-- the index of the content of a handle
abbrev pub hops_of_index : IndexSession → Hops
hops_of_index i = arc_value i.index

-- the index, if the content is one
abbrev pub index_in : Content → Option IndexSession
index_in (Table s) = None
index_in (Index i) = Some i
index_in (Follower f) = None

-- the follower, if the content is one
abbrev pub follower_in : Content → Option FollowerSession
follower_in (Table s) = None
follower_in (Index i) = None
follower_in (Follower f) = Some f

-- the content is lent if it is of this kind, and else it is unchanged
abbrev pub LendsPart : (T : RattleType) → (T.Denot → Content) → MutBor Content → Option (MutBor T.Denot) → Fml
LendsPart T whole s r = LendsIf the_row T s r whole s.now
