-- What a handle has after its content was lent.
use Rattle.std.specs.Prelude.{Some}
use base.Fml.{Fml}
use denote.Follow.{follows}
use denote.Ref.{MutBor}
use Rattle.routes_c.specs.contracts.content.Content.{the_row as content-row}
use Rattle.routes_c.specs.contracts.boxed_content.BoxedContent.{the_row as held-row}
use Rattle.routes_c.specs.declared.boxed_content.BoxedContent.{BoxedContent}

-- the same with this content
abbrev pub with_content : BoxedContent → content-row.Denot → BoxedContent
with_content h c = record { at = h.at; alloc = h.alloc; content = Some c }

-- once the borrow of the content ends, the handle has what was written through it last
abbrev pub held_follows : MutBor BoxedContent → MutBor content-row.Denot → Fml
held_follows h c = follows held-row content-row h.ghost_name c.ghost_name (with_content h.now)
