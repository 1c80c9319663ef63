-- Reply streams: the changes that are committed, and the hops of addresses after them.
use Rattle.std.specs.Prelude.{◌≡◌, ℕ, suc, ◌<◌, ◌⊎◌, length, Bool, true, false, List, [], ◌∷◌, ◌++◌, if◌then◌else◌, Option, Some, None, is_some, IsSome, filter_map}
use Rattle.std.specs.Option.{option_map_or, option_to_list}
use Rattle.ipnet_addr.specs.Addresses.{Address}
use Rattle.ipnet_blocks.specs.Blocks.{Block, has_address}
use Rattle.ipnet.specs.IpNets.{block}
use Rattle.route_lines.specs.Bytes.{lines}
use Rattle.route_lines.specs.Spelled.{reply_of}
use Rattle.route_lines.specs.declared.reply.Closing.{Closing}
use Rattle.route_lines.specs.declared.reply.Closing.TheVariants.{Done}
use Rattle.route_lines.specs.declared.reply.Reply.{Reply}
use Rattle.route_lines.specs.declared.reply.Reply.TheVariants.{Set, Unset, Close}

-- the addresses of a block have this hop, or none, from now on
pub record Change : Type 0 where
  pub block : Block
  pub number : Option ℕ

-- whether the closing line is `ok`
abbrev pub is_done : Closing → Bool
is_done Done = true
is_done closing = false

-- the change of a line, if there is one
abbrev pub change_of : Reply → Option Change
change_of (Set net number) = Some (record { block = block net; number = Some number })
change_of (Unset net) = Some (record { block = block net; number = None })
change_of line = None

-- the closing of a reply, if the line closes one
abbrev pub closes : Reply → Option Closing
closes (Close closing) = Some closing
closes line = None

-- whether there is a closing line, and the first one is `ok`
abbrev pub ends_well : List Reply → Bool
ends_well [] = false
ends_well (l ∷ ls) = option_map_or is_done (closes l) (ends_well ls)

-- the changes whose next closing line is `ok`
abbrev pub committed : List Reply → List Change
committed [] = []
committed (l ∷ ls) = if ends_well ls then option_to_list (change_of l) ++ committed ls else committed ls

-- the number of closing lines
abbrev pub closings : List Reply → ℕ
closings [] = 0
closings (l ∷ ls) = if is_some (closes l) then suc (closings ls) else closings ls

-- the pending changes after a line
abbrev pub pending_after : List Change → Option Closing → Option Change → List Change
pending_after changes (Some closing) change = []
pending_after changes None change = changes ++ option_to_list change

-- the pending changes after these lines
abbrev pub pending_over : List Change → List Reply → List Change
pending_over changes [] = changes
pending_over changes (l ∷ ls) = pending_over (pending_after changes (closes l) (change_of l)) ls

-- with these pending changes, the line may need memory: it has a change to keep, or is an `ok` that commits some
abbrev pub WantsMemory : List Change → Reply → Type 0
WantsMemory changes line = IsSome (change_of line) ⊎ ((closes line ≡ Some Done) × (0 < length changes))

-- the hop of the last change whose block contains the address, or `now` if none does
abbrev pub painted_over : Option ℕ → List Change → Address → Option ℕ
painted_over now [] x = now
painted_over now (c ∷ cs) x = painted_over (if has_address c.block x then c.number else now) cs x

-- the hop of an address after these changes, in order, when no address had a hop before
abbrev pub painted_hop : List Change → Address → Option ℕ
painted_hop cs x = painted_over None cs x

-- the complete reply lines in the bytes
abbrev pub replies_in : List ℕ → List Reply
replies_in bytes = filter_map reply_of (lines bytes)
