-- The effect of `follow` on its devices, by its result.
use Rattle.std.specs.Prelude.{◌≡◌, ℕ, List, [], ◌∷◌, ◌++◌, ◌⊎◌, Option, Some, Result, Ok, Err, IsSome, All, map, filter_map}
use Rattle.route_lines.specs.Bytes.{lines}
use Rattle.route_lines.specs.Spelled.{reply_of}
use Rattle.route_lines.specs.declared.reply.Closing.TheVariants.{Done}
use Rattle.route_lines.specs.declared.reply.Reply.{Reply}
use Rattle.route_lines.specs.declared.reply.Reply.TheVariants.{Close}
use Rattle.route_laws.specs.Flats.{flat_of}
use Rattle.route_program.specs.declared.counted.Counted.{Counted}
use Rattle.route_program.specs.declared.error.RunError.{RunError}
use Rattle.route_program.specs.declared.error.RunError.TheVariants as Why
use Rattle.route_program.specs.Devices.{Closed, HasRead, HasReadAll, HasReadSoFar, Torn}
use Rattle.route_program.specs.Counted.{ReadFault}
use Rattle.route_feed.specs.Replies.{printed}
use Rattle.route_feed.specs.Steps.{flat_line}
use Rattle.route_feed.specs.Streams.{committed, painted_hop, pending_over, replies_in, WantsMemory}

-- each piece is a reply line
abbrev pub AreReplies : List (List ℕ) → Type 0
AreReplies pieces = All (λ piece. IsSome (reply_of piece)) pieces

-- the pieces before one of them are reply lines, and this one is a reply line that may need memory
pub record MeetsWant (pieces : List (List ℕ)) : Type 0 where
  pub before : List (List ℕ)
  pub piece : List ℕ
  pub after : List (List ℕ)
  pub reply : Reply
  pub split : pieces ≡ before ++ piece ∷ after
  pub replies : AreReplies before
  pub is_reply : reply_of piece ≡ Some reply
  pub wants : WantsMemory (pending_over [] (filter_map reply_of before)) reply

-- the printed flat list of the hops after the committed changes, and `ok`
abbrev pub followed : List ℕ → List ℕ
followed bytes = printed (map flat_line (flat_of (painted_hop (committed (replies_in bytes)))) ++ Close Done ∷ [])

-- the reader returned some bytes, one of their lines isn't a reply line, and no read failed or met the end
abbrev pub MeetsAnother : {R : Type 0} → (R → Option (List ℕ)) → Counted R → Counted R → Type 0
MeetsAnother remaining from to = HasReadSoFar remaining (λ bytes. ¬ AreReplies (lines bytes)) from to

module _ {R W : Type 0} (remaining : R → Option (List ℕ)) (contents : W → Option (List ℕ)) where
  -- `Ok`: all was read, each line is a reply line, the flat list was written and flushed, and nothing failed. `Read`: each line so far is
  -- one, and the reader failed, in its last call. `Line`: one isn't. `Write`: all was read, a beginning of the list was written, and the
  -- writer failed, in its last call. `Memory`: nothing was read, or a line may need it. Only `Ok` and `Write` write anything.
  abbrev pub FollowEnds : Counted R → Counted R → Counted W → Counted W → Result Unit RunError → Type 0
  FollowEnds from to old new (Ok done) = HasReadAll remaining (λ bytes. AreReplies (lines bytes) × Closed contents 1 old new (followed bytes)) from to
  FollowEnds from to old new (Err Why.Read) = HasRead remaining (λ bytes. AreReplies (lines bytes)) from to × ReadFault from to × (new ≡ old)
  FollowEnds from to old new (Err Why.Line) = MeetsAnother remaining from to × (new ≡ old)
  FollowEnds from to old new (Err Why.Write) = HasReadAll remaining (λ bytes. AreReplies (lines bytes) × Torn contents old new (followed bytes)) from to
  FollowEnds from to old new (Err Why.Memory) = ((to ≡ from) ⊎ HasReadSoFar remaining (λ bytes. MeetsWant (lines bytes)) from to) × (new ≡ old)
