-- A handle as C passes it, its content, and the effects of calls on the content.
use Rattle.std.specs.Prelude.{◌≡◌, ◌-◌, ◌++◌, ℕ, List, Option, None, Some, MatchOption, drop, is_some, length, min, take}
use Rattle.routes_c.specs.Contents.{follower_in, index_in, table_in}
use Rattle.routes_c.specs.declared.content.Content.{Content}
use Rattle.routes_c.specs.declared.follower_session.FollowerSession.{FollowerSession}
use Rattle.routes_c.specs.declared.handle.Handle.{Handle}
use Rattle.routes_c.specs.declared.index_session.IndexSession.{IndexSession}
use Rattle.routes_c.specs.declared.session.Session.{Session}

-- the content of an open handle, or none if it is closed
abbrev pub content_of : Handle → Option Content
content_of h = h.held.content

-- the content as one of this kind, if it is
abbrev pub of_kind : {S : Type 0} → (Content → Option S) → Option Content → Option S
of_kind part None = None
of_kind part (Some c) = part c

-- the table of a handle, or none if it is closed or has another kind of content
abbrev pub session_of : Handle → Option Session
session_of h = of_kind table_in (content_of h)

-- the index of a handle
abbrev pub index_session_of : Handle → Option IndexSession
index_session_of h = of_kind index_in (content_of h)

-- the follower of a handle
abbrev pub follower_of : Handle → Option FollowerSession
follower_of h = of_kind follower_in (content_of h)

-- a handle as C must pass it, and as calls leave it: its flag says whether it is open
abbrev pub IsHandle : Handle → Type 0
IsHandle h = h.is_open ≡ is_some (content_of h)

-- a closed handle
abbrev pub IsClosed : Handle → Type 0
IsClosed h = content_of h ≡ None

-- a valid handle with the same content
abbrev pub Keeps : Handle → Handle → Type 0
Keeps old new = IsHandle new × (content_of new ≡ content_of old)

-- a call on the content of one kind: this content changes by `next`; if there is none, `none` holds and the content is unchanged
abbrev pub GoesOn : {S : Type 0} → (Handle → Option S) → Handle → Handle → Type 0 → (S → S → Type 0) → Type 0
GoesOn of old new none next = IsHandle new × MatchOption (of old) (none × (content_of new ≡ content_of old)) (λ s. MatchOption (of new) ⊥ (λ t. next s t))

-- a call that doesn't change the content
abbrev pub KeepsContent : {S : Type 0} → (Handle → Option S) → Handle → Handle → Type 0 → (S → Type 0) → Type 0
KeepsContent of old new none says = GoesOn of old new none (λ s t. (t ≡ s) × says s)

-- 0 and the value; or 1 if there is none, and then all is unchanged
abbrev pub Told : {A : Type 0} → Option A → ℕ → A → A → Type 0
Told None code old new = (code ≡ 1) × (new ≡ old)
Told (Some x) code old new = (code ≡ 0) × (new ≡ x)

-- a call that reads one value from the content; 3 if the content isn't there, and then all is unchanged
abbrev pub ReadsOne : {S A : Type 0} → (Handle → Option S) → Handle → Handle → (S → Option A) → ℕ → A → A → Type 0
ReadsOne of old new thing code was now = KeepsContent of old new ((code ≡ 3) × (now ≡ was)) (λ s. Told (thing s) code was now)

-- n items are copied from a place on, as far as there is room; the rest of the room is unchanged
abbrev pub Copied : {A : Type 0} → List A → ℕ → ℕ → List A → List A → Type 0
Copied items from n was now = (n ≡ min (length was) (length items - from)) × (now ≡ take n (drop from items) ++ drop n was)

-- a call that copies a list of the content; 0 items if the content isn't there
abbrev pub Copies : {S A : Type 0} → (Handle → Option S) → Handle → Handle → (S → List A) → ℕ → ℕ → List A → List A → Type 0
Copies of old new items from n was now = KeepsContent of old new ((n ≡ 0) × (now ≡ was)) (λ s. Copied (items s) from n was now)
