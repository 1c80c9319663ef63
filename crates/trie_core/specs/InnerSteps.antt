-- The result of a step of a walk, over borrowed or owned nodes and values.
use Rattle.std.specs.Prelude.{ℕ, ◌+◌, ◌-◌, ◌*◌, ◌<◌, ◌≤◌, ◌≡◌, length, take, Bool, List, [], ◌∷◌, ◌++◌}
use Rattle.trie_core.specs.InnerNodes.{under}
use Rattle.trie_core.specs.InnerWalks.{KeysWithin, Left}
use Rattle.trie_core.specs.declared.frame.Next.{Next}
use Rattle.trie_core.specs.declared.frame.Next.TheVariants.{Below, Nothing}
use Rattle.trie_core.specs.declared.frame.Next.TheVariants as next
use Rattle.trie_core.specs.declared.walk.Step.{Step}
use Rattle.trie_core.specs.declared.walk.Step.TheVariants.{Moved, Done}
use Rattle.trie_core.specs.declared.walk.Step.TheVariants as step

-- in the node at `way`: s is the entry, or the frame of the node below at its own path, followed by t
abbrev pub GivesNext : {X G F : Type 0} → (G → X) → (F → Left X) → List Bool → Left X → Next G F → Left X → Type 0
GivesNext value left way s (next.Entry key v) t = (under way s.0 ≡ (key, value v) ∷ under way t.0) × (t.1 ≤ s.1)
GivesNext value left way s (Below f below) t = (under way s.0 ≡ under below (left f).0 ++ under way t.0) × (0 < (left f).1) × ((left f).1 < s.1) × (t.1 ≤ s.1) × ((left f).2 + t.2 + 1 < s.2) × (take (length below - (left f).3) below ≡ way) × (length below ≡ length way + (left f).3) × (5 * (left f).1 + (left f).3 ≤ 5 * s.1)
GivesNext value left way s Nothing t = s.0 ≡ []

-- the levels of the last frame end within 128 bits, and none of its remaining keys is longer than 128 bits
abbrev pub LastCanGive : {X S : Type 0} → (S → Left X) → List Bool → List S → Type 0
LastCanGive {S = S} left way fs = (front : List S) (f : S) → fs ≡ front ++ f ∷ [] → (length way + 5 * (left f).1 ≤ 130) × KeysWithin 128 (under way (left f).0)

-- the first part was removed from the last frame; the frames before it are unchanged
pub record LastGives {X G F S : Type 0} (value : G → X) (below : F → Left X) (left : S → Left X) (way : List Bool) (fs : List S) (n : Next G F) (gs : List S) : Type 0 where
  pub front : List S
  pub before : S
  pub after : S
  pub was : fs ≡ front ++ before ∷ []
  pub is : gs ≡ front ++ after ∷ []
  pub next : GivesNext value below way (left before) n (left after)
  pub levels : 0 < (left after).1
  pub bits : (left after).3 ≡ (left before).3

-- the step returned the first entry, or moved on without one, or nothing was left
abbrev pub Stepped : {X G : Type 0} → (G → X) → List (List Bool × X) × ℕ → Step G → List (List Bool × X) × ℕ → Type 0
Stepped value s (step.Entry key v) t = s.0 ≡ (key, value v) ∷ t.0
Stepped value s Moved t = (s.0 ≡ t.0) × (t.1 < s.1)
Stepped value s Done t = (s.0 ≡ []) × (t.0 ≡ [])
