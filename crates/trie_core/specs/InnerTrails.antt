-- A stack of frames, each some bits below the one before it, and the path to the last.
use Rattle.std.specs.Prelude.{ℕ, ◌+◌, ◌-◌, ◌*◌, ◌≤◌, length, take, Bool, List, [], ◌∷◌}
use Rattle.trie_core.specs.InnerNodes.{under}
use Rattle.trie_core.specs.InnerWalks.{KeysWithin, Left, walk_rest, FitFrom}

module _ {X : Type 0} where
  -- the frame with the path in front of its keys
  abbrev pub on_way : List Bool → Left X → Left X
  on_way way f = (under way f.0, f.1, f.2, f.3)

  -- the bits from the path of the frame before these to that of the last
  abbrev pub bits_of : List (Left X) → ℕ
  bits_of [] = 0
  bits_of (f ∷ fs) = f.3 + bits_of fs

  -- each frame with its own path in front of its keys
  abbrev pub along : List Bool → List (Left X) → List (Left X)
  along way [] = []
  along way (f ∷ fs) = on_way (take (length way - bits_of fs) way) f ∷ along way fs

  -- the levels of each frame end within 128 bits; the last frame is n bits down
  abbrev pub FitsDepth : ℕ → List (Left X) → Type 0
  FitsDepth n [] = Unit {0}
  FitsDepth n (f ∷ fs) = (n - bits_of fs + 5 * f.1 ≤ 130) × FitsDepth n fs

  -- the frames fit, and no remaining key is longer than 128 bits
  pub record IsWalk (fs : List (Left X)) (way : List Bool) : Type 0 where
    pub fit : FitFrom 0 (along way fs)
    pub reach : FitsDepth (length way) fs
    pub keys : KeysWithin 128 (walk_rest (along way fs))
