-- Worked rows of the definitions: blocks of at most two bits.
use Rattle.std.proofs.Common.{◌≡◌, Bool, true, false, List, [], ◌∷◌, ℕ, Option, Some, None, refl}
use Rattle.nearest_table.specs.Asked.{at}
use Rattle.least_table.specs.BestHops.{Any, Of}
use Rattle.least_table.specs.Nearest.{distance}
use Rattle.nearest_table.specs.Plans.{Tree, Stay, Fork, Held, edits_of, new_table}
use Rattle.nearest_table.specs.Blocks.{inner, put, around}
use Rattle.nearest_table.specs.Told.{told_hop}

abbrev O : List Bool
O = false ∷ []

abbrev I : List Bool
I = true ∷ []

abbrev OO : List Bool
OO = false ∷ false ∷ []

abbrev OI : List Bool
OI = false ∷ true ∷ []

abbrev one : Option ℕ
one = Some 1

abbrev two : Option ℕ
two = Some 2

-- the whole block has the hop 1, its first quarter the hop 2
abbrev t : List (List Bool × Option ℕ)
t = ([], one) ∷ (OO, two) ∷ []

-- ---- distances: an install of another hop is one operation, and so is a remove

none : distance t t ≡ 0
none = refl

other_hop : distance t (([], two) ∷ (OO, two) ∷ []) ≡ 1
other_hop = refl

gone : distance t (([], one) ∷ []) ≡ 1
gone = refl

dropped : distance t (([], one) ∷ (OO, None) ∷ []) ≡ 1
dropped = refl

-- one install replaces the route of a block
all_three : distance t (([], two) ∷ (O, one) ∷ (OI, two) ∷ []) ≡ 4
all_three = refl

back : distance (([], two) ∷ (O, one) ∷ (OI, two) ∷ []) t ≡ 4
back = refl

-- ---- the lower half gets the hop 2: to install it and to remove the quarter are two operations, but one is enough

abbrev cs : List (List Bool × Option ℕ)
cs = (O, two) ∷ []

told_inside : told_hop cs t OI ≡ two
told_inside = refl

stays_outside : told_hop cs t (true ∷ false ∷ []) ≡ one
stays_outside = refl

-- a change inside another counts for its own block, and so does a change to no hop
nested : told_hop ((O, two) ∷ (OI, None) ∷ []) t OI ≡ None
nested = refl

painted_distance : distance t (([], one) ∷ (O, two) ∷ []) ≡ 2
painted_distance = refl

abbrev lower : Tree
lower = Fork (Of (two ∷ [])) (Held two (Stay (Of (two ∷ [])))) (Stay (Of (two ∷ [])))

-- the lower half inherits the hop 1; its best inherited hop is 2
done : edits_of lower one ≡ ([], Some two) ∷ []
done = refl

made : put O t (new_table lower (inner O t) one) ≡ ([], one) ∷ (O, two) ∷ (OO, two) ∷ []
made = refl

near : distance t (([], one) ∷ (O, two) ∷ (OO, two) ∷ []) ≡ 1
near = refl

-- ---- the quarter gets the hop 1, which it inherits, so its route is removed

abbrev quarter : Tree
quarter = Held two (Stay (Of (one ∷ [])))

removed : edits_of quarter one ≡ ([], None) ∷ []
removed = refl

-- if it inherits another hop its route is replaced, and if it has the hop already nothing changes
replaced : edits_of quarter (Some 3) ≡ ([], Some one) ∷ []
replaced = refl

kept : edits_of (Held one (Stay (Of (one ∷ [])))) (Some 3) ≡ []
kept = refl

-- ---- a block that is covered by routes inside doesn't depend on the inherited hop

idle : edits_of (Held two (Stay Any)) one ≡ []
idle = refl

-- ---- the routes of a block, inside it and around it

asked_at : at t OO ≡ Some two
asked_at = refl

asked_other : at t O ≡ None
asked_other = refl

asked_around : around OO None t ≡ Some one
asked_around = refl
