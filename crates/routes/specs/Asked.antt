-- The words that name the modes.
use Rattle.std.specs.Prelude.{ℕ, List, codes}
use Rattle.routes.specs.declared.Mode.{Mode}
use Rattle.routes.specs.declared.Mode.TheVariants.{Lead, Follow, Least}

abbrev pub AnyMode : Type 0
AnyMode = Mode

-- the word that names a mode
abbrev pub word_of : Mode → List ℕ
word_of Lead = codes "lead"
word_of Follow = codes "follow"
word_of Least = codes "least"
