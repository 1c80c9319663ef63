-- Which bit string begins which.
use Rattle.std.proofs.Common.{◌≡◌, ◌≤◌, Bool, true, false, List, [], ◌∷◌, ◌++◌, ℕ, zero, suc, length, take, drop, refl, ap, arith}
use Rattle.ipnet_blocks.specs.BitStrings.{begins}

pub begins-under : (b p q : List Bool) → begins (b ++ p) (b ++ q) ≡ begins p q
begins-under [] p q = refl
begins-under (true ∷ b) p q = begins-under b p q
begins-under (false ∷ b) p q = begins-under b p q

-- a string begins with itself, whatever follows
pub begins_on : (q k : List Bool) → begins q (q ++ k) ≡ true
begins_on [] k = refl
begins_on (true ∷ q) k = begins_on q k
begins_on (false ∷ q) k = begins_on q k

-- what is left of a string after its beginning
pub begun_rest : (s q : List Bool) → begins s q ≡ true → s ++ drop (length s) q ≡ q
begun_rest [] q e = refl
begun_rest (x ∷ s) [] e = cc
begun_rest (true ∷ s) (true ∷ q) e = ap (λ l. true ∷ l) (begun_rest s q e)
begun_rest (false ∷ s) (false ∷ q) e = ap (λ l. false ∷ l) (begun_rest s q e)
begun_rest (true ∷ s) (false ∷ q) e = cc
begun_rest (false ∷ s) (true ∷ q) e = cc

pub begins_take : (p q : List Bool) → begins p q ≡ true → (length p ≤ length q) × (take (length p) q ≡ p)
begins_take [] q e = (omega arith, refl)
begins_take (x ∷ p) [] e = cc
begins_take (true ∷ p) (true ∷ q) e = let r = begins_take p q e in (omega (arith, r.0), ap (λ l. true ∷ l) r.1)
begins_take (false ∷ p) (false ∷ q) e = let r = begins_take p q e in (omega (arith, r.0), ap (λ l. false ∷ l) r.1)
begins_take (true ∷ p) (false ∷ q) e = cc
begins_take (false ∷ p) (true ∷ q) e = cc

pub take_begins : (k : ℕ) (q : List Bool) → begins (take k q) q ≡ true
take_begins zero q = refl
take_begins (suc k) [] = refl
take_begins (suc k) (true ∷ q) = take_begins k q
take_begins (suc k) (false ∷ q) = take_begins k q
