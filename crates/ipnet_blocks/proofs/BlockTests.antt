-- What the tests of blocks say.
use Rattle.std.proofs.Common.{◌≡◌, ◌/◌, ◌^◌, ◌⊎◌, inl, inr, ⊎_elim, true, ◌&&◌, ◌==◌, ap, arith}
use Rattle.std.proofs.lemmas.Bool.{and_parts, cases_Bool}
use Rattle.std.proofs.lemmas.Bool.Decides.{nat_tests}
use Rattle.ipnet_addr.specs.Addresses.{rank, Address}
use Rattle.ipnet_blocks.specs.Blocks.{Block, HasAddress, IsBefore, has_address, is_before, same_block, free_bits}
use Rattle.ipnet_addr.proofs.Families.{rank_apart}
use Rattle.ipnet_blocks.proofs.BlockLaws.{block_path}

pub has_from_test : (b : Block) (x : Address) → has_address b x ≡ true → HasAddress b x
has_from_test b x e =
    let p = and_parts (rank x.family == rank b.family) (x.number / 2 ^ free_bits b == b.quotient) e in
    (rank_apart x.family b.family (grind (arith, nat_tests, p.0)), grind (arith, nat_tests, p.1))

pub test_from_has : (b : Block) (x : Address) → HasAddress b x → has_address b x ≡ true
test_from_has b x h = let f = ap rank h.0 in let g = h.1 in grind (arith, nat_tests)

pub decide_has : (b : Block) (x : Address) → HasAddress b x ⊎ (HasAddress b x → ⊥)
decide_has b x = ⊎_elim (λ e. inl (has_from_test b x e)) (λ e. inr (λ h. let t = test_from_has b x h in cc)) (cases_Bool (has_address b x))

pub before_from_test : (a b : Block) → is_before a b ≡ true → IsBefore a b
before_from_test a b e = grind (arith, nat_tests)

pub test_from_before : (a b : Block) → IsBefore a b → is_before a b ≡ true
test_from_before a b h = grind (arith, nat_tests)

pub same_from_test : (a b : Block) → same_block a b ≡ true → a ≡ b
same_from_test a b e =
    let p = and_parts ((rank a.family == rank b.family) && (a.len == b.len)) (a.quotient == b.quotient) e in
    let q = and_parts (rank a.family == rank b.family) (a.len == b.len) p.0 in
    block_path a b (rank_apart a.family b.family (grind (arith, nat_tests, q.0))) (grind (arith, nat_tests, q.1)) (grind (arith, nat_tests, p.1))

pub test_from_same : (a b : Block) → a ≡ b → same_block a b ≡ true
test_from_same a b e =
    let f = ap (λ c. rank (Block.family c)) e in
    let l = ap Block.len e in
    let q = ap Block.quotient e in
    grind (arith, nat_tests)
