use Rattle.std.proofs.Common.{◌∙◌, ap, arith, ◌≡◌, ℕ, suc, ◌+◌, ◌-◌, ◌*◌, ◌/◌, ◌^◌, ◌<◌, pow-suc, pow_pos}
use Rattle.ipnet.specs.IpNets.{block, net_in}
use Rattle.std.proofs.Math.Pow.{shl-shr, high}
use Rattle.ipnet_addr.specs.Addresses.{Family, width}
use Rattle.ipnet_blocks.specs.Blocks.{Block, first, last, left, right}
use Rattle.ipnet_blocks.specs.Networks.{block_of}
use Rattle.ipnet_blocks.proofs.BlockLaws.{block_path}
use Rattle.route_laws.proofs.NetworksAt.{block_of-net_in}
use Rattle.route_table.proofs.overwrite.halves.Goals as goal

-- a multiple of 2 ^ suc k, and the number before the next one
low : (q k : ℕ) → q * 2 ^ suc k / 2 ^ k ≡ 2 * q
low q k = ap (λ n. n / 2 ^ k) (step (2 ^ k) (2 ^ suc k) (pow-suc 2 k)) ∙ shl-shr (2 * q) k
  where
    step : (p r : ℕ) → r ≡ p * 2 → q * r ≡ 2 * q * p
    step p r e = ap (λ n. q * n) e ∙ omega arith

top : (q k : ℕ) → (q * 2 ^ suc k + (2 ^ suc k - 1)) / 2 ^ k ≡ 2 * q + 1
top q k = ap (λ n. n / 2 ^ k) (step (2 ^ k) (2 ^ suc k) (pow-suc 2 k) (pow_pos k)) ∙ high (2 * q + 1) k (let h : 0 < 2 ^ k = pow_pos k in omega arith)
  where
    step : (p r : ℕ) → r ≡ p * 2 → 0 < p → q * r + (r - 1) ≡ (2 * q + 1) * p + (p - 1)
    step p r e h = ap (λ n. q * n + (n - 1)) e ∙ omega arith

module _ (b : Block) (h : b.len < width b.family) (g : Family) (x l : ℕ) (f : g ≡ b.family) (e : l ≡ b.len + 1) where
  -- the bits left free, as a successor
  free : width b.family - b.len ≡ suc (width g - l)
  free = let w : width g ≡ width b.family = ap width f in omega arith

  pub lower_is : x ≡ first b → block (net_in g (record { number = x; len = l })) ≡ left b
  lower_is p = block_of-net_in g (record { number = x; len = l })
      ∙ block_path (block_of g (record { number = x; len = l })) (left b) f e
      (ap (λ n. n / 2 ^ (width g - l)) (p ∙ ap (λ n. b.quotient * 2 ^ n) free) ∙ low b.quotient (width g - l))

  pub upper_is : x ≡ last b → block (net_in g (record { number = x; len = l })) ≡ right b
  upper_is p = block_of-net_in g (record { number = x; len = l })
      ∙ block_path (block_of g (record { number = x; len = l })) (right b) f e
      (ap (λ n. n / 2 ^ (width g - l)) (p ∙ ap (λ n. b.quotient * 2 ^ n + (2 ^ n - 1)) free) ∙ top b.quotient (width g - l))

pub returns-clause-lower : goal.returns-clause-lower
returns-clause-lower c = ap block c.new_assert.ensures ∙ lower_is (block c.args.net.now) c.requires _ _ _ c.network.ensures.family (omega (arith, c.prefix_len-len.ensures.value)) c.network.ensures.number

pub returns-clause-upper : goal.returns-clause-upper
returns-clause-upper c = ap block c.new_assert-2.ensures ∙ upper_is (block c.args.net.now) c.requires _ _ _ c.broadcast.ensures.family (omega (arith, c.prefix_len-len.ensures.value)) c.broadcast.ensures.number
