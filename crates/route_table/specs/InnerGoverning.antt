-- The addresses that a network governs, as the gaps between the routes inside it.
use Rattle.std.specs.Prelude.{◌≡◌, ℕ, ◌+◌, ◌-◌, ◌<◌, ◌≤◌, ◌^◌, Bool, true, false, nat_lt, cond, max, length, List, [], ◌∷◌, ◌++◌, Option, MatchOption, All, flat_map}
use Rattle.ipnet_addr.specs.Addresses.{Address, Family, width}
use Rattle.ipnet_blocks.specs.Blocks.{Block, first, last}
use Rattle.ipnet_blocks.specs.Cuts.{cut}
use Rattle.ipnet_blocks.specs.InnerSpans.{limits_of}
use Rattle.ipnet_blocks.specs.declared.aggregate.Span.{Span}
use Rattle.ipnet.specs.IpNets.{family, parts}
use Rattle.ipnet.specs.IpSubnets.{ip_cut}
use Rattle.ipnet.specs.declared.subnets.IpSubnets.{IpSubnets}
use Rattle.route_laws.specs.Tables.{Governed, Route}
use Rattle.route_table.specs.declared.governed.Gaps.{Gaps}
use Rattle.route_table.specs.declared.governed.Step.{Step}
use Rattle.route_table.specs.declared.governed.Step.TheVariants.{Gap, Passed, Done}

-- the numbers from `at` up to the next route, if there are any, followed by other spans
abbrev pub gap_before : ℕ → ℕ → List Span → List Span
gap_before at next spans = cond (nat_lt at next) (record { first = at; last = next - 1 } ∷ spans) spans

-- the spans from `at` to `end` between ascending routes longer than `len`
abbrev pub gaps : ℕ → ℕ → ℕ → List Route → List Span
gaps len at end [] = record { first = at; last = end } ∷ []
gaps len at end (r ∷ rs) = cond (nat_lt len r.block.len)
    (gap_before at (first r.block) (cond (nat_lt (last r.block) end) (gaps len (max at (last r.block + 1)) end rs) []))
    (gaps len at end rs)

-- the spans that are left
abbrev pub gaps_left : Gaps → List Span
gaps_left g = cond g.done [] (gaps (parts g.net).len g.at g.end g.inside)

-- no remaining route ends after the network
pub record AreGaps (g : Gaps) : Type 0 where
  pub order : g.at ≤ g.end
  pub fits : g.end < 2 ^ width (family g.net)
  pub within : All (λ r. last r.block ≤ g.end) g.inside

-- the first span was returned, or none was left
abbrev pub GivesGap : Gaps → Option Span → Gaps → Type 0
GivesGap g gap h = MatchOption gap ((gaps_left g ≡ []) × (gaps_left h ≡ [])) (λ s. (gaps_left g ≡ s ∷ gaps_left h) × (s.first ≤ s.last) × (s.last ≤ g.end))

-- the largest blocks of the spans, span by span
abbrev pub blocks_of_spans : Family → List Span → List Block
blocks_of_spans f spans = flat_map (λ s. cut f (limits_of s)) spans

-- the blocks that are left of the current gap, and those of the later gaps
abbrev pub blocks_left : Gaps → IpSubnets → List Block
blocks_left g s = ip_cut s ++ blocks_of_spans (family g.net) (gaps_left g)

-- the gaps continue after a number
abbrev pub IsPassed : Gaps → ℕ → Gaps → Type 0
IsPassed g last h = cond (nat_lt last g.end) ((h.done ≡ g.done) × (h.at ≡ max g.at (last + 1))) ((h.done ≡ true) × (h.at ≡ g.at))

-- a step returned the first span, or passed a route, or none was left
abbrev pub StepsGap : Gaps → Step → Gaps → Type 0
StepsGap g (Gap s) h = (gaps_left g ≡ s ∷ gaps_left h) × (s.first ≤ s.last) × (s.last ≤ g.end)
StepsGap g Passed h = (gaps_left g ≡ gaps_left h) × (length h.inside < length g.inside)
StepsGap g Done h = (gaps_left g ≡ []) × (gaps_left h ≡ [])

-- the block governs no address, or it governs one
abbrev pub GovernsNone : Bool → List Route → Block → Type 0
GovernsNone true M n = (x : Address) → Governed M n x → ⊥
GovernsNone false M n = (x : Address) × Governed M n x

-- the length and the numbers of the first route's block were returned, or no route was left
abbrev pub GivesSpan : List Route → Option (ℕ × Span) → List Route → Type 0
GivesSpan rs item left = MatchOption item ((rs ≡ []) × (left ≡ []))
    (λ p. (r : Route) × (rs ≡ r ∷ left) × (p.0 ≡ r.block.len) × (p.1.first ≡ first r.block) × (p.1.last ≡ last r.block))
