-- The addresses of a route of one family, and the runs of one hop number, as numbers.
use Rattle.std.specs.Prelude.{ℕ, Option}
use Rattle.ipnet_blocks.specs.declared.aggregate.Span.{Span}

-- the span of a route's addresses, its length, and the number of its hop
pub record RouteSpan : Type 0 where
  pub first : ℕ
  pub last : ℕ
  pub len : ℕ
  pub number : Option ℕ

-- a span whose addresses have one hop number
pub record Run : Type 0 where
  pub span : Span
  pub number : ℕ
