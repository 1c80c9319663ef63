-- The words after the first word of a line.
use Rattle.std.specs.Prelude.{◌≡◌, ℕ, List, codes, Option, MatchOption, unwrap_or}
use Rattle.ipnet.specs.IpNetText.{Reads}
use Rattle.ipnet.specs.IpNets.{block, network_at}
use Rattle.ipnet.specs.declared.ip_net.IpNet.{IpNet}
use Rattle.route_lines.specs.Phrase.{IsDecimal, Then}
use Rattle.route_choices.specs.Choices.{default_preference}
use Rattle.route_choices.specs.declared.hop.Hop.{Hop}
use Rattle.route_choices.specs.declared.hop.Hop.TheVariants.{Number, Drop}

-- a network, with its host bits cleared
abbrev pub IsNet : List ℕ → IpNet → Type 0
IsNet text net = (whole : IpNet) × Reads text whole × (net ≡ network_at (block whole))

-- a number below 2^32
abbrev pub IsNumber : List ℕ → ℕ → Type 0
IsNumber = IsDecimal 0 0xffffffff

-- a number of lines that a command may ask for
abbrev pub IsLimit : List ℕ → ℕ → Type 0
IsLimit = IsDecimal 1 1000

-- a number below 2^64
abbrev pub IsCount : List ℕ → ℕ → Type 0
IsCount = IsDecimal 0 0xffffffffffffffff

-- a number, or `drop`
abbrev pub IsHop : List ℕ → Hop → Type 0
IsHop text (Number n) = IsNumber text n
IsHop text Drop = text ≡ codes "drop"

-- a number below 2^16
abbrev pub IsPreference : List ℕ → ℕ → Type 0
IsPreference = IsDecimal 0 0xffff

-- a hop and a preference with one space between them, or only a hop
abbrev pub IsOptional : List ℕ → Hop × Option ℕ → Type 0
IsOptional text x = MatchOption x.1 (IsHop text x.0) (λ pref. Then IsHop IsPreference text (x.0, pref))

-- the same; without a preference it is the default preference
abbrev pub IsPreferred : List ℕ → Hop × ℕ → Type 0
IsPreferred text x = (given : Option ℕ) × IsOptional text (x.0, given) × (x.1 ≡ unwrap_or given default_preference)
