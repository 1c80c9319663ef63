-- Networks of both families, by family.
use Rattle.std.specs.Prelude.{List, Option, Some, None}
use Rattle.std.specs.List.{filter_map}
use Rattle.ipnet_blocks.specs.Networks.{Network}
use Rattle.ipnet.specs.declared.ip_net.IpNet.{IpNet}
use Rattle.ipnet.specs.declared.ip_net.IpNet.TheVariants.{V4, V6}

abbrev pub as_ipv4 : IpNet → Option Network
as_ipv4 (V4 n) = Some n
as_ipv4 (V6 n) = None

abbrev pub as_ipv6 : IpNet → Option Network
as_ipv6 (V4 n) = None
as_ipv6 (V6 n) = Some n

-- the networks of one family
abbrev pub only_ipv4 : List IpNet → List Network
only_ipv4 ns = filter_map as_ipv4 ns

abbrev pub only_ipv6 : List IpNet → List Network
only_ipv6 ns = filter_map as_ipv6 ns
