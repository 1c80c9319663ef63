-- The pending changes of a follower.
use Rattle.std.specs.Prelude.{List, map}
use Rattle.ipnet.specs.IpNets.{block}
use Rattle.ipnet.specs.declared.ip_net.IpNet.{IpNet}
use Rattle.route_choices.specs.declared.hop.Hop.{Hop}
use Rattle.route_choices.specs.Hops.{number_of}
use Rattle.route_feed.specs.Streams.{Change}

abbrev pub waiting_change : IpNet × Hop → Change
waiting_change w = record { block = block w.0; number = number_of w.1 }

abbrev pub changes_of : List (IpNet × Hop) → List Change
changes_of ws = map waiting_change ws
