use Rattle.std.proofs.Common.{All, subst}
use Rattle.std.proofs.lemmas.List.Elements.{All-tail}
use Rattle.ipnet.specs.IpNets.{family, parts}
use Rattle.ipnet.specs.declared.ip_net.IpNet.{IpNet}
use Rattle.ipnet_blocks.specs.Networks.{IsTruncated}
use Rattle.route_feed.proofs.body.RefSliceIpNetBody.next_line.Goals as goal

abbrev HasNoHostBits : IpNet → Type 0
HasNoHostBits n = IsTruncated (family n) (parts n)

pub returns-clause-others : goal.returns-clause-others
returns-clause-others c = All-tail HasNoHostBits c.in_ok-net.net.now c.in_ok-net.others.now (subst (All HasNoHostBits) c.in_ok-net.ensures.cases.0 c.requires)
