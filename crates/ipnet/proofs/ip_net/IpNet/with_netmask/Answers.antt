use Rattle.ipnet_addr.specs.Addresses.{address_of}
use Rattle.ipnet.proofs.IpNetworks.{with_mask}
use Rattle.ipnet.proofs.ip_net.IpNet.with_netmask.Goals as goal

pub returns-in-Ok : goal.returns-in-Ok
returns-in-Ok c = with_mask _ (address_of c.args.addr) (address_of c.args.netmask) c.in-Ok.len c.in-Ok.ensures c.new.ensures.variant c.new.ensures.parts
