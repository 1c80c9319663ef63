-- The address families of the code.
use Rattle.ipnet_addr.specs.Addresses.{Family, Ipv4, Ipv6}
use Rattle.route_table.specs.declared.address_family.AddressFamily.{AddressFamily}
use Rattle.route_table.specs.declared.address_family.AddressFamily.TheVariants.{V4, V6}

abbrev pub family_of : AddressFamily → Family
family_of V4 = Ipv4
family_of V6 = Ipv6
