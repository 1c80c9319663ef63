use Rattle.route_laws.proofs.Flats.{flat_is_shortest, shortest_is_flat, flat_is_admissible, same_flat, search_is_flat, own_is_maximal, flat_bound}
use Rattle.route_laws.proofs.FlatTables.{flat_is_table, flat_rebuilds, flat_readded, readded_are_new}
use Rattle.route_laws.proofs.laws.flat.Goals as goal

pub returns : goal.returns
returns c = record { shortest = flat_is_shortest; only = shortest_is_flat; admissible = flat_is_admissible; same = same_flat; search = search_is_flat; own = own_is_maximal; bound = λ M ps table. flat_bound M table ps; table = flat_is_table; rebuilds = flat_rebuilds; readded = flat_readded; new = readded_are_new }
