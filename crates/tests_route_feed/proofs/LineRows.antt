-- Worked rows: the line that adds the route of a table, and the table that is made of it.
use Rattle.std.proofs.Common.{◌≡◌, ◌∙◌, ⊎_elim, List, [], ◌∷◌, refl, sym, ap, subst, arith, decimal, codes}
use Rattle.std.proofs.lemmas.Fmt.{decimal_digit, decimal_step}
use Rattle.ipnet_addr.specs.Addresses.{Ipv4}
use Rattle.ipnet_blocks.specs.Blocks.{Block}
use Rattle.route_choices.specs.declared.hop.Hop.TheVariants.{Number}
use Rattle.route_laws.specs.LeastTables.{HasHops}
use Rattle.route_laws.specs.Networks.{routes_of}
use Rattle.route_laws.specs.Tables.{Route, IsTable, hop_at}
use Rattle.route_laws.proofs.Insides.{Sound, table_of}
use Rattle.route_feed.specs.AddLines.{add_lines}
use Rattle.route_feed.specs.Laws.{table_given}
use Rattle.route_feed.proofs.Rebuilt.{lines_keep_hops, lines_rebuild}

-- 10.0.0.0/8
abbrev pub ten : Block
ten = record { family = Ipv4; len = 8; quotient = 10 }

-- 10.0.0.0/8 7 with the preference 200
abbrev table : List Route
table = record { block = ten; hop = Number 7; pref = 200 } ∷ []

is_table : IsTable table
is_table = table_of table
    (λ r i. ⊎_elim (λ e. subst Sound (sym e) (record { in_width = omega arith; in_range = omega arith }, omega arith)) (λ j. absurd j) i)
    ((λ r i. absurd i), tt)

pub seven_text : decimal 7 ≡ codes "7"
seven_text = decimal_digit 7 (omega arith)

pub ten_text : decimal 10 ≡ codes "10"
ten_text = decimal_step 10 (omega arith) (omega arith) ∙ rw (decimal_digit 1 (omega arith)) refl

line_row : add_lines table ≡ codes "add 10.0.0.0/8 7\n"
line_row = rw (ten_text, decimal_digit 8 (omega arith), seven_text, decimal_digit 0 (omega arith)) refl

-- a leader that is given this line has the network, with the default preference
table_row : table_given (codes "add 10.0.0.0/8 7\n") ≡ record { block = ten; choices = record { hop = Number 7; pref = 100 } ∷ [] } ∷ []
table_row = ap table_given (sym line_row) ∙ lines_rebuild table is_table

-- and the hops
hops_row : HasHops (hop_at table) (routes_of (table_given (codes "add 10.0.0.0/8 7\n")))
hops_row = subst (λ bytes. HasHops (hop_at table) (routes_of (table_given bytes))) line_row (lines_keep_hops (hop_at table) table (record { table = is_table; same = λ x a. refl }))
