-- Tables that print the same bytes for `flat`.
use Rattle.std.proofs.Common.{◌≡◌, List, [], ◌∷◌, ◌++◌, map, All, Option, Some, None, refl, sym, ap, ◌∙◌, ◌↔◌}
use Rattle.std.specs.List.{filter_map}
use Rattle.std.proofs.lemmas.List.Elements.{All-head, All-map, All-push, All-tail}
use Rattle.ipnet_addr.specs.Addresses.{Address, IsAddress}
use Rattle.ipnet_addr.proofs.Ascending.{All-from_In}
use Rattle.ipnet.specs.IpNets.{block}
use Rattle.route_lines.specs.Texts.{reply_text}
use Rattle.route_lines.specs.declared.reply.Closing.TheVariants.{Done}
use Rattle.route_lines.specs.declared.reply.Reply.{Reply}
use Rattle.route_lines.specs.declared.reply.Reply.TheVariants as R
use Rattle.route_laws.specs.Flats.{Piece, flat_of}
use Rattle.route_laws.specs.Tables.{Route, IsTable, hop_at}
use Rattle.route_laws.proofs.Flats.{search_is_flat, same_flat}
use Rattle.route_laws.proofs.NetworksAt.{of_network_at}
use Rattle.route_feed.specs.Replies.{printed}
use Rattle.route_feed.specs.Laws.{flat_bytes}
use Rattle.route_feed.specs.Steps.{flat_line}
use Rattle.route_feed.specs.Streams.{replies_in}
use Rattle.route_feed.proofs.ReadLines.{of_replies, read_is}
use Rattle.route_feed.proofs.PrintedLines.{IsPrinted, piece_told, printed_if_read, read_again, reread}

-- a line that is read as it was printed
abbrev IsRead : Reply → Type 0
IsRead l = IsPrinted (Unit {0}) l

read_as_printed : (ls : List Reply) → All IsRead ls → reread ls ≡ ls
read_as_printed [] h = refl
read_as_printed (l ∷ ls) h =
    rw (read_is of_replies (reply_text l) l ((All-head IsRead l ls h).spelled tt))
    (ap (λ ms. l ∷ ms) (read_as_printed ls (All-tail IsRead l ls h)))

-- the piece that a line tells
piece_in : Reply → Option Piece
piece_in (R.Flat net n) = Some (record { block = block net; number = n })
piece_in l = None

pieces_back : (ps : List Piece) → filter_map piece_in (map flat_line ps ++ R.Close Done ∷ []) ≡ ps
unfolding piece_in
pieces_back [] = refl
pieces_back (p ∷ ps) = λ i. record { block = of_network_at p.block i; number = p.number } ∷ pieces_back ps i

-- the list is in the bytes
list_back : (M : List Route) → IsTable M → filter_map piece_in (replies_in (flat_bytes M)) ≡ flat_of (hop_at M)
list_back M m =
    let ps = flat_of (hop_at M) in
    let ls = map flat_line ps ++ R.Close Done ∷ [] in
    let flat = All-map IsRead flat_line ps (All-from_In (λ p. IsRead (flat_line p)) ps (λ p i. (piece_told (Unit {0}) M m p i).0)) in
    let read = All-push IsRead (map flat_line ps) (R.Close Done) flat (printed_if_read (Unit {0}) (R.Close Done) refl) in
    ap (filter_map piece_in) (read_again (Unit {0}) ls read ∙ read_as_printed ls read) ∙ pieces_back ps

pub same_bytes : (M N : List Route) → IsTable M → IsTable N → (flat_bytes M ≡ flat_bytes N) ↔ ((x : Address) → IsAddress x → hop_at M x ≡ hop_at N x)
same_bytes M N m n =
    let lists = same_flat (hop_at M) (hop_at N) (flat_of (hop_at M)) (flat_of (hop_at N)) (search_is_flat (hop_at M)) (search_is_flat (hop_at N)) in (
      (λ e. lists.0 (sym (list_back M m) ∙ ap (λ b. filter_map piece_in (replies_in b)) e ∙ list_back N n)),
      (λ h. ap (λ (ps : List Piece). printed (map flat_line ps ++ R.Close Done ∷ [])) (lists.1 h)),
    )
