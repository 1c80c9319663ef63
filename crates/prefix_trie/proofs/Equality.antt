-- Equal maps and sets have the same entries.
use Rattle.std.proofs.Common.{◌≡◌, Bool, true, List, Decides, refl, ap}
use Rattle.std.proofs.lemmas.Bool.Decides.{Decides-and}
use Rattle.std.proofs.lemmas.Slice.Eq.{slice_eq-Decides}
use Rattle.std.specs.FinMap.{entries, same_entries_map}
use Rattle.trie_core.proofs.Strings.{same, same-Decides}
use Rattle.prefix_trie.specs.Equal.{same_entry, same_maps}
use Rattle.prefix_trie.specs.Laws.{SameEntries, SameMembers}

entry_decides : {X : Type 0} (E : X → X → Bool) → ((x y : X) → Decides (E x y) (x ≡ y)) → (d e : List Bool × X) → Decides (same_entry E d e) (d ≡ e)
entry_decides E exact d e =
    let both = Decides-and (same d.0 e.0) (E d.1 e.1) (same-Decides d.0 e.0) (exact d.1 e.1) in (
      λ t. let p = both.0 t in λ i. (p.0 i, p.1 i),
      λ p. both.1 (ap (λ x. x.0) p, ap (λ x. x.1) p),
    )

pub same_entries_of : {X : Type 0} → SameEntries X
same_entries_of E exact m n =
    let lists = slice_eq-Decides (entry_decides E exact) (entries m.entries) (entries n.entries) (same_maps E m n) refl in (
      λ t. same_entries_map m.entries n.entries (lists.0 t),
      λ e. lists.1 (ap entries e),
    )

pub same_members : SameMembers
same_members = same_entries_of (λ _ _. true) (λ x y. (λ _. refl, λ _. refl))
