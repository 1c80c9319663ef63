-- `ShortVec` as a type that may contain the type that contains it. Each definition is that of `Vec`, which has the same value.
--     as_vec, of_vec       a `ShortVec` as the `Vec` of its words, and back
--     the_former, the_weighed, the_empty, the_items, the_items_listed, the_facts      those of that `Vec`
--     the_places, the_codes_placed      it owns, lends and is coded by what its items own, lend and are coded by
use Rattle.std.specs.Prelude.{◌≡◌, List}
use mathlib.Core.Path.{refl}
use mathlib.Core.Former.{Former, this, via, children}
use base.Stored.{Gv, gcons}
use base.Fml.{fsep}
use denote.RattleType.{RattleType}
use denote.Sharing.{beside}
use denote.Struct.Struct.{Struct}
use denote.Struct.Owning.{shape, to}
use denote.HoleLaws.{Alike}
use denote.Hole.Carrier.{listed}
use denote.Param.Weighed.{Weighed}
use Rattle.std_alloc.specs.declared.vec.Vec.{Vec}
use Rattle.std_alloc.specs.Vec.Recursive.{buffer_placed, lent_placed, codes_placed}
use Rattle.std_alloc.specs.formers.vec.Vec as vec
use Rattle.std_heap.specs.declared.Global.{Global}
use Rattle.std_heap.specs.contracts.GlobalAllocator.TheImpl.{ghosts as heap}
use Rattle.short_vec.specs.declared.short_vec.ShortVec.{ShortVec}
use Rattle.short_vec.specs.contracts.short_vec.ShortVec as C

-- the `Vec` of the same words
abbrev pub as_vec : {X : Type 0} → ShortVec X → Vec X Global
as_vec d = record { ptr = d.ptr; len = d.len; cap = d.cap; alloc = d.alloc; items = d.items; ok = d.ok; small = d.small }

-- the `ShortVec` of a `Vec`'s words
abbrev pub of_vec : {X : Type 0} → Vec X Global → ShortVec X
of_vec v = record { ptr = v.ptr; len = v.len; cap = v.cap; alloc = v.alloc; items = v.items; ok = v.ok; small = v.small }

-- it holds its items as the `Vec` does
abbrev pub the_former : Former {0} → Former {0}
the_former g = via (vec.the_former g Global) (λ X. ShortVec (g.Of X)) (λ X. as_vec) (λ X. of_vec) (λ X d. refl) (λ X v. refl)

-- the largest measure among the items
abbrev pub the_weighed : {g : Former {0}} → Weighed g → Weighed (the_former g)
the_weighed w = let v = vec.the_weighed w Global in record { weight = λ X μ d. v.weight X μ (as_vec d); puts = λ X μ d. v.puts X μ (as_vec d) }

-- the list without items
pub the_empty : ShortVec ⊥
the_empty = of_vec (vec.the_empty Global (record { memory = record { seal = tt } }))

-- the items as a list
abbrev pub the_items : (X : Type 0) → ShortVec X → List X
the_items X d = d.items

-- the items are all that it holds
pub the_items_listed : (X : Type 0) (d : ShortVec X) → listed _ (children (the_former this) X d) ≡ the_items X d
the_items_listed X d = vec.the_items_listed Global X (as_vec d)

first : {a b c : Gv} → a ≡ b → gcons a c ≡ gcons b c
first {c = c} e = λ i. gcons (e i) c

second : {a b c : Gv} → a ≡ b → gcons c a ≡ gcons c b
second {c = c} e = λ i. gcons c (e i)

module _ (R R' : RattleType) (h : R.Denot → R'.Denot) where
  -- it owns and lends exactly what its items do
  pub the_places : Alike R R' h → Alike (C.the_row R) (C.the_row R') ((the_former this).map R.Denot R'.Denot h)
  the_places a = record {
    mir_same = refl;
    own_same = λ d i vs. fsep ((Struct (shape (C.the_type R))).own_val (to (C.the_type R) d) vs) (buffer_placed R R' h a (heap.dealloc_token d.alloc) d.ptr d.len d.cap d.items i);
    shr_same = λ d i b o. beside ((Struct (shape (C.the_type R))).shr_at (to (C.the_type R) d) b o) (lent_placed R R' h a d.ptr d.len d.cap d.items i);
  }

  -- it is coded by the codes of its items
  pub the_codes_placed : ((y : R.Denot) → R'.coded.code (h y) ≡ R.coded.code y) → (d : ShortVec R.Denot) → (C.the_row R').coded.code ((the_former this).map R.Denot R'.Denot h d) ≡ (C.the_row R).coded.code d
  the_codes_placed e d = second (first (codes_placed R.coded.code R'.coded.code h e d.items))
