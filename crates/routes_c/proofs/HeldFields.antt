-- What the fields of a `BoxedContent` own: facts alone, of the pointer and of the allocator, so that it is had for nothing.
use Rattle.std.proofs.Common.{◌≡◌, List, [], ◌∷◌, Option, Some, None, is_some, true, true≢false, refl, sym, Global}
use seplogic.Ra.Ura.{Ura}
use mir.Val.{Val, vunit, vstruct, vcons, vnil}
use types.Logic.{Logic}
use denote.Laws.{Is, Lawful, Makes, Tells, Typed}
use denote.RawPtr.{ptr_val, rawptr_pure, rawptr_vals, rawptr_Lawful, rawptr_Tells_one}
use denote.RattleType.{RattleType}
use denote.Struct.Struct.{Struct, Struct-Makes, Struct-Lawful, Struct-Tells, Plains}
use denote.Struct.Laws.{lawfuls, makes}
use denote.Struct.Owning.{Owning, shape, fields, row, to}
use Rattle.std_heap.specs.contracts.Global.{the_row as G, the_field, the_type as global-declared}
use Rattle.std_heap.proofs.Global.TheLaws as global
use Rattle.routes_c.specs.contracts.boxed_content.BoxedContent.{the_type, the_row as held-row}
use Rattle.routes_c.specs.contracts.raw_box.RawBox as loose
use Rattle.routes_c.specs.declared.boxed_content.BoxedContent.{BoxedContent}
use Rattle.std_alloc.specs.contracts.boxed.Box as box
use Rattle.std_heap.specs.contracts.GlobalAllocator.TheImpl.{ghosts}
use Rattle.routes_c.proofs.boxed_content.BoxedContent.TheLaws as laws

-- the row of the fields
abbrev pub Fields : RattleType
Fields = Struct (shape the_type)

-- an allocator's relation to its machine value
pub allocator_is : (g : Global) → Is G g (global.lowered g ∷ [])
allocator_is g = ((vstruct (vcons vunit vnil) ∷ [], tt), (refl, (((vunit ∷ [], tt), (refl, (refl, tt))), tt)))

-- the fields' relation to the struct's machine value
pub fields_are : (h : BoxedContent) → Is Fields (to the_type h) (laws.lowered h ∷ [])
fields_are h = ((ptr_val h.at ∷ [], (global.lowered h.alloc ∷ [], tt)), (refl, (refl, (allocator_is h.alloc, tt))))

plains : Plains (fields the_type)
plains = (rawptr_pure, ((λ g vs us. (tt, ((λ ws. (tt, (tt, tt))), tt))), tt))

-- a box of a T, and its machine value
abbrev box_type : RattleType → Owning
box_type T = box.the_type T G ghosts

abbrev pub Box-row : RattleType → RattleType
Box-row T = row (box_type T)

abbrev pub box_vals : (T : RattleType) → (Box-row T).Denot → List Val
box_vals T b = vstruct (vcons (ptr_val b.ptr) (vcons (global.lowered b.alloc) vnil)) ∷ []

pub box_tells : (T : RattleType) → Tells (Box-row T) (Is (Box-row T)) (box_vals T)
box_tells T b vs p = Struct-Tells (shape (box_type T)) (rawptr_vals, ((λ g. global.lowered g ∷ []), tt)) (rawptr_Tells_one, (global.lowers.val_is, tt)) (to (box_type T) b) vs p.0

module _ {M : Type 1} {𝓤 : Ura M} (𝓛 : Logic 𝓤) where
  pub fields_made : Makes 𝓛 Fields (Is Fields)
  fields_made = Struct-Makes 𝓛 (shape the_type) plains

  pub fields_typed : (h : BoxedContent) → Typed Fields.mir (laws.lowered h ∷ [])
  fields_typed h = (Struct-Lawful 𝓛 (shape the_type) (lawfuls 𝓛 the_type.parts laws.the_laws)).typed (to the_type h) (laws.lowered h ∷ []) (fields_are h)

  pub allocator_typed : (g : Global) → Typed G.mir (global.lowered g ∷ [])
  allocator_typed g = (global.the_field_laws.lawful 𝓛).typed (the_field.into g) (global.lowered g ∷ []) (allocator_is g)

  allocator_lawful : Lawful 𝓛 G
  allocator_lawful = record { typed = λ g. (global.the_field_laws.lawful 𝓛).typed (the_field.into g) }

  pub box_typed : (T : RattleType) (b : (Box-row T).Denot) → Typed (Box-row T).mir (box_vals T b)
  box_typed T b = (Struct-Lawful 𝓛 (shape (box_type T)) (rawptr_Lawful 𝓛, (allocator_lawful, tt))).typed (to (box_type T) b) (box_vals T b)
      ((ptr_val b.ptr ∷ [], (global.lowered b.alloc ∷ [], tt)), (refl, (refl, (allocator_is b.alloc, tt))))

-- the loose parts of a box of a T, and their machine value
abbrev loose_type : RattleType → Owning
loose_type T = loose.the_type T

abbrev pub RawBox-row : RattleType → RattleType
RawBox-row T = row (loose_type T)

abbrev pub LooseFields : RattleType → RattleType
LooseFields T = Struct (shape (loose_type T))

abbrev pub loose_vals : (T : RattleType) → (RawBox-row T).Denot → List Val
loose_vals T l = vstruct (vcons (ptr_val l.at) (vcons (global.lowered l.alloc) vnil)) ∷ []

pub loose_tells : (T : RattleType) → Tells (RawBox-row T) (Is (RawBox-row T)) (loose_vals T)
loose_tells T l vs p = Struct-Tells (shape (loose_type T)) (rawptr_vals, ((λ g. global.the_field_laws.val g ∷ []), tt)) (rawptr_Tells_one, (global.the_field_laws.tells, tt)) (to (loose_type T) l) vs p.0

pub loose_fields_are : (T : RattleType) (l : (RawBox-row T).Denot) → Is (LooseFields T) (to (loose_type T) l) (loose_vals T l)
loose_fields_are T l = ((ptr_val l.at ∷ [], (global.lowered l.alloc ∷ [], tt)), (refl, (refl, (allocator_is l.alloc, tt))))

module _ {M : Type 1} {𝓤 : Ura M} (𝓛 : Logic 𝓤) where
  pub loose_typed : (T : RattleType) (l : (RawBox-row T).Denot) → Typed (RawBox-row T).mir (loose_vals T l)
  loose_typed T l = (Struct-Lawful 𝓛 (shape (loose_type T)) (rawptr_Lawful 𝓛, (global.the_field_laws.lawful 𝓛, tt))).typed (to (loose_type T) l) (loose_vals T l) (loose_fields_are T l)

  pub loose_fields_made : (T : RattleType) → Makes 𝓛 (LooseFields T) (Is (LooseFields T))
  loose_fields_made T = Struct-Makes 𝓛 (shape (loose_type T)) (rawptr_pure, ((λ g vs us. (tt, ((λ ws. (tt, (tt, tt))), tt))), tt))

  pub allocator_made : Makes 𝓛 G (Is G)
  allocator_made = makes global-declared ((λ m vs us. (tt, (tt, tt))), tt) 𝓛

-- a `BoxedContent` that is passed, and its machine value
abbrev pub held_vals : BoxedContent → List Val
held_vals h = laws.lowered h ∷ []

pub held_tells : Tells held-row (Is held-row) held_vals
held_tells h vs p = laws.lowers.val_is h vs p

module _ {M : Type 1} {𝓤 : Ura M} (𝓛 : Logic 𝓤) where
  pub held_typed : (h : BoxedContent) → Typed held-row.mir (held_vals h)
  held_typed h = fields_typed 𝓛 h

-- the content that a handle has
pub taken : {X : Type 0} (o : Option X) → is_some o ≡ true → (x : X) × (o ≡ Some x)
taken (Some x) e = (x, refl)
taken None e = absurd (true≢false (sym e))
