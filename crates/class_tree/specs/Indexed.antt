-- What a tree keeps of its rows.
use Rattle.std.specs.Prelude.{◌≡◌, ℕ, ◌<◌, ◌^◌, ◌↔◌, List, Some, Contains, length, map, slice_get, slice_index}
use Rattle.class_tree.specs.declared.field_owners.FieldOwners.{FieldOwners}
use Rattle.class_tree.specs.declared.first_fields.FirstFields.{FirstFields}
use Rattle.class_tree.specs.declared.owners.Owners.{Owners}
use Rattle.class_tree.specs.declared.kept.KeptRows.{KeptRows}
use Rattle.class_tree.specs.declared.members.Members.{Members}
use Rattle.class_tree.specs.declared.inherited.Inherited.{Inherited}
use Rattle.class_rules.specs.declared.rows.ClassRow.{ClassRow}
use Rattle.class_rules.specs.declared.rows.MethodRow.{MethodRow}
use Rattle.class_rules.specs.declared.rows.FieldRow.{FieldRow}
use Rattle.class_order.specs.declared.spans.Span.{Span}
use Rattle.class_tree.specs.FirstFields.{TellFirstFields}
use Rattle.class_tree.specs.FirstRows.{row_at}
use Rattle.class_order.specs.Groups.{group}
use Rattle.class_tree.specs.Holders.{IsInterface, holders_of}
use Rattle.class_tree.specs.KeySpans.{member_of_field, member_of_method}
use Rattle.class_tree.specs.Owners.{AreOwners, AreReady, AreServed, HoldsOwner, IsHeld, IsSole}
use Rattle.class_rules.specs.Lookups.{own_body, own_field, own_row, Declared, IsHolder}
use Rattle.class_rules.specs.Paths.{Path}
use Rattle.class_rules.specs.Rows.{Rows, rows_of, NameClasses, NamesUnknown, IsOwnAncestor, Step, HasInterface, interfaces_of}
use Rattle.class_order.specs.Tables.{HavePlaces, IsReach}
use Rattle.class_tree.specs.Inherited.{AreInherited}

-- every parent and interface is a class, and no class is its own ancestor
pub record IsHierarchy (rows : Rows) : Type 0 where
  pub known : (a : ℕ) → NamesUnknown rows.classes rows.implements a → ⊥
  pub acyclic : (a : ℕ) → IsOwnAncestor rows.classes rows.implements a → ⊥

-- a class reached by interfaces alone has a field with this key
pub record HasFieldNear (rows : Rows) (class key : ℕ) : Type 0 where
  pub owner : ℕ
  pub reached : Path (HasInterface rows.implements) class owner
  pub row : ℕ
  pub own : own_field rows.fields owner key ≡ Some row

-- a place is held for a key where the fact holds of the class that has this place
pub record TellsOf (P : ℕ → ℕ → Type 0) (count : ℕ) (places : List ℕ) (table : List (List Span)) (o : Owners) : Type 0 where
  pub served : AreServed table o
  pub exact : (a k : ℕ) → a < count → HoldsOwner table o k (slice_index places a) ↔ P a k

-- a rank for each class, above those of its parent and its interfaces
pub record AreRanked (rows : Rows) (ranks : List ℕ) : Type 0 where
  pub len : length ranks ≡ length rows.classes
  pub falls : (a b : ℕ) → Step rows.classes rows.implements a b → slice_index ranks b < slice_index ranks a

-- the rows that are kept
abbrev pub rows_in : KeptRows → Rows
rows_in k = rows_of k.classes.items k.implements.items k.methods.items k.fields.items

-- an interface with a method of this key, whatever reaches it
pub record HoldsMethod (rows : Rows) (interface key : ℕ) : Type 0 where
  pub is_interface : IsInterface rows.classes interface
  pub row : ℕ
  pub own : own_row rows.methods interface key ≡ Some row

-- interfaces with a method of this key, among them all that the class reaches
pub record AreReached (rows : Rows) (class key : ℕ) (interfaces : List ℕ) : Type 0 where
  pub held : (b : ℕ) → Contains interfaces b → HoldsMethod rows b key
  pub all : (b : ℕ) → IsHolder rows class key b → Contains interfaces b

-- what is kept of methods and fields, over the tables of all steps and of the interfaces alone
pub record AreMembers (classes : List ClassRow) (methods : List MethodRow) (fields : List FieldRow) (reach near : List (List Span)) (m : Members) : Type 0 where
  pub declares : AreOwners classes (map member_of_method methods) reach m.declared
  pub near_fields : AreOwners classes (map member_of_field fields) near m.near_fields
  pub bodies : (c k : ℕ) → row_at m.bodies c k ≡ own_body methods c k
  pub interface_rows : (c k : ℕ) → IsInterface classes c → row_at m.interface_rows c k ≡ own_row methods c k
  pub own_fields : (c k : ℕ) → row_at m.own_fields c k ≡ own_field fields c k

-- the tables say what the rows say
pub record IsIndexed (rows : Rows) (interfaces : List (List ℕ)) (ranks places : List ℕ) (reach near : List (List Span)) (members : Members) (inherited : Inherited) (first_fields : FirstFields) : Type 0 where
  pub named : NameClasses rows
  pub hierarchy : IsHierarchy rows
  pub ranked : AreRanked rows ranks
  pub placed : HavePlaces (length rows.classes) places
  pub few : length rows.classes < 2 ^ 32
  pub interfaces_len : length interfaces ≡ length rows.classes
  pub interfaces_are : (a : ℕ) → group interfaces a ≡ interfaces_of rows.implements a
  pub reached : IsReach (Step rows.classes rows.implements) (length rows.classes) places reach
  pub reached_near : IsReach (HasInterface rows.implements) (length rows.classes) places near
  pub declares : TellsOf (Declared rows) (length rows.classes) places reach members.declared
  pub near_fields : TellsOf (HasFieldNear rows) (length rows.classes) places near members.near_fields
  pub field_owners : AreOwners rows.classes (map member_of_field rows.fields) near members.near_fields
  pub bodies : (c k : ℕ) → row_at members.bodies c k ≡ own_body rows.methods c k
  pub interface_rows : (c k : ℕ) → IsInterface rows.classes c → row_at members.interface_rows c k ≡ own_row rows.methods c k
  pub holders : (b k : ℕ) → Contains (holders_of members.declared.interfaces k) b ↔ HoldsMethod rows b k
  pub fields : (c k : ℕ) → row_at members.own_fields c k ≡ own_field rows.fields c k
  pub along : AreInherited rows.classes rows.methods places inherited
  pub firsts : TellFirstFields interfaces rows.fields first_fields

-- the class is the first of those for which there is such a field
pub record IsFirstNear (rows : Rows) (classes : List ℕ) (key class : ℕ) : Type 0 where
  pub index : ℕ
  pub there : slice_get classes index ≡ Some class
  pub near : HasFieldNear rows class key
  pub first : (k c : ℕ) → k < index → slice_get classes k ≡ Some c → HasFieldNear rows c key → ⊥

-- the place of a class is held where it has a field with the key near, and a sole owner there is the only class with such a field that interfaces lead to
pub record TellFields (rows : Rows) (f : FieldOwners) : Type 0 where
  pub ready : AreReady f.owners
  pub len : length f.places.now ≡ length rows.classes
  pub exact : (a : ℕ) → a < length rows.classes → IsHeld f.owners (slice_index f.places.now a) ↔ HasFieldNear rows a f.key
  pub sole : (a b : ℕ) → a < length rows.classes → IsSole f.owners (slice_index f.places.now a) b
      → (owner row : ℕ) → Path (HasInterface rows.implements) a owner → own_field rows.fields owner f.key ≡ Some row → owner ≡ b
