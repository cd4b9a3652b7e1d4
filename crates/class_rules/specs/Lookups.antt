-- How methods and fields are found.
use Rattle.std.specs.Prelude.{◌≡◌, ◌≢◌, ℕ, ◌==◌, ◌&&◌, Option, Some, None, List, true, slice_get}
use Rattle.std.specs.List.{position_from}
use Rattle.class_rules.specs.Bodies.{has_body}
use Rattle.class_rules.specs.declared.rows.ClassRow.{ClassRow}
use Rattle.class_rules.specs.declared.rows.MethodRow.{MethodRow}
use Rattle.class_rules.specs.declared.rows.FieldRow.{FieldRow}
use Rattle.class_rules.specs.Rows.{Rows, HasParent, HasNoParent, Sub, interfaces_of}
use Rattle.class_rules.specs.Orders.{Order, first_found}

-- the first row of a method of the class with this key and a body
abbrev pub own_body : List MethodRow → ℕ → ℕ → Option ℕ
own_body methods class key = position_from (λ m. (m.class == class) && (m.key == key) && has_body m.body) 0 methods

-- the first row of a field of the class with this key
abbrev pub own_field : List FieldRow → ℕ → ℕ → Option ℕ
own_field fields class key = position_from (λ f. (f.class == class) && (f.key == key)) 0 fields

-- what a look-up class by class gives, from a class upwards by parents: `At c r` says that it gives r at c itself
pub data Upwards (classes : List ClassRow) (At : ℕ → Option ℕ → Type 0) : ℕ → Option ℕ → Type 0 where
  found : {c r : ℕ} → At c (Some r) → Upwards classes At c (Some r)
  further : {c p : ℕ} {r : Option ℕ} → At c None → HasParent classes c p → Upwards classes At p r → Upwards classes At c r
  ended : {c : ℕ} → At c None → HasNoParent classes c → Upwards classes At c None

-- the first method row with this key and a body along the path of parents: the walk over superclasses of method
-- resolution and selection in the Java Virtual Machine Specification, over what has a body
abbrev pub OnPath : Rows → ℕ → ℕ → Option ℕ → Type 0
OnPath rows class key result = Upwards rows.classes (λ c r. r ≡ own_body rows.methods c key) class result

-- the first row of a method of the class with this key, with a body or without
abbrev pub own_row : List MethodRow → ℕ → ℕ → Option ℕ
own_row methods class key = position_from (λ m. (m.class == class) && (m.key == key)) 0 methods

-- an interface that the class reaches, or is, with a method of this key
pub record IsHolder (rows : Rows) (class key interface : ℕ) : Type 0 where
  pub reached : Sub rows class interface
  pub class_row : ClassRow
  pub there : slice_get rows.classes interface ≡ Some class_row
  pub is_interface : class_row.interface ≡ true
  pub row : ℕ
  pub holds : own_row rows.methods interface key ≡ Some row

-- one of these that no other of them is below
pub record IsLowestHolder (rows : Rows) (class key interface : ℕ) : Type 0 where
  pub holder : IsHolder rows class key interface
  pub lowest : (other : ℕ) → IsHolder rows class key other → Sub rows other interface → other ≡ interface

-- a default method: the first row of such a lowest interface, where it has a body. A method without a body hides those of the interfaces above
pub record IsDefault (rows : Rows) (class key row : ℕ) : Type 0 where
  pub interface : ℕ
  pub lowest : IsLowestHolder rows class key interface
  pub first : own_row rows.methods interface key ≡ Some row
  pub method : MethodRow
  pub there : slice_get rows.methods row ≡ Some method
  pub bodied : has_body method.body ≡ true

-- the path of parents has no method with this key and a body, and there are two default methods
pub record IsAmbiguous (rows : Rows) (class key : ℕ) : Type 0 where
  pub off_path : OnPath rows class key None
  pub one : ℕ
  pub other : ℕ
  pub is_one : IsDefault rows class key one
  pub is_other : IsDefault rows class key other
  pub apart : one ≢ other

-- the method that a call on an object of the class runs: the one along the parents, or else the one default method. It is the selection of
-- methods in the Java Virtual Machine Specification, where more than one maximally specific method with a body is an error
pub data Resolve (rows : Rows) (class key : ℕ) : Option ℕ → Type 0 where
  on_path : {row : ℕ} → OnPath rows class key (Some row) → Resolve rows class key (Some row)
  by_default : {row : ℕ} → OnPath rows class key None → IsDefault rows class key row
      → ((other : ℕ) → IsDefault rows class key other → other ≡ row) → Resolve rows class key (Some row)
  nowhere : OnPath rows class key None → ((row : ℕ) → IsDefault rows class key row → ⊥) → Resolve rows class key None
  ambiguous : IsAmbiguous rows class key → Resolve rows class key None

-- some class that is reached, this one included, has a method with this key, with a body or without
pub record Declared (rows : Rows) (class key : ℕ) : Type 0 where
  pub owner : ℕ
  pub reached : Sub rows class owner
  pub row : ℕ
  pub method : MethodRow
  pub there : slice_get rows.methods row ≡ Some method
  pub in_owner : method.class ≡ owner
  pub has_key : method.key ≡ key

-- the row found first in the class, its interfaces in order, each with its own interfaces: `Order` lists them
abbrev pub FieldHere : Rows → ℕ → ℕ → Option ℕ → Type 0
FieldHere rows key c r = (order : List ℕ) × Order (interfaces_of rows.implements) c order × (r ≡ first_found (λ b. own_field rows.fields b key) order)

-- the row found in the class, else in its interfaces in order, each with its own interfaces, else from its parent: the
-- order of field resolution in the Java Virtual Machine Specification. On the way over interfaces the parents that their
-- rows name aren't looked at
abbrev pub FieldOf : Rows → ℕ → ℕ → Option ℕ → Type 0
FieldOf rows class key result = Upwards rows.classes (FieldHere rows key) class result
