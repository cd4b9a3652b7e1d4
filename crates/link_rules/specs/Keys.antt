-- Member keys: two members have one key exactly where their names, their types and the static flag agree, by bytes.
use Rattle.std.specs.Prelude.{◌≡◌, ◌≢◌, ℕ, List, Option, Bool, true, false, Some, length, map, slice_get}
use Rattle.std.specs.Option.{is_some}
use Rattle.jim_ast.specs.declared.syntax.FieldSig.{FieldSig}
use Rattle.jim_ast.specs.declared.syntax.MethodSig.{MethodSig}
use Rattle.jim_ast.specs.declared.syntax.Mode.{Mode}
use Rattle.jim_ast.specs.declared.syntax.Mode.TheVariants.{Special, Virtual, Interface, Static}
use Rattle.link_rules.specs.Classes.{DeclaredField, DeclaredMethod}
use Rattle.lists.specs.Lists.{IsFirstOr}
use Rattle.link_rules.specs.Names.{TypeKey, text_of, type_key}

-- a method's name, the types of its parameters and of its result, and whether it is static
pub record MethodKey : Type 0 where
  pub name : List ℕ
  pub params : List TypeKey
  pub result : TypeKey
  pub is_static : Bool

-- name, types and static flag of a method, by bytes
abbrev pub method_key : DeclaredMethod → MethodKey
method_key m =
    record {
      name = text_of m.names m.decl.name;
      params = map (type_key m.names) m.decl.params;
      result = type_key m.names m.decl.result;
      is_static = m.decl.is_static;
    }

-- a call of static mode names a static method, each other call one that isn't
abbrev pub is_static_mode : Mode → Bool
is_static_mode Static = true
is_static_mode Special = false
is_static_mode Virtual = false
is_static_mode Interface = false

-- a call has a receiver exactly where its mode isn't static
abbrev pub HasReceiverByMode : {X : Type 0} → Mode → Option X → Type 0
HasReceiverByMode mode receiver = is_some receiver ≢ is_static_mode mode

-- the key that a call names
abbrev pub called_key : List (List ℕ) → Mode → MethodSig → MethodKey
called_key names mode sig =
    record {
      name = text_of names sig.name;
      params = map (type_key names) sig.params;
      result = type_key names sig.result;
      is_static = is_static_mode mode;
    }

-- a field's name and type, and whether it is static
pub record FieldKey : Type 0 where
  pub name : List ℕ
  pub type : TypeKey
  pub is_static : Bool

-- name, type and static flag of a field, by bytes
abbrev pub field_key : DeclaredField → FieldKey
field_key f = record { name = text_of f.names f.decl.name; type = type_key f.names f.decl.ty; is_static = f.decl.is_static }

-- the key that an access names
abbrev pub accessed_key : List (List ℕ) → Bool → FieldSig → FieldKey
accessed_key names is_static sig = record { name = text_of names sig.name; type = type_key names sig.ty; is_static = is_static }

-- the method with this number has this key
pub record HasMethodKey (methods : List DeclaredMethod) (key : MethodKey) (number : ℕ) : Type 0 where
  pub method : DeclaredMethod
  pub there : slice_get methods number ≡ Some method
  pub has : method_key method ≡ key

-- a key's number is that of the first method that has it, or how many methods there are
abbrev pub IsMethodKeyNumber : List DeclaredMethod → MethodKey → ℕ → Type 0
IsMethodKeyNumber methods key n = IsFirstOr (length methods) (HasMethodKey methods key) n

-- the field with this number has this key
pub record HasFieldKey (fields : List DeclaredField) (key : FieldKey) (number : ℕ) : Type 0 where
  pub field : DeclaredField
  pub there : slice_get fields number ≡ Some field
  pub has : field_key field ≡ key

-- a key's number is that of the first field that has it, or how many fields there are
abbrev pub IsFieldKeyNumber : List DeclaredField → FieldKey → ℕ → Type 0
IsFieldKeyNumber fields key n = IsFirstOr (length fields) (HasFieldKey fields key) n
