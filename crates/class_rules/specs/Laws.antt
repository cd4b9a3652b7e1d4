-- What holds of sub-classing and of what is found, whatever the rows.
use Rattle.std.specs.Prelude.{◌≡◌, ℕ, true, Option, Some, slice_get}
use Rattle.class_rules.specs.Bodies.{has_body}
use Rattle.class_rules.specs.declared.rows.MethodRow.{MethodRow}
use Rattle.class_rules.specs.declared.rows.FieldRow.{FieldRow}
use Rattle.class_rules.specs.Lookups.{OnPath, Resolve, FieldOf}
use Rattle.class_rules.specs.Paths.{Path}
use Rattle.class_rules.specs.Rows.{Rows, HasParent, Sub}

-- each class is below itself
abbrev pub SubIsReflexive : Type 0
SubIsReflexive = (rows : Rows) (a : ℕ) → Sub rows a a

-- what is below a class is below what this one is below
abbrev pub SubIsTransitive : Type 0
SubIsTransitive = (rows : Rows) (a b c : ℕ) → Sub rows a b → Sub rows b c → Sub rows a c

-- the row is that of a method with this key and a body, in the class or one that its parents lead to
pub record IsMethodAbove (rows : Rows) (class key row : ℕ) : Type 0 where
  pub method : MethodRow
  pub there : slice_get rows.methods row ≡ Some method
  pub has_key : method.key ≡ key
  pub bodied : has_body method.body ≡ true
  pub above : Path (HasParent rows.classes) class method.class

-- a look-up along the parents gives such a row
abbrev pub PathFindsMethods : Type 0
PathFindsMethods = (rows : Rows) (class key row : ℕ) → OnPath rows class key (Some row) → IsMethodAbove rows class key row

-- and gives one answer
abbrev pub PathGivesOneAnswer : Type 0
PathGivesOneAnswer = (rows : Rows) (class key : ℕ) (r s : Option ℕ) → OnPath rows class key r → OnPath rows class key s → r ≡ s

-- the row is that of a method with this key and a body, in a class or an interface that this one is below
pub record IsMethodOver (rows : Rows) (class key row : ℕ) : Type 0 where
  pub method : MethodRow
  pub there : slice_get rows.methods row ≡ Some method
  pub has_key : method.key ≡ key
  pub bodied : has_body method.body ≡ true
  pub above : Sub rows class method.class

-- the method that a call on an object runs is such a row
abbrev pub SelectionFindsMethods : Type 0
SelectionFindsMethods = (rows : Rows) (class key row : ℕ) → Resolve rows class key (Some row) → IsMethodOver rows class key row

-- and there is one answer
abbrev pub SelectionGivesOneAnswer : Type 0
SelectionGivesOneAnswer = (rows : Rows) (class key : ℕ) (r s : Option ℕ) → Resolve rows class key r → Resolve rows class key s → r ≡ s

-- the row is that of a field with this key, in a class that this one is below
pub record IsFieldAbove (rows : Rows) (class key row : ℕ) : Type 0 where
  pub field : FieldRow
  pub there : slice_get rows.fields row ≡ Some field
  pub has_key : field.key ≡ key
  pub above : Sub rows class field.class

-- a look-up of a field gives such a row
abbrev pub LookUpFindsFields : Type 0
LookUpFindsFields = (rows : Rows) (class key row : ℕ) → FieldOf rows class key (Some row) → IsFieldAbove rows class key row

-- and gives one answer
abbrev pub LookUpGivesOneAnswer : Type 0
LookUpGivesOneAnswer = (rows : Rows) (class key : ℕ) (r s : Option ℕ) → FieldOf rows class key r → FieldOf rows class key s → r ≡ s
