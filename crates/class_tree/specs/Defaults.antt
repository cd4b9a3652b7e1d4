-- The default methods of a key, one interface after the other.
use Rattle.std.specs.Prelude.{◌≡◌, ◌≢◌, ℕ, Some, true, slice_get}
use Rattle.class_rules.specs.Bodies.{has_body}
use Rattle.class_rules.specs.declared.rows.MethodRow.{MethodRow}
use Rattle.class_tree.specs.declared.tree.Defaults.{Defaults}
use Rattle.class_tree.specs.declared.tree.Defaults.TheVariants.{Nothing, One, Several}
use Rattle.class_rules.specs.Lookups.{IsLowestHolder, own_row}
use Rattle.class_rules.specs.Rows.{Rows}

-- the interface's first row of this key has a body
pub record HasDefault (rows : Rows) (interface key row : ℕ) : Type 0 where
  pub first : own_row rows.methods interface key ≡ Some row
  pub method : MethodRow
  pub there : slice_get rows.methods row ≡ Some method
  pub bodied : has_body method.body ≡ true

-- a default method that comes from this interface
pub record IsDefaultFrom (rows : Rows) (class key interface row : ℕ) : Type 0 where
  pub lowest : IsLowestHolder rows class key interface
  pub first : own_row rows.methods interface key ≡ Some row
  pub method : MethodRow
  pub there : slice_get rows.methods row ≡ Some method
  pub bodied : has_body method.body ≡ true

-- two rows have the fact
pub record HasTwo (P : ℕ → Type 0) : Type 0 where
  pub one : ℕ
  pub other : ℕ
  pub is_one : P one
  pub is_other : P other
  pub apart : one ≢ other

-- no row has the fact, one alone, or two
abbrev pub AreDefaults : (ℕ → Type 0) → Defaults → Type 0
AreDefaults P Nothing = (row : ℕ) → P row → ⊥
AreDefaults P (One row) = P row × ((other : ℕ) → P other → other ≡ row)
AreDefaults P Several = HasTwo P
