-- For each key the interfaces that have a member of it.
use Rattle.std.specs.Prelude.{◌≡◌, ℕ, ◌↔◌, ◌==◌, true, List, [], Some, Contains, cond, leb, length, position, slice_get}
use Rattle.class_tree.specs.declared.first_rows.Member.{Member}
use Rattle.class_tree.specs.declared.holders.Holders.{Holders}
use Rattle.class_rules.specs.declared.rows.ClassRow.{ClassRow}
use Rattle.class_tree.specs.KeySpans.{list_at}

-- the class is an interface
pub record IsInterface (classes : List ClassRow) (class : ℕ) : Type 0 where
  pub class_row : ClassRow
  pub there : slice_get classes class ≡ Some class_row
  pub is_interface : class_row.interface ≡ true

-- the interfaces kept for the key
abbrev pub holders_of : Holders → ℕ → List ℕ
holders_of h k = list_at h.interfaces (position (λ x. k == x) h.keys)

-- the interfaces kept for the key where these are few, and none where they are more
abbrev pub few_of : Holders → ℕ → List ℕ
few_of h k = cond (leb (length (holders_of h k)) 4) (holders_of h k) []

-- for each key the interfaces among the classes of its members
pub record AreHolders (classes : List ClassRow) (members : List Member) (h : Holders) : Type 0 where
  pub len : length h.interfaces ≡ length h.keys
  pub exact : (k b : ℕ) → Contains (holders_of h k) b ↔ IsInterface classes b × Contains members (record { class = b; key = k })
