-- What is known of calls on objects.
use Rattle.std.specs.Prelude.{◌≡◌, ◌↔◌, ℕ, List, [], ◌∷◌, Option, Some, None, IfSome, IsTrue}
use Rattle.std.specs.BTreeMap as tree
use Rattle.std.specs.Ordering.{nat_cmp, ordering_then}
use Rattle.std.specs.declared.cmp.Ordering.{Ordering}
use Rattle.jim_ast.specs.declared.syntax.Mode.{Mode}
use Rattle.jim_ast.specs.declared.syntax.Mode.TheVariants.{Virtual}
use Rattle.link_rules.specs.Faults.{FindsSeveral}
use Rattle.link_rules.specs.Targets.{AreTargetRows}
use Rattle.link_rules.specs.World.{World}
use Rattle.link_calls.specs.declared.finding.Found.{Found}
use Rattle.link_calls.specs.declared.targets.Asked.{Asked}
use Rattle.link_calls.specs.declared.targets.Known.{Known}

-- the row alone, or nothing
abbrev pub HasAtMost : Option ℕ → List ℕ → Type 0
HasAtMost (Some row) rows = rows ≡ row ∷ []
HasAtMost None rows = rows ≡ []

-- the methods that a call may run, and whether several default methods are there for it
pub record IsFound (w : World) (mode : Mode) (class key : ℕ) (found : Found) : Type 0 where
  pub targets : AreTargetRows w mode class key found.rows.items
  pub is_several : IsTrue found.several ↔ FindsSeveral w mode class key

-- pairs in order, by their classes and then by their keys
abbrev pub pair_cmp : Asked → Asked → Ordering
pair_cmp a b = ordering_then (nat_cmp a.class b.class) (nat_cmp a.key b.key)

-- what is known of a class and a key
abbrev pub known_at : Known → ℕ → ℕ → Option Found
known_at known class key = tree.get pair_cmp known.found (record { class = class; key = key })

-- what is known is what a call on an object runs
abbrev pub AreKnown : World → Known → Type 0
AreKnown w known = (class key : ℕ) → IfSome (known_at known class key) (IsFound w Virtual class key)
