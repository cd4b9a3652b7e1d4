-- What is known of a method that a run may reach, and of the root.
use Rattle.std.proofs.Common.{ℕ, ◌<◌, List, [], ◌∷◌, length, get_or, All, refl, inl, inr, arith}
use Rattle.std.specs.Option.{IsSome}
use Rattle.std.proofs.lemmas.Option.{slice_get-get_or}
use Rattle.class_rules.specs.Paths.{Path, here, step}
use Rattle.class_rules.specs.Rows.{Step}
use Rattle.lists.specs.Lists.{Has}
use Rattle.lists.proofs.Places.{slice_get-append_left, slice_get-below, slice_get-push}
use Rattle.link_reach.specs.Reaches.{AreReached}
use Rattle.link_rules.specs.Classes.{DeclaredMethod, methods_of}
use Rattle.link_rules.specs.Reach.{AreInitialized, IsInitialized, IsTarget, Reached, RefusesAt, asked, called, initialized, root}
use Rattle.link_rules.specs.Refusals.{IsAccepted, within}
use Rattle.link_rules.specs.Root.{root_number, root_of}
use Rattle.link_rules.specs.World.{AreRows, World}
use Rattle.link_rules.specs.declared.refusal.LinkKind.{LinkKind}
use Rattle.jim_link.specs.Made.{AreKnownAbove, IsMethodOf}
use Rattle.jim_link.proofs.Bodied.{target_below, target_bodied}
use Rattle.jim_link.proofs.Moved.{root_target}

-- a method that is reached has a body
pub reached_bodied : (w : World) (row : ℕ) (d : DeclaredMethod) → AreRows w.classes w.rows → Reached w row → IsMethodOf w row d → IsSome d.decl.body
reached_bodied w row d are reached there = on reached there
  where
    on : {number : ℕ} → Reached w number → IsMethodOf w number d → IsSome d.decl.body
    on root is = (let below = slice_get-below (methods_of w.classes) (root_number w) d is in absurd (omega (arith, below)))
    on (called {index = index} {row = row} {m = m} r of t) is = target_bodied w m index row d are t is
    on (initialized {class = class} {index = index} {row = row} i t) is = target_bodied w (root_of w (class ∷ [])) index row d are t is

module _ (w : World) (are : AreRows w.classes w.rows) (accepted : IsAccepted w) (rows : List ℕ) (reached : AreReached w rows) where
  -- what is reached is one of the rows
  has_reached : (row : ℕ) → row < length (methods_of w.classes) → Reached w row → Has rows row
  has_reached row below r = (reached.each row).1 (below, r)

  module _ (row : ℕ) (d : DeclaredMethod) (has : Has rows row) (there : IsMethodOf w row d) where
    -- the method has a body
    pub row_bodied : IsSome d.decl.body
    row_bodied = reached_bodied w row d are ((reached.each row).0 has).1 there

    -- no rule refuses it
    pub row_accepted : (index : ℕ) (kind : LinkKind) → RefusesAt w d index kind → ⊥
    row_accepted index kind r = accepted (within row index kind) (d, inl (((reached.each row).0 has).1, there), r)

    -- what it may run is one of the rows
    pub row_numbered : (index other : ℕ) → IsTarget w d index other → Has rows other
    row_numbered index other t =
        has_reached other (target_below w d index other are t) (called ((reached.each row).0 has).1 (slice_get-append_left (methods_of w.classes) (root_of w [] ∷ []) row d there) t)

  module _ (classes : List ℕ) (are_initialized : AreInitialized w classes) where
    -- no rule refuses the root
    pub root_accepted : (index : ℕ) (kind : LinkKind) → RefusesAt w (root_of w classes) index kind → ⊥
    root_accepted index kind r = accepted (within (root_number w) index kind) (root_of w classes, inr (refl, classes, are_initialized, refl), r)

    -- what the root may run is one of the rows
    pub root_numbered : (index other : ℕ) → IsTarget w (root_of w classes) index other → Has rows other
    root_numbered index other t = has_reached other (target_below w (root_of w classes) index other are t) (elim (root_target w classes index other t) [
      | inl h ↦ initialized ((are_initialized.each h.0).0 h.1) h.2
      | inr h ↦ called root (slice_get-push (methods_of w.classes) (root_of w [])) h
    ])

-- what is above a class is one
above_below : (w : World) → AreKnownAbove w → (a c : ℕ) → a < length w.classes → Path (Step w.rows.classes w.rows.implements) a c → c < length w.classes
above_below w known a c below here = below
above_below w known a c below (step {b = b} first rest) = above_below w known b c (known a b first) rest

-- the classes to be initialized are some of those that are linked
pub initialized_below : (w : World) (classes : List ℕ) → AreKnownAbove w → AreInitialized w classes → All (λ c. c < length w.classes) classes
initialized_below w classes known are k d below = on ((are.each (get_or classes k d)).0 (k, slice_get-get_or classes k d below))
  where
    on : {c : ℕ} → IsInitialized w c → c < length w.classes
    on (asked {class = class} d r m a) = above_below w known a.touched class (slice_get-below w.classes a.touched a.is_touched.class a.is_touched.there) a.below
