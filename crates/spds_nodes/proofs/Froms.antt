-- Edges from what is found at a place.
use Rattle.std.proofs.Common.{◌≡◌, ℕ, ◌<◌, ◌↔◌, List, ap, ◌∙◌, inl, inr, arith}
use Rattle.std.specs.List.{AllPairs}
use Rattle.lists.specs.Lists.{IsApart}
use Rattle.link_indexes.specs.declared.method.Place.{Place as Indexed}
use Rattle.link_indexes.specs.Rows.{Precedes}
use Rattle.link_sites.specs.declared.place.Place.{Place}
use Rattle.link_sites.specs.Places.{before, in_flight}
use Rattle.spds_rules.specs.declared.edge.Edge.{Edge}
use Rattle.spds_rules.specs.declared.edge.EdgeKind.{EdgeKind}
use Rattle.spds_rules.specs.declared.node.Node.{Node}
use Rattle.spds_rules.specs.declared.node.Var.{Var}
use Rattle.spds_nodes.specs.Added.{IsAdded}
use Rattle.spds_nodes.specs.Into.{IsFrom}
use Rattle.spds_nodes.proofs.Joined.{IsAdded-same, IsApart-ordered}

-- edges from variables with a fact that says the same
pub IsFrom-same : (place : Place) (kind : EdgeKind) (to : Node) (P Q : Var → Type 0) (old new : List Edge) → ((v : Var) → P v ↔ Q v)
    → IsAdded (IsFrom place kind to P) old new → IsAdded (IsFrom place kind to Q) old new
IsFrom-same place kind to P Q old new same =
    IsAdded-same (IsFrom place kind to P) (IsFrom place kind to Q) old new (λ e. (
      (λ from. record { holds = (same e.from.var).0 from.holds; at = from.at; is_kind = from.is_kind; ends = from.ends }),
      (λ from. record { holds = (same e.from.var).1 from.holds; at = from.at; is_kind = from.is_kind; ends = from.ends }),
    ))

-- a place is at one statement of a method
pub one_index : (q : Place) (m n a b : ℕ) → q ≡ before m a → q ≡ before n b → a ≡ b
one_index q m n a b x y = cc (ap (λ (p : Place). p.index) x, ap (λ (p : Place). p.index) y)

pub one_raised : (q : Place) (m n a b : ℕ) → q ≡ in_flight m a → q ≡ in_flight n b → a ≡ b
one_raised q m n a b x y = cc (ap (λ (p : Place). p.index) x, ap (λ (p : Place). p.index) y)

-- it is in one method
pub one_method : (q : Place) (m n a b : ℕ) → q ≡ before m a → q ≡ before n b → m ≡ n
one_method q m n a b x y = cc (ap (λ (p : Place). p.method) x, ap (λ (p : Place). p.method) y)

pub one_raised_method : (q : Place) (m n a b : ℕ) → q ≡ in_flight m a → q ≡ in_flight n b → m ≡ n
one_raised_method q m n a b x y = cc (ap (λ (p : Place). p.method) x, ap (λ (p : Place). p.method) y)

-- it is at one statement of the program
pub one_place : (q : Place) (a b : Indexed) → q ≡ before a.method a.index → q ≡ before b.method b.index → a ≡ b
one_place q a b x y =
    let methods = one_method q a.method b.method a.index b.index x y in
    let indexes = one_index q a.method b.method a.index b.index x y in
    let by_method : a ≡ record { method = b.method; index = a.index } = ap (λ (m : ℕ). record { method = m; index = a.index }) methods in
    let by_index : record { method = b.method; index = a.index } ≡ b = ap (λ (i : ℕ). record { method = b.method; index = i }) indexes in
    by_method ∙ by_index

-- the places of an index stand apart, and so do the indexes of one
pub places_apart : (places : List Indexed) → AllPairs Precedes places → IsApart places
places_apart places ordered = IsApart-ordered Precedes places strict ordered
  where
    strict : (a : Indexed) → Precedes a a → ⊥
    strict a before = elim before [ inl less ↦ omega (arith, less) | inr later ↦ omega (arith, later.1) ]

pub indexes_apart : (indexes : List ℕ) → AllPairs (λ (a b : ℕ). a < b) indexes → IsApart indexes
indexes_apart indexes ordered = IsApart-ordered (λ (a b : ℕ). a < b) indexes (λ x less. omega (arith, less)) ordered
