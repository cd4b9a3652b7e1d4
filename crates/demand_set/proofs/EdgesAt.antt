-- Edges by the numbers of their nodes, while both lists grow.
use Rattle.std.proofs.Common.{◌≡◌, List, [], ◌∷◌, ◌++◌, length, length-append, slice_get, Some, subst, sym, refl, inl, inr, arith}
use Rattle.lists.proofs.Places.{slice_get-below, slice_get-pushed}
use Rattle.lists.specs.Lists.{Each}
use Rattle.spds_rules.specs.declared.edge.Edge.{Edge}
use Rattle.spds_rules.specs.declared.node.Node.{Node}
use Rattle.demand_set.specs.declared.numbered.EdgeAt.{EdgeAt}
use Rattle.demand_set.specs.Numbers.{AreEdgesAt, IsEdgeAt}
use Rattle.demand_set.specs.Searches.{Grows}
use Rattle.lists.proofs.SideBySide.{Each-push}

-- nodes that keep their numbers
pub AreEdgesAt-grows : {Fact : Node → Type 0} (old new : List Node) (edges : List Edge) (numbered : List EdgeAt) → Grows Fact old new → AreEdgesAt old edges numbered
    → AreEdgesAt new edges numbered
AreEdgesAt-grows old new edges numbered grows are = record {
  as_many = are.as_many;
  each = λ i x e p q. let at = are.each i x e p q in record { from_is = grows.kept e.from x.from at.from_is; to_is = grows.kept e.to x.to at.to_is; kind_is = at.kind_is };
}

-- one more edge
pub AreEdgesAt-more : (nodes : List Node) (edges : List Edge) (numbered : List EdgeAt) (x : Edge) (e : EdgeAt) → AreEdgesAt nodes edges numbered
    → slice_get nodes e.from ≡ Some x.from → slice_get nodes e.to ≡ Some x.to → e.kind ≡ x.kind → AreEdgesAt nodes (edges ++ x ∷ []) (numbered ++ e ∷ [])
AreEdgesAt-more nodes edges numbered x e are from to kind =
    Each-push (IsEdgeAt nodes) edges numbered x e are (record { from_is = from; to_is = to; kind_is = kind })

-- none
pub AreEdgesAt-none : (nodes : List Node) (edges : List Edge) (numbered : List EdgeAt) → edges ≡ [] → numbered ≡ [] → AreEdgesAt nodes edges numbered
AreEdgesAt-none nodes edges numbered no_edge no_number = rw (no_edge, no_number) (record { as_many = refl; each = λ i x e p q. cc })
