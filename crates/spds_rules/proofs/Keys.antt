-- The derived test on nodes is equality.
use Rattle.std.proofs.Common.{◌≡◌, ◌∙◌, true, false, refl, rules}
use Rattle.std.proofs.lemmas.Bool.{and_parts, false≢true}
use Rattle.link_sites.specs.declared.place.Place.{Place}
use Rattle.link_sites.specs.contracts.place.PlacePartialEq.TheImpl as place
use Rattle.spds_rules.specs.declared.node.Node.{Node}
use Rattle.spds_rules.specs.declared.node.Var.{Var}
use Rattle.spds_rules.specs.contracts.node.NodePartialEq.TheImpl as node
use Rattle.spds_rules.specs.contracts.node.VarPartialEq.TheImpl as var

pub same_place : (x y : Place) → place.eq-value.it x y ≡ true → x ≡ y
same_place x y h = search rules

pub self_place : (x : Place) → place.eq-value.it x x ≡ true
self_place x = search rules

same_var : (x y : Var) → var.eq-value.it x y ≡ true → x ≡ y
same_var x y h = search rules

pub same_node : (x y : Node) → node.eq-value.it x y ≡ true → x ≡ y
same_node x y h =
    let p = and_parts _ _ h in
    let at = same_place x.place y.place p.0 in
    let of = same_var x.var y.var p.1 in
    λ j. record { place = at j; var = of j }

pub self_node : (x : Node) → node.eq-value.it x x ≡ true
self_node x = search rules

-- nodes that fail the test differ
pub differs_node : (x y : Node) → false ≡ node.eq-value.it x y → x ≡ y → ⊥
differs_node x y h e = false≢true (h ∙ rw e (self_node y))
