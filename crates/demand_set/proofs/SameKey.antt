-- The derived tests on edges and stores are equality.
use Rattle.std.proofs.Common.{◌≡◌, true, refl, rules, eqb-true, eq-eqb}
use Rattle.std.specs.Cmp.Derive.{both_true}
use Rattle.std.proofs.lemmas.Bool.{and_parts}
use Rattle.spds_rules.specs.declared.edge.Edge.{Edge}
use Rattle.spds_rules.specs.declared.edge.EdgeKind.{EdgeKind}
use Rattle.spds_rules.specs.declared.store.StoreAt.{StoreAt}
use Rattle.spds_rules.specs.contracts.edge.EdgePartialEq.TheImpl as edge
use Rattle.spds_rules.specs.contracts.edge.EdgeKindPartialEq.TheImpl as kind
use Rattle.spds_rules.specs.contracts.store.StoreAtPartialEq.TheImpl as store
use Rattle.spds_rules.proofs.Keys.{same_node, same_place, self_node, self_place}

same_kind : (x y : EdgeKind) → kind.eq-value.it x y ≡ true → x ≡ y
same_kind x y h = search (rules, same_place)

self_kind : (x : EdgeKind) → kind.eq-value.it x x ≡ true
self_kind x = search (rules, self_place)

pub same_edge : (x y : Edge) → edge.eq-value.it x y ≡ true → x ≡ y
same_edge x y h =
    let p = and_parts _ _ h in
    let q = and_parts _ _ p.1 in
    let from = same_node x.from y.from p.0 in
    let to = same_node x.to y.to q.0 in
    let kind = same_kind x.kind y.kind q.1 in
    λ j. record { from = from j; to = to j; kind = kind j }

pub self_edge : (x : Edge) → edge.eq-value.it x x ≡ true
self_edge x = both_true (self_node x.from) (both_true (self_node x.to) (self_kind x.kind))

pub same_store : (x y : StoreAt) → store.eq-value.it x y ≡ true → x ≡ y
same_store x y h =
    let p = and_parts _ _ h in
    let q = and_parts _ _ p.1 in
    let r = and_parts _ _ q.1 in
    let place = same_place x.place y.place p.0 in
    let field = eqb-true x.field y.field q.0 in
    let base = same_node x.base y.base r.0 in
    let arg = same_node x.arg y.arg r.1 in
    λ j. record { place = place j; field = field j; base = base j; arg = arg j }

pub self_store : (x : StoreAt) → store.eq-value.it x x ≡ true
self_store x = both_true (self_place x.place) (both_true (eq-eqb x.field x.field refl) (both_true (self_node x.base) (self_node x.arg)))
