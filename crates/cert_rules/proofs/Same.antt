-- The derived tests on sides, kinds of edges and entries are equality.
use Rattle.std.proofs.Common.{◌≡◌, ap, true, refl, rules, eqb-true, eq-eqb}
use Rattle.std.specs.Cmp.Derive.{both_true}
use Rattle.std.proofs.lemmas.Bool.{and_parts, false≢true}
use Rattle.spds_rules.specs.declared.edge.EdgeKind.{EdgeKind}
use Rattle.spds_rules.specs.contracts.edge.EdgeKindPartialEq.TheImpl as kind
use Rattle.spds_rules.proofs.Keys.{same_node, same_place, self_node, self_place}
use Rattle.cert_rules.specs.declared.fact.Entry.{Entry}
use Rattle.cert_rules.specs.declared.fact.Entry.TheVariants as at
use Rattle.cert_rules.specs.declared.line.Side.{Side}
use Rattle.cert_rules.specs.declared.line.Side.TheVariants.{Field, Call}
use Rattle.cert_rules.specs.contracts.line.SidePartialEq.TheImpl as side
use Rattle.cert_rules.specs.contracts.fact.EntryPartialEq.TheImpl as entry

pub same_side : (x y : Side) → side.eq-value.it x y ≡ true → x ≡ y
same_side Field Field h = refl
same_side Field Call h = absurd (false≢true h)
same_side Call Field h = absurd (false≢true h)
same_side Call Call h = refl

pub self_side : (x : Side) → side.eq-value.it x x ≡ true
self_side Field = refl
self_side Call = refl

pub same_kind : (x y : EdgeKind) → kind.eq-value.it x y ≡ true → x ≡ y
same_kind x y h = search (rules, same_place)

pub self_kind : (x : EdgeKind) → kind.eq-value.it x x ≡ true
self_kind x = search (rules, self_place)

pub same_entry : (x y : Entry) → entry.eq-value.it x y ≡ true → x ≡ y
same_entry at.Base at.Base h = refl
same_entry at.Base (at.Field m g) h = absurd (false≢true h)
same_entry at.Base (at.Call m d) h = absurd (false≢true h)
same_entry (at.Field n f) at.Base h = absurd (false≢true h)
same_entry (at.Field n f) (at.Field m g) h =
    let parts = and_parts _ _ h in
    let node = same_node n m parts.0 in
    let field = eqb-true f g parts.1 in
    λ j. at.Field (node j) (field j)
same_entry (at.Field n f) (at.Call m d) h = absurd (false≢true h)
same_entry (at.Call n c) at.Base h = absurd (false≢true h)
same_entry (at.Call n c) (at.Field m g) h = absurd (false≢true h)
same_entry (at.Call n c) (at.Call m d) h =
    let parts = and_parts _ _ h in
    let node = same_node n m parts.0 in
    let call = same_place c d parts.1 in
    λ j. at.Call (node j) (call j)

pub self_entry : (x : Entry) → entry.eq-value.it x x ≡ true
self_entry at.Base = refl
self_entry (at.Field n f) = both_true (self_node n) (eq-eqb f f refl)
self_entry (at.Call n c) = both_true (self_node n) (self_place c)
