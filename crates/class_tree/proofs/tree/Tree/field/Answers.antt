use Rattle.std.proofs.Common.{◌<◌, None, length, subst, sym, inl, arith}
use Rattle.class_rules.specs.Rows.{Rows, HasParent, HasNoParent}
use Rattle.class_tree.proofs.FieldRuns.{start_low, tenant_known, falls, field_at, field_above, field_ended}
use Rattle.class_tree.proofs.SoleFields.{tell_fields}
use Rattle.class_tree.proofs.TreeFacts.{place_read, row_parent, row_no_parent, step-above}
use Rattle.class_tree.proofs.tree.Tree.field.Goals as goal
use Rattle.class_tree.proofs.tree.Tree.field.Goals.{In-Some, In_default, In-Some-parent, In-None}

pub of-requires : goal.of-requires
of-requires c = c.self.invariant.near_fields.served

pub field_here-requires-clause-fields : goal.field_here-requires-clause-fields
field_here-requires-clause-fields c =
    let ix = rw c.self.view_is at c.self.invariant in
    tell_fields c.args.self.now _ _ _ _ c.of.ensures.united c.of.ensures.few c.of.ensures.table c.as_slice.ensures.value ix.placed.len ix.named ix.reached_near ix.near_fields ix.field_owners c.of.ensures.ready

pub field_here-requires-clause-class : goal.field_here-requires-clause-class
field_here-requires-clause-class c =
    let ix = rw c.self.view_is at c.self.invariant in
    let place = place_read _ c.loop-near.at _ (omega (arith, ix.placed.len, c.loop-near.invariant.within)) c.index-place.ensures in
    tenant_known c.args.self.now _ _ ix.along.runs c.loop-near.at _ _ c.loop-near.invariant.within place c.index-start.ensures c.in-Some.near _ (c.in-Some.ensures.1) c.index.ensures

pub returns-in-Some : goal.returns-in-Some
returns-in-Some c =
    let ix = rw c.self.view_is at c.self.invariant in
    let place = place_read _ c.loop-near.at _ (omega (arith, ix.placed.len, c.loop-near.invariant.within)) c.index-place.ensures in
    let last = rw (c.of.ensures.united, c.of.ensures.few, c.of.ensures.table) at c.in-Some.ensures in
    c.loop-near.invariant.goes_on c.field_here.result (field_at c.args.self.now _ _ ix.along.runs c.loop-near.at _ _ c.loop-near.invariant.within place c.index-start.ensures _ _ _ ix.ranked ix.placed ix.near_fields c.args.key
    c.in-Some.near _ c.index.ensures last.0 last.1 last.2 last.3 c.field_here.result c.field_here.ensures.here c.field_here.ensures.near)

pub index-requires-in-loop-near : goal.index-requires-in-loop-near
index-requires-in-loop-near c =
    let ix = rw c.self.view_is at c.self.invariant in
    let place = place_read _ c.loop-near.at _ (omega (arith, ix.placed.len, c.loop-near.invariant.within)) c.index-place.ensures in
    let low = start_low c.args.self.now _ _ ix.along.runs c.loop-near.at _ _ c.loop-near.invariant.within place c.index-start.ensures in
    let first = tenant_known c.args.self.now _ _ ix.along.runs c.loop-near.at _ _ c.loop-near.invariant.within place c.index-start.ensures c.index-start.result.now _ low c.index-first.ensures in
    let kept : c.index-first.result.now < length c.self.inside.rows.classes.items = subst (λ (rows : Rows). c.index-first.result.now < length rows.classes) (sym c.self.view_is) first in
    omega (arith, kept, c.self.inside.rows.classes.ok.0)

pub loop-near-smaller : goal.loop-near-smaller
loop-near-smaller c =
    let ix = rw c.self.view_is at c.self.invariant in
    let place = place_read _ c.loop-near.at _ (omega (arith, ix.placed.len, c.loop-near.invariant.within)) c.index-place.ensures in
    let low = start_low c.args.self.now _ _ ix.along.runs c.loop-near.at _ _ c.loop-near.invariant.within place c.index-start.ensures in
    let first = tenant_known c.args.self.now _ _ ix.along.runs c.loop-near.at _ _ c.loop-near.invariant.within place c.index-start.ensures c.index-start.result.now _ low c.index-first.ensures in
    let named : HasParent c.args.self.now.classes c.index-first.result.now c.in-Some-parent.parent = row_parent _ _ _ _ _ c.self.view_is first c.index-in-loop-near.ensures c.in-Some-parent.is in
    falls c.args.self.now _ _ ix.along.runs c.loop-near.at _ _ c.loop-near.invariant.within place c.index-start.ensures _ _ c.index-first.ensures named

pub loop-near-preserved : goal.loop-near-preserved
loop-near-preserved c =
    let ix = rw c.self.view_is at c.self.invariant in
    let place = place_read _ c.loop-near.at _ (omega (arith, ix.placed.len, c.loop-near.invariant.within)) c.index-place.ensures in
    let low = start_low c.args.self.now _ _ ix.along.runs c.loop-near.at _ _ c.loop-near.invariant.within place c.index-start.ensures in
    let first = tenant_known c.args.self.now _ _ ix.along.runs c.loop-near.at _ _ c.loop-near.invariant.within place c.index-start.ensures c.index-start.result.now _ low c.index-first.ensures in
    let named : HasParent c.args.self.now.classes c.index-first.result.now c.in-Some-parent.parent = row_parent _ _ _ _ _ c.self.view_is first c.index-in-loop-near.ensures c.in-Some-parent.is in
    record {
      within = step-above _ ix.hierarchy _ _ (inl named);
      goes_on = λ r above. c.loop-near.invariant.goes_on r (field_above c.args.self.now _ _ ix.along.runs c.loop-near.at _ _ c.loop-near.invariant.within place c.index-start.ensures _ _ _ ix.ranked ix.placed ix.near_fields c.args.key
          _ c.index-first.ensures (rw (c.of.ensures.united, c.of.ensures.few, c.of.ensures.table) at c.in_default.ensures) _ named r above);
    }

pub returns-in-None : goal.returns-in-None
returns-in-None c =
    let ix = rw c.self.view_is at c.self.invariant in
    let place = place_read _ c.loop-near.at _ (omega (arith, ix.placed.len, c.loop-near.invariant.within)) c.index-place.ensures in
    let low = start_low c.args.self.now _ _ ix.along.runs c.loop-near.at _ _ c.loop-near.invariant.within place c.index-start.ensures in
    let first = tenant_known c.args.self.now _ _ ix.along.runs c.loop-near.at _ _ c.loop-near.invariant.within place c.index-start.ensures c.index-start.result.now _ low c.index-first.ensures in
    let named : HasNoParent c.args.self.now.classes c.index-first.result.now = row_no_parent _ _ _ _ c.self.view_is first c.index-in-loop-near.ensures c.in-None.is in
    c.loop-near.invariant.goes_on None (field_ended c.args.self.now _ _ ix.along.runs c.loop-near.at _ _ c.loop-near.invariant.within place c.index-start.ensures _ _ _ ix.ranked ix.placed ix.near_fields c.args.key
    _ c.index-first.ensures (rw (c.of.ensures.united, c.of.ensures.few, c.of.ensures.table) at c.in_default.ensures) named)
