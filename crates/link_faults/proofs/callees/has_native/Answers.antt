use Rattle.std.proofs.Common.{refl}
use Rattle.std.proofs.lemmas.Bool.{iff_false}
use Rattle.link_faults.specs.Sites.{IsNativeRow}
use Rattle.link_faults.proofs.Scans.{found, none_found, none_more}
use Rattle.link_faults.proofs.callees.has_native.Goals as goal

pub returns-then-is_native : goal.returns-then-is_native
returns-then-is_native c = found (IsNativeRow c.args.classes.now.world) c.args.rows.now c.loop-row.row-index 0 c.loop-row-test.true (c.if-is_native.ensures.0 refl)

pub loop-row-preserved : goal.loop-row-preserved
loop-row-preserved c = none_more (IsNativeRow c.args.classes.now.world) c.args.rows.now c.loop-row.row-index 0 c.loop-row.invariant c.loop-row-test.true (iff_false c.is_native.ensures c.if-is_native.false)

pub returns : goal.returns
returns c = none_found (IsNativeRow c.args.classes.now.world) c.args.rows.now c.loop-row.row-index c.loop-row.invariant c.loop-row-test.false
