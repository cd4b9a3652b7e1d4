use Rattle.std.proofs.Common.{get_or}
use Rattle.lists.proofs.Joined.{none_from, some_from}
use Rattle.link_rules.specs.Bodies.{HasNoLabel}
use Rattle.link_faults.proofs.FirstLabels.{no_label, some_label}
use Rattle.link_faults.proofs.Scans.{found, none_found, none_more}
use Rattle.link_faults.proofs.labels.has_missing_label.Goals as goal

pub returns-then-is_none : goal.returns-then-is_none
returns-then-is_none c =
    let labels = c.args.body.now.labels in
    let none = no_label labels (get_or c.args.labels.now c.loop-label.label-index (record { 0 = 0 })) c.label.result c.label.ensures (none_from c.label.result c.if-is_none.ensures) in
    found (HasNoLabel labels) c.args.labels.now c.loop-label.label-index (record { 0 = 0 }) c.loop-label-test.true none

pub loop-label-preserved : goal.loop-label-preserved
loop-label-preserved c =
    let labels = c.args.body.now.labels in
    let some = some_from c.label.result c.if-is_none.ensures in
    none_more (HasNoLabel labels) c.args.labels.now c.loop-label.label-index (record { 0 = 0 }) c.loop-label.invariant c.loop-label-test.true
    (some_label labels (get_or c.args.labels.now c.loop-label.label-index (record { 0 = 0 })) c.label.result c.label.ensures some.0 some.1)

pub returns : goal.returns
returns c = none_found (HasNoLabel c.args.body.now.labels) c.args.labels.now c.loop-label.label-index c.loop-label.invariant c.loop-label-test.false
