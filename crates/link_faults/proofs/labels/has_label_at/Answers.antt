use Rattle.std.proofs.Common.{get_or, sym, ◌∙◌}
use Rattle.link_rules.specs.Bodies.{IsLabel}
use Rattle.link_faults.proofs.Scans.{found, none_found, none_more, other_some, same_some}
use Rattle.link_faults.proofs.labels.has_label_at.Goals as goal

pub returns-then-eq : goal.returns-then-eq
returns-then-eq c =
    let label = get_or c.args.labels.now c.loop-label.label-index (record { 0 = 0 }) in
    let same = same_some c.label.result c.args.index (sym c.eq.ensures ∙ c.if-eq.true) in
    found (λ l. IsLabel c.args.body.now.labels l c.args.index) c.args.labels.now c.loop-label.label-index (record { 0 = 0 }) c.loop-label-test.true ((c.label.ensures c.args.index).0 same)

pub loop-label-preserved : goal.loop-label-preserved
loop-label-preserved c =
    let other = other_some c.label.result c.args.index (sym c.eq.ensures ∙ c.if-eq.false) in
    none_more (λ l. IsLabel c.args.body.now.labels l c.args.index) c.args.labels.now c.loop-label.label-index (record { 0 = 0 }) c.loop-label.invariant c.loop-label-test.true
    (λ h. other ((c.label.ensures c.args.index).1 h))

pub returns : goal.returns
returns c = none_found (λ label. IsLabel c.args.body.now.labels label c.args.index) c.args.labels.now c.loop-label.label-index c.loop-label.invariant c.loop-label-test.false
