use Rattle.std.proofs.Common.{◌≡◌, ◌∙◌, ap, sym, Some, slice_get}
use Rattle.std.proofs.lemmas.Option.{slice_get-get_or, same_Some}
use Rattle.link_rules.specs.declared.code.Arg.TheVariants.{Local}
use Rattle.site_events.proofs.Joining.{at_joined, at_same, passes_all, skips, takes}
use Rattle.site_events.proofs.passed.passing_local.Goals.{then-is_local, else-is_local}
use Rattle.site_events.proofs.passed.passing_local.Goals as goal

pub loop-number-preserved : goal.loop-number-preserved
loop-number-preserved c =
    let args = c.args.args.now in
    let p = c.args.linked.now in
    let targets = c.args.targets.now in
    let n = c.loop-number.number in
    let there = slice_get-get_or args n (Local 0) c.loop-number-test.true in
    elim c.if-is_local.branch [
      | then-is_local w ↦
          let is : slice_get args n ≡ Some (Local c.args.x) = there ∙ ap Some (c.is_local.ensures.0 w.if-is_local.true) in
          rw (w.passing-is, w.joined-passing.ensures)
          (at_same p targets _ _ (takes c.args.receiver args c.args.x n is) _ (at_joined p targets _ _ _ _ c.loop-number.invariant w.passing_at.ensures))
      | else-is_local w ↦
          rw w.passing-is
          (at_same p targets _ _ (skips c.args.receiver args c.args.x n (λ is. let holds = c.is_local.ensures.1 (same_Some _ _ (sym there ∙ is)) in cc (holds, w.if-is_local.false))) _ c.loop-number.invariant)
    ]

pub returns : goal.returns
returns c =
    at_same c.args.linked.now c.args.targets.now _ _ (passes_all c.args.receiver c.args.args.now c.args.x c.loop-number.number c.loop-number-test.false) _ c.loop-number.invariant
