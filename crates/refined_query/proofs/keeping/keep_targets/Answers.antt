use Rattle.std.proofs.Common.{get_or}
use Rattle.std.proofs.lemmas.Option.{slice_get-get_or}
use Rattle.refined_query.proofs.Adding.{added_all, added_one, added_other}
use Rattle.refined_query.proofs.keeping.keep_targets.Goals.{then-is_among+in_ok-push, else-is_among}
use Rattle.refined_query.proofs.keeping.keep_targets.Goals as goal

pub loop-target-preserved : goal.loop-target-preserved
loop-target-preserved c =
    let targets = c.args.targets.now in
    let at = c.loop-target.target-index in
    let there = slice_get-get_or targets at 0 c.loop-target-test.true in
    elim c.if-is_among.branch [
      | then-is_among+in_ok-push w ↦ rw (w.kept-is, w.in_ok-push.ensures.items)
          (added_one c.args.place targets c.args.found.now at (get_or targets at 0) c.args.kept.now.items c.loop-target.kept.items there
          (c.is_among.ensures.0 w.if-is_among.true) c.loop-target.invariant)
      | else-is_among w ↦ rw w.kept-is
          (added_other c.args.place targets c.args.found.now at (get_or targets at 0) c.args.kept.now.items c.loop-target.kept.items there
          (λ h. let yes = c.is_among.ensures.1 h in let no = w.if-is_among.false in cc (yes, no)) c.loop-target.invariant)
    ]

pub returns : goal.returns
returns c = added_all c.args.place c.args.targets.now c.args.found.now c.loop-target.target-index c.args.kept.now.items c.loop-target.kept.items c.loop-target-test.false c.loop-target.invariant
