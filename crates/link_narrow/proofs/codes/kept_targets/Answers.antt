use Rattle.std.proofs.Common.{get_or}
use Rattle.std.proofs.lemmas.Option.{slice_get-get_or}
use Rattle.lists.proofs.Places.{take-next}
use Rattle.narrow_rules.specs.Narrowed.{IsKept, StaysIn}
use Rattle.link_narrow.proofs.Filled.{those_one, those_other}
use Rattle.link_narrow.proofs.Stays.{those_end, those_start}
use Rattle.link_narrow.proofs.codes.kept_targets.Goals.{then-stays+in_ok-push, else-stays}
use Rattle.link_narrow.proofs.codes.kept_targets.Goals as goal

pub loop-target-init : goal.loop-target-init
loop-target-init c = those_start _ c.args.targets.now c.new-some.result.items c.new-some.ensures.items

pub loop-target-preserved : goal.loop-target-preserved
loop-target-preserved c =
    let targets = c.args.targets.now in
    let at = c.loop-target.target-index in
    let there = slice_get-get_or targets at 0 c.loop-target-test.true in
    elim c.if-stays.branch [
      | then-stays+in_ok-push w ↦ rw (w.some-is, w.in_ok-push.ensures.items, take-next targets at (get_or targets at 0) there)
          (those_one (λ target. StaysIn c.args.mode (IsKept c.args.named.now c.args.place.method c.args.place.index target)) (get_or targets at 0)
          (c.stays.ensures.0 w.if-stays.true) c.loop-target.invariant)
      | else-stays w ↦ rw (w.some-is, take-next targets at (get_or targets at 0) there)
          (those_other (λ target. StaysIn c.args.mode (IsKept c.args.named.now c.args.place.method c.args.place.index target)) (get_or targets at 0)
          (λ h. let yes = c.stays.ensures.1 h in let no = w.if-stays.false in cc (yes, no)) c.loop-target.invariant)
    ]

pub returns : goal.returns
returns c = those_end (λ target. StaysIn c.args.mode (IsKept c.args.named.now c.args.place.method c.args.place.index target)) c.args.targets.now c.loop-target.some.items c.loop-target.target-index c.loop-target-test.false c.loop-target.invariant
