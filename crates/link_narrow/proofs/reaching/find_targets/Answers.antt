use Rattle.std.proofs.Common.{get_or}
use Rattle.std.proofs.lemmas.Option.{slice_get-get_or}
use Rattle.link_narrow.proofs.Grown.{grown_other, grown_target}
use Rattle.link_narrow.proofs.reaching.find_targets.Goals.{then-stays+in_ok-add, else-stays}
use Rattle.link_narrow.proofs.reaching.find_targets.Goals as goal

pub loop-target-preserved : goal.loop-target-preserved
loop-target-preserved c =
    let targets = c.args.targets.now in
    let at = c.loop-target.target-index in
    let there = slice_get-get_or targets at 0 c.loop-target-test.true in
    elim c.if-stays.branch [
      | then-stays+in_ok-add w ↦ rw w.found-is
          (grown_target c.args.named.now c.args.place.method c.args.place.index c.args.mode targets at (get_or targets at 0) c.args.found.now.keys c.loop-target.found.keys w.add.new.self.keys there
          (c.stays.ensures.0 w.if-stays.true) c.loop-target.invariant w.in_ok-add.ensures.keys)
      | else-stays w ↦ rw w.found-is
          (grown_other c.args.named.now c.args.place.method c.args.place.index c.args.mode targets at (get_or targets at 0) c.args.found.now.keys c.loop-target.found.keys there
          (λ h. let yes = c.stays.ensures.1 h in let no = w.if-stays.false in cc (yes, no)) c.loop-target.invariant)
    ]
