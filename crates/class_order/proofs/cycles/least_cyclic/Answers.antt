use Rattle.std.proofs.Common.{◌-◌, ◌<◌, true≢false, length, get_or, sym, ◌∙◌, arith}
use Rattle.std.proofs.lemmas.List.Elements.{Contains-get_or}
use Rattle.std.proofs.lemmas.Option.{slice_get-get_or}
use Rattle.class_order.proofs.LookedAt.{looked_all, looked_hit, looked_kept, met_closed}
use Rattle.class_order.proofs.cycles.least_cyclic.Goals as goal
use Rattle.class_order.proofs.cycles.least_cyclic.Goals.{else-class-least-via-then-class-least+else-contains, else-class-least-via-else-class-least}

pub meet-requires-clause-class : goal.meet-requires-clause-class
meet-requires-clause-class c =
    let at : c.loop-at.at - 1 < length c.args.order.now = omega (arith, c.loop-at-test.true, c.loop-at.invariant.looked.within) in
    c.requires.within _ (Contains-get_or c.args.order.now (c.loop-at.at - 1) 0 at)

pub meet-requires-clause-closed : goal.meet-requires-clause-closed
meet-requires-clause-closed c = met_closed c.args.above.now c.args.order.now c.loop-at.at c.loop-at.least c.loop-at.met c.loop-at.invariant.looked

pub loop-at-preserved-then-contains : goal.loop-at-preserved-then-contains
loop-at-preserved-then-contains c =
    let at : c.loop-at.at - 1 < length c.args.order.now = omega (arith, c.loop-at-test.true, c.loop-at.invariant.looked.within) in
    record {
      looked = looked_hit _ _ c.requires.order c.loop-at.at (c.loop-at.at - 1) (get_or c.args.order.now (c.loop-at.at - 1) 0) c.loop-at.least c.loop-at.met c.meet.new.met
          (omega (arith, c.loop-at-test.true)) (slice_get-get_or c.args.order.now (c.loop-at.at - 1) 0 at) c.loop-at.invariant.looked c.in_ok-meet.ensures.met
          (c.contains.ensures.0 c.if-contains.true) c.if-class-least.true;
      known = c.in_ok-meet.ensures.known;
    }

pub loop-at-preserved : goal.loop-at-preserved
loop-at-preserved c =
    let at : c.loop-at.at - 1 < length c.args.order.now = omega (arith, c.loop-at-test.true, c.loop-at.invariant.looked.within) in
    record {
      looked = looked_kept _ _ c.requires.order c.loop-at.at (c.loop-at.at - 1) (get_or c.args.order.now (c.loop-at.at - 1) 0) c.loop-at.least c.loop-at.met c.meet.new.met
          (omega (arith, c.loop-at-test.true)) (slice_get-get_or c.args.order.now (c.loop-at.at - 1) 0 at) c.loop-at.invariant.looked c.in_ok-meet.ensures.met
          (λ m less. elim c.else-class-least.branch [
            | else-class-least-via-then-class-least+else-contains w ↦ true≢false (sym (w.contains.ensures.1 m) ∙ w.if-contains.false)
            | else-class-least-via-else-class-least w ↦ omega (arith, less, w.if-class-least.false)
          ]);
      known = c.in_ok-meet.ensures.known;
    }

pub returns : goal.returns
returns c =
    looked_all c.args.above.now c.args.order.now c.loop-at.at c.loop-at.least c.loop-at.met c.requires.above c.requires.all c.requires.some
    (omega (arith, c.loop-at-test.false)) c.loop-at.invariant.looked
