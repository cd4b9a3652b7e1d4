use Rattle.std.proofs.Common.{◌≡◌, ◌≤◌, false, true, length, refl, arith}
use Rattle.site_events.proofs.Sharing.{below_all, below_more, below_none, below_skip}
use Rattle.site_events.proofs.shared.classes_below.Goals as goal
use Rattle.site_events.proofs.shared.classes_below.Goals.{then-is_below+in_ok-push, else-is_below}

pub loop-class-init : goal.loop-class-init
loop-class-init c = rw c.new-below.ensures.items (below_none c.args.linked.now c.args.of 0)

pub loop-class-preserved : goal.loop-class-preserved
loop-class-preserved c =
    elim c.if-is_below.branch [
      | then-is_below+in_ok-push w ↦
          rw (w.below-is, w.in_ok-push.ensures.items)
          (below_more c.args.linked.now c.args.of c.loop-class.class c.loop-class.below.items (w.if-is_below.ensures.0 refl) c.loop-class.invariant)
      | else-is_below w ↦ rw w.below-is (below_skip c.args.linked.now c.args.of c.loop-class.class c.loop-class.below.items
          (λ is. let no : false ≡ true = w.if-is_below.ensures.1 is in cc) c.loop-class.invariant)
    ]

pub returns : goal.returns
returns c =
    let past : length c.args.linked.now.classes ≤ c.loop-class.class = omega arith in
    below_all c.args.linked.now c.args.of c.loop-class.class c.loop-class.below.items past c.loop-class.invariant
