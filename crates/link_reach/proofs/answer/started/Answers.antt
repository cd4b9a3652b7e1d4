use Rattle.std.proofs.Common.{sym}
use Rattle.link_reach.specs.Reaches.{IsStarted}
use Rattle.link_reach.proofs.Finding.{has_if, has_not, none_of, some_of}
use Rattle.link_reach.proofs.Ordering.{those_more, those_same}
use Rattle.link_reach.proofs.answer.started.Goals as goal
use Rattle.link_reach.proofs.answer.started.Goals.{then-contains+then-is_some+in_ok-push, else-contains, else-contains-via-then-contains+else-is_some, else-contains-via-else-contains}

pub loop-number-preserved : goal.loop-number-preserved
loop-number-preserved c = elim c.if-contains.branch [
  | then-contains+then-is_some+in_ok-push w ↦
      let some = some_of w.initializer.result (sym w.if-is_some.ensures) in
      let more = those_more (IsStarted c.args.classes.now.world c.args.asked.now) c.loop-number.number c.loop-number.started.items c.loop-number.invariant
      (has_if c.args.asked.now c.loop-number.number c.contains.result c.contains.ensures w.if-contains.true, (some.0, (w.initializer.ensures some.0).0 some.1)) in
      rw (w.started-is, w.in_ok-push.ensures.items) more
  | else-contains w ↦
      let same = those_same (IsStarted c.args.classes.now.world c.args.asked.now) c.loop-number.number c.loop-number.started.items c.loop-number.invariant
      (λ is. elim w.else-contains.branch [
        | else-contains-via-then-contains+else-is_some v ↦ none_of v.initializer.result (sym v.if-is_some.ensures) is.1.0 ((v.initializer.ensures is.1.0).1 is.1.1)
        | else-contains-via-else-contains v ↦ has_not c.args.asked.now c.loop-number.number c.contains.result c.contains.ensures v.if-contains.false is.0
      ]) in
      rw w.started-is same
]
