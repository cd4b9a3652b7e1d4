use Rattle.std.proofs.Common.{◌∙◌, ◌++◌, ap, sym}
use Rattle.post_star.proofs.Jobs.{work_anew, work_settled, not_all_anew}
use Rattle.post_star.proofs.work.Work.settle.Goals as goal

pub invariant_of-self : goal.invariant_of-self
invariant_of-self g c = work_settled g.met.W.Weight.laws c.self.invariant c.advance.new.progress.index
    (rw c.deref-2.ensures.value at c.in-Ok.ensures.index)
    c.advance.new.progress.rising.table
    (rw (c.deref.ensures, c.deref-2.ensures.value, c.deref-3.ensures.value) at c.in-Ok.ensures.sound)
    (rw (c.deref.ensures, c.deref-2.ensures.value, c.deref-3.ensures.value) at c.in-Ok.ensures.closed)
    _ _
    (rw c.deref-2.ensures.value at c.in-Ok.ensures.taken) (rw c.deref-3.ensures.value at c.in-Ok.ensures.begun)

pub invariant_of-self-in-Err : goal.invariant_of-self-in-Err
invariant_of-self-in-Err g c = work_anew g.met.W.Weight.laws c.self.invariant _ _ _ _ c.give_up.ensures.index c.give_up.ensures.table c.give_up.ensures.taken c.give_up.ensures.begun

pub returns-in-Err-clause-err : goal.returns-in-Err-clause-err
returns-in-Err-clause-err g c = rw (c.give_up.ensures.taken, c.give_up.ensures.begun, ← c.self.view_is) (λ i. record {
  steps = c.self.inside.common.value.steps;
  last = c.self.inside.common.value.last;
  rules = c.self.inside.common.value.rules ++ c.self.inside.own.items;
  starts = c.self.inside.starts.items;
  settled = not_all_anew c.self.inside.own.items c.self.inside.starts.items c.self.inside.progress.taken c.self.inside.progress.begun c.self.invariant.taken_in c.self.invariant.begun_in
      (ap (λ j. j.settled) c.self.view_is ∙ sym c.settled.ensures ∙ c.if-settled.false) i;
})
