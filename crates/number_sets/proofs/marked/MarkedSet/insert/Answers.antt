use Rattle.std.proofs.Common.{Contains, true≢false, subst, sym, ◌∙◌}
use Rattle.number_sets.proofs.Marks.{marked_put, marked_same}
use Rattle.number_sets.proofs.marked.MarkedSet.insert.Goals as goal

pub invariant_of-self-2 : goal.invariant_of-self-2
invariant_of-self-2 c =
    let made = marked_same _ _ _ c.in_ok-make_room.ensures.same c.self.invariant in
    rw c.in_ok-push.ensures.items (marked_put _ _ _ c.in_ok-make_room.ensures.room
    (λ there. true≢false (sym (c.contains.ensures.1 (subst (λ numbers. Contains numbers c.args.number) c.self.view_is there)) ∙ c.if-contains.false)) made)
