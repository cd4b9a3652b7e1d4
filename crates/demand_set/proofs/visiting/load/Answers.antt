use Rattle.demand_set.proofs.Followed.{IsStored-more}
use Rattle.demand_set.proofs.Grown.{Grows-weaker}
use Rattle.demand_set.proofs.visiting.load.Goals as goal

pub returns-clause-grows : goal.returns-clause-grows
returns-clause-grows g c =
    let grows = rw c.deref.ensures.value at c.in_ok-add_ends.ensures.grows in
    Grows-weaker _ _ grows (λ n e. (e.0, c.in_ok-found.ensures.found.each e.0 e.1, e.2))

pub returns-clause-stored : goal.returns-clause-stored
returns-clause-stored g c = λ fields fresh stored.
    let grows = rw c.deref.ensures.value at c.in_ok-add_ends.ensures.grows in
    let ends = rw c.deref.ensures.value at c.in_ok-add_ends.ensures.ends in
    rw (c.in_ok-extend_from_slice.ensures.items, c.deref-2.ensures.value) (IsStored-more _ _ _ fields _ _ _ fresh stored c.in_ok-found.ensures.found grows ends)
