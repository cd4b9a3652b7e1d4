use Rattle.link_calls.proofs.targets.Targets.new.Goals as goal

pub invariant_of-result : goal.invariant_of-result
invariant_of-result c =
    let world = c.args.classes.now.world in
    let receivers = c.in_ok-receivers.receivers in
    (c.in_ok-receivers.ensures, c.new-2.ensures world receivers, rw c.new-3.ensures (λ class. tt), c.new-4.ensures world)
