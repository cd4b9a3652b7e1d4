use Rattle.default_turns.proofs.turns.default_turns.Goals as goal

pub returns : goal.returns
returns c = c.in_ok-turns.ensures c.args.tree.now c.args.layout.places.now c.args.key (rw c.as_slice.ensures.value c.in_ok-stays.ensures.stays)
