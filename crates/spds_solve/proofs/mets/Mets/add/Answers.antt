use Rattle.spds_solve.proofs.Numbering.{added_numbers}
use Rattle.spds_solve.proofs.mets.Mets.add.Goals as goal

pub invariant_of-self-2 : goal.invariant_of-self-2
invariant_of-self-2 c =
    added_numbers c.self.inside.keys.keys c.reserve.new.self.keys c.insert.new.self.keys c.self.inside.found.items c.push.new.self.items c.args.met c.self.invariant.0
    c.self.invariant.1 (rw c.self.view_is c.requires) c.in_ok-reserve.ensures.keys (rw (← c.numbers-numbers.ensures) c.in_ok-insert.ensures.keys) c.in_ok-push.ensures.items
