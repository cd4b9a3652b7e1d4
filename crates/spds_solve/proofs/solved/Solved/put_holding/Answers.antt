use Rattle.std.proofs.Common.{true≢false, sym, ◌∙◌}
use Rattle.spds_solve.proofs.Holding.{asked_no, asked_yes}
use Rattle.spds_solve.proofs.solved.Solved.put_holding.Goals as goal

pub returns-in_ok-add : goal.returns-in_ok-add
returns-in_ok-add c =
    asked_yes c.args.self.now c.args.node c.args.site c.args.found.now.keys c.add.new.self.keys c.in_ok-add.ensures.keys
    (λ p q d n o solved there here. (c.holds.ensures p q d o n solved here there).0 c.if-holds.true)

pub returns-else-holds : goal.returns-else-holds
returns-else-holds c =
    asked_no c.args.self.now c.args.node c.args.site c.args.found.now.keys
    (λ p q d n o solved there here answered. true≢false (sym ((c.holds.ensures p q d o n solved here there).1 answered) ∙ c.if-holds.false))
