use Rattle.default_turns.proofs.holders.each_once.Goals as goal

pub returns : goal.returns
returns c = rw c.in_ok-numbers.ensures.items at c.new.ensures.same
