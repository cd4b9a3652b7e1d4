use Rattle.call_side.proofs.Moved.{clash}
use Rattle.call_side.proofs.pairs.clashes.Goals as goal

pub returns-in-Pushed-second : goal.returns-in-Pushed-second
returns-in-Pushed-second c differ q word spells =
    clash q word c.args.pair c.in-Pushed.node c.in-Pushed.mark c.in-Pushed-second.node c.in-Pushed-second.other c.in-Pushed.is c.in-Pushed-second.is differ spells
