use Rattle.std.proofs.lemmas.Result.{on_ok_weaker}
use Rattle.spds_nodes.proofs.Parts.{IsBrought-none, IsBrought-some}
use Rattle.spds_nodes.proofs.behind.push_brought.Goals as goal

pub returns-in-Some : goal.returns-in-Some
returns-in-Some c =
    on_ok_weaker c.push_found.result (IsBrought-some c.args.node c.args.x c.args.place c.args.code.now c.in-Some.source _ _ c.in-Some.ensures) c.push_found.ensures

pub returns-in-None : goal.returns-in-None
returns-in-None c = IsBrought-none c.args.node c.args.x c.args.place c.args.code.now _ c.in-None.ensures
