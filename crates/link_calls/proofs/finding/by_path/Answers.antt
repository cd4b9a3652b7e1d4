use Rattle.std.proofs.Common.{false, refl}
use Rattle.link_calls.proofs.Selecting.{found_by_path}
use Rattle.link_calls.proofs.finding.by_path.Goals as goal

pub returns : goal.returns
returns c =
    found_by_path c.args.classes.now.world c.args.class c.args.key c.on_path.result false c.at_one.result
    (rw c.tree.ensures.rows at c.on_path.ensures) refl c.at_one.ensures
