use Rattle.link_faults.proofs.Named.{path_none}
use Rattle.link_faults.proofs.callees.is_off_path.Goals as goal

pub returns : goal.returns
returns c = path_none c.args.classes.now.world.rows c.args.class c.args.key c.on_path.result c.is_none.result (rw c.tree.ensures.rows at c.on_path.ensures) c.is_none.ensures
