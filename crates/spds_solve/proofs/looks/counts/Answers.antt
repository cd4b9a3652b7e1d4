use Rattle.spds_solve.proofs.Looking.{counts_arg, counts_base}
use Rattle.spds_solve.proofs.looks.counts.Goals as goal

pub returns-in-Arg : goal.returns-in-Arg
returns-in-Arg c = counts_arg c.args.view.now c.args.site c.args.at c.in-Arg.is

pub returns-in-Base : goal.returns-in-Base
returns-in-Base c = counts_base c.args.view.now c.args.site c.args.at c.in-Base.is c.is_base.result c.is_base.ensures
