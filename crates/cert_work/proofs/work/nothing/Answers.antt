use Rattle.cert_work.proofs.Turns.{work_none}
use Rattle.cert_work.proofs.work.nothing.Goals as goal

pub returns-clause-work : goal.returns-clause-work
returns-clause-work c = work_none c.args.view.now.linked.now c.args.view.now.target c.args.view.now.wants.now c.new.result c.new-2.result c.new-3.result c.new-4.result c.new-5.result c.new.ensures.given c.new-2.ensures c.new-3.ensures c.new-4.ensures c.new-5.ensures
