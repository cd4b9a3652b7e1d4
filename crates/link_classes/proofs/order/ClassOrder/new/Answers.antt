use Rattle.link_classes.proofs.Naming.{order_none}
use Rattle.link_classes.proofs.order.ClassOrder.new.Goals as goal

pub returns-clause-order : goal.returns-clause-order
returns-clause-order c = order_none _ c.len.result c.len.ensures.apart c.len.ensures.value c.new.ensures.items c.in_ok-numbers.ensures
