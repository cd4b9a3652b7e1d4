use Rattle.link_reach.proofs.Finding.{finds_examined_ok}
use Rattle.link_reach.proofs.search.take_all.Goals as goal

pub returns : goal.returns
returns c =
    finds_examined_ok c.args.examined.now c.args.found.now (record { methods = c.add_all.new.set; classes = c.add_all-2.new.set }) c.add_all-2.result
    (rw c.deref.ensures.value at c.in_ok-add_all.ensures)
    (rw c.deref-2.ensures.value at c.add_all-2.ensures)
