use Rattle.jim_link.proofs.Making.{made_none}
use Rattle.jim_link.proofs.made.make_all.Goals as goal

pub add_all-requires-clause-none : goal.add_all-requires-clause-none
add_all-requires-clause-none c =
    made_none c.args.targets.now.world c.args.numbering.now (record { methods = c.new.result; constants = c.new-2.result }) c.new.ensures.are c.new.ensures.none c.new-2.ensures.texts
    c.new-2.ensures.class_texts
