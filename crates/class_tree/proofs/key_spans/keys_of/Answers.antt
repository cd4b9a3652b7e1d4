use Rattle.class_tree.proofs.KeyLists.{keys_known}
use Rattle.class_tree.proofs.key_spans.keys_of.Goals as goal

pub returns : goal.returns
returns c = keys_known c.args.members.now c.new.result (rw c.in_ok-keys.ensures at c.new.ensures.same)
