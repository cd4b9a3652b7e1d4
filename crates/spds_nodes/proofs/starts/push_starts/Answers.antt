use Rattle.std.proofs.lemmas.Result.{on_ok_weaker}
use Rattle.spds_nodes.proofs.Joined.{IsAdded-same}
use Rattle.spds_nodes.proofs.Started.{starts_class, starts_made, starts_nested, starts_raised, starts_text}
use Rattle.spds_nodes.proofs.starts.push_starts.Goals as goal

pub returns-in-New : goal.returns-in-New
returns-in-New c = rw c.in-New.is (on_ok_weaker c.push_there.result (IsAdded-same _ _ _ _ (starts_made c.args.linked.now c.in-New.place)) c.push_there.ensures)

pub returns-in-Nested : goal.returns-in-Nested
returns-in-Nested c =
    rw c.in-Nested.is
    (on_ok_weaker c.push_there-in-Nested.result (IsAdded-same _ _ _ _ (starts_nested c.args.linked.now c.in-Nested.place c.in-Nested.level)) c.push_there-in-Nested.ensures)

pub returns-in-Raised : goal.returns-in-Raised
returns-in-Raised c =
    rw c.in-Raised.is
    (on_ok_weaker c.push_there-in-Raised.result (IsAdded-same _ _ _ _ (starts_raised c.args.linked.now c.in-Raised.place c.in-Raised.kind)) c.push_there-in-Raised.ensures)

pub returns-in-Text : goal.returns-in-Text
returns-in-Text c =
    rw c.in-Text.is (on_ok_weaker c.push_before_all.result (IsAdded-same _ _ _ _ (starts_text c.args.linked.now c.in-Text.number)) c.push_before_all.ensures)

pub returns-in-Class : goal.returns-in-Class
returns-in-Class c =
    rw c.in-Class.is
    (on_ok_weaker c.push_before_all-in-Class.result (IsAdded-same _ _ _ _ (starts_class c.args.linked.now c.in-Class.number)) c.push_before_all-in-Class.ensures)
