use Rattle.lists.proofs.Keys.{Adds-insert_key, put-insert_key}
use Rattle.lists.proofs.Places.{IsApart-adds}
use Rattle.spds_tables.specs.contracts.numbered.StartAtPartialEq.TheImpl.{eq-value}
use Rattle.spds_tables.proofs.SameStart.{same, self}
use Rattle.spds_tables.proofs.begun.Begun.add.Goals as goal

pub invariant_of-self-2 : goal.invariant_of-self-2
invariant_of-self-2 c = IsApart-adds _ _ c.args.start c.self.invariant (rw c.in_ok-insert.ensures.keys (Adds-insert_key (eq-value).it same self _ _))

pub returns : goal.returns
returns c = rw (← c.self.view_is) (put-insert_key (eq-value).it same self _ _ _ _ c.in_ok-insert.ensures.added c.in_ok-insert.ensures.keys)
