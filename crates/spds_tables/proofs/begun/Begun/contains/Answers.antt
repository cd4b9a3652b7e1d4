use Rattle.lists.proofs.Keys.{Has-list_any}
use Rattle.spds_tables.specs.contracts.numbered.StartAtPartialEq.TheImpl.{eq-value}
use Rattle.spds_tables.proofs.SameStart.{same, self}
use Rattle.spds_tables.proofs.begun.Begun.contains.Goals as goal

pub returns : goal.returns
returns c = rw (← c.self.view_is) (Has-list_any (eq-value).it same self _ _ _ c.contains.ensures)
