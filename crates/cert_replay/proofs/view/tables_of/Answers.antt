use Rattle.cert_replay.proofs.view.tables_of.Goals as goal

pub stored-requires : goal.stored-requires
stored-requires c = rw c.stores.ensures c.requires

pub returns : goal.returns
returns c = record { steps = rw c.edges.ensures at c.in_ok-steps.ensures; stores = rw c.stores.ensures at c.in_ok-stores.ensures }
