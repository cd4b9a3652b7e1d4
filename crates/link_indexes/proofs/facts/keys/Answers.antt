use Rattle.link_indexes.proofs.facts.keys.Goals as goal

pub returns-in-Target : goal.returns-in-Target
returns-in-Target c = rw c.in-Target.is c.targets_of.ensures

pub returns-in-Stored : goal.returns-in-Stored
returns-in-Stored c = rw c.in-Stored.is c.stored_by.ensures

pub returns-in-StaticStored : goal.returns-in-StaticStored
returns-in-StaticStored c = rw c.in-StaticStored.is c.static_stored_by.ensures
