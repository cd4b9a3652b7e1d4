use Rattle.std.proofs.Common.{refl}
use Rattle.lists.proofs.Places.{slice_get-below}
use Rattle.auto_table.proofs.table.Table.raise.Goals as goal

pub raise_row-requires : goal.raise_row-requires
raise_row-requires g c = slice_get-below c.args.self.now.names c.in-Some.row c.args.entry ((c.in-Some.ensures c.in-Some.row).0 refl)

pub begin-requires : goal.begin-requires
begin-requires g c = λ k. let e = (c.in-None.ensures k.0).1 k.1 in cc

pub returns-in-Some-clause-exact : goal.returns-in-Some-clause-exact
returns-in-Some-clause-exact g c = c.raise_row.ensures.exact c.args.entry ((c.in-Some.ensures c.in-Some.row).0 refl)

pub returns-in-Some-clause-raised : goal.returns-in-Some-clause-raised
returns-in-Some-clause-raised g c = c.raise_row.ensures.raised c.args.entry ((c.in-Some.ensures c.in-Some.row).0 refl)

pub returns-in-Some-clause-still : goal.returns-in-Some-clause-still
returns-in-Some-clause-still g c = c.raise_row.ensures.still

pub returns-in-Some-clause-err : goal.returns-in-Some-clause-err
returns-in-Some-clause-err g c = c.raise_row.ensures.err

pub returns-in-None-clause-exact : goal.returns-in-None-clause-exact
returns-in-None-clause-exact g c = c.begin.ensures.exact

pub returns-in-None-clause-raised : goal.returns-in-None-clause-raised
returns-in-None-clause-raised g c = c.begin.ensures.raised

pub returns-in-None-clause-still : goal.returns-in-None-clause-still
returns-in-None-clause-still g c = c.begin.ensures.still

pub returns-in-None-clause-err : goal.returns-in-None-clause-err
returns-in-None-clause-err g c = c.begin.ensures.err
