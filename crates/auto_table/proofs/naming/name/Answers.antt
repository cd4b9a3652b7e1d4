use Rattle.std.proofs.Common.{refl}
use Rattle.auto_table.specs.Naming.{as_before, with_rows}
use Rattle.auto_table.proofs.naming.name.Goals as goal

pub returns-in-Some : goal.returns-in-Some
returns-in-Some g c = record { named = as_before (c.in-Some.field-0, (c.in-Some.ensures c.in-Some.field-0).0 refl) refl refl refl }

pub put-requires-clause-new : goal.put-requires-clause-new
put-requires-clause-new g c = λ k. let e = (c.find.ensures k.0).1 k.1 in cc

pub returns : goal.returns
returns g c = record { named = with_rows (λ k. let e = (c.find.ensures k.0).1 k.1 in cc) c.put.ensures.keys c.push_row.ensures c.push_row-2.ensures }
