use Rattle.std.proofs.Common.{refl, arith}
use Rattle.lists.proofs.Places.{slice_get-below}
use Rattle.auto_table.proofs.RowReads.{link_row, link_row_none}
use Rattle.auto_table.proofs.table.Table.parents.Goals as goal

pub row-requires : goal.row-requires
row-requires g c = omega (arith, slice_get-below c.self.inside.names.keys c.in-Some.row c.args.child ((c.in-Some.ensures c.in-Some.row).0 refl), c.self.invariant.laid.parent_rows)

pub returns-in-Some-clause-each : goal.returns-in-Some-clause-each
returns-in-Some-clause-each g c = rw (← c.self.view_is, c.row.ensures) (link_row g.W.Weight.domain (record { names = c.self.inside.names.keys; reached = c.self.inside.weights.rows; parents = c.self.inside.links.rows }) c.self.inside.weights.keys c.self.inside.weights.places c.self.inside.links.keys c.self.inside.links.places c.self.invariant.laid c.args.child c.in-Some.row ((c.in-Some.ensures c.in-Some.row).0 refl))

pub returns-in-Some-clause-meant : goal.returns-in-Some-clause-meant
returns-in-Some-clause-meant g c = rw (← c.self.view_is) c.self.invariant.laid.meant

pub returns-in-None-clause-each : goal.returns-in-None-clause-each
returns-in-None-clause-each g c = rw (← c.self.view_is) (link_row_none g.W.Weight.domain (record { names = c.self.inside.names.keys; reached = c.self.inside.weights.rows; parents = c.self.inside.links.rows }) c.self.inside.weights.keys c.self.inside.weights.places c.self.inside.links.keys c.self.inside.links.places c.self.invariant.laid c.args.child (λ k. let e = (c.in-None.ensures k.0).1 k.1 in cc))

pub returns-in-None-clause-meant : goal.returns-in-None-clause-meant
returns-in-None-clause-meant g c = rw (← c.self.view_is) c.self.invariant.laid.meant
