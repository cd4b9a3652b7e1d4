use Rattle.std.proofs.Common.{◌≡◌, ◌∙◌, Some, ap, refl, slice_get, subst, sym}
use Rattle.auto_table.specs.Cells.{link_at, parent_of}
use Rattle.auto_table.specs.Inside.{joint_parent, joint_row}
use Rattle.auto_table.proofs.Filed.{filed-place, filed-row}
use Rattle.auto_table.proofs.RowReads.{link_found, link_missed}
use Rattle.auto_table.proofs.Tables.{one_joint}
use Rattle.auto_table.proofs.table.Table.link_weight.Goals as goal

pub read-requires-clause-row : goal.read-requires-clause-row
read-requires-clause-row g c = filed-row joint_row joint_parent one_joint parent_of c.self.inside.links.rows c.self.inside.links.keys c.self.inside.links.places c.self.invariant.laid.by_joint (record { row = c.args.row; parent = c.args.parent }) c.in-Some.place c.in-Some.ensures.found

pub read-requires-clause-place : goal.read-requires-clause-place
read-requires-clause-place g c = filed-place joint_row joint_parent one_joint parent_of c.self.inside.links.rows c.self.inside.links.keys c.self.inside.links.places c.self.invariant.laid.by_joint (record { row = c.args.row; parent = c.args.parent }) c.in-Some.place c.in-Some.ensures.found

pub returns-in-Some : goal.returns-in-Some
returns-in-Some g c = λ e h. link_found g.W.Weight.domain (record { names = c.self.inside.names.keys; reached = c.self.inside.weights.rows; parents = c.self.inside.links.rows }) c.self.inside.weights.keys c.self.inside.weights.places c.self.inside.links.keys c.self.inside.links.places c.self.invariant.laid (record { row = c.args.row; parent = c.args.parent }) e (subst (λ z. slice_get z.names c.args.row ≡ Some e) (sym c.self.view_is) h) c.in-Some.place c.in-Some.ensures.found c.read.result c.read.ensures ∙ ap (λ z. link_at g.W.Weight.domain z e c.args.parent) c.self.view_is

pub returns-in-None : goal.returns-in-None
returns-in-None g c = λ e h. c.zero.ensures ∙ link_missed g.W.Weight.domain (record { names = c.self.inside.names.keys; reached = c.self.inside.weights.rows; parents = c.self.inside.links.rows }) c.self.inside.weights.keys c.self.inside.weights.places c.self.inside.links.keys c.self.inside.links.places c.self.invariant.laid (record { row = c.args.row; parent = c.args.parent }) e (subst (λ z. slice_get z.names c.args.row ≡ Some e) (sym c.self.view_is) h) (c.in-None.ensures.missed refl) ∙ ap (λ z. link_at g.W.Weight.domain z e c.args.parent) c.self.view_is
