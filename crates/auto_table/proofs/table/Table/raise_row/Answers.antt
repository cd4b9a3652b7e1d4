use Rattle.std.proofs.Common.{◌≡◌, ◌∙◌, Some, ap, refl, slice_get, subst, sym, arith}
use Rattle.std.proofs.lemmas.Bool.{false≢true}
use Rattle.std.proofs.lemmas.Result.{err_from_is_err_and}
use Rattle.auto_table.specs.Cells.{weight_at, node_of}
use Rattle.auto_table.specs.Inside.{spot_node, spot_row}
use Rattle.lists.proofs.Places.{slice_get-there}
use Rattle.auto_table.proofs.Filed.{filed-place, filed-row}
use Rattle.auto_table.proofs.Raises.{raised_none}
use Rattle.auto_table.proofs.Tables.{one_spot}
use Rattle.auto_table.proofs.Whole.{behind_raised, behind_table, over_raised, over_table}
use Rattle.auto_table.proofs.table.Table.raise_row.Goals as goal

pub returns-then-leq-clause-exact : goal.returns-then-leq-clause-exact
returns-then-leq-clause-exact g c = λ e h. ((λ _. subst (λ x. g.W.Weight.domain.combine c.args.weight x ≡ x) (c.weight-old.ensures e h) (c.if-leq.ensures.0 refl)), (λ _. refl))

pub returns-then-leq-clause-raised : goal.returns-then-leq-clause-raised
returns-then-leq-clause-raised g c = λ e h. raised_none g.W.Weight.domain c.args.self.now e c.args.node c.args.weight
    (sym (g.met.W.Weight.laws.combine_comm _ c.args.weight (subst (λ z. g.W.Weight.domain.IsMeant (weight_at g.W.Weight.domain z e c.args.node)) c.self.view_is (c.self.invariant.laid.meant.weights e c.args.node)) c.told.ensures
    ∙ subst (λ x. g.W.Weight.domain.combine c.args.weight x ≡ x) (c.weight-old.ensures e h) (c.if-leq.ensures.0 refl)))

pub returns-then-leq-clause-still : goal.returns-then-leq-clause-still
returns-then-leq-clause-still g c = λ _. refl

pub write-requires-clause-row : goal.write-requires-clause-row
write-requires-clause-row g c = filed-row spot_row spot_node one_spot node_of c.self.inside.weights.rows c.self.inside.weights.keys c.self.inside.weights.places c.self.invariant.laid.by_spot (record { row = c.args.row; node = c.args.node }) c.in-Some.place c.in-Some.ensures.found

pub write-requires-clause-place : goal.write-requires-clause-place
write-requires-clause-place g c = filed-place spot_row spot_node one_spot node_of c.self.inside.weights.rows c.self.inside.weights.keys c.self.inside.weights.places c.self.invariant.laid.by_spot (record { row = c.args.row; node = c.args.node }) c.in-Some.place c.in-Some.ensures.found

pub invariant_of-self : goal.invariant_of-self
invariant_of-self g c = let p = slice_get-there c.self.inside.names.keys c.args.row (rw (← c.self.view_is) at c.requires) in rw c.write.ensures (over_table g.W.Weight.domain g.met.W.Weight.laws (record { names = c.self.inside.names.keys; reached = c.self.inside.weights.rows; parents = c.self.inside.links.rows }) c.self.inside.weights.keys c.self.inside.weights.places c.self.inside.links.keys c.self.inside.links.places c.self.invariant c.args.self.now c.self.view_is c.args.weight c.weight-old.result c.combine.result c.combine.ensures c.told.ensures (λ h. false≢true (c.if-leq.ensures.1 h)) p.0 c.args.node (c.weight-old.ensures p.0 (subst (λ z. slice_get z.names c.args.row ≡ Some p.0) c.self.view_is p.1)) c.args.row p.1 c.in-Some.place c.in-Some.ensures.found)

pub returns-in-Some-clause-exact : goal.returns-in-Some-clause-exact
returns-in-Some-clause-exact g c = λ e h. ((λ k. absurd (false≢true (sym k))), (λ k. absurd (false≢true (c.if-leq.ensures.1 (subst (λ x. g.W.Weight.domain.combine c.args.weight x ≡ x) (sym (c.weight-old.ensures e h)) k)))))

pub returns-in-Some-clause-raised : goal.returns-in-Some-clause-raised
returns-in-Some-clause-raised g c = λ e h. rw c.write.ensures (over_raised g.W.Weight.domain g.met.W.Weight.laws (record { names = c.self.inside.names.keys; reached = c.self.inside.weights.rows; parents = c.self.inside.links.rows }) c.self.inside.weights.keys c.self.inside.weights.places c.self.inside.links.keys c.self.inside.links.places c.self.invariant c.args.self.now c.self.view_is c.args.weight c.weight-old.result c.combine.result c.combine.ensures c.told.ensures (λ h. false≢true (c.if-leq.ensures.1 h)) e c.args.node (c.weight-old.ensures e h) c.args.row (subst (λ z. slice_get z.names c.args.row ≡ Some e) (sym c.self.view_is) h) c.in-Some.place c.in-Some.ensures.found)

pub returns-in-Some-clause-still : goal.returns-in-Some-clause-still
returns-in-Some-clause-still g c = λ h. cc

pub returns-clause-exact : goal.returns-clause-exact
returns-clause-exact g c = λ e h. ((λ k. absurd (false≢true (sym k))), (λ k. absurd (false≢true (c.if-leq.ensures.1 (subst (λ x. g.W.Weight.domain.combine c.args.weight x ≡ x) (sym (c.weight-old.ensures e h)) k)))))

pub returns-clause-still : goal.returns-clause-still
returns-clause-still g c = λ h. cc

pub returns-then-leq-clause-names : goal.returns-then-leq-clause-names
returns-then-leq-clause-names g c = refl

pub returns-in-Some-clause-names : goal.returns-in-Some-clause-names
returns-in-Some-clause-names g c = ap (λ z. z.names) c.self.view_is

pub push-requires-clause-row : goal.push-requires-clause-row
push-requires-clause-row g c = let low = rw (← c.self.view_is) at c.requires in omega (arith, low, c.self.invariant.laid.rows)

pub push-requires-clause-new : goal.push-requires-clause-new
push-requires-clause-new g c = c.in_default.ensures.missed refl

pub invariant_of-self-in_err-push : goal.invariant_of-self-in_err-push
invariant_of-self-in_err-push g c = rw c.in_err-push.ensures.err c.self.invariant

pub returns-in_err-push-clause-exact : goal.returns-in_err-push-clause-exact
returns-in_err-push-clause-exact g c = λ e h. let p = err_from_is_err_and c.from_residual.result c.from_residual.ensures.1 in rw p.1 tt

pub returns-in_err-push-clause-raised : goal.returns-in_err-push-clause-raised
returns-in_err-push-clause-raised g c = λ e h. let p = err_from_is_err_and c.from_residual.result c.from_residual.ensures.1 in rw p.1 tt

pub returns-in_err-push-clause-names : goal.returns-in_err-push-clause-names
returns-in_err-push-clause-names g c = ap (λ z. z.names) c.self.view_is

pub returns-in_err-push-clause-still : goal.returns-in_err-push-clause-still
returns-in_err-push-clause-still g c = let p = err_from_is_err_and c.from_residual.result c.from_residual.ensures.1 in rw p.1 (λ h. cc)

pub returns-in_err-push-clause-err : goal.returns-in_err-push-clause-err
returns-in_err-push-clause-err g c = let p = err_from_is_err_and c.from_residual.result c.from_residual.ensures.1 in rw (p.1, c.in_err-push.ensures.err) c.self.view_is

pub invariant_of-self-2 : goal.invariant_of-self-2
invariant_of-self-2 g c = let p = slice_get-there c.self.inside.names.keys c.args.row (rw (← c.self.view_is) at c.requires) in rw c.in_ok-push.ensures.ok (behind_table g.W.Weight.domain g.met.W.Weight.laws (record { names = c.self.inside.names.keys; reached = c.self.inside.weights.rows; parents = c.self.inside.links.rows }) c.self.inside.weights.keys c.self.inside.weights.places c.self.inside.links.keys c.self.inside.links.places c.self.invariant c.args.self.now c.self.view_is c.args.weight c.weight-old.result c.combine.result c.combine.ensures c.told.ensures (λ h. false≢true (c.if-leq.ensures.1 h)) p.0 c.args.node (c.weight-old.ensures p.0 (subst (λ z. slice_get z.names c.args.row ≡ Some p.0) c.self.view_is p.1)) c.args.row p.1 (c.in_default.ensures.missed refl))

pub returns-clause-raised : goal.returns-clause-raised
returns-clause-raised g c = λ e h. rw c.in_ok-push.ensures.ok (behind_raised g.W.Weight.domain g.met.W.Weight.laws (record { names = c.self.inside.names.keys; reached = c.self.inside.weights.rows; parents = c.self.inside.links.rows }) c.self.inside.weights.keys c.self.inside.weights.places c.self.inside.links.keys c.self.inside.links.places c.self.invariant c.args.self.now c.self.view_is c.args.weight c.weight-old.result c.combine.result c.combine.ensures c.told.ensures (λ h. false≢true (c.if-leq.ensures.1 h)) e c.args.node (c.weight-old.ensures e h) c.args.row (subst (λ z. slice_get z.names c.args.row ≡ Some e) (sym c.self.view_is) h) (c.in_default.ensures.missed refl))

pub returns-clause-names : goal.returns-clause-names
returns-clause-names g c = ap (λ z. z.names) c.self.view_is
