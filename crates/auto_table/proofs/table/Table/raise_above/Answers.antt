use Rattle.std.proofs.Common.{◌≡◌, ◌∙◌, Some, ap, refl, slice_get, subst, sym, arith}
use Rattle.std.proofs.lemmas.Bool.{false≢true}
use Rattle.std.proofs.lemmas.Result.{err_from_is_err_and}
use Rattle.auto_table.specs.Cells.{link_at, parent_of}
use Rattle.auto_table.specs.Inside.{joint_parent, joint_row}
use Rattle.lists.proofs.Places.{slice_get-there}
use Rattle.auto_table.proofs.Filed.{filed-place, filed-row}
use Rattle.auto_table.proofs.Raises.{raised_link_none}
use Rattle.auto_table.proofs.Tables.{one_joint}
use Rattle.auto_table.proofs.Whole.{link_behind, link_over_raised, link_over_table}
use Rattle.auto_table.proofs.table.Table.raise_above.Goals as goal

pub returns-then-leq-clause-exact : goal.returns-then-leq-clause-exact
returns-then-leq-clause-exact g c = λ e h. ((λ _. subst (λ x. g.W.Weight.domain.combine c.args.weight x ≡ x) (c.link_weight-old.ensures e h) (c.if-leq.ensures.0 refl)), (λ _. refl))

pub returns-then-leq-clause-raised : goal.returns-then-leq-clause-raised
returns-then-leq-clause-raised g c = λ e h. raised_link_none g.W.Weight.domain c.args.self.now e c.args.parent c.args.weight
    (sym (g.met.W.Weight.laws.combine_comm _ c.args.weight (subst (λ z. g.W.Weight.domain.IsMeant (link_at g.W.Weight.domain z e c.args.parent)) c.self.view_is (c.self.invariant.laid.meant.links e c.args.parent)) c.told.ensures
    ∙ subst (λ x. g.W.Weight.domain.combine c.args.weight x ≡ x) (c.link_weight-old.ensures e h) (c.if-leq.ensures.0 refl)))

pub returns-then-leq-clause-still : goal.returns-then-leq-clause-still
returns-then-leq-clause-still g c = λ _. refl

pub write-requires-clause-row : goal.write-requires-clause-row
write-requires-clause-row g c = filed-row joint_row joint_parent one_joint parent_of c.self.inside.links.rows c.self.inside.links.keys c.self.inside.links.places c.self.invariant.laid.by_joint (record { row = c.args.row; parent = c.args.parent }) c.in-Some.place c.in-Some.ensures.found

pub write-requires-clause-place : goal.write-requires-clause-place
write-requires-clause-place g c = filed-place joint_row joint_parent one_joint parent_of c.self.inside.links.rows c.self.inside.links.keys c.self.inside.links.places c.self.invariant.laid.by_joint (record { row = c.args.row; parent = c.args.parent }) c.in-Some.place c.in-Some.ensures.found

pub invariant_of-self : goal.invariant_of-self
invariant_of-self g c = let p = slice_get-there c.self.inside.names.keys c.args.row (rw (← c.self.view_is) at c.requires) in rw c.write.ensures (link_over_table g.W.Weight.domain g.met.W.Weight.laws (record { names = c.self.inside.names.keys; reached = c.self.inside.weights.rows; parents = c.self.inside.links.rows }) c.self.inside.weights.keys c.self.inside.weights.places c.self.inside.links.keys c.self.inside.links.places c.self.invariant c.args.self.now c.self.view_is c.args.weight c.link_weight-old.result c.combine.result c.combine.ensures c.told.ensures (λ h. false≢true (c.if-leq.ensures.1 h)) p.0 c.args.parent (c.link_weight-old.ensures p.0 (subst (λ z. slice_get z.names c.args.row ≡ Some p.0) c.self.view_is p.1)) c.args.row p.1 c.in-Some.place c.in-Some.ensures.found)

pub returns-in-Some-clause-exact : goal.returns-in-Some-clause-exact
returns-in-Some-clause-exact g c = λ e h. ((λ k. absurd (false≢true (sym k))), (λ k. absurd (false≢true (c.if-leq.ensures.1 (subst (λ x. g.W.Weight.domain.combine c.args.weight x ≡ x) (sym (c.link_weight-old.ensures e h)) k)))))

pub returns-in-Some-clause-raised : goal.returns-in-Some-clause-raised
returns-in-Some-clause-raised g c = λ e h. rw c.write.ensures (link_over_raised g.W.Weight.domain g.met.W.Weight.laws (record { names = c.self.inside.names.keys; reached = c.self.inside.weights.rows; parents = c.self.inside.links.rows }) c.self.inside.weights.keys c.self.inside.weights.places c.self.inside.links.keys c.self.inside.links.places c.self.invariant c.args.self.now c.self.view_is c.args.weight c.link_weight-old.result c.combine.result c.combine.ensures c.told.ensures (λ h. false≢true (c.if-leq.ensures.1 h)) e c.args.parent (c.link_weight-old.ensures e h) c.args.row (subst (λ z. slice_get z.names c.args.row ≡ Some e) (sym c.self.view_is) h) c.in-Some.place c.in-Some.ensures.found)

pub returns-in-Some-clause-still : goal.returns-in-Some-clause-still
returns-in-Some-clause-still g c = λ h. cc

pub returns-clause-exact : goal.returns-clause-exact
returns-clause-exact g c = λ e h. ((λ k. absurd (false≢true (sym k))), (λ k. absurd (false≢true (c.if-leq.ensures.1 (subst (λ x. g.W.Weight.domain.combine c.args.weight x ≡ x) (sym (c.link_weight-old.ensures e h)) k)))))

pub returns-clause-still : goal.returns-clause-still
returns-clause-still g c = λ h. cc

pub invariant_of-self-in_err-room_for : goal.invariant_of-self-in_err-room_for
invariant_of-self-in_err-room_for g c = rw (c.room_for.ensures.same_names, c.room_for.ensures.same_weights, c.room_for.ensures.same_links) c.self.invariant

pub returns-in_err-room_for-clause-exact : goal.returns-in_err-room_for-clause-exact
returns-in_err-room_for-clause-exact g c = λ e h. let p = err_from_is_err_and c.from_residual.result c.from_residual.ensures.1 in rw p.1 tt

pub returns-in_err-room_for-clause-raised : goal.returns-in_err-room_for-clause-raised
returns-in_err-room_for-clause-raised g c = λ e h. let p = err_from_is_err_and c.from_residual.result c.from_residual.ensures.1 in rw p.1 tt

pub returns-in_err-room_for-clause-still : goal.returns-in_err-room_for-clause-still
returns-in_err-room_for-clause-still g c = let p = err_from_is_err_and c.from_residual.result c.from_residual.ensures.1 in rw p.1 (λ h. cc)

pub returns-in_err-room_for-clause-err : goal.returns-in_err-room_for-clause-err
returns-in_err-room_for-clause-err g c = let p = err_from_is_err_and c.from_residual.result c.from_residual.ensures.1 in rw (p.1, c.room_for.ensures.same_names, c.room_for.ensures.same_weights, c.room_for.ensures.same_links) c.self.view_is

pub push-requires-clause-row : goal.push-requires-clause-row
push-requires-clause-row g c = let low = rw (← c.self.view_is) at c.requires in rw c.room_for.ensures.same_links (omega (arith, low, c.self.invariant.laid.parent_rows))

pub push-requires-clause-new : goal.push-requires-clause-new
push-requires-clause-new g c = rw c.room_for.ensures.same_links (c.in_default.ensures.missed refl)

pub invariant_of-self-in_err-push : goal.invariant_of-self-in_err-push
invariant_of-self-in_err-push g c = rw (c.in_err-push.ensures.err, c.room_for.ensures.same_names, c.room_for.ensures.same_weights, c.room_for.ensures.same_links) c.self.invariant

pub returns-in_err-push-clause-exact : goal.returns-in_err-push-clause-exact
returns-in_err-push-clause-exact g c = λ e h. let p = err_from_is_err_and c.from_residual-in_err-push.result c.from_residual-in_err-push.ensures.1 in rw p.1 tt

pub returns-in_err-push-clause-raised : goal.returns-in_err-push-clause-raised
returns-in_err-push-clause-raised g c = λ e h. let p = err_from_is_err_and c.from_residual-in_err-push.result c.from_residual-in_err-push.ensures.1 in rw p.1 tt

pub returns-in_err-push-clause-still : goal.returns-in_err-push-clause-still
returns-in_err-push-clause-still g c = let p = err_from_is_err_and c.from_residual-in_err-push.result c.from_residual-in_err-push.ensures.1 in rw p.1 (λ h. cc)

pub returns-in_err-push-clause-err : goal.returns-in_err-push-clause-err
returns-in_err-push-clause-err g c = let p = err_from_is_err_and c.from_residual-in_err-push.result c.from_residual-in_err-push.ensures.1 in rw (p.1, c.in_err-push.ensures.err, c.room_for.ensures.same_names, c.room_for.ensures.same_weights, c.room_for.ensures.same_links) c.self.view_is

pub name-requires-clause-names : goal.name-requires-clause-names
name-requires-clause-names g c = omega (arith, c.in_ok-room_for.ensures.names)

pub name-requires-clause-weights : goal.name-requires-clause-weights
name-requires-clause-weights g c = omega (arith, c.in_ok-room_for.ensures.weights)

pub name-requires-clause-links : goal.name-requires-clause-links
name-requires-clause-links g c = rw c.in_ok-push.ensures.ok (omega (arith, c.in_ok-room_for.ensures.links))

pub invariant_of-self-2 : goal.invariant_of-self-2
invariant_of-self-2 g c = let p = slice_get-there c.self.inside.names.keys c.args.row (rw (← c.self.view_is) at c.requires) in (link_behind g.W.Weight.domain g.met.W.Weight.laws (record { names = c.self.inside.names.keys; reached = c.self.inside.weights.rows; parents = c.self.inside.links.rows }) c.self.inside.weights.keys c.self.inside.weights.places c.self.inside.links.keys c.self.inside.links.places c.self.invariant c.args.self.now c.self.view_is c.args.weight c.link_weight-old.result c.combine.result c.combine.ensures c.told.ensures (λ h. false≢true (c.if-leq.ensures.1 h)) p.0 c.args.parent (c.link_weight-old.ensures p.0 (subst (λ z. slice_get z.names c.args.row ≡ Some p.0) c.self.view_is p.1)) c.args.row p.1 (c.in_default.ensures.missed refl) c.room_for.new.weights c.name.new.weights c.name.new.links c.room_for.new.links.room c.name.new.names.keys (ap (λ z. z.rows) c.room_for.ensures.same_weights) (ap (λ z. z.keys) c.room_for.ensures.same_weights) (ap (λ z. z.places) c.room_for.ensures.same_weights) (rw (c.in_ok-push.ensures.ok, c.room_for.ensures.same_names, c.room_for.ensures.same_links) at c.name.ensures.named)).0

pub returns-clause-raised : goal.returns-clause-raised
returns-clause-raised g c = λ e h. (link_behind g.W.Weight.domain g.met.W.Weight.laws (record { names = c.self.inside.names.keys; reached = c.self.inside.weights.rows; parents = c.self.inside.links.rows }) c.self.inside.weights.keys c.self.inside.weights.places c.self.inside.links.keys c.self.inside.links.places c.self.invariant c.args.self.now c.self.view_is c.args.weight c.link_weight-old.result c.combine.result c.combine.ensures c.told.ensures (λ h. false≢true (c.if-leq.ensures.1 h)) e c.args.parent (c.link_weight-old.ensures e h) c.args.row (subst (λ z. slice_get z.names c.args.row ≡ Some e) (sym c.self.view_is) h) (c.in_default.ensures.missed refl) c.room_for.new.weights c.name.new.weights c.name.new.links c.room_for.new.links.room c.name.new.names.keys (ap (λ z. z.rows) c.room_for.ensures.same_weights) (ap (λ z. z.keys) c.room_for.ensures.same_weights) (ap (λ z. z.places) c.room_for.ensures.same_weights) (rw (c.in_ok-push.ensures.ok, c.room_for.ensures.same_names, c.room_for.ensures.same_links) at c.name.ensures.named)).1
