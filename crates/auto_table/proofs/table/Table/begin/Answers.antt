use Rattle.std.proofs.Common.{◌≡◌, ◌∙◌, refl, subst, sym, arith}
use Rattle.std.proofs.lemmas.Bool.{false≢true}
use Rattle.std.proofs.lemmas.Result.{err_from_is_err_and}
use Rattle.lists.specs.Lists.{Has}
use Rattle.auto_table.proofs.Raises.{raised_none}
use Rattle.auto_table.proofs.Weighed.{weight_unnamed}
use Rattle.auto_table.proofs.Whole.{first_raised, first_table, spot_fresh}
use Rattle.auto_table.proofs.table.Table.begin.Goals as goal

pub returns-then-leq-clause-exact : goal.returns-then-leq-clause-exact
returns-then-leq-clause-exact g c = ((λ _. subst (λ x. g.W.Weight.domain.combine c.args.weight x ≡ x) (c.zero-old.ensures ∙ sym (weight_unnamed g.W.Weight.domain c.args.self.now c.args.entry c.requires c.args.node)) (c.if-leq.ensures.0 refl)), (λ _. refl))

pub returns-then-leq-clause-raised : goal.returns-then-leq-clause-raised
returns-then-leq-clause-raised g c = raised_none g.W.Weight.domain c.args.self.now c.args.entry c.args.node c.args.weight
    (sym (g.met.W.Weight.laws.combine_comm _ c.args.weight (subst (λ x. g.W.Weight.domain.IsMeant x) (sym c.zero-old.ensures ∙ (c.zero-old.ensures ∙ sym (weight_unnamed g.W.Weight.domain c.args.self.now c.args.entry c.requires c.args.node))) g.met.W.Weight.laws.zero_meant) c.told.ensures
    ∙ subst (λ x. g.W.Weight.domain.combine c.args.weight x ≡ x) (c.zero-old.ensures ∙ sym (weight_unnamed g.W.Weight.domain c.args.self.now c.args.entry c.requires c.args.node)) (c.if-leq.ensures.0 refl)))

pub returns-then-leq-clause-still : goal.returns-then-leq-clause-still
returns-then-leq-clause-still g c = λ _. refl

pub invariant_of-self : goal.invariant_of-self
invariant_of-self g c = rw (c.room_for.ensures.same_names, c.room_for.ensures.same_weights, c.room_for.ensures.same_links) c.self.invariant

pub returns-in_err-room_for-clause-exact : goal.returns-in_err-room_for-clause-exact
returns-in_err-room_for-clause-exact g c = let p = err_from_is_err_and c.from_residual.result c.from_residual.ensures.1 in rw p.1 tt

pub returns-in_err-room_for-clause-raised : goal.returns-in_err-room_for-clause-raised
returns-in_err-room_for-clause-raised g c = let p = err_from_is_err_and c.from_residual.result c.from_residual.ensures.1 in rw p.1 tt

pub returns-in_err-room_for-clause-still : goal.returns-in_err-room_for-clause-still
returns-in_err-room_for-clause-still g c = let p = err_from_is_err_and c.from_residual.result c.from_residual.ensures.1 in rw p.1 (λ h. cc)

pub returns-in_err-room_for-clause-err : goal.returns-in_err-room_for-clause-err
returns-in_err-room_for-clause-err g c = let p = err_from_is_err_and c.from_residual.result c.from_residual.ensures.1 in rw (p.1, c.room_for.ensures.same_names, c.room_for.ensures.same_weights, c.room_for.ensures.same_links) c.self.view_is

pub push_new-requires-clause-room : goal.push_new-requires-clause-room
push_new-requires-clause-room g c = omega (arith, c.in_ok-room_for.ensures.weights)

pub push_new-requires-clause-new : goal.push_new-requires-clause-new
push_new-requires-clause-new g c = rw c.room_for.ensures.same_weights (spot_fresh g.W.Weight.domain g.met.W.Weight.laws (record { names = c.self.inside.names.keys; reached = c.self.inside.weights.rows; parents = c.self.inside.links.rows }) c.self.inside.weights.keys c.self.inside.weights.places c.self.inside.links.keys c.self.inside.links.places c.self.invariant (record { row = c.len-row.result; node = c.args.node }) c.len-row.ensures.value)

pub invariant_of-self-in_err-push_new : goal.invariant_of-self-in_err-push_new
invariant_of-self-in_err-push_new g c = rw (c.in_err-push_new.ensures.err, c.room_for.ensures.same_names, c.room_for.ensures.same_weights, c.room_for.ensures.same_links) c.self.invariant

pub returns-in_err-push_new-clause-exact : goal.returns-in_err-push_new-clause-exact
returns-in_err-push_new-clause-exact g c = let p = err_from_is_err_and c.from_residual-in_err-push_new.result c.from_residual-in_err-push_new.ensures.1 in rw p.1 tt

pub returns-in_err-push_new-clause-raised : goal.returns-in_err-push_new-clause-raised
returns-in_err-push_new-clause-raised g c = let p = err_from_is_err_and c.from_residual-in_err-push_new.result c.from_residual-in_err-push_new.ensures.1 in rw p.1 tt

pub returns-in_err-push_new-clause-still : goal.returns-in_err-push_new-clause-still
returns-in_err-push_new-clause-still g c = let p = err_from_is_err_and c.from_residual-in_err-push_new.result c.from_residual-in_err-push_new.ensures.1 in rw p.1 (λ h. cc)

pub returns-in_err-push_new-clause-err : goal.returns-in_err-push_new-clause-err
returns-in_err-push_new-clause-err g c = let p = err_from_is_err_and c.from_residual-in_err-push_new.result c.from_residual-in_err-push_new.ensures.1 in rw (p.1, c.in_err-push_new.ensures.err, c.room_for.ensures.same_names, c.room_for.ensures.same_weights, c.room_for.ensures.same_links) c.self.view_is

pub push_row-requires : goal.push_row-requires
push_row-requires g c = omega (arith, c.in_ok-room_for.ensures.links)

pub put-requires-clause-room : goal.put-requires-clause-room
put-requires-clause-room g c = omega (arith, c.in_ok-room_for.ensures.names)

pub put-requires-clause-new : goal.put-requires-clause-new
put-requires-clause-new g c = rw c.room_for.ensures.same_names (λ k. c.requires (subst (λ z. Has z.names c.args.entry) c.self.view_is k))

pub returns-clause-exact : goal.returns-clause-exact
returns-clause-exact g c = ((λ k. absurd (false≢true (sym k))), (λ k. absurd (false≢true (c.if-leq.ensures.1 (subst (λ x. g.W.Weight.domain.combine c.args.weight x ≡ x) (sym (c.zero-old.ensures ∙ sym (weight_unnamed g.W.Weight.domain c.args.self.now c.args.entry c.requires c.args.node))) k)))))

pub returns-clause-still : goal.returns-clause-still
returns-clause-still g c = λ h. cc

pub invariant_of-self-2 : goal.invariant_of-self-2
invariant_of-self-2 g c = rw (c.put.ensures.keys, c.push_row.ensures, c.in_ok-push_new.ensures.ok, c.room_for.ensures.same_names, c.room_for.ensures.same_weights, c.room_for.ensures.same_links, c.len-row.ensures.value) (first_table g.W.Weight.domain g.met.W.Weight.laws (record { names = c.self.inside.names.keys; reached = c.self.inside.weights.rows; parents = c.self.inside.links.rows }) c.self.inside.weights.keys c.self.inside.weights.places c.self.inside.links.keys c.self.inside.links.places c.self.invariant c.args.self.now c.self.view_is c.args.weight c.zero-old.result c.combine.result c.combine.ensures c.told.ensures (λ h. false≢true (c.if-leq.ensures.1 h)) c.args.entry c.args.node (c.zero-old.ensures ∙ sym (weight_unnamed g.W.Weight.domain c.args.self.now c.args.entry c.requires c.args.node)) (λ k. c.requires (subst (λ z. Has z.names c.args.entry) c.self.view_is k)))

pub returns-clause-raised : goal.returns-clause-raised
returns-clause-raised g c = rw (c.put.ensures.keys, c.push_row.ensures, c.in_ok-push_new.ensures.ok, c.room_for.ensures.same_names, c.room_for.ensures.same_weights, c.room_for.ensures.same_links) (first_raised g.W.Weight.domain g.met.W.Weight.laws (record { names = c.self.inside.names.keys; reached = c.self.inside.weights.rows; parents = c.self.inside.links.rows }) c.self.inside.weights.keys c.self.inside.weights.places c.self.inside.links.keys c.self.inside.links.places c.self.invariant c.args.self.now c.self.view_is c.args.weight c.zero-old.result c.combine.result c.combine.ensures c.told.ensures (λ h. false≢true (c.if-leq.ensures.1 h)) c.args.entry c.args.node (c.zero-old.ensures ∙ sym (weight_unnamed g.W.Weight.domain c.args.self.now c.args.entry c.requires c.args.node)) (λ k. c.requires (subst (λ z. Has z.names c.args.entry) c.self.view_is k)))
