use Rattle.std.specs.declared.result.Result.{Result}
use Rattle.std.proofs.Common.{Ok, Err, ◌∙◌, ◌++◌, ◌∷◌, [], ap, map, refl, subst, sym, arith, length-set}
use Rattle.lists.proofs.Places.{slice_get-below}
use Rattle.std.specs.List.{slice_set}
use Rattle.std.proofs.lemmas.List.{get_or-map, length-map, map-append, map-set}
use Rattle.std.specs.Result.{OnErr}
use Rattle.std.proofs.Math.Seq.{map-set_same}
use Rattle.lists.specs.Groups.{IsAdded}
use Rattle.lists.proofs.Found.{Has-added, added_in, added_new, groups_by, grouped_new}
use Rattle.lists.proofs.by_key.ByKey.add.Goals as goal

on_err : {T E P : Type 0} (r : Result T E) → P → OnErr r P
on_err (Ok x) p = tt
on_err (Err e) p = p

pub index_mut-requires : goal.index_mut-requires
index_mut-requires g c = omega (arith, slice_get-below c.self.inside.keys.keys c.in-Some.number c.args.key ((c.in-Some.ensures c.in-Some.number).0 refl), c.self.invariant.as_many, length-map c.self.inside.groups.items (λ v. v.items), c.self.inside.groups.ok.0)

pub invariant_of-self : goal.invariant_of-self
invariant_of-self g c = record { as_many = length-map (slice_set c.self.inside.groups.items c.in-Some.number c.push.new.self) (λ v. v.items) ∙ length-set c.self.inside.groups.items c.in-Some.number c.push.new.self ∙ sym (length-map c.self.inside.groups.items (λ v. v.items)) ∙ c.self.invariant.as_many; apart = c.self.invariant.apart }

pub returns-in-Some : goal.returns-in-Some
returns-in-Some g c = rw (← c.self.view_is) (let added = subst (λ ls. IsAdded g.K.PartialEq.eq (groups_by g.K.PartialEq.eq g.met.K.Eq.laws g.met.K.Key.same c.self.inside.keys.keys (map (λ v. v.items) c.self.inside.groups.items)) (groups_by g.K.PartialEq.eq g.met.K.Eq.laws g.met.K.Key.same c.self.inside.keys.keys ls) c.args.key c.args.element) (sym (map-set (λ v. v.items) c.self.inside.groups.items c.in-Some.number c.push.new.self ∙ ap (slice_set (map (λ v. v.items) c.self.inside.groups.items) c.in-Some.number) (c.in_ok-push.ensures.items ∙ ap (λ xs. xs ++ c.args.element ∷ []) (sym (get_or-map (λ v. v.items) c.self.inside.groups.items c.in-Some.number c.index_mut.result.now [] (omega (arith, slice_get-below c.self.inside.keys.keys c.in-Some.number c.args.key ((c.in-Some.ensures c.in-Some.number).0 refl), c.self.invariant.as_many, length-map c.self.inside.groups.items (λ v. v.items))) ∙ ap (λ v. v.items) (sym c.index_mut.ensures.value)))))) (added_in g.K.PartialEq.eq g.met.K.Eq.laws g.met.K.Key.same c.self.inside.keys.keys (map (λ v. v.items) c.self.inside.groups.items) c.self.invariant c.args.key c.args.element c.in-Some.number ((c.in-Some.ensures c.in-Some.number).0 refl)) in record { last = added; has = Has-added g.K.PartialEq.eq g.met.K.Eq.laws g.met.K.Key.same _ _ _ _ added; err = tt })

pub put-requires-clause-new : goal.put-requires-clause-new
put-requires-clause-new g c = rw c.room.ensures.keys (λ k. let e = (c.in_default.ensures k.0).1 k.1 in cc)

pub invariant_of-self-2 : goal.invariant_of-self-2
invariant_of-self-2 g c = rw ((c.put.ensures.keys ∙ ap (λ ks. ks ++ c.args.key ∷ []) c.room.ensures.keys), (ap (map (λ v. v.items)) c.in_ok-push-3.ensures.items ∙ map-append (λ v. v.items) c.self.inside.groups.items (c.push-2.new.self ∷ []) ∙ ap (λ xs. (map (λ v. v.items) c.self.inside.groups.items) ++ xs ∷ []) (c.in_ok-push-2.ensures.items ∙ ap (λ xs. xs ++ c.args.element ∷ []) c.new-group.ensures.items))) (grouped_new g.K.PartialEq.eq g.met.K.Eq.laws g.met.K.Key.same c.self.inside.keys.keys (map (λ v. v.items) c.self.inside.groups.items) c.self.invariant c.args.key c.args.element (λ k. let e = (c.in_default.ensures k.0).1 k.1 in cc))

pub returns : goal.returns
returns g c = rw ((c.put.ensures.keys ∙ ap (λ ks. ks ++ c.args.key ∷ []) c.room.ensures.keys), (ap (map (λ v. v.items)) c.in_ok-push-3.ensures.items ∙ map-append (λ v. v.items) c.self.inside.groups.items (c.push-2.new.self ∷ []) ∙ ap (λ xs. (map (λ v. v.items) c.self.inside.groups.items) ++ xs ∷ []) (c.in_ok-push-2.ensures.items ∙ ap (λ xs. xs ++ c.args.element ∷ []) c.new-group.ensures.items)), ← c.self.view_is) (let added = added_new g.K.PartialEq.eq g.met.K.Eq.laws g.met.K.Key.same c.self.inside.keys.keys (map (λ v. v.items) c.self.inside.groups.items) c.self.invariant c.args.key c.args.element (λ k. let e = (c.in_default.ensures k.0).1 k.1 in cc) in record { last = added; has = Has-added g.K.PartialEq.eq g.met.K.Eq.laws g.met.K.Key.same _ _ _ _ added; err = tt })

pub returns-in_err-push-clause-err : goal.returns-in_err-push-clause-err
returns-in_err-push-clause-err g c =
    let same = map-set_same (λ v. v.items) c.self.inside.groups.items c.in-Some.number c.push.new.self c.index_mut.result.now (c.in_err-push.ensures.items ∙ ap (λ v. v.items) c.index_mut.ensures.value) in
    on_err c.from_residual.result (rw same c.self.view_is)
