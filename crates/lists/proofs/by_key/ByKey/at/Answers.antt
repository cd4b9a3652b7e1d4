use Rattle.std.proofs.Common.{◌∙◌, [], ap, map, refl, sym, arith}
use Rattle.lists.specs.Filings.{row}
use Rattle.lists.proofs.Places.{slice_get-below}
use Rattle.std.proofs.lemmas.List.{get_or-map, length-map}
use Rattle.lists.proofs.Found.{found-none, found-there}
use Rattle.lists.proofs.by_key.ByKey.at.Goals as goal

pub index-requires : goal.index-requires
index-requires g c = omega (arith, slice_get-below c.self.inside.keys.keys c.in-Some.number c.args.key ((c.in-Some.ensures c.in-Some.number).0 refl), c.self.invariant.as_many, length-map c.self.inside.groups.items (λ v. v.items), c.self.inside.groups.ok.0)

pub returns-in-Some : goal.returns-in-Some
returns-in-Some g c = rw (← c.self.view_is) (c.as_slice.ensures.value ∙ ap (λ v. v.items) c.index.ensures ∙ sym (get_or-map (λ v. v.items) c.self.inside.groups.items c.in-Some.number c.index.result.now [] (omega (arith, slice_get-below c.self.inside.keys.keys c.in-Some.number c.args.key ((c.in-Some.ensures c.in-Some.number).0 refl), c.self.invariant.as_many, length-map c.self.inside.groups.items (λ v. v.items))))
    ∙ sym (found-there g.K.PartialEq.eq g.met.K.Eq.laws g.met.K.Key.same c.self.inside.keys.keys (row (map (λ v. v.items) c.self.inside.groups.items)) c.args.key c.in-Some.number c.self.invariant.apart ((c.in-Some.ensures c.in-Some.number).0 refl)))

pub returns-in-None : goal.returns-in-None
returns-in-None g c = rw (← c.self.view_is) (sym (found-none g.K.PartialEq.eq g.met.K.Eq.laws g.met.K.Key.same c.self.inside.keys.keys (row (map (λ v. v.items) c.self.inside.groups.items)) c.args.key (λ k. let e = (c.in-None.ensures k.0).1 k.1 in cc)))
