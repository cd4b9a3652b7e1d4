use Rattle.std.proofs.Common.{◌∙◌, Some, ap, refl, sym, arith}
use Rattle.std.proofs.lemmas.Option.{slice_get-get_or}
use Rattle.lists.proofs.Places.{slice_get-below}
use Rattle.auto_table.proofs.grid.Grid.find.Goals as goal

pub index-requires : goal.index-requires
index-requires g c = omega (arith, slice_get-below c.self.inside.keys.keys c.in-Some.number c.args.key ((c.in-Some.ensures c.in-Some.number).0 refl), c.self.invariant, c.self.inside.places.ok.0)

pub returns-in-Some-clause-found : goal.returns-in-Some-clause-found
returns-in-Some-clause-found g c =
    let at = (c.in-Some.ensures c.in-Some.number).0 refl in
    rw (← c.self.view_is) (c.in-Some.number, at, slice_get-get_or c.self.inside.places.items c.in-Some.number c.index.result.now (omega (arith, slice_get-below c.self.inside.keys.keys c.in-Some.number c.args.key at, c.self.invariant)) ∙ ap Some (sym c.index.ensures))

pub returns-in-Some-clause-missed : goal.returns-in-Some-clause-missed
returns-in-Some-clause-missed g c = λ h k. cc

pub returns-in-None-clause-missed : goal.returns-in-None-clause-missed
returns-in-None-clause-missed g c = rw (← c.self.view_is) (λ h k. let e = (c.in-None.ensures k.0).1 k.1 in cc)
