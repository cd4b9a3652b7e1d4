use Rattle.std.proofs.Common.{◌+◌, sym, subst, arith}
use Rattle.std.proofs.lemmas.List.{length-map}
use Rattle.std.proofs.lemmas.Option.{slice_get-get_or}
use Rattle.jim_ast.specs.declared.syntax.Label.{Label}
use Rattle.link_bodies.specs.Places.{AreNamed, label_names}
use Rattle.link_bodies.proofs.Again.{named}
use Rattle.link_bodies.proofs.Sorted.{all_named, named_more}
use Rattle.link_bodies.proofs.places.FirstPlaces.of_labels.Goals as goal

pub loop-place-preserved : goal.loop-place-preserved
loop-place-preserved c =
    let labels = c.args.labels.now in
    let at = c.loop-place.place in
    let added = c.in_ok-add.ensures in
    subst (AreNamed (label_names labels) (at + 1)) (sym added.1)
    (named_more (label_names labels) at _ c.loop-place.places.items c.loop-place.invariant (named labels at _ (slice_get-get_or labels at _ c.loop-place-test.true)) added.0)

pub returns : goal.returns
returns c =
    let labels = c.args.labels.now in
    c.sorted.ensures (label_names labels) (all_named (label_names labels) c.loop-place.place c.loop-place.places.items
    (let many = length-map labels (λ (l : Label). l.name) in let all = c.loop-place-test.false in omega (arith, many, all)) c.loop-place.invariant)
