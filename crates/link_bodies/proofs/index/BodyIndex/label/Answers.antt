use Rattle.std.proofs.Common.{subst}
use Rattle.std.proofs.lemmas.Option.{slice_get-get_or}
use Rattle.link_bodies.specs.Places.{IsFirstPlace, label_names}
use Rattle.link_bodies.proofs.Again.{is_label, label_below, no_label}
use Rattle.link_bodies.proofs.index.BodyIndex.label.Goals as goal

pub returns : goal.returns
returns c =
    let labels = c.self.inside.body.now.labels in
    let first = subst (IsFirstPlace (label_names labels) c.args.name) c.in_ok-place.was (c.find.ensures (label_names labels) c.self.invariant.1) in
    let there = slice_get-get_or labels c.in_ok-place.place (record { name = record { 0 = 0 }; index = 0 }) (label_below labels c.args.name c.in_ok-place.place first) in
    rw (← c.self.view_is, c.as_slice.ensures) (is_label labels c.args.name c.in_ok-place.place _ first there)

pub bounds-as_slice-place : goal.bounds-as_slice-place
bounds-as_slice-place c =
    let labels = c.self.inside.body.now.labels in
    let first = subst (IsFirstPlace (label_names labels) c.args.name) c.in_ok-place.was (c.find.ensures (label_names labels) c.self.invariant.1) in
    rw c.as_slice.ensures (label_below labels c.args.name c.in_ok-place.place first)

pub returns-in_err-place : goal.returns-in_err-place
returns-in_err-place c =
    let labels = c.self.inside.body.now.labels in
    let none = subst (IsFirstPlace (label_names labels) c.args.name) c.in_err-place.was (c.find.ensures (label_names labels) c.self.invariant.1) in
    rw (← c.self.view_is, c.from_residual.ensures) (no_label labels c.args.name none)
