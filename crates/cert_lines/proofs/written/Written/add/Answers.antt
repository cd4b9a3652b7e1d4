use Rattle.std.proofs.Common.{◌≡◌, ◌<◌, Some, slice_get, refl, sym, subst, ◌∙◌, inl, inr, arith}
use Rattle.lists.specs.Lists.{Has}
use Rattle.lists.proofs.Places.{slice_get-read}
use Rattle.cert_lines.specs.Noted.{GivesAt, noted_by, noted_fact}
use Rattle.cert_lines.specs.Spread.{known_of}
use Rattle.cert_lines.proofs.Notes.{best_there, last_gives, last_there, none_there, not_there, noted_new, noted_same, note_length, pushed_new, pushed_same, shortest}
use Rattle.cert_lines.proofs.written.Written.add.Goals as goal
use Rattle.std.proofs.lemmas.List.{length-map}

pub index-last-requires : goal.index-last-requires
index-last-requires c =
    let w = c.self.inside in
    omega (arith, best_there w.lines.items w.facts.keys w.notes.items w.best.items c.self.invariant c.in-Some.number (known_of c.args.known.fact) (rw c.requires at ((c.in-Some.ensures c.in-Some.number).0 refl)), w.best.ok.0)

pub index-requires : goal.index-requires
index-requires c =
    let w = c.self.inside in
    let named : slice_get w.facts.keys c.in-Some.number ≡ Some (known_of c.args.known.fact) = rw c.requires at ((c.in-Some.ensures c.in-Some.number).0 refl) in
    let low = best_there w.lines.items w.facts.keys w.notes.items w.best.items c.self.invariant c.in-Some.number (known_of c.args.known.fact) named in
    let best = slice_get-read w.best.items c.in-Some.number c.index-last.result.now low c.index-last.ensures in
    omega (arith, last_there w.lines.items w.facts.keys w.notes.items w.best.items c.self.invariant c.in-Some.number c.index-last.result.now best, w.notes.ok.0)

pub returns-then-index-length-clause-number : goal.returns-then-index-length-clause-number
returns-then-index-length-clause-number c =
    let w = c.self.inside in
    let named : slice_get w.facts.keys c.in-Some.number ≡ Some (known_of c.args.known.fact) = rw c.requires at ((c.in-Some.ensures c.in-Some.number).0 refl) in
    let low = best_there w.lines.items w.facts.keys w.notes.items w.best.items c.self.invariant c.in-Some.number (known_of c.args.known.fact) named in
    let best = slice_get-read w.best.items c.in-Some.number c.index-last.result.now low c.index-last.ensures in
    rw (← c.self.view_is) (shortest w.lines.items w.facts.keys w.notes.items w.best.items c.self.invariant c.args.known.fact c.in-Some.number c.index-last.result.now named best).gives

pub returns-then-index-length-clause-ok : goal.returns-then-index-length-clause-ok
returns-then-index-length-clause-ok c =
    let w = c.self.inside in
    let named : slice_get w.facts.keys c.in-Some.number ≡ Some (known_of c.args.known.fact) = rw c.requires at ((c.in-Some.ensures c.in-Some.number).0 refl) in
    let low = best_there w.lines.items w.facts.keys w.notes.items w.best.items c.self.invariant c.in-Some.number (known_of c.args.known.fact) named in
    let last = c.index-last.result.now in
    let best = slice_get-read w.best.items c.in-Some.number last low c.index-last.ensures in
    let note = c.index.result.now in
    let there = slice_get-read w.notes.items last note (last_there w.lines.items w.facts.keys w.notes.items w.best.items c.self.invariant c.in-Some.number last best) c.index.ensures in
    rw (← c.self.view_is) (inl (
      refl,
      record {
        at = last;
        gives = (shortest w.lines.items w.facts.keys w.notes.items w.best.items c.self.invariant c.args.known.fact c.in-Some.number last named best).gives;
        short = omega (arith, note_length w.lines.items w.facts.keys w.notes.items last note there, c.if-index-length.true);
      },
    ))

pub index_mut-requires : goal.index_mut-requires
index_mut-requires c =
    let w = c.self.inside in
    omega (arith, best_there w.lines.items w.facts.keys w.notes.items w.best.items c.self.invariant c.in-Some.number (known_of c.args.known.fact) (rw c.requires at ((c.in-Some.ensures c.in-Some.number).0 refl)), w.best.ok.0)

pub invariant_of-self-in-Some : goal.invariant_of-self-in-Some
invariant_of-self-in-Some c =
    let w = c.self.inside in
    let number = c.in-Some.number in
    let named : slice_get w.facts.keys number ≡ Some (known_of c.args.known.fact) = rw c.requires at ((c.in-Some.ensures number).0 refl) in
    let low = best_there w.lines.items w.facts.keys w.notes.items w.best.items c.self.invariant number (known_of c.args.known.fact) named in
    let last = c.index-last.result.now in
    let best = slice_get-read w.best.items number last low c.index-last.ensures in
    let note = c.index.result.now in
    let there = slice_get-read w.notes.items last note (last_there w.lines.items w.facts.keys w.notes.items w.best.items c.self.invariant number last best) c.index.ensures in
    rw (c.in_ok-at.ensures.lines, c.in_ok-at.ensures.notes, c.in_ok-at.ensures.number)
    (pushed_same w.lines.items w.facts.keys w.notes.items w.best.items c.self.invariant c.args.line c.args.known.fact number last c.args.length note named best there
    (omega (arith, c.if-index-length.false)) c.in_ok-at.ensures.few)

pub returns-in-Some-clause-number : goal.returns-in-Some-clause-number
returns-in-Some-clause-number c =
    let w = c.self.inside in
    let number = c.in-Some.number in
    let named : slice_get w.facts.keys number ≡ Some (known_of c.args.known.fact) = rw c.requires at ((c.in-Some.ensures number).0 refl) in
    let low = best_there w.lines.items w.facts.keys w.notes.items w.best.items c.self.invariant number (known_of c.args.known.fact) named in
    let last = c.index-last.result.now in
    let best = slice_get-read w.best.items number last low c.index-last.ensures in
    let note = c.index.result.now in
    let there = slice_get-read w.notes.items last note (last_there w.lines.items w.facts.keys w.notes.items w.best.items c.self.invariant number last best) c.index.ensures in
    let whole = noted_by w.lines.items w.facts.keys w.notes.items in
    rw c.in_ok-at.ensures.notes
    (subst (λ n. GivesAt n c.in_ok-at.at c.args.known.fact) (sym (noted_same w.lines.items w.facts.keys w.notes.items w.best.items c.self.invariant c.args.line c.args.known.fact number last c.args.length note named best there
    (omega (arith, c.if-index-length.false)) c.in_ok-at.ensures.few))
    (last_gives whole c.args.line c.args.known.fact c.args.length c.in_ok-at.at (c.in_ok-at.ensures.number ∙ sym c.self.invariant.as_many ∙ sym (length-map w.notes.items (noted_fact w.facts.keys)))))

pub returns-in-Some-clause-ok : goal.returns-in-Some-clause-ok
returns-in-Some-clause-ok c =
    let w = c.self.inside in
    let number = c.in-Some.number in
    let named : slice_get w.facts.keys number ≡ Some (known_of c.args.known.fact) = rw c.requires at ((c.in-Some.ensures number).0 refl) in
    let low = best_there w.lines.items w.facts.keys w.notes.items w.best.items c.self.invariant number (known_of c.args.known.fact) named in
    let last = c.index-last.result.now in
    let best = slice_get-read w.best.items number last low c.index-last.ensures in
    let note = c.index.result.now in
    let there = slice_get-read w.notes.items last note (last_there w.lines.items w.facts.keys w.notes.items w.best.items c.self.invariant number last best) c.index.ensures in
    let shorter : c.args.length < note.length = omega (arith, c.if-index-length.false) in
    rw (c.in_ok-at.ensures.lines, c.in_ok-at.ensures.notes, ← c.self.view_is)
    (inr (
      noted_same w.lines.items w.facts.keys w.notes.items w.best.items c.self.invariant c.args.line c.args.known.fact number last c.args.length note named best there shorter c.in_ok-at.ensures.few,
      not_there w.lines.items w.facts.keys w.notes.items w.best.items c.self.invariant c.args.line c.args.known.fact number last c.args.length note named best there shorter c.in_ok-at.ensures.few,
    ))

pub invariant_of-self-2 : goal.invariant_of-self-2
invariant_of-self-2 c =
    let w = c.self.inside in
    let none : Has w.facts.keys (known_of c.args.known.fact) → ⊥ = λ k. let e = (c.in_default.ensures k.0).1 (rw (← c.requires) at k.1) in cc in
    rw (c.in_ok-at-2.ensures.lines, c.in_ok-at-2.ensures.notes, c.in_ok-at-2.ensures.best, c.put.ensures.keys, c.requires, c.len.ensures.value, c.in_ok-room.ensures.keys)
    (pushed_new w.lines.items w.facts.keys w.notes.items w.best.items c.self.invariant c.args.line c.args.known.fact c.args.length none c.in_ok-at-2.ensures.few)

pub returns-clause-number : goal.returns-clause-number
returns-clause-number c =
    let w = c.self.inside in
    let none : Has w.facts.keys (known_of c.args.known.fact) → ⊥ = λ k. let e = (c.in_default.ensures k.0).1 (rw (← c.requires) at k.1) in cc in
    let whole = noted_by w.lines.items w.facts.keys w.notes.items in
    rw (c.in_ok-at-2.ensures.notes, c.put.ensures.keys, c.requires, c.len.ensures.value, c.in_ok-room.ensures.keys)
    (subst (λ n. GivesAt n c.in_ok-at-2.at c.args.known.fact) (sym (noted_new w.lines.items w.facts.keys w.notes.items w.best.items c.self.invariant c.args.line c.args.known.fact c.args.length none c.in_ok-at-2.ensures.few))
    (last_gives whole c.args.line c.args.known.fact c.args.length c.in_ok-at-2.at (c.in_ok-at-2.ensures.number ∙ sym c.self.invariant.as_many ∙ sym (length-map w.notes.items (noted_fact w.facts.keys)))))

pub returns-clause-ok : goal.returns-clause-ok
returns-clause-ok c =
    let w = c.self.inside in
    let none : Has w.facts.keys (known_of c.args.known.fact) → ⊥ = λ k. let e = (c.in_default.ensures k.0).1 (rw (← c.requires) at k.1) in cc in
    rw (c.in_ok-at-2.ensures.lines, c.in_ok-at-2.ensures.notes, c.put.ensures.keys, c.requires, c.len.ensures.value, c.in_ok-room.ensures.keys, ← c.self.view_is)
    (inr (
      noted_new w.lines.items w.facts.keys w.notes.items w.best.items c.self.invariant c.args.line c.args.known.fact c.args.length none c.in_ok-at-2.ensures.few,
      none_there w.lines.items w.facts.keys w.notes.items w.best.items c.self.invariant c.args.line c.args.known.fact c.args.length none c.in_ok-at-2.ensures.few,
    ))
