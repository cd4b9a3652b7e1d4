use Rattle.std.proofs.Common.{◌≡◌, Some, slice_get, refl, arith}
use Rattle.lists.proofs.Places.{slice_get-read}
use Rattle.cert_lines.specs.Spread.{known_of}
use Rattle.cert_lines.proofs.Notes.{best_there, none_gives, shortest}
use Rattle.cert_lines.proofs.written.Written.find.Goals as goal

pub returns-in_err-number-clause-none : goal.returns-in_err-number-clause-none
returns-in_err-number-clause-none c =
    let w = c.self.inside in
    rw (c.from_residual.ensures, ← c.self.view_is) (λ i h. none_gives w.lines.items w.facts.keys w.notes.items c.self.invariant.known c.args.fact (λ k. let e = (c.in_err-number.ensures k.0).1 (rw (← c.of.ensures) at k.1) in cc) i h)

pub index-requires : goal.index-requires
index-requires c =
    let w = c.self.inside in
    let named : slice_get w.facts.keys c.in_ok-number.number ≡ Some (known_of c.args.fact) = rw c.of.ensures at ((c.in_ok-number.ensures c.in_ok-number.number).0 refl) in
    omega (arith, best_there w.lines.items w.facts.keys w.notes.items w.best.items c.self.invariant c.in_ok-number.number (known_of c.args.fact) named, w.best.ok.0)

pub returns-clause-some : goal.returns-clause-some
returns-clause-some c =
    let w = c.self.inside in
    let number = c.in_ok-number.number in
    let named : slice_get w.facts.keys number ≡ Some (known_of c.args.fact) = rw c.of.ensures at ((c.in_ok-number.ensures number).0 refl) in
    let low = best_there w.lines.items w.facts.keys w.notes.items w.best.items c.self.invariant number (known_of c.args.fact) named in
    rw (← c.self.view_is) (shortest w.lines.items w.facts.keys w.notes.items w.best.items c.self.invariant c.args.fact number c.index.result.now named
    (slice_get-read w.best.items number c.index.result.now low c.index.ensures))
