use Rattle.std.proofs.Common.{refl}
use Rattle.jim_build.proofs.Begins.{body_no_decl, traps_no_line}
use Rattle.jim_build.proofs.bodies.body.Goals as goal

pub returns-clause-body : goal.returns-clause-body
returns-clause-body c = λ x r h.
    let inside = c.skip.ensures.rest _ _ h in
    let no_decl = body_no_decl x.1.1.0 x.1.1.1.0 x.1.1.1.1.0 r in
    let no_line = traps_no_line x.1.1.1.0 x.1.1.1.1.0 r in
    let lines_next = c.in_ok-locals.ensures.rest x.1.0 _ inside no_decl in
    let traps_next = c.in_ok-stmts.ensures.rest x.1.1.0 _ lines_next no_line in
    rw (
      c.in_ok-locals.ensures.locals x.1.0 _ inside no_decl,
      c.in_ok-stmts.ensures.stmts x.1.1.0 _ lines_next no_line,
      c.in_ok-stmts.ensures.labels x.1.1.0 _ lines_next no_line,
      c.in_ok-traps.ensures.traps x.1.1.1.0 _ traps_next (λ e. cc),
    ) refl

pub returns-clause-rest : goal.returns-clause-rest
returns-clause-rest c = λ x r h.
    let inside = c.skip.ensures.rest _ _ h in
    let no_decl = body_no_decl x.1.1.0 x.1.1.1.0 x.1.1.1.1.0 r in
    let no_line = traps_no_line x.1.1.1.0 x.1.1.1.1.0 r in
    let lines_next = c.in_ok-locals.ensures.rest x.1.0 _ inside no_decl in
    let traps_next = c.in_ok-stmts.ensures.rest x.1.1.0 _ lines_next no_line in
    c.skip-2.ensures.rest _ _ (c.in_ok-traps.ensures.rest x.1.1.1.0 _ traps_next (λ e. cc))
