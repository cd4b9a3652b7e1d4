use Rattle.std.proofs.Common.{◌≡◌, ◌∙◌, sym, subst, None, rules}
use Rattle.jim_grammar.specs.Refusals.{Least, Derives}
use Rattle.jim_parse.specs.Derives.{IsRefusedAt, Spells}
use Rattle.jim_parse.proofs.PlaceLemmas.{least_refuses}
use Rattle.jim_parse.proofs.ProgramLemmas.{spelled_by, spells_one}
use Rattle.jim_parse.proofs.reader.read.Goals as goal

pub returns-in-Some-clause-jimple : goal.returns-in-Some-clause-jimple
returns-in-Some-clause-jimple c = λ at is.
    let found = c.in-Ok.ensures.read in
    let signs = c.in-Ok.found.signs.items in
    let least : Least signs c.in-Some.at = subst (λ w. Least w c.in-Some.at) c.deref.ensures.value (rw c.in-Some.is at c.in_ok-at.ensures.refused) in
    let same : c.in-Some.at ≡ at = cc in
    (found.tokens, found.lexed, subst (λ n. IsRefusedAt c.args.bytes.now found.tokens n) same (least_refuses c.args.bytes.now found.tokens signs found.the_signs c.in-Some.at least))

pub returns-clause-only : goal.returns-clause-only
returns-clause-only c =
    let program = c.in_ok-build.field-0 in
    let signs = c.in-Ok.found.signs.items in
    let none : c.in_ok-at.field-0 ≡ None = search rules in
    let whole : Derives signs = subst Derives c.deref.ensures.value (c.in_ok-at.ensures.accepted.0 none) in
    let mine : Spells c.args.bytes.now program =
    spelled_by c.args.bytes.now c.in-Ok.found.names signs program c.in-Ok.ensures.read whole c.in_ok-build.ensures.names (λ x is. c.in_ok-build.ensures.classes x (is ∙ sym c.deref-2.ensures.value)) in
    λ other theirs. spells_one c.args.bytes.now other program theirs mine
