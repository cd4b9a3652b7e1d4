use Rattle.std.proofs.Common.{◌≡◌, subst, arith}
use Rattle.batch_lines.specs.Queries.{IsFirstBad}
use Rattle.batch_lines.proofs.Spelled.{next_bad, none_of, one_read, some_of}
use Rattle.batch_lines.proofs.queries.read_queries.Goals as goal

pub returns-then-at-eq-MOST-clause-bad : goal.returns-then-at-eq-MOST-clause-bad
returns-then-at-eq-MOST-clause-bad c = λ at e.
    let same : c.len-at.result ≡ at = cc in
    subst (IsFirstBad c.args.text.now) same
    (next_bad c.args.text.now c.loop-left.left.now c.loop-left.queries.items c.loop-left.invariant c.first_line.result.0.now c.first_line.result.1.now c.first_line.ensures.first
    c.len-at.result (omega (arith, c.len-at.ensures, c.loop-left.queries.ok)) (λ less. absurd (omega (arith, less, c.if-at-eq-MOST.true))))

pub returns-in_default-clause-bad : goal.returns-in_default-clause-bad
returns-in_default-clause-bad c = λ at e.
    let same : c.len-at.result ≡ at = cc in
    subst (IsFirstBad c.args.text.now) same
    (next_bad c.args.text.now c.loop-left.left.now c.loop-left.queries.items c.loop-left.invariant c.first_line.result.0.now c.first_line.result.1.now c.first_line.ensures.first
    c.len-at.result (omega (arith, c.len-at.ensures, c.loop-left.queries.ok)) (λ less. none_of c.in_ok-query.field-0 c.in_default.not-Some c.in_ok-query.ensures.none))

pub loop-left-preserved : goal.loop-left-preserved
loop-left-preserved c =
    one_read c.args.text.now c.loop-left.left.now c.loop-left.queries.items c.loop-left.invariant c.first_line.result.0.now c.first_line.result.1.now c.first_line.ensures.first
    c.in-Some.query c.push.new.self.items c.in_ok-push.ensures.items (some_of _ c.in_ok-query.field-0 c.in-Some.query c.in-Some.is c.in_ok-query.ensures.some) (λ e. c.if-at-eq-MOST.false (omega (arith, e, c.len-at.ensures, c.loop-left.queries.ok.0)))
