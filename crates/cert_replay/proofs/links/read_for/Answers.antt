use Rattle.std.proofs.Common.{◌∙◌, sym, true≢false}
use Rattle.cert_replay.proofs.From.{from_none, from_some, where_not, where_so}
use Rattle.cert_replay.proofs.Reading.{read_for_at, read_for_none, read_for_row}
use Rattle.cert_replay.proofs.links.read_for.Goals as goal

pub returns-in_err-first : goal.returns-in_err-first
returns-in_err-first c = λ o n. rw c.from_residual.ensures (read_for_none c.args.linked.now c.args.given.now c.args.numbers.now c.args.string.now c.in_err-first.ensures.cases (o, n))

pub returns-in_err-from : goal.returns-in_err-from
returns-in_err-from c =
    let p = c.args.linked.now in
    let given = c.args.given.now in
    let first = c.in_ok-first.first.now in
    let links = c.in_ok-first.links.now in
    λ o n. rw c.from_residual-in_err-from.ensures (read_for_at p given c.args.numbers.now first links c.args.string.now c.in_ok-first.ensures.cases.0 _
    (from_none _ _ _ (read_for_row p given first links c.args.string.now) c.in_err-from.ensures) (o, n))

pub returns-then-reads_on : goal.returns-then-reads_on
returns-then-reads_on c =
    let p = c.args.linked.now in
    let given = c.args.given.now in
    let first = c.in_ok-first.first.now in
    let links = c.in_ok-first.links.now in
    λ o n. read_for_at p given c.args.numbers.now first links c.args.string.now c.in_ok-first.ensures.cases.0 _
    (from_some _ _ _ (read_for_row p given first links c.args.string.now) c.in_ok-from.from c.in_ok-from.ensures _ (where_so _ _ (c.reads_on.ensures.0 c.if-reads_on.true))) (o, n)

pub returns-else-reads_on : goal.returns-else-reads_on
returns-else-reads_on c =
    let p = c.args.linked.now in
    let given = c.args.given.now in
    let first = c.in_ok-first.first.now in
    let links = c.in_ok-first.links.now in
    λ o n. read_for_at p given c.args.numbers.now first links c.args.string.now c.in_ok-first.ensures.cases.0 _
    (from_some _ _ _ (read_for_row p given first links c.args.string.now) c.in_ok-from.from c.in_ok-from.ensures _
    (where_not _ _ (λ r. true≢false (sym (c.reads_on.ensures.1 r) ∙ c.if-reads_on.false)))) (o, n)
