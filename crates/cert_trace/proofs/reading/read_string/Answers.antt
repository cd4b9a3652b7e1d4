use Rattle.std.proofs.Common.{◌↔◌, ℕ, List, subst, sym}
use Rattle.lists.specs.Lists.{Has}
use Rattle.way_find.specs.declared.ways.Step.{Step}
use Rattle.cert_trace.specs.declared.reading.Reading.{Reading}
use Rattle.cert_trace.specs.Readings.{Begins}
use Rattle.cert_trace.proofs.Read.{read_of_way, way_of_read}
use Rattle.cert_trace.proofs.reading.read_string.Goals as goal

pub returns-in-Some-clause-some : goal.returns-in-Some-clause-some
returns-in-Some-clause-some c = λ p is.
    let w = c.args.work.now.written in
    let o = c.args.spot.site in
    let n = c.args.spot.node in
    let are = subst (λ (xs : List (Step Reading)). (label : ℕ) (to : Reading) → Has xs (record { label = label; to = to }) ↔ Begins w o n label to) (sym c.as_slice.ensures.value)
    c.in_ok-starts.ensures in
    read_of_way p w o n c.args.string.now c.as_slice.result.now are is c.in-Some.numbers.items (rw c.in-Some.is at c.in_ok-numbers.ensures.some)

pub returns-clause-none : goal.returns-clause-none
returns-clause-none c = λ p read.
    let w = c.args.work.now.written in
    let o = c.args.spot.site in
    let n = c.args.spot.node in
    let are = subst (λ (xs : List (Step Reading)). (label : ℕ) (to : Reading) → Has xs (record { label = label; to = to }) ↔ Begins w o n label to) (sym c.as_slice.ensures.value)
    c.in_ok-starts.ensures in
    let r = way_of_read p w o n c.args.string.now c.as_slice.result.now are read.0 read.1 in
    (rw c.in-None.is at c.in_ok-numbers.ensures.none) r.0 r.1
