use Rattle.std.proofs.Common.{◌≡◌, refl, rules, subst}
use Rattle.cert_rules.specs.declared.fact.Fact.TheVariants.{At}
use Rattle.cert_rules.specs.declared.line.Side.{Side}
use Rattle.cert_rules.specs.declared.line.Side.TheVariants.{Call}
use Rattle.cert_rules.specs.Given.{Cites}
use Rattle.cert_trace.specs.declared.reading.Reading.{Reading}
use Rattle.cert_trace.specs.Readings.{Begins}
use Rattle.cert_trace.proofs.Read.{begin_one, pushed_one}
use Rattle.cert_trace.proofs.reading.push_start.Goals as goal

pub returns-in_ok-push : goal.returns-in_ok-push
returns-in_ok-push c =
    let w = c.args.work.now.written in
    let o = c.args.spot.site in
    let n = c.args.spot.node in
    let word = c.word_at-word.result in
    let side : word.side ≡ Call = search rules in
    let to : Reading = record { level = 0; entry = word.entry } in
    let gives = subst (λ (s : Side). Cites w.given c.args.number (At s o word.entry n)) side c.word_at-word.ensures.gives in
    let is : Begins w o n c.args.number to = record { gives = gives; first = refl } in
    rw c.in_ok-push.ensures.items
    (pushed_one c.args.starts.now.items (record { label = c.args.number; to = to }) (Begins w o n) is (λ other begins. begin_one w o n c.args.number to is other begins))
