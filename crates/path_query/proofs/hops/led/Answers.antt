use Rattle.std.proofs.Common.{ap, length, arith}
use Rattle.lists.proofs.Places.{slice_get-there}
use Rattle.path_query.specs.Numbers.{IsLedTo}
use Rattle.path_query.proofs.Numbering.{numbers_all, numbers_more, numbers_none, numbers_same}
use Rattle.path_query.proofs.hops.led.Goals as goal
use Rattle.path_query.proofs.hops.led.Goals.{then-branch+in_ok-push, else-branch}

pub loop-site-init : goal.loop-site-init
loop-site-init c = λ q posed named.
    rw c.new-numbers.ensures.items (numbers_none c.args.posed.now.demand.now.sites (IsLedTo c.args.posed.now.linked.now q c.args.posed.now.demand.now c.args.ways.now))

pub loop-site-preserved : goal.loop-site-preserved
loop-site-preserved c = λ q posed named.
    let p = c.args.posed.now.linked.now in
    let d = c.args.posed.now.demand.now in
    let size = c.sites.ensures in
    let x = slice_get-there d.sites c.loop-site.site (let less = c.loop-site-test.true in omega (arith, ap length size, less)) in
    let tells = c.in_ok-is_led.ensures p q d x.0 posed.solved x.1 named in
    let old = c.loop-site.invariant q posed named in
    elim c.if-branch.branch [
      | then-branch+in_ok-push w ↦ rw w.numbers-is
          (rw w.in_ok-push.ensures.items (numbers_more d.sites (IsLedTo p q d c.args.ways.now) c.loop-site.site x.0 x.1 c.loop-site.numbers.items old (tells.0 w.if-branch.true)))
      | else-branch w ↦ rw w.numbers-is
          (numbers_same d.sites (IsLedTo p q d c.args.ways.now) c.loop-site.site x.0 x.1 c.loop-site.numbers.items old (λ led. cc (tells.1 led, w.if-branch.false)))
    ]

pub returns : goal.returns
returns c = λ q posed named.
    let p = c.args.posed.now.linked.now in
    let d = c.args.posed.now.demand.now in
    let size = c.sites.ensures in
    let past = c.loop-site-test.false in
    numbers_all d.sites (IsLedTo p q d c.args.ways.now) c.loop-site.site c.loop-site.numbers.items (omega (arith, ap length size, past)) (c.loop-site.invariant q posed named)
