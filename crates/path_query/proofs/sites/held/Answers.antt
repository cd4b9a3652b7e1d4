use Rattle.std.proofs.Common.{ap, length, arith}
use Rattle.lists.proofs.Places.{slice_get-there}
use Rattle.spds_rules.specs.Answers.{IsAnswered}
use Rattle.path_query.proofs.Numbering.{numbers_all, numbers_more, numbers_none, numbers_same}
use Rattle.path_query.proofs.sites.held.Goals as goal
use Rattle.path_query.proofs.sites.held.Goals.{then-holds+in_ok-push, else-holds}

pub loop-site-init : goal.loop-site-init
loop-site-init c = λ p q n posed there. rw c.new-numbers.ensures.items (numbers_none c.args.demand.now.sites (IsAnswered p q n))

pub loop-site-preserved : goal.loop-site-preserved
loop-site-preserved c = λ p q n posed there.
    let all = c.args.demand.now.sites in
    let size = c.sites.ensures in
    let x = slice_get-there all c.loop-site.site (let less = c.loop-site-test.true in omega (arith, ap length size, less)) in
    let tells = c.holds.ensures p q c.args.demand.now x.0 n posed.solved x.1 there in
    let old = c.loop-site.invariant p q n posed there in
    elim c.if-holds.branch [
      | then-holds+in_ok-push w ↦ rw w.numbers-is
          (rw w.in_ok-push.ensures.items (numbers_more all (IsAnswered p q n) c.loop-site.site x.0 x.1 c.loop-site.numbers.items old (tells.0 w.if-holds.true)))
      | else-holds w ↦ rw w.numbers-is (numbers_same all (IsAnswered p q n) c.loop-site.site x.0 x.1 c.loop-site.numbers.items old (λ held. cc (tells.1 held, w.if-holds.false)))
    ]

pub returns : goal.returns
returns c = λ p q n posed there.
    let size = c.sites.ensures in
    let past = c.loop-site-test.false in
    numbers_all c.args.demand.now.sites (IsAnswered p q n) c.loop-site.site c.loop-site.numbers.items (omega (arith, ap length size, past))
    (c.loop-site.invariant p q n posed there)
