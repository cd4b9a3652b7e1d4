use Rattle.std.proofs.Common.{arith}
use Rattle.default_turns.proofs.Staying.{adds_none, adds_stay}
use Rattle.default_turns.proofs.stays.add_stay.Goals as goal

pub returns-in_ok-push-2 : goal.returns-in_ok-push-2
returns-in_ok-push-2 c = rw (c.in_ok-push-2.ensures.items, c.in_ok-push.ensures.items) (adds_stay c.args.stays.now.items c.args.row c.args.start c.args.end c.if-start-end.true)

pub returns-else-start-end : goal.returns-else-start-end
returns-else-start-end c = adds_none c.args.row _ c.args.stays.now.items (λ place p. omega (arith, p.0, p.1, c.if-start-end.false))
