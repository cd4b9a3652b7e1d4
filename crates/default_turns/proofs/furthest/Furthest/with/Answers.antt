use Rattle.default_turns.proofs.Ended.{furthest_new, furthest_other, furthest_own}
use Rattle.default_turns.proofs.furthest.Furthest.with.Goals as goal

pub returns-then-stay-self : goal.returns-then-stay-self
returns-then-stay-self c = λ stays are. furthest_own stays c.args.self are c.args.stay _ c.max.ensures c.if-stay-self.true

pub returns-then-self-stay : goal.returns-then-self-stay
returns-then-self-stay c = λ stays are. furthest_new stays c.args.self are c.args.stay c.if-self-stay.true c.if-stay-self.false

pub returns-else-self-stay : goal.returns-else-self-stay
returns-else-self-stay c = λ stays are. furthest_other stays c.args.self are c.args.stay _ c.max-else-self-stay.ensures c.if-self-stay.false c.if-stay-self.false
