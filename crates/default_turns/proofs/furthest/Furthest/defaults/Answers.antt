use Rattle.default_turns.proofs.Ended.{past_nothing, past_one, past_several}
use Rattle.default_turns.proofs.furthest.Furthest.defaults.Goals as goal

pub returns-then-place-self : goal.returns-then-place-self
returns-then-place-self c = λ stays are. past_several stays c.args.self are c.args.place c.if-place-self.true

pub returns-then-place-self-2 : goal.returns-then-place-self-2
returns-then-place-self-2 c = λ stays are. past_one stays c.args.self are c.args.place c.if-place-self.false c.if-place-self-2.true

pub returns-else-place-self-2 : goal.returns-else-place-self-2
returns-else-place-self-2 c = λ stays are. past_nothing stays c.args.self are c.args.place c.if-place-self.false c.if-place-self-2.false
