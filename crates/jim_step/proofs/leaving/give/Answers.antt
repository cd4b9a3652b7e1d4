use Rattle.std.proofs.Common.{◌-◌, ◌++◌, ◌∷◌, [], ◌∙◌, ap, arith, inr, sym, List, vec_len}
use Rattle.jim_step.proofs.Founds.{some_length}
use Rattle.jim_step.proofs.Moving.{same_state}
use Rattle.jim_step.proofs.Tops.{before_same, popped, some_top}
use Rattle.jim_step.specs.Frames.{frames_of}
use Rattle.step_rules.specs.States.{Frame, State, under}
use Rattle.jim_step.proofs.leaving.give.Goals as goal

pub receive-requires-clause-caller : goal.receive-requires-clause-caller
receive-requires-clause-caller c = λ below caller e.
    let top = popped c.args.kept.now.frames.items c.pop.new.self.items (vec_len c.args.kept.now.frames - 1) (omega arith) c.pop.ensures.rest in
    c.requires.caller below caller top.0 (top.1 ∙ ap (λ (l : List Frame). l ++ top.0 ∷ []) e)

pub returns-else-is_empty : goal.returns-else-is_empty
returns-else-is_empty c = λ at stands.
    let top = popped c.args.kept.now.frames.items c.pop.new.self.items (vec_len c.args.kept.now.frames - 1) (omega arith) c.pop.ensures.rest in
    let below = before_same at.below (frames_of c.pop.new.self.items) at.top top.0 (sym (ap (λ (s : State). s.frames) stands) ∙ top.1) in
    let some = some_length (vec_len c.pop.new.self) (sym c.is_empty.ensures ∙ c.if-is_empty.false) in
    let caller = some_top c.pop.new.self.items (omega (arith, some)) in
    inr (
      caller.0,
      caller.1,
      below ∙ caller.2,
      c.receive.ensures (under caller.0 caller.1 at)
          (same_state _ _ _ _ _ _ _ _ caller.2 (ap (λ (s : State). s.heap) stands) (ap (λ (s : State). s.statics) stands) (ap (λ (s : State). s.ending) stands)),
    )
