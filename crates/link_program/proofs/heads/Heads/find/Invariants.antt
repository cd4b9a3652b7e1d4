use Rattle.std.proofs.Common.{map}
use Rattle.link_program.specs.declared.method.MethodHead.{MethodHead}
use Rattle.link_program.proofs.Searched.{IsNotBefore}
use Rattle.link_program.proofs.heads.Heads.find.Given as goal

abbrev pub invariant-loop-at : goal.invariant-loop-at
invariant-loop-at l = IsNotBefore (map (λ (h : MethodHead). h.text) l.self.heads.items) l.text l.at
