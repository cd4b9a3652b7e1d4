use Rattle.std.proofs.Common.{refl}
use Rattle.link_rules.specs.Codes.{IsCatch}
use Rattle.link_codes.specs.Contexts.{context_of, scope_with}
use Rattle.lists.proofs.SideBySide.{Each-all, Each-more}
use Rattle.link_codes.proofs.method.catches.Goals as goal

pub loop-trap-preserved : goal.loop-trap-preserved
loop-trap-preserved c = λ k.
    Each-more (IsCatch (scope_with (context_of c.args.scope.now) k)) c.args.traps.now c.loop-trap.catches.items c.push.new.self.items c.loop-trap.trap-index
    (record { class = record { 0 = 0 }; from = record { 0 = 0 }; to = record { 0 = 0 }; with = record { 0 = 0 } }) c.catch.result
    c.loop-trap-test.true c.in_ok-push.ensures.items (c.loop-trap.invariant k) (c.catch.ensures k)

pub returns : goal.returns
returns c = λ k.
    Each-all (IsCatch (scope_with (context_of c.args.scope.now) k)) c.args.traps.now c.loop-trap.catches.items c.loop-trap.catches.items c.loop-trap.trap-index c.loop-trap-test.false refl
    (c.loop-trap.invariant k)
