use Rattle.link_rules.specs.Bodies.{IsLabel}
use Rattle.link_codes.specs.Contexts.{context_of}
use Rattle.lists.proofs.SideBySide.{Each-more}
use Rattle.link_codes.proofs.stmts.jumps.Goals as goal

pub loop-label-preserved : goal.loop-label-preserved
loop-label-preserved c =
    Each-more (IsLabel (context_of c.args.scope.now).body.labels) c.args.labels.now c.loop-label.jumps.items c.push.new.self.items c.loop-label.label-index (record { 0 = 0 }) c.jump.result
    c.loop-label-test.true c.in_ok-push.ensures.items c.loop-label.invariant c.jump.ensures
