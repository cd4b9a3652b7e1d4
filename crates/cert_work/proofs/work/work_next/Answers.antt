use Rattle.std.proofs.Common.{◌+◌, ◌∙◌, ap, Some, refl, arith}
use Rattle.cert_rules.specs.declared.fact.Fact.{Fact}
use Rattle.cert_work.specs.Added.{AreAdded}
use Rattle.cert_work.proofs.Turns.{turn_shared}
use Rattle.cert_work.proofs.Working.{cites_next}
use Rattle.cert_work.proofs.work.work_next.Goals as goal

pub returns-in-Shared-clause-added : goal.returns-in-Shared-clause-added
returns-in-Shared-clause-added c = AreAdded.none

pub returns-in-Shared-clause-work : goal.returns-in-Shared-clause-work
returns-in-Shared-clause-work c =
    turn_shared c.args.view.now.linked.now c.args.view.now.target c.args.view.now.wants.now c.args.work.now c.requires.work c.args.work.now.written AreAdded.none (c.args.work.now.done + 1) refl (omega arith) _ _ _ _
    (cites_next c.args.work.now.written.given c.args.work.now.done _ (c.fact.ensures ∙ ap (λ (f : Fact). Some (Some f)) c.in-Shared.is))
