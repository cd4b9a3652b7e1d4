use Rattle.std.proofs.Common.{◌≡◌, subst}
use Rattle.std.proofs.lemmas.Result.{on_ok_weaker}
use Rattle.link_rules.specs.Accessed.{At}
use Rattle.track_report.proofs.Told.{head_line}
use Rattle.track_report.proofs.report.push_head.Goals as goal

pub returns : goal.returns
returns c =
    let named = subst (λ n. At c.args.linked.now.classes n (λ l. c.class_name-class.result.now ≡ l.name)) c.class.ensures c.class_name-class.ensures in
    on_ok_weaker c.write.result (head_line c.args.linked.now c.args.protocol.now c.args.entry.now c.class_name-class.result.now _ _ c.requires named) c.write.ensures.bytes
