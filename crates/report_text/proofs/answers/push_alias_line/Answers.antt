use Rattle.std.proofs.Common.{rules}
use Rattle.report_text.proofs.Aliased.{alias_line}
use Rattle.report_text.proofs.answers.push_alias_line.Goals as goal

pub returns : goal.returns
returns c =
    let line = alias_line c.args.linked.now c.args.first c.args.second _ _ _ _ _ c.in_ok-push_str.ensures.bytes c.in_ok-push_target.ensures c.in_ok-push_str-2.ensures.bytes
    c.in_ok-push_local_name.ensures in
    search (rules, line)
