use Rattle.std.proofs.Common.{rules}
use Rattle.report_text.proofs.Pathed.{path_line}
use Rattle.report_text.proofs.paths.push_path_line.Goals as goal

pub returns : goal.returns
returns c =
    let line = path_line c.args.linked.now c.args.target c.args.fields.now _ _ _ _ _ c.in_ok-push_str.ensures.bytes c.in_ok-push_target.ensures c.in_ok-push_str-2.ensures.bytes
    c.in_ok-push_str-3.ensures.bytes in
    search (rules, line)
