use Rattle.std.proofs.Common.{rules, append_assoc}
use Rattle.report_text.proofs.sites.push_array.Goals as goal

pub returns : goal.returns
returns c = search (rules, c.element_text.ensures, append_assoc)
