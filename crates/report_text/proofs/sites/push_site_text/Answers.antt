use Rattle.report_text.proofs.Made.{makes_level, makes_new}
use Rattle.report_text.proofs.sites.push_site_text.Goals as goal

pub push_new-requires : goal.push_new-requires
push_new-requires c = makes_new c.args.linked.now c.in-New.place c.tell_form.ensures (rw c.in-New.is at c.requires)

pub push_new-requires-in-Nested : goal.push_new-requires-in-Nested
push_new-requires-in-Nested c = makes_level c.args.linked.now c.in-Nested.place c.in-Nested.level (rw c.in-Nested.is at c.requires)
