use Rattle.std.proofs.Common.{◌∙◌, sym}
use Rattle.cert_work.proofs.Giving.{link_field_gives, link_field_long, there_told}
use Rattle.cert_work.proofs.putting.link.Goals as goal

pub add-requires-clause-gives : goal.add-requires-clause-gives
add-requires-clause-gives c = link_field_gives c.args.view.now c.args.written.now c.args.held.now c.requires.held c.args.meeting.now c.requires.meeting c.args.start c.requires.start c.requires.side

pub add-requires-clause-long : goal.add-requires-clause-long
add-requires-clause-long c = c.one_more.ensures ∙ sym (link_field_long c.args.view.now c.args.written.now c.args.held.now c.requires.held c.args.meeting.now c.requires.meeting c.args.start c.requires.start)

pub returns-clause-there : goal.returns-clause-there
returns-clause-there c = there_told c.add.new.written _ _ c.one_more.result c.one_more.ensures c.in_ok-add.ensures.there
