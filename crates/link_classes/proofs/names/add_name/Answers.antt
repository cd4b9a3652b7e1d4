use Rattle.lists.specs.Lists.{FirstSeen}
use Rattle.link_classes.proofs.Numbering.{Keeps-adds, numbers_more}
use Rattle.link_classes.proofs.names.add_name.Goals as goal

pub returns-clause-numbers : goal.returns-clause-numbers
returns-clause-numbers c = λ names before.
    rw c.in_ok-push.ensures.items (numbers_more c.args.texts.now c.add.new.self names c.args.ids.now.items c.args.text.now c.in_ok-id.id before c.in_ok-id.ensures.last c.in_ok-id.ensures.added)

pub returns-clause-kept : goal.returns-clause-kept
returns-clause-kept c = Keeps-adds c.args.texts.now c.add.new.self c.args.text.now c.in_ok-id.ensures.last

pub returns-clause-seen : goal.returns-clause-seen
returns-clause-seen c = λ seen before. FirstSeen.next before c.in_ok-id.ensures.last
