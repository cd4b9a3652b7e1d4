use Rattle.std.proofs.Common.{subst}
use Rattle.link_classes.specs.Classes.{ClassTable}
use Rattle.jim_link.specs.Members.{AreMembers}
use Rattle.jim_link.proofs.Whole.{are_parts}
use Rattle.jim_link.proofs.rows.accepted_parts.Goals as goal

pub returns : goal.returns
returns c =
    let members = subst (λ (t : ClassTable). AreMembers t.world c.in_ok-members.members) c.classes.ensures c.in_ok-members.ensures in
    are_parts c.args.targets.now.world c.args.reachable.initialized.items (record { code = c.in_ok-code.code; members = c.in_ok-members.members }) c.requires.accepted c.requires.initialized
    c.in_ok-code.ensures members
