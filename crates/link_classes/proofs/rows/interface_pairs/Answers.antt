use Rattle.std.proofs.Common.{take, sym, subst}
use Rattle.link_rules.specs.Classes.{interfaces_in, named_interfaces}
use Rattle.lists.specs.Lists.{Each}
use Rattle.link_rules.specs.World.{IsInterfacePair}
use Rattle.link_classes.specs.Seen.{seen_classes}
use Rattle.link_classes.proofs.Growing.{members_more}
use Rattle.link_classes.proofs.rows.interface_pairs.Goals as goal

pub loop-number-preserved : goal.loop-number-preserved
loop-number-preserved c =
    let all = seen_classes c.args.order.now.classes.items in
    subst (λ ns. Each (IsInterfacePair all) ns c.push_interfaces.new.pairs.items)
    (sym (members_more (λ k. interfaces_in k.0 k.1) c.as_slice-classes.result.now c.loop-number.number _ c.loop-number-test.true c.index-classes-number.is))
    (c.in_ok-push_interfaces.ensures (named_interfaces (seen_classes (take c.loop-number.number c.as_slice-classes.result.now))) c.loop-number.invariant)
