use Rattle.std.proofs.Common.{take, sym, subst}
use Rattle.lists.specs.Lists.{Each}
use Rattle.link_rules.specs.World.{IsClassRow}
use Rattle.link_classes.specs.Seen.{seen_class, seen_classes}
use Rattle.link_classes.proofs.Growing.{seen_more}
use Rattle.lists.proofs.SideBySide.{Each-push}
use Rattle.link_classes.proofs.rows.class_rows.Goals as goal

pub loop-class-preserved : goal.loop-class-preserved
loop-class-preserved c =
    let all = seen_classes c.args.order.now.classes.items in
    subst (λ cs. Each (IsClassRow all) cs c.push.new.self.items) (sym (seen_more c.as_slice-classes.result.now c.loop-class.class-index c.class-item.result c.loop-class-test.true c.class-item.is))
    (rw c.in_ok-push.ensures.items
    (Each-push (IsClassRow all) (seen_classes (take c.loop-class.class-index c.as_slice-classes.result.now)) c.loop-class.rows.items (seen_class c.class-item.result) c.class_row.result
    c.loop-class.invariant c.class_row.ensures))
