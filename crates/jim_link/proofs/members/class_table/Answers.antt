use Rattle.std.proofs.Common.{List, [], sym, subst, refl, arith}
use Rattle.lists.proofs.SideBySide.{Each-nil, Each-all}
use Rattle.link_program.specs.Classes.{classes_in, linked_class}
use Rattle.link_rules.specs.Linked.{IsLinkedClass, LinkedClass}
use Rattle.lists.specs.Lists.{Each}
use Rattle.jim_link.proofs.MemberFacts.{class_more}
use Rattle.jim_link.proofs.members.class_table.Goals as goal

pub loop-number-init : goal.loop-number-init
loop-number-init c = record {
  are = c.new-table.ensures.are;
  each = subst (λ (ls : List LinkedClass). Each IsLinkedClass [] ls) (sym c.new-table.ensures.none) (Each-nil IsLinkedClass);
}

pub loop-number-preserved : goal.loop-number-preserved
loop-number-preserved c =
    let classes = c.args.classes.now.world.classes in
    record {
      are = c.in_ok-push.ensures.are;
      each = class_more classes c.loop-number.number (linked_class c.in_ok-class_entry.field-0) (classes_in c.loop-number.table) (classes_in c.push.new.self)
          (omega (arith, c.loop-number-test.true, c.class_count-number-end.ensures)) c.in_ok-class_entry.ensures c.in_ok-push.ensures.put c.loop-number.invariant.each;
    }

pub returns-clause-each : goal.returns-clause-each
returns-clause-each c =
    Each-all IsLinkedClass c.args.classes.now.world.classes (classes_in c.loop-number.table) (classes_in c.loop-number.table) c.loop-number.number
    (omega (arith, c.loop-number-test.false, c.class_count-number-end.ensures)) refl c.loop-number.invariant.each
