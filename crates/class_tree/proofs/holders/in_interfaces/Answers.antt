use Rattle.std.proofs.Common.{◌↔◌, ◌<◌, Contains, length, subst}
use Rattle.std.proofs.lemmas.List.{take_all}
use Rattle.std.proofs.lemmas.List.Elements.{All-get_or}
use Rattle.class_tree.specs.declared.first_rows.Member.{Member}
use Rattle.class_tree.specs.Holders.{IsInterface}
use Rattle.class_tree.proofs.Held.{interface_at, no_interface_at, one_more, one_skipped}
use Rattle.class_tree.proofs.holders.in_interfaces.Goals as goal
use Rattle.class_tree.proofs.holders.in_interfaces.Goals.{then-classes-member+in_ok-push, else-classes-member}

pub loop-member-preserved : goal.loop-member-preserved
loop-member-preserved c =
    let known = All-get_or (λ (m : Member). m.class < length c.args.classes.now) c.args.members.now c.loop-member.member-index _ c.loop-member-test.true c.requires in
    elim c.if-classes-member.branch [
      | then-classes-member+in_ok-push w ↦ rw (w.found-is, w.in_ok-push.ensures.items) (one_more (λ (m : Member). IsInterface c.args.classes.now m.class) c.args.members.now c.loop-member.found.items c.loop-member.member-index _
          c.loop-member-test.true c.loop-member.invariant (interface_at c.args.classes.now _ _ known w.if-classes-member.true))
      | else-classes-member w ↦ rw w.found-is (one_skipped (λ (m : Member). IsInterface c.args.classes.now m.class) c.args.members.now c.loop-member.found.items c.loop-member.member-index _
          c.loop-member-test.true c.loop-member.invariant (no_interface_at c.args.classes.now _ _ w.if-classes-member.false))
    ]

pub returns : goal.returns
returns c = λ m. subst (λ xs. Contains c.loop-member.found.items m ↔ Contains xs m × IsInterface c.args.classes.now m.class)
    (take_all c.loop-member.member-index c.args.members.now c.loop-member-test.false) (c.loop-member.invariant m)
