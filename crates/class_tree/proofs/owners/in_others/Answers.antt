use Rattle.std.proofs.Common.{◌↔◌, Contains, subst}
use Rattle.std.proofs.lemmas.List.{take_all}
use Rattle.class_tree.specs.declared.first_rows.Member.{Member}
use Rattle.class_tree.specs.Holders.{few_of}
use Rattle.class_tree.proofs.Held.{one_more, one_skipped}
use Rattle.class_tree.proofs.Owned.{few_with, few_without}
use Rattle.class_tree.proofs.owners.in_others.Goals as goal
use Rattle.class_tree.proofs.owners.in_others.Goals.{then-not-contains+in_ok-push, else-not-contains}

pub loop-member-preserved : goal.loop-member-preserved
loop-member-preserved c = elim c.if-not-contains.branch [
  | then-not-contains+in_ok-push w ↦ rw (w.found-is, w.in_ok-push.ensures.items) (one_more (λ (m : Member). Contains (few_of c.args.interfaces.now m.key) m.class → ⊥) c.args.members.now c.loop-member.found.items c.loop-member.member-index _
      c.loop-member-test.true c.loop-member.invariant (few_without c.args.interfaces.now _ _ c.few.result.now c.contains.result c.few.ensures c.contains.ensures.cases w.if-not-contains.true))
  | else-not-contains w ↦ rw w.found-is (one_skipped (λ (m : Member). Contains (few_of c.args.interfaces.now m.key) m.class → ⊥) c.args.members.now c.loop-member.found.items c.loop-member.member-index _
      c.loop-member-test.true c.loop-member.invariant (λ none. none (few_with c.args.interfaces.now _ _ c.few.result.now c.contains.result c.few.ensures c.contains.ensures.cases w.if-not-contains.false)))
]

pub returns : goal.returns
returns c = λ m. subst (λ xs. Contains c.loop-member.found.items m ↔ Contains xs m × (Contains (few_of c.args.interfaces.now m.key) m.class → ⊥))
    (take_all c.loop-member.member-index c.args.members.now c.loop-member-test.false) (c.loop-member.invariant m)
