use Rattle.std.proofs.Common.{subst, sym, true≢false, ◌∙◌}
use Rattle.std.proofs.lemmas.List.{take_all}
use Rattle.class_tree.proofs.Owned.{IsSoleOf, sole_kept, sole_more, sole_two, sole_is}
use Rattle.class_tree.proofs.owners.KeyOwners.sole.Goals as goal
use Rattle.class_tree.proofs.owners.KeyOwners.sole.Goals.{then-holds-2+in_default-2, then-holds-2+in_default, else-holds-2}

pub holds-requires-in-loop-interface : goal.holds-requires-in-loop-interface
holds-requires-in-loop-interface c = rw c.get.ensures (c.requires.apart _)

pub returns-in-Some : goal.returns-in-Some
returns-in-Some c = sole_two c.args.self.now c.loop-interface.interface-index 0 c.args.place c.in-Some.first c.loop-interface-test.true c.loop-interface.sole c.in-Some.is c.loop-interface.invariant
    (rw c.get.ensures at (c.holds-in-loop-interface.ensures.0 c.if-holds-2.true)) c.if-first-interface.true

pub loop-interface-preserved : goal.loop-interface-preserved
loop-interface-preserved c = elim c.if-holds-2.branch [
  | then-holds-2+in_default-2 w ↦ rw w.sole-is (sole_more c.args.self.now.table.now c.args.self.now.few.now c.loop-interface.interface-index 0 c.args.place c.loop-interface-test.true c.loop-interface.sole c.loop-interface.invariant
      (rw c.get.ensures at (c.holds-in-loop-interface.ensures.0 w.if-holds-2.true)) (λ b e. let is = w.in-Some.is in let same = w.if-first-interface.false in cc))
  | then-holds-2+in_default w ↦ rw w.sole-is (sole_more c.args.self.now.table.now c.args.self.now.few.now c.loop-interface.interface-index 0 c.args.place c.loop-interface-test.true c.loop-interface.sole c.loop-interface.invariant
      (rw c.get.ensures at (c.holds-in-loop-interface.ensures.0 w.if-holds-2.true)) (λ b e. let is = w.in_default.is in cc))
  | else-holds-2 w ↦ rw w.sole-is (sole_kept c.args.self.now.table.now c.args.self.now.few.now c.loop-interface.interface-index 0 c.args.place c.loop-interface-test.true c.loop-interface.sole c.loop-interface.invariant
      (λ held. true≢false (sym (c.holds-in-loop-interface.ensures.1 (rw c.get.ensures held)) ∙ w.if-holds-2.false)))
]

pub returns : goal.returns
returns c = sole_is c.args.self.now c.args.place (λ held. true≢false (sym (c.if-holds.ensures.1 held))) c.loop-interface.sole
    (subst (λ xs. IsSoleOf c.args.self.now.table.now xs c.args.place c.loop-interface.sole) (take_all c.loop-interface.interface-index c.args.self.now.few.now c.loop-interface-test.false) c.loop-interface.invariant)
