use Rattle.std.proofs.Common.{◌≡◌, refl, sym, arith, true≢false}
use Rattle.class_rules.specs.Rows.{Sub}
use Rattle.class_tree.proofs.Lowest.{each_more, held_by, held_within, is_lowest_of, reached_at, holder_from}
use Rattle.class_tree.proofs.tree.Tree.is_lowest.Goals as goal
use Rattle.class_tree.proofs.tree.Tree.is_lowest.Goals.{else-other-interface-via-then-other-interface+then-sub+else-sub-2, else-other-interface-via-then-other-interface+else-sub, else-other-interface-via-else-other-interface}

pub sub-requires-clause-b : goal.sub-requires-clause-b
sub-requires-clause-b c =
    held_within c.args.self.now _ c.args.key (reached_at c.args.self.now c.args.class c.args.key c.args.reached.now c.requires.reached c.loop-other.other-index c.loop-other-test.true)

pub sub-requires-then-sub-clause-a : goal.sub-requires-then-sub-clause-a
sub-requires-then-sub-clause-a c =
    held_within c.args.self.now _ c.args.key (reached_at c.args.self.now c.args.class c.args.key c.args.reached.now c.requires.reached c.loop-other.other-index c.loop-other-test.true)

pub sub-requires-then-sub-clause-b : goal.sub-requires-then-sub-clause-b
sub-requires-then-sub-clause-b c = held_within c.args.self.now _ c.args.key (held_by c.args.self.now c.args.class c.args.key c.args.interface c.requires.holder)

pub returns-then-sub-2 : goal.returns-then-sub-2
returns-then-sub-2 c =
    let held = reached_at c.args.self.now c.args.class c.args.key c.args.reached.now c.requires.reached c.loop-other.other-index c.loop-other-test.true in
    let holder = holder_from c.args.self.now c.args.class c.args.key _ (c.if-sub.ensures.0 refl) held in
    (λ t. absurd (true≢false (sym t)), λ low. absurd (c.if-other-interface.true (low.lowest _ holder (c.if-sub-2.ensures.0 refl))))

pub loop-other-preserved : goal.loop-other-preserved
loop-other-preserved c = each_more (λ b. Sub c.args.self.now c.args.class b → Sub c.args.self.now b c.args.interface → b ≡ c.args.interface)
    c.args.reached.now c.loop-other.other-index c.loop-other-test.true c.loop-other.invariant (elim c.else-other-interface.branch [
      | else-other-interface-via-then-other-interface+then-sub+else-sub-2 w ↦ (λ s t. absurd (true≢false (sym (w.if-sub-2.ensures.1 t))))
      | else-other-interface-via-then-other-interface+else-sub w ↦ (λ s t. absurd (true≢false (sym (w.if-sub.ensures.1 s))))
      | else-other-interface-via-else-other-interface w ↦ (λ s t. w.if-other-interface.false)
    ])

pub returns : goal.returns
returns c = (
  λ t. is_lowest_of c.args.self.now c.args.class c.args.key c.args.interface c.args.reached.now c.requires.reached c.requires.holder
      (λ k b lt there s t. c.loop-other.invariant k b (omega (arith, lt, c.loop-other-test.false)) there s t),
  λ low. refl,
)
