use Rattle.std.proofs.Common.{arith, sym, true≢false}
use Rattle.std.proofs.lemmas.List.{take_rest}
use Rattle.class_rules.specs.Rows.{Sub}
use Rattle.class_tree.proofs.Lowest.{each_more, held_within, listed, listed_held, reached_from}
use Rattle.class_tree.proofs.tree.Tree.reached.Goals as goal

pub sub-requires-clause-b : goal.sub-requires-clause-b
sub-requires-clause-b c =
    let ix = rw c.self.view_is at c.self.invariant in
    let all = listed c.args.self.now c.self.inside.members.declared.interfaces c.args.key c.of-holders.result.now c.of-holders.ensures ix.holders in
    held_within c.args.self.now _ c.args.key (listed_held c.args.self.now c.args.key c.of-holders.result.now all c.loop-from.from c.loop-from-test.true)

pub loop-from-preserved : goal.loop-from-preserved
loop-from-preserved c = record {
  within = omega (arith, c.loop-from-test.true);
  before = each_more (λ b. Sub c.args.self.now c.args.class b → ⊥) c.of-holders.result.now c.loop-from.from c.loop-from-test.true c.loop-from.invariant.before
      (λ s. absurd (true≢false (sym (c.if-not-sub.ensures.1 s))));
}

pub returns : goal.returns
returns c =
    let ix = rw c.self.view_is at c.self.invariant in
    let all = listed c.args.self.now c.self.inside.members.declared.interfaces c.args.key c.of-holders.result.now c.of-holders.ensures ix.holders in
    rw (take_rest c.of-holders.result.now c.loop-from.from)
    (reached_from c.args.self.now c.args.class c.args.key c.loop-from.from c.of-holders.result.now all c.loop-from.invariant.before)
