use Rattle.std.proofs.Common.{None, arith, ap, sym, subst, ◌∙◌}
use Rattle.class_rules.specs.Lookups.{OnPath}
use Rattle.class_tree.specs.Turns.{turned, turns_of}
use Rattle.class_tree.proofs.TreeFacts.{place_read}
use Rattle.class_tree.proofs.tree.Tree.on_path.Goals as goal

pub find-requires-clause-len : goal.find-requires-clause-len
find-requires-clause-len c = c.self.invariant.along.methods.len

pub find-requires-clause-rising : goal.find-requires-clause-rising
find-requires-clause-rising c = c.self.invariant.along.methods.rising c.args.key

pub returns : goal.returns
returns c =
    let ix = rw c.self.view_is at c.self.invariant in
    let place = place_read _ c.args.class _ (omega (arith, ix.placed.len, c.requires)) c.index.ensures in
    subst (OnPath c.args.self.now c.args.class c.args.key) (sym (c.find.ensures ∙ ap (turned None (turns_of c.self.inside.inherited.methods c.args.key)) place)) (ix.along.methods.exact c.args.class c.args.key c.requires)
