use Rattle.std.proofs.Common.{get_or, subst, inr, ◌∙◌}
use Rattle.std.specs.List.{Contains}
use Rattle.std.proofs.lemmas.List.Elements.{Contains-get_or}
use Rattle.class_rules.proofs.Parents.{interface_named}
use Rattle.class_tree.proofs.TreeFacts.{step-above}
use Rattle.class_tree.proofs.tree.Tree.interfaces.Goals as goal

pub returns-clause-known : goal.returns-clause-known
returns-clause-known c = λ k d h.
    let ix = rw c.self.view_is at c.self.invariant in
    let m = Contains-get_or c.get.result.now k d h in
    step-above _ ix.hierarchy c.args.class _ (inr (interface_named c.args.self.now.implements c.args.class _ (subst (λ xs. Contains xs (get_or c.get.result.now k d)) (c.get.ensures ∙ ix.interfaces_are c.args.class) m)))
