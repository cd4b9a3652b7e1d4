use Rattle.std.proofs.Common.{◌∙◌, ◌++◌, ◌∷◌, [], ap, subst, arith}
use Rattle.post_star.specs.declared.rise.Item.TheVariants.{At}
use Rattle.post_star.specs.Sweeps.{IsSweeping}
use Rattle.post_star.proofs.Scopes.{has_last}
use Rattle.post_star.proofs.Sweeping.{at_node, not_between, base_done}
use Rattle.post_star.proofs.over_words.go_on.Goals as goal

pub returns-in-Base : goal.returns-in-Base
returns-in-Base g c = record {
  sweeping = base_done c.args.table.now c.args.node c.args.sums.now.items.items c.in-At.entry (λ n mark e. let base = c.in-Base.is in cc) (subst (λ z. IsSweeping g.W.Weight.domain c.args.table.now c.args.node c.args.sums.now.table (c.args.sums.now.items.items ++ z ∷ [])) (at_node c.args.table.now c.args.node c.requires.sweeping.swept c.args.item (has_last c.args.sums.now.items.items c.args.item) c.in-At.entry c.in-At.node c.in-At.is) c.requires.sweeping);
  begun = c.requires.begun;
  spent = omega arith;
}

pub returns-in-Between : goal.returns-in-Between
returns-in-Between g c = absurd (not_between c.args.table.now c.args.node c.requires.sweeping.swept c.args.item (has_last c.args.sums.now.items.items c.args.item) c.in-Between.child c.in-Between.parent c.in-Between.is)

pub climb-requires : goal.climb-requires
climb-requires g c = record {
  sweeping = (subst (λ z. IsSweeping g.W.Weight.domain c.args.table.now c.args.node c.args.sums.now.table (c.args.sums.now.items.items ++ z ∷ [])) (at_node c.args.table.now c.args.node c.requires.sweeping.swept c.args.item (has_last c.args.sums.now.items.items c.args.item) c.in-At.entry c.in-At.node c.in-At.is ∙ ap (λ e. At e c.args.node) c.in-Pushed.is) c.requires.sweeping);
  begun = c.requires.begun;
}
