use Rattle.std.proofs.Common.{◌++◌, ◌∷◌, [], sym, subst, arith}
use Rattle.lists.specs.Lists.{Has}
use Rattle.post_star.specs.declared.rise.Item.TheVariants.{At, Between}
use Rattle.post_star.proofs.Loops.{turned_at, turned_between}
use Rattle.post_star.proofs.Scopes.{within_popped, has_last}
use Rattle.post_star.proofs.rise.Rising.turn.Goals as goal

pub returns-in_ok-work_at-in-At : goal.returns-in_ok-work_at-in-At
returns-in_ok-work_at-in-At g c = record {
  settling = turned_at g.met.W.Weight.laws _ c.requires.told c.in-At.entry c.in-At.node (rw c.in-At.is at c.requires.settling) c.in_ok-work_at-in-At.ensures.progress c.in_ok-work_at-in-At.ensures.applied;
  spent = λ u i w. c.in_ok-work_at-in-At.ensures.progress.spent u i (w.at c.in-At.entry c.in-At.node (subst (λ z. Has (c.args.self.now.items.items ++ z ∷ []) (At c.in-At.entry c.in-At.node)) (sym c.in-At.is) (has_last c.args.self.now.items.items (At c.in-At.entry c.in-At.node)))) (within_popped c.args.self.now.items.items c.args.item w);
}

pub returns-in_ok-work_between-in-Pushed : goal.returns-in_ok-work_between-in-Pushed
returns-in_ok-work_between-in-Pushed g c = record {
  settling = turned_between g.met.W.Weight.laws _ c.requires.told c.in-Between.child c.in-Between.parent (rw c.in-Between.is at c.requires.settling) c.in_ok-work_between-in-Pushed.ensures.progress (rw c.in-Pushed.is c.in_ok-work_between-in-Pushed.ensures.applied);
  spent = λ u i w. c.in_ok-work_between-in-Pushed.ensures.progress.spent u i (w.between c.in-Between.child c.in-Between.parent (subst (λ z. Has (c.args.self.now.items.items ++ z ∷ []) (Between c.in-Between.child c.in-Between.parent)) (sym c.in-Between.is) (has_last c.args.self.now.items.items (Between c.in-Between.child c.in-Between.parent)))) (within_popped c.args.self.now.items.items c.args.item w);
}

pub returns-in-Base-clause-spent : goal.returns-in-Base-clause-spent
returns-in-Base-clause-spent g c = λ u i w. (within_popped c.args.self.now.items.items c.args.item w, omega arith)
