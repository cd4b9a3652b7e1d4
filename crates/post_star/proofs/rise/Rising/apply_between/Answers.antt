use Rattle.std.proofs.Common.{inr, sym, ◌∙◌}
use Rattle.post_star.proofs.Applies.{progress_none, product_of, not_between, between_progress, between_applied}
use Rattle.post_star.proofs.Loops.{nothing_between}
use Rattle.post_star.proofs.rise.Rising.apply_between.Goals as goal

pub returns-in_ok-rise-clause-progress : goal.returns-in_ok-rise-clause-progress
returns-in_ok-rise-clause-progress g c = between_progress g.met.W.Weight.laws _ c.requires.told c.requires.sound c.args.rule.now c.args.child c.args.parent _ _ _ _ _ _ _ c.in-Pop.is c.in-Pushed.is c.if-top-mark.true c.requires.listed
    (product_of g.W.Weight.domain.extend c.extend-reached.ensures c.extend.ensures c.link_at.ensures c.at-first.ensures) c.in_ok-rise.ensures

pub returns-in_ok-rise-clause-applied : goal.returns-in_ok-rise-clause-applied
returns-in_ok-rise-clause-applied g c = λ _. between_applied g.met.W.Weight.laws _ c.requires.told c.requires.sound c.args.rule.now c.args.child c.args.parent _ _ _ _ _ _ _ c.in-Pop.is c.in-Pushed.is c.if-top-mark.true c.requires.listed
    (product_of g.W.Weight.domain.extend c.extend-reached.ensures c.extend.ensures c.link_at.ensures c.at-first.ensures) c.in_ok-rise.ensures

pub returns-then-eq-clause-progress : goal.returns-then-eq-clause-progress
returns-then-eq-clause-progress g c = progress_none g.met.W.Weight.laws _ c.requires.told _ _ c.requires.sound

pub returns-then-eq-clause-applied : goal.returns-then-eq-clause-applied
returns-then-eq-clause-applied g c = rw c.in-Pushed.is (λ _. inr (nothing_between g.met.W.Weight.laws _ c.requires.told c.requires.sound c.args.rule.now c.requires.listed _ c.args.parent _ _ _ _ _ _ c.in-Pop.is c.at-first.ensures c.zero.ensures
    (λ a b. g.met.W.Weight.same _ _ a b (sym c.eq.ensures ∙ c.if-eq.true))))

pub returns-else-top-mark-clause-progress : goal.returns-else-top-mark-clause-progress
returns-else-top-mark-clause-progress g c = progress_none g.met.W.Weight.laws _ c.requires.told _ _ c.requires.sound

pub returns-in_default-child-clause-progress : goal.returns-in_default-child-clause-progress
returns-in_default-child-clause-progress g c = progress_none g.met.W.Weight.laws _ c.requires.told _ _ c.requires.sound

pub returns-in_default : goal.returns-in_default
returns-in_default g c = record {
  progress = progress_none g.met.W.Weight.laws _ c.requires.told _ _ c.requires.sound;
  applied = λ h. absurd (not_between c.args.rule.now c.args.child c.in_default.not-Pop h);
}
