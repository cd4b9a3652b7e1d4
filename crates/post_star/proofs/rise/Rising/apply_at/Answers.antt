use Rattle.std.proofs.Common.{ap, ◌∙◌}
use Rattle.std.proofs.lemmas.Result.{on_ok_weaker}
use Rattle.post_star.proofs.Applies.{flow_progress, flow_applied, push_progress, push_applied}
use Rattle.post_star.proofs.rise.Rising.apply_at.Goals as goal

pub returns-in-Flow-clause-progress : goal.returns-in-Flow-clause-progress
returns-in-Flow-clause-progress g c = on_ok_weaker c.rise.result
    (λ risen. flow_progress g.met.W.Weight.laws _ c.requires.told c.requires.sound _ _ _ _ _ (rw c.in-Flow.is at c.requires.listed)
    (c.extend-reached.ensures ∙ ap (λ x. g.W.Weight.domain.extend x c.in-Flow.weight) c.at.ensures) risen)
    c.rise.ensures

pub returns-in-Flow-clause-applied : goal.returns-in-Flow-clause-applied
returns-in-Flow-clause-applied g c = rw c.in-Flow.is (on_ok_weaker c.rise.result
    (λ risen. flow_applied g.met.W.Weight.laws _ c.requires.told c.requires.sound _ _ _ _ _ (rw c.in-Flow.is at c.requires.listed)
    (c.extend-reached.ensures ∙ ap (λ x. g.W.Weight.domain.extend x c.in-Flow.weight) c.at.ensures) risen)
    c.rise.ensures)

pub returns-in_ok-rise-in-Push-clause-progress : goal.returns-in_ok-rise-in-Push-clause-progress
returns-in_ok-rise-in-Push-clause-progress g c = on_ok_weaker c.rise_link.result
    (λ linked. push_progress g.met.W.Weight.laws _ c.requires.told c.requires.sound _ _ _ _ _ _ _ (rw c.in-Push.is at c.requires.listed)
    (c.extend-reached-in-Push.ensures ∙ ap (λ x. g.W.Weight.domain.extend x c.in-Push.weight) c.at-in-Push.ensures) c.one.ensures c.in_ok-rise-in-Push.ensures linked)
    c.rise_link.ensures

pub returns-in_ok-rise-in-Push-clause-applied : goal.returns-in_ok-rise-in-Push-clause-applied
returns-in_ok-rise-in-Push-clause-applied g c = rw c.in-Push.is (on_ok_weaker c.rise_link.result
    (λ linked. push_applied g.met.W.Weight.laws _ c.requires.told c.requires.sound _ _ _ _ _ _ _ (rw c.in-Push.is at c.requires.listed)
    (c.extend-reached-in-Push.ensures ∙ ap (λ x. g.W.Weight.domain.extend x c.in-Push.weight) c.at-in-Push.ensures) c.one.ensures c.in_ok-rise-in-Push.ensures linked)
    c.rise_link.ensures)
