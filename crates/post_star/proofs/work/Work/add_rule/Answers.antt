use Rattle.std.proofs.Common.{◌++◌, ◌∷◌, [], ◌∙◌, ap, sym}
use Rattle.std.proofs.lemmas.List.{append_assoc}
use Rattle.post_star.proofs.Jobs.{not_all_rules, rule_added}
use Rattle.post_star.proofs.work.Work.add_rule.Goals as goal

pub invariant_of-self-2 : goal.invariant_of-self-2
invariant_of-self-2 g c = rule_added g.met.W.Weight.laws c.self.invariant c.args.rule c.tell_rule.ensures c.push.new.self.items c.in_ok-push.ensures.items

pub returns-clause-ok : goal.returns-clause-ok
returns-clause-ok g c = rw (← c.self.view_is) (λ i. record {
  steps = c.self.inside.common.value.steps;
  last = c.self.inside.common.value.last;
  rules = (ap (λ xs. c.self.inside.common.value.rules ++ xs) c.in_ok-push.ensures.items ∙ sym (append_assoc c.self.inside.common.value.rules c.self.inside.own.items (c.args.rule ∷ []))) i;
  starts = c.self.inside.starts.items;
  settled = not_all_rules c.self.inside.own.items c.args.rule c.push.new.self.items c.self.inside.starts.items c.self.inside.progress.taken c.self.inside.progress.begun c.in_ok-push.ensures.items c.self.invariant.taken_in i;
})
