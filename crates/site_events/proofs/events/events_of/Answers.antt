use Rattle.site_events.proofs.events.events_of.Goals as goal

pub returns : goal.returns
returns c = λ exact. record {
  form = c.tell_form.ensures;
  many = c.in_ok-relations.ensures.many;
  relations = c.in_ok-relations.ensures.relations;
  are_all = exact;
  uses = c.in_ok-uses.ensures;
  callers = c.in_ok-callers.ensures;
}
