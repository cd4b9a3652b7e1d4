use Rattle.std.proofs.Common.{ℕ, ◌↔◌}
use Rattle.lists.specs.Lists.{Has}
use Rattle.refined_query.proofs.Chosen.{IsChosenOf}
use Rattle.refined_query.proofs.selecting.chosen.Given as goal

abbrev pub invariant-loop-site : goal.invariant-loop-site
invariant-loop-site l = (target : ℕ) → Has l.found.keys target ↔ IsChosenOf l.linked l.sites l.class l.key l.site-index target
