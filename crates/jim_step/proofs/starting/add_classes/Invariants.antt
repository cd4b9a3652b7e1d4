use Rattle.std.proofs.Common.{◌≡◌, ◌++◌}
use Rattle.link_sites.specs.declared.site.Site.TheVariants as site
use Rattle.step_rules.specs.Runs.{constants}
use Rattle.jim_step.proofs.starting.add_classes.Given as goal

abbrev pub invariant-loop-number : goal.invariant-loop-number
invariant-loop-number l = l.heap ≡ l.initial.heap ++ constants (λ i. site.Class i) l.class l.number
