use Rattle.std.proofs.Common.{◌-◌, ◌^◌}
use Rattle.link_rules.specs.Linked.{LinkedProgram}
use Rattle.site_events.specs.Callers.{AreCallers, AreMethodNumbers}
use Rattle.site_events.proofs.Searching.{IsSearched}
use Rattle.site_events.proofs.loud.loud_methods.Given as goal

abbrev pub invariant-loop-target : goal.invariant-loop-target
invariant-loop-target l = (p : LinkedProgram) (calling : AreCallers p l.callers) (methods : AreMethodNumbers p l.told)
    → IsSearched p l.callers l.told calling methods l.at l.found.keys

abbrev pub decreases-loop-target : goal.decreases-loop-target
decreases-loop-target l = 2 ^ 63 - l.at
