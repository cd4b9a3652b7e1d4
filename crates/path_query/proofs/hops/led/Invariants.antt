use Rattle.lists.specs.Lists.{Has}
use Rattle.spds_rules.specs.Demand.{Asked}
use Rattle.path_query.specs.declared.hops.Way.{Way}
use Rattle.path_query.specs.Numbers.{IsLedTo, IsNamed, IsPosed}
use Rattle.path_query.proofs.Numbering.{AreNumbersBelow}
use Rattle.path_query.proofs.hops.led.Given as goal

-- those of the first sites
abbrev pub invariant-loop-site : goal.invariant-loop-site
invariant-loop-site l = (q : Asked) → IsPosed l.posed.linked.now q l.posed.demand.now l.posed.solved.now → ((w : Way) → Has l.ways w → IsNamed l.posed.demand.now w)
    → AreNumbersBelow l.posed.demand.now.sites (IsLedTo l.posed.linked.now q l.posed.demand.now l.ways) l.site l.numbers.items
