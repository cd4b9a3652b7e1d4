use Rattle.std.proofs.Common.{Option, take}
use Rattle.link_rules.specs.Linked.{LinkedProgram}
use Rattle.spds_rules.specs.declared.node.Node.{Node}
use Rattle.query_core.specs.Sought.{IsPosed, IsSought, asked_of}
use Rattle.query_core.proofs.Kept.{AreKept}
use Rattle.query_core.proofs.finding.sought_sites.Given as goal

-- those of the first sites
abbrev pub invariant-loop-site : goal.invariant-loop-site
invariant-loop-site l = (p : LinkedProgram) (a : Node) (b : Option Node) → IsPosed p a b l.demand l.solved l.first l.second
    → AreKept p (IsSought p (asked_of a b) a b) (take l.site l.demand.sites) l.sites.items
