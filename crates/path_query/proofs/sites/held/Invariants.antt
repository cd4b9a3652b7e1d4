use Rattle.std.proofs.Common.{◌≡◌, Some, slice_get}
use Rattle.link_rules.specs.Linked.{LinkedProgram}
use Rattle.spds_rules.specs.declared.node.Node.{Node}
use Rattle.spds_rules.specs.Answers.{IsAnswered}
use Rattle.spds_rules.specs.Demand.{Asked}
use Rattle.path_query.specs.Numbers.{IsPosed}
use Rattle.path_query.proofs.Numbering.{AreNumbersBelow}
use Rattle.path_query.proofs.sites.held.Given as goal

-- those of the first sites
abbrev pub invariant-loop-site : goal.invariant-loop-site
invariant-loop-site l = (p : LinkedProgram) (q : Asked) (n : Node) → IsPosed p q l.demand l.solved → slice_get l.demand.nodes l.node ≡ Some n
    → AreNumbersBelow l.demand.sites (IsAnswered p q n) l.site l.numbers.items
