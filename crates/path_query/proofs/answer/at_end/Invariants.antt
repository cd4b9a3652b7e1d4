use Rattle.std.proofs.Common.{◌≡◌, Some, slice_get, take}
use Rattle.spds_rules.specs.declared.node.Node.{Node}
use Rattle.spds_rules.specs.Demand.{Asked}
use Rattle.path_query.specs.Numbers.{AreNumbersOf, IsPosed}
use Rattle.path_query.specs.Paths.{IsAtPath}
use Rattle.path_query.proofs.answer.at_end.Given as goal

-- those at the end of the first fields
abbrev pub invariant-loop-field : goal.invariant-loop-field
invariant-loop-field l = (q : Asked) (n : Node) → IsPosed l.posed.linked.now q l.posed.demand.now l.posed.solved.now → slice_get l.posed.demand.now.nodes l.node ≡ Some n
    → AreNumbersOf l.posed.demand.now.sites (IsAtPath l.posed.linked.now q n (take l.field-index l.fields)) l.numbers.items
