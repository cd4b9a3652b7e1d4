-- All that a path asks for are nodes of the program.
use Rattle.std.proofs.Common.{ℕ, List, sym, subst, inl, inr}
use Rattle.lists.specs.Lists.{Has}
use Rattle.link_rules.specs.Linked.{LinkedProgram}
use Rattle.link_rules.specs.WellLinked.{IsInForm}
use Rattle.spds_rules.specs.declared.node.Node.{Node}
use Rattle.spds_rules.specs.Demand.{Asked}
use Rattle.spds_rules.specs.Nodes.{IsNode}
use Rattle.demand_set.proofs.Standing.{store_arg, store_base}
use Rattle.path_query.specs.Paths.{AsksPath}

-- what a path from a node asks for are nodes
pub targets_stand : (p : LinkedProgram) → IsInForm p → (n : Node) (fields : List ℕ) (q : Asked) → AsksPath p n fields q → IsNode p n → (m : Node) → Has q.targets m → IsNode p m
targets_stand p form n fields q asks is m has = elim ((asks.targets m).0 has) [
  | inl e ↦ subst (IsNode p) (sym e) is
  | inr end ↦ elim end.2.is_end [
    | inl e ↦ subst (IsNode p) (sym e) (store_base p form end.2.store end.2.is_store)
    | inr e ↦ subst (IsNode p) (sym e) (store_arg p form end.2.store end.2.is_store)
  ]
]
