-- How the parts of a demand are made.
use Rattle.std.specs.Prelude.{◌≡◌, ℕ, List, Some, slice_get}
use Rattle.auto_table.specs.declared.rule.Rule.{Rule}
use Rattle.auto_table.specs.declared.rule.Rule.TheVariants as rule
use Rattle.link_rules.specs.Linked.{LinkedProgram}
use Rattle.link_sites.specs.declared.place.Place.{Place}
use Rattle.link_sites.specs.declared.site.Site.{Site}
use Rattle.spds_rules.specs.declared.edge.EdgeKind.{EdgeKind}
use Rattle.spds_rules.specs.declared.edge.EdgeKind.TheVariants as edge
use Rattle.spds_rules.specs.declared.node.Node.{Node}
use Rattle.spds_rules.specs.Nodes.{IsNode, site_of}
use Rattle.demand_set.specs.declared.numbered.EdgeAt.{EdgeAt}
use Rattle.spds_tables.specs.declared.numbered.Jump.{Jump}
use Rattle.spds_tables.specs.declared.numbered.StartAt.{StartAt}
use Rattle.spds_tables.specs.PartsOf.{StandsFor}
use Rattle.weight_laws.specs.declared.reach.Reach.{Reach}
use Rattle.weight_laws.specs.Reach.{reach_domain}

-- the rule of an edge of this kind in field systems
abbrev pub field_rule_by : EdgeKind → ℕ → ℕ → Rule Reach
field_rule_by (edge.Load field) from to = rule.Pop from field to reach_domain.one
field_rule_by _ from to = rule.Flow from to reach_domain.one

abbrev pub field_rule_of : EdgeAt → Rule Reach
field_rule_of e = field_rule_by e.kind e.from e.to

-- the rule of an edge of this kind in call systems
abbrev pub IsCallRuleBy : List Place → EdgeKind → ℕ → ℕ → Rule Reach → Type 0
IsCallRuleBy calls edge.Flow from to r = r ≡ rule.Flow from to reach_domain.one
IsCallRuleBy calls (edge.Load field) from to r = r ≡ rule.Flow from to reach_domain.one
IsCallRuleBy calls (edge.Call call) from to r = (mark : ℕ) × (slice_get calls mark ≡ Some call) × (r ≡ rule.Push from to mark reach_domain.one)
IsCallRuleBy calls (edge.Return call) from to r = (mark : ℕ) × (slice_get calls mark ≡ Some call) × (r ≡ rule.Pop from mark to reach_domain.one)
IsCallRuleBy calls edge.Jump from to r = ⊥

abbrev pub IsCallRuleOf : List Place → EdgeAt → Rule Reach → Type 0
IsCallRuleOf calls e r = IsCallRuleBy calls e.kind e.from e.to r

-- the edge goes through a static field, to the node with the number
pub record IsJumpAt (nodes : List Node) (e : EdgeAt) (j : Jump) : Type 0 where
  pub kind_is : e.kind ≡ edge.Jump
  pub from_is : j.from ≡ e.from
  pub to_is : j.to.node ≡ e.to
  pub node : Node
  pub stands : StandsFor nodes j.to node

-- the node with the number, where the program has it
pub record IsStartAt (p : LinkedProgram) (nodes : List Node) (number : ℕ) (s : StartAt) : Type 0 where
  pub node : Node
  pub stands : StandsFor nodes s node
  pub number_is : s.node ≡ number
  pub is_node : IsNode p node

-- a start node of the site
pub record IsStartHere (p : LinkedProgram) (nodes : List Node) (o : Site) (s : StartAt) : Type 0 where
  pub node : Node
  pub stands : StandsFor nodes s node
  pub is_node : IsNode p node
  pub site_is : site_of node ≡ Some o
