-- Rules that weigh one, by what they say beside.
use Rattle.std.specs.Prelude.{ℕ, List, ◌+◌, ◌*◌, ◌^◌, ◌↔◌}
use Rattle.auto_table.specs.declared.rule.Rule.{Rule}
use Rattle.auto_table.specs.declared.rule.Rule.TheVariants as rule
use Rattle.lists.specs.Lists.{Has}
use Rattle.weight_laws.specs.Law.{Domain}
use Rattle.rule_cells.specs.declared.distinct.Shape.{Shape}
use Rattle.rule_cells.specs.declared.distinct.Shape.TheVariants as shape

-- the number by which shapes are spread
abbrev pub shape_spread : Shape → ℕ
shape_spread (shape.Flow from to) = from * 2 ^ 32 + to
shape_spread (shape.Push from to mark) = from * 2 ^ 32 + to
shape_spread (shape.Pop from mark to) = from * 2 ^ 32 + to

-- what a rule says but for its weight
abbrev pub shape_of : {W : Type 0} → Rule W → Shape
shape_of (rule.Flow from to weight) = shape.Flow from to
shape_of (rule.Push from to mark weight) = shape.Push from to mark
shape_of (rule.Pop from mark to weight) = shape.Pop from mark to

-- the rule of the shape that weighs one
abbrev pub rule_of : {W : Type 0} → Domain W → Shape → Rule W
rule_of d (shape.Flow from to) = rule.Flow from to d.one
rule_of d (shape.Push from to mark) = rule.Push from to mark d.one
rule_of d (shape.Pop from mark to) = rule.Pop from mark to d.one

-- exactly the rules of these shapes are there
abbrev pub AreShapes : {W : Type 0} → Domain W → List Shape → List (Rule W) → Type 0
AreShapes {W} d shapes rules = (s : Shape) → Has shapes s ↔ Has rules (rule_of d s)
