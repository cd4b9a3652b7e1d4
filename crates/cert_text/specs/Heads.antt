-- Lines by their heads.
use Rattle.std.specs.Prelude.{ℕ, List, Option, Some, None, codes}
use Rattle.spds_rules.specs.declared.node.Node.{Node}
use Rattle.cert_rules.specs.declared.line.Line.{Line}
use Rattle.cert_rules.specs.declared.line.Line.TheVariants as line
use Rattle.cert_rules.specs.declared.line.Side.{Side}
use Rattle.cert_rules.specs.declared.line.Side.TheVariants.{Field, Call}
use Rattle.cert_text.specs.declared.heads.Head.{Head}
use Rattle.cert_text.specs.declared.heads.Head.TheVariants.{Start, Flow, Push, Link, Pop, Base}

abbrev pub AnyHead : Type 0
AnyHead = Head

abbrev pub head_text : Head → List ℕ
head_text Start = codes "start"
head_text Flow = codes "flow"
head_text Push = codes "push"
head_text Link = codes "link"
head_text Pop = codes "pop"
head_text Base = codes "base"

-- the lines that go on from one other
abbrev pub line_of_four : Head → Side → ℕ → Node → Option Line
line_of_four Start Call from n = Some (line.Jump from n)
line_of_four Flow side from n = Some (line.Flow side from n)
line_of_four Push Call from n = Some (line.PushCall from n)
line_of_four Link Call from n = Some (line.LinkCall from n)
line_of_four Base Call from n = Some (line.BasePop from n)
line_of_four _ _ from n = None

-- and those that cite a second
abbrev pub line_of_five : Head → Side → ℕ → ℕ → Node → Option Line
line_of_five Start Call from second n = Some (line.Put from second n)
line_of_five Push Field from second n = Some (line.PushField from second n)
line_of_five Link Field from second n = Some (line.LinkField from second n)
line_of_five Pop side from second n = Some (line.Pop side from second n)
line_of_five _ _ from second n = None
