-- Lines that are put behind others, one by one.
use Rattle.std.specs.Prelude.{◌≡◌, ℕ, Some, length}
use Rattle.link_rules.specs.Linked.{LinkedProgram}
use Rattle.spds_rules.specs.declared.node.Node.{Node}
use Rattle.cert_rules.specs.declared.fact.Fact.{Fact}
use Rattle.cert_rules.specs.declared.line.Line.{Line}
use Rattle.cert_rules.specs.Given.{Gives}
use Rattle.cert_rules.specs.Lengths.{length_by}
use Rattle.cert_lines.specs.Noted.{IsThere, Noted, with_line}
use Rattle.cert_rules.specs.Told.{as_told}

-- how long a line behind these is, as far as 32 bits tell
abbrev pub length_told : Noted → Line → ℕ
length_told w line = as_told (length_by w.lengths line)

-- such lines were put last: each gives a fact over what those before it gave, and no line before it that gives the fact is as short
pub data AreAdded (p : LinkedProgram) (t : Node) (old : Noted) : Noted → Type 0 where
  none : AreAdded p t old old
  more : {mid : Noted} (line : Line) (fact : Fact) → AreAdded p t old mid → length mid.lengths ≡ length mid.given → Gives p t mid.given line (Some fact)
      → (IsThere mid fact (length_told mid line) → ⊥) → AreAdded p t old (with_line mid line fact (length_told mid line))
