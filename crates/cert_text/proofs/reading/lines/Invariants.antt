use Rattle.std.proofs.Common.{◌≡◌, List, take}
use Rattle.lists.specs.Lists.{Each}
use Rattle.cert_rules.specs.declared.line.Line.{Line}
use Rattle.cert_rules.specs.Spelled.{SpellsLine}
use Rattle.cert_text.specs.Words.{texts}
use Rattle.cert_text.proofs.reading.lines.Given as goal

abbrev pub invariant-loop-index : goal.invariant-loop-index
invariant-loop-index l = record {
  each : Each SpellsLine (take l.index (texts l.others)) l.lines.items;
  one : (other : List Line) → Each SpellsLine (texts l.others) other → take l.index other ≡ l.lines.items;
}
