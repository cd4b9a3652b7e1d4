use Rattle.std.proofs.Common.{◌≡◌, ◌++◌, map, string_bytes, take}
use Rattle.cert_rules.specs.Spelled.{ended_lines, line_text}
use Rattle.cert_text.proofs.writing.push_lines.Given as goal

abbrev pub invariant-loop-line : goal.invariant-loop-line
invariant-loop-line l = string_bytes l.text ≡ string_bytes l.fn.text ++ ended_lines (map line_text (take l.line-index l.lines))
