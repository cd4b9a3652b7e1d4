use Rattle.std.proofs.Common.{◌++◌, ap, ◌∙◌, string_bytes, arith}
use Rattle.cert_rules.specs.Spelled.{line_text}
use Rattle.cert_text.proofs.TextLines.{written_next}
use Rattle.cert_text.proofs.writing.push_lines.Goals as goal

pub loop-line-preserved : goal.loop-line-preserved
loop-line-preserved c =
    written_next c.args.lines.now c.loop-line.line-index c.line-item.result (string_bytes c.args.text.now) (string_bytes c.loop-line.text) (string_bytes c.push_line.new.text) (string_bytes c.push_str.new.self)
    (omega arith) c.loop-line.invariant (c.in_ok-push_line.ensures ∙ ap (λ l. string_bytes c.loop-line.text ++ line_text l) c.line-item.is) c.in_ok-push_str.ensures.bytes
