use Rattle.std.proofs.Common.{string_bytes}
use Rattle.cert_text.proofs.LineWords.{on_ok}
use Rattle.cert_text.proofs.TextLines.{written_all}
use Rattle.cert_text.proofs.writing.push_certificate.Goals as goal

pub returns : goal.returns
returns c =
    on_ok c.push_lines.result (λ grown.
    written_all c.args.certificate.now (string_bytes c.args.text.now) (string_bytes c.push_str.new.self) (string_bytes c.push_node.new.text) (string_bytes c.push_str-2.new.self) (string_bytes c.push_lines.new.text)
    c.as_slice.result.now c.in_ok-push_str.ensures.bytes c.in_ok-push_node.ensures c.in_ok-push_str-2.ensures.bytes c.as_slice.ensures grown) c.push_lines.ensures
