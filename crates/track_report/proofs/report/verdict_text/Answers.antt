use Rattle.std.proofs.Common.{[], ◌∷◌, ◌++◌, length, ap, ◌∙◌}
use Rattle.report_text.specs.Lines.{text_of}
use Rattle.report_text.proofs.Growing.{text_of-three}
use Rattle.track_report.specs.Reports.{verdict_lines}
use Rattle.track_report.proofs.report.verdict_text.Goals as goal

pub returns : goal.returns
returns c =
    let head = c.in_ok-push_head.ensures in
    let findings = c.in_ok-push_unsafe_lines.ensures in
    let begun = head.grown ∙ ap (λ t. t ++ text_of (head.line ∷ [])) c.new-text.ensures.bytes in
    record {
      head = head.line;
      lines = findings.lines;
      head_is = head.is_so;
      lines_are = rw c.as_slice-findings.ensures at findings.are_so;
      text_is = ap (λ v. v.items) c.into_bytes.ensures.value
          ∙ text_of-three (head.line ∷ []) findings.lines (verdict_lines (length c.args.verdict.now.findings) c.args.verdict.now.demanded) _ _ _ begun findings.grown
          (rw c.as_slice-findings.ensures at c.in_ok-push_verdict.ensures);
    }
