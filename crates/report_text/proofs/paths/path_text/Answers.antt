use Rattle.std.proofs.Common.{[], ◌∷◌, ◌++◌, length, ap, ◌∙◌}
use Rattle.report_text.specs.Answers.{count_lines}
use Rattle.report_text.specs.Lines.{text_of}
use Rattle.report_text.proofs.Growing.{text_of-three}
use Rattle.report_text.proofs.paths.path_text.Goals as goal

pub returns : goal.returns
returns c =
    let query = c.in_ok-push_path_line.ensures in
    let sites = c.in_ok-push_site_lines.ensures in
    let begun = query.grown ∙ ap (λ t. t ++ text_of (query.line ∷ [])) c.new-text.ensures.bytes in
    record {
      query = query.line;
      lines = sites.lines;
      query_is = query.is_so;
      lines_are = sites.are_so;
      text_is = ap (λ v. v.items) c.into_bytes.ensures.value
          ∙ text_of-three (query.line ∷ []) sites.lines (count_lines (length c.args.sites.now) c.args.demanded) _ _ _ begun sites.grown c.in_ok-push_counts.ensures;
    }
