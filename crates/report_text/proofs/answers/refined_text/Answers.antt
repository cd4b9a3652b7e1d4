use Rattle.std.proofs.Common.{[], ◌∷◌, ◌++◌, length, ap, sym, ◌∙◌}
use Rattle.report_text.specs.Answers.{count_lines, narrowed_line}
use Rattle.report_text.specs.Lines.{text_of}
use Rattle.report_text.proofs.Growing.{text_of-append, text_of-three}
use Rattle.report_text.proofs.answers.refined_text.Goals as goal

pub returns : goal.returns
returns c =
    let query = c.in_ok-push_query_line.ensures in
    let sites = c.in_ok-push_site_lines.ensures in
    let begun = query.grown ∙ ap (λ t. t ++ text_of (query.line ∷ [])) c.new-reply.ensures.bytes in
    let narrowed = narrowed_line c.args.narrowed in
    let head = c.in_ok-push_narrowed.ensures ∙ ap (λ t. t ++ text_of (narrowed ∷ [])) begun ∙ sym (text_of-append (query.line ∷ []) (narrowed ∷ [])) in
    record {
      query = query.line;
      lines = sites.lines;
      query_is = query.is_so;
      lines_are = sites.are_so;
      text_is = ap (λ v. v.items) c.into_bytes.ensures.value
          ∙ text_of-three (query.line ∷ narrowed ∷ []) sites.lines (count_lines (length c.args.sites.now) c.args.demanded) _ _ _ head sites.grown c.in_ok-push_counts.ensures;
    }
