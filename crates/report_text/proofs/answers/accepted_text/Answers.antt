use Rattle.std.proofs.Common.{[], ◌∷◌, ◌++◌, codes, ap, ◌∙◌}
use Rattle.std.specs.Fmt.{decimal}
use Rattle.report_text.specs.Lines.{text_of}
use Rattle.report_text.proofs.Growing.{text_of-three}
use Rattle.report_text.proofs.answers.accepted_text.Goals as goal

pub returns : goal.returns
returns c =
    let query = c.in_ok-push_query_line.ensures in
    let site = c.in_ok-push_site_line.ensures in
    let begun = query.grown ∙ ap (λ t. t ++ text_of (query.line ∷ [])) c.new-text.ensures.bytes in
    record {
      query = query.line;
      line = site.line;
      query_is = query.is_so;
      line_is = site.is_so;
      text_is = ap (λ v. v.items) c.into_bytes.ensures.value
          ∙ text_of-three (query.line ∷ []) (site.line ∷ []) ((codes "demanded " ++ decimal c.args.demanded) ∷ []) _ _ _ begun site.grown c.in_ok-push_demanded.ensures;
    }
