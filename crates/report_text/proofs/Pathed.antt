-- The line that repeats a query of a path.
use Rattle.std.proofs.Common.{◌≡◌, ℕ, ◌++◌, List, [], ◌∷◌, codes, refl, ap, ◌∙◌}
use Rattle.link_rules.specs.Linked.{LinkedProgram}
use Rattle.spds_rules.specs.declared.node.Node.{Node}
use Rattle.report_text.specs.Answers.{IsTargetText}
use Rattle.report_text.specs.Lines.{AddsLine}
use Rattle.report_text.specs.Paths.{IsPathLine}
use Rattle.report_text.specs.Texts.{AddsText}
use Rattle.report_text.proofs.Aliased.{parted}

-- a text that grew by the parts of the line
pub path_line : (p : LinkedProgram) (n : Node) (fields old begun named apart told : List ℕ) → begun ≡ old ++ codes "paths "
    → AddsText (IsTargetText p n) begun named → apart ≡ named ++ codes " " → told ≡ apart ++ fields
    → (new : List ℕ) → new ≡ told ++ 10 ∷ [] → AddsLine (IsPathLine p n fields) old new
path_line p n fields old begun named apart told e target f t new g =
    record {
      line = codes "paths " ++ target.added ++ codes " " ++ fields;
      is_so = record { target = target.added; target_is = target.is_so; line_is = refl };
      grown = g ∙ ap (λ l. l ++ 10 ∷ []) (t ∙ ap (λ l. l ++ fields) (f ∙ ap (λ l. l ++ codes " ") (target.grown ∙ ap (λ l. l ++ target.added) e)))
          ∙ parted old (codes "paths ") target.added (codes " ") fields (10 ∷ []);
    }
