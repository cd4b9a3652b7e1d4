-- The line that repeats a query of two locals.
use Rattle.std.proofs.Common.{◌≡◌, ℕ, ◌++◌, List, [], ◌∷◌, codes, refl, ap, ◌∙◌, append_assoc}
use Rattle.link_rules.specs.Linked.{LinkedProgram}
use Rattle.spds_rules.specs.declared.node.Node.{Node}
use Rattle.report_text.specs.Aliases.{IsAliasLine}
use Rattle.report_text.specs.Answers.{IsTargetText, IsVarName}
use Rattle.report_text.specs.Lines.{AddsLine}
use Rattle.report_text.specs.Texts.{AddsText}

-- five parts behind a text, one after another
pub parted : (old a x s y n : List ℕ) → old ++ a ++ x ++ s ++ y ++ n ≡ old ++ (a ++ x ++ s ++ y ++ n)
parted old a x s y n = simp append_assoc

-- a text that grew by the parts of the line
pub alias_line : (p : LinkedProgram) (first second : Node) (old begun named apart told : List ℕ) → begun ≡ old ++ codes "alias "
    → AddsText (IsTargetText p first) begun named → apart ≡ named ++ codes " " → AddsText (IsVarName p second.place second.var) apart told
    → (new : List ℕ) → new ≡ told ++ 10 ∷ [] → AddsLine (IsAliasLine p first second) old new
alias_line p first second old begun named apart told e target f name new g =
    record {
      line = codes "alias " ++ target.added ++ codes " " ++ name.added;
      is_so = record { target = target.added; name = name.added; target_is = target.is_so; name_is = name.is_so; line_is = refl };
      grown = g ∙ ap (λ t. t ++ 10 ∷ []) (name.grown ∙ ap (λ t. t ++ name.added) (f ∙ ap (λ t. t ++ codes " ") (target.grown ∙ ap (λ t. t ++ target.added) e)))
          ∙ parted old (codes "alias ") target.added (codes " ") name.added (10 ∷ []);
    }
