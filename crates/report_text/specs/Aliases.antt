-- The reply to a query about two locals at a place.
use Rattle.std.specs.Prelude.{◌≡◌, ℕ, zero, suc, ◌++◌, List, [], ◌∷◌, codes, length}
use Rattle.std.specs.Fmt.{decimal}
use Rattle.link_rules.specs.Linked.{LinkedProgram}
use Rattle.lists.specs.Lists.{Each}
use Rattle.link_sites.specs.declared.site.Site.{Site}
use Rattle.spds_rules.specs.declared.node.Node.{Node}
use Rattle.report_text.specs.Answers.{IsTargetText, IsVarName, IsWordedSite}
use Rattle.report_text.specs.Lines.{text_of}

-- the line that repeats a query of two locals at one place: the text of the first node, and the name of the second one's local
pub record IsAliasLine (p : LinkedProgram) (a b : Node) (line : List ℕ) : Type 0 where
  pub target : List ℕ
  pub name : List ℕ
  pub target_is : IsTargetText p a target
  pub name_is : IsVarName p b.place b.var name
  pub line_is : line ≡ codes "alias " ++ target ++ codes " " ++ name

-- the line of a site that both share
abbrev pub IsSharedLine : LinkedProgram → Site → List ℕ → Type 0
IsSharedLine p = IsWordedSite p (codes "shared ")

-- whether there is a shared site
abbrev pub verdict : ℕ → List ℕ
verdict zero = codes "aliases no"
verdict (suc more) = codes "aliases yes"

-- the lines with the verdict over so many sites, and with the size of the demand
abbrev pub verdict_lines : ℕ → ℕ → List (List ℕ)
verdict_lines sites demanded = verdict sites ∷ (codes "demanded " ++ decimal demanded) ∷ []

-- the reply that answers which sites two locals share: a line for the query, one for each site, one with the verdict, one with the size of the demand
pub record IsAliasText (p : LinkedProgram) (a b : Node) (sites : List Site) (demanded : ℕ) (text : List ℕ) : Type 0 where
  pub query : List ℕ
  pub lines : List (List ℕ)
  pub query_is : IsAliasLine p a b query
  pub lines_are : Each (IsSharedLine p) sites lines
  pub text_is : text ≡ text_of (query ∷ (lines ++ verdict_lines (length sites) demanded))
