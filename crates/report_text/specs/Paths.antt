-- The reply to a query about a path of fields from a local at a place.
use Rattle.std.specs.Prelude.{◌≡◌, ℕ, ◌++◌, List, ◌∷◌, codes, length}
use Rattle.link_rules.specs.Linked.{LinkedProgram}
use Rattle.lists.specs.Lists.{Each}
use Rattle.link_sites.specs.declared.site.Site.{Site}
use Rattle.spds_rules.specs.declared.node.Node.{Node}
use Rattle.report_text.specs.Answers.{IsSiteLine, IsTargetText, count_lines}
use Rattle.report_text.specs.Lines.{text_of}

-- the line that repeats a query of a path: the text of the node, and the word that spells the fields
pub record IsPathLine (p : LinkedProgram) (n : Node) (fields line : List ℕ) : Type 0 where
  pub target : List ℕ
  pub target_is : IsTargetText p n target
  pub line_is : line ≡ codes "paths " ++ target ++ codes " " ++ fields

-- the reply that answers which sites are at the end of a path: a line for the query, one for each site, two for the counts
pub record IsPathText (p : LinkedProgram) (n : Node) (fields : List ℕ) (sites : List Site) (demanded : ℕ) (text : List ℕ) : Type 0 where
  pub query : List ℕ
  pub lines : List (List ℕ)
  pub query_is : IsPathLine p n fields query
  pub lines_are : Each (IsSiteLine p) sites lines
  pub text_is : text ≡ text_of (query ∷ (lines ++ count_lines (length sites) demanded))
