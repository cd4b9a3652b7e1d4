-- The reply to a query about a local at a place.
use Rattle.std.specs.Prelude.{◌≡◌, ℕ, ◌++◌, List, [], ◌∷◌, Some, false, codes, length, slice_get}
use Rattle.std.specs.Fmt.{decimal}
use Rattle.link_rules.specs.Linked.{LinkedMethod, LinkedProgram}
use Rattle.lists.specs.Lists.{Each}
use Rattle.link_sites.specs.declared.place.Place.{Place}
use Rattle.link_sites.specs.declared.site.Site.{Site}
use Rattle.spds_rules.specs.declared.node.Node.{Node}
use Rattle.spds_rules.specs.declared.node.Var.{Var}
use Rattle.spds_rules.specs.declared.node.Var.TheVariants.{Local}
use Rattle.spds_rules.specs.Nodes.{IsNode}
use Rattle.report_text.specs.Lines.{text_of}
use Rattle.report_text.specs.Texts.{IsPlaceText, IsSiteText}

-- the variable is a local
abbrev pub IsLocal : Var → Type 0
IsLocal (Local x) = Unit {0}
IsLocal _ = ⊥

-- a node that a query may name: a local just before a statement of the program
pub record IsQueryNode (p : LinkedProgram) (n : Node) : Type 0 where
  pub is_node : IsNode p n
  pub unraised : n.place.raised ≡ false
  pub is_local : IsLocal n.var

-- the name of a local of the method of a place
pub record IsLocalName (p : LinkedProgram) (place : Place) (x : ℕ) (name : List ℕ) : Type 0 where
  pub method : LinkedMethod
  pub there : slice_get p.methods place.method ≡ Some method
  pub named : slice_get method.locals x ≡ Some name

-- the name of the local that a node names
abbrev pub IsVarName : LinkedProgram → Place → Var → List ℕ → Type 0
IsVarName p place (Local x) name = IsLocalName p place x name
IsVarName p place _ name = ⊥

-- the text of a node that names a local: the place, a space, the name
pub record IsTargetText (p : LinkedProgram) (n : Node) (text : List ℕ) : Type 0 where
  pub at : List ℕ
  pub name : List ℕ
  pub at_is : IsPlaceText p n.place at
  pub name_is : IsVarName p n.place n.var name
  pub text_is : text ≡ at ++ codes " " ++ name

-- the line that repeats a query: its word and its target
pub record IsQueryLine (p : LinkedProgram) (word : List ℕ) (n : Node) (line : List ℕ) : Type 0 where
  pub target : List ℕ
  pub target_is : IsTargetText p n target
  pub line_is : line ≡ word ++ codes " " ++ target

-- the line of a site behind a word and its space
pub record IsWordedSite (p : LinkedProgram) (word : List ℕ) (site : Site) (line : List ℕ) : Type 0 where
  pub text : List ℕ
  pub is_text : IsSiteText p site text
  pub line_is : line ≡ word ++ text

-- the line of a site
abbrev pub IsSiteLine : LinkedProgram → Site → List ℕ → Type 0
IsSiteLine p = IsWordedSite p (codes "site ")

-- the lines with the number of sites and with the size of the demand
abbrev pub count_lines : ℕ → ℕ → List (List ℕ)
count_lines sites demanded = (codes "sites " ++ decimal sites) ∷ (codes "demanded " ++ decimal demanded) ∷ []

-- the reply that answers which sites a local may hold: a line for the query, one for each site, two for the counts
pub record IsAnswerText (p : LinkedProgram) (n : Node) (sites : List Site) (demanded : ℕ) (text : List ℕ) : Type 0 where
  pub query : List ℕ
  pub lines : List (List ℕ)
  pub query_is : IsQueryLine p (codes "points-to") n query
  pub lines_are : Each (IsSiteLine p) sites lines
  pub text_is : text ≡ text_of (query ∷ (lines ++ count_lines (length sites) demanded))

-- the reply that accepts a certificate: a line for the target, one for the site that is claimed, one with the size of the demand
pub record IsAcceptedText (p : LinkedProgram) (n : Node) (site : Site) (demanded : ℕ) (text : List ℕ) : Type 0 where
  pub query : List ℕ
  pub line : List ℕ
  pub query_is : IsQueryLine p (codes "accepted") n query
  pub line_is : IsSiteLine p site line
  pub text_is : text ≡ text_of (query ∷ line ∷ (codes "demanded " ++ decimal demanded) ∷ [])

-- the line with the number of pairs of a call and a target that are gone
abbrev pub narrowed_line : ℕ → List ℕ
narrowed_line narrowed = codes "narrowed " ++ decimal narrowed

-- the reply that answers which sites a local may hold where calls are refined: a line for the query, one for what is gone, one for each site, two for the
-- counts
pub record IsRefinedText (p : LinkedProgram) (n : Node) (narrowed : ℕ) (sites : List Site) (demanded : ℕ) (text : List ℕ) : Type 0 where
  pub query : List ℕ
  pub lines : List (List ℕ)
  pub query_is : IsQueryLine p (codes "refined") n query
  pub lines_are : Each (IsSiteLine p) sites lines
  pub text_is : text ≡ text_of (query ∷ narrowed_line narrowed ∷ (lines ++ count_lines (length sites) demanded))
