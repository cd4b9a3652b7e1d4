-- Which targets the sites of an answer lead to.
use Rattle.std.specs.Prelude.{◌≡◌, ℕ, ◌⊎◌, List, Option, Some, None, slice_get}
use Rattle.class_rules.specs.Lookups.{Resolve}
use Rattle.class_rules.specs.Rows.{Sub}
use Rattle.lists.specs.Lists.{Has, HasMore}
use Rattle.link_rules.specs.Linked.{LinkedProgram}
use Rattle.link_sites.specs.declared.site.Site.{Site}
use Rattle.link_sites.specs.Sites.{IsSiteClass}
use Rattle.lists.specs.Numbers.{Numbers}
use Rattle.refine_rules.specs.Refined.{IsSelected}
use Rattle.spds_rules.specs.declared.node.Node.{Node}
use Rattle.spds_rules.specs.Demand.{Demand, about}

-- an object of the site is of the class that is called or of one below it, and look-up from there finds the target
pub record IsFoundFrom (p : LinkedProgram) (s : Site) (class key target : ℕ) : Type 0 where
  pub from : ℕ
  pub of_class : IsSiteClass p s from
  pub below : Sub p.rows from class
  pub row : ℕ
  pub finds : Resolve p.rows from key (Some row)
  pub numbered : slice_get p.method_rows target ≡ Some row

-- so it is of one of the sites
abbrev pub IsChosen : LinkedProgram → List Site → ℕ → ℕ → ℕ → Type 0
IsChosen p sites class key target = (s : Site) × Has sites s × IsFoundFrom p s class key target

-- the target is one of those that were found; where nothing was asked, each is
abbrev pub IsAmong : Option (Numbers ℕ) → ℕ → Type 0
IsAmong (Some found) target = Has found.keys target
IsAmong None target = Unit {0}

-- what stays of a call on what the node holds
abbrev pub StaysFor : LinkedProgram → ℕ → Node → ℕ → ℕ → ℕ → Type 0
StaysFor p budget n class key target = HasMore (Demand p (about n)) budget ⊎ IsSelected p n class key target
