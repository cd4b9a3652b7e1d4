-- Which targets the answers of receivers lead to, and what is left after so many rounds. This is this project's own, over the answers of Späth, Ali and
-- Bodden 2019.
use Rattle.std.specs.Prelude.{◌≡◌, ℕ, zero, suc, ◌↔◌, ◌⊎◌, List, Some, slice_get}
use Rattle.class_rules.specs.Lookups.{Resolve}
use Rattle.class_rules.specs.Rows.{Sub}
use Rattle.jim_ast.specs.declared.syntax.Mode.{Mode}
use Rattle.jim_ast.specs.declared.syntax.Mode.TheVariants.{Special, Virtual, Interface, Static}
use Rattle.link_rules.specs.Linked.{LinkedProgram}
use Rattle.link_rules.specs.WellLinked.{HasTarget}
use Rattle.link_sites.specs.declared.site.Site.{Site}
use Rattle.link_sites.specs.Places.{before}
use Rattle.link_sites.specs.Sites.{IsSiteClass}
use Rattle.narrow_rules.specs.declared.kept.Kept.{Kept}
use Rattle.narrow_rules.specs.Narrowed.{IsKept, IsNarrowed}
use Rattle.spds_rules.specs.declared.node.Node.{Node}
use Rattle.spds_rules.specs.declared.node.Var.TheVariants.{Local}
use Rattle.spds_rules.specs.Answers.{IsAnswered}
use Rattle.spds_rules.specs.Demand.{Demand, about}
use Rattle.lists.specs.Lists.{HasMore}
use Rattle.spds_rules.specs.Nodes.{at}

-- the node of the receiver of the call at an index of a method
abbrev pub receiver_at : ℕ → ℕ → ℕ → Node
receiver_at number index x = at (before number index) (Local x)

-- the class of an object decides which method a call of this mode runs
abbrev pub GoesByObject : Mode → Type 0
GoesByObject Virtual = Unit {0}
GoesByObject Interface = Unit {0}
GoesByObject Special = ⊥
GoesByObject Static = ⊥

-- an object of a site that the query of the node answers is of the class that is called or of one below it, and look-up from there finds the target
pub record IsSelected (p : LinkedProgram) (n : Node) (class key target : ℕ) : Type 0 where
  pub site : Site
  pub answered : IsAnswered p (about n) n site
  pub from : ℕ
  pub of_class : IsSiteClass p site from
  pub below : Sub p.rows from class
  pub row : ℕ
  pub finds : Resolve p.rows from key (Some row)
  pub numbered : slice_get p.method_rows target ≡ Some row

-- a target that a call on an object keeps: each where the query of its receiver demands more nodes than the budget allows, and else those that are selected
pub record IsToKeep (p : LinkedProgram) (budget number index target : ℕ) : Type 0 where
  pub has : HasTarget p number index target
  pub goes : GoesByObject has.mode
  pub x : ℕ
  pub receiver : has.receiver ≡ Some x
  pub stays : HasMore (Demand p (about (receiver_at number index x))) budget ⊎ IsSelected p (receiver_at number index x) has.class has.key target

-- these are the targets that calls on objects keep
abbrev pub AreToKeep : LinkedProgram → ℕ → List Kept → Type 0
AreToKeep p budget kept = (number index target : ℕ) → IsKept kept number index target ↔ IsToKeep p budget number index target

-- one round: all calls are looked at in the first program
abbrev pub IsRefined : LinkedProgram → ℕ → LinkedProgram → Type 0
IsRefined p budget q = (kept : List Kept) × AreToKeep p budget kept × IsNarrowed p kept q

-- so many rounds, each of the program that the one before it left
pub data IsRefinedBy (budget : ℕ) (p : LinkedProgram) : ℕ → LinkedProgram → Type 0 where
  none : IsRefinedBy budget p zero p
  round : {rounds : ℕ} {q r : LinkedProgram} → IsRefinedBy budget p rounds q → IsRefined q budget r → IsRefinedBy budget p (suc rounds) r
