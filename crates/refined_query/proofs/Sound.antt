-- What a query answers over the program that is left holds for each run of the first one.
use Rattle.std.proofs.Common.{ℕ, List, All, refl, sym, subst}
use Rattle.link_laws.proofs.Lists.{all_at}
use Rattle.link_rules.specs.Linked.{LinkedProgram}
use Rattle.link_rules.specs.WellLinked.{IsWellLinked}
use Rattle.link_sites.specs.declared.site.Site.{Site}
use Rattle.link_sites.specs.Sites.{IsSite}
use Rattle.demand_set.proofs.Standing.{node_site}
use Rattle.query_core.specs.Answers.{HoldsAllRuns}
use Rattle.refine_rules.proofs.Whole.{rounds_keep}
use Rattle.run_covers.specs.Covers.{IsCovered}
use Rattle.run_sound.proofs.Simulating.{runs_answered}
use Rattle.spds_laws.proofs.Within.{fields_site}
use Rattle.spds_rules.specs.declared.node.Node.{Node}
use Rattle.spds_rules.specs.Answers.{AreAnswered, IsAnswered}
use Rattle.spds_rules.specs.Demand.{Demand, Demanded, about}
use Rattle.spds_rules.specs.Systems.{Meets}
use Rattle.refined_query.specs.Answers.{IsRefinedAnswer}
use Rattle.refined_query.proofs.Left.{left_site, left_well}

-- what a local holds is of a site of its node's answer
answer_sound : (q : LinkedProgram) → IsWellLinked q → IsCovered q → (n : Node) (sites : List Site) → AreAnswered q (about n) n sites → HoldsAllRuns q n sites
answer_sound q well covered n sites answer count s number frame x o run holds is =
    let target = subst (Demand q (about n)) is (Demanded.target (0, refl)) in
    let found = runs_answered q well covered (about n) count s number frame x o run holds target in
    (found.0, found.1, (answer.each found.0.site).1 (subst (λ (m : Node). IsAnswered q (about n) m found.0.site) (sym is) found.2))

module _ (p : LinkedProgram) (well : IsWellLinked p) (rounds budget : ℕ) (n : Node) (narrowed : ℕ) (sites : List Site) (demanded : ℕ)
    (a : IsRefinedAnswer p rounds budget n narrowed sites demanded) where
  -- the runs are those of the first program
  pub refined_holds : IsCovered p → HoldsAllRuns p n sites
  refined_holds covered = λ count s number frame x o run holds is.
      let kept = rounds_keep p a.left budget rounds well covered a.refined in
      answer_sound a.left kept.well kept.covered n sites a.answer.answer count s number frame x o (kept.runs.to count s run) holds is

  -- the sites are those of the first program
  pub refined_sites_stand : All (IsSite p) sites
  refined_sites_stand = all_at (IsSite p) sites (λ i o e.
      let q = a.left in
      let site = fields_site q (about n) (Meets q (about n)) o ((a.answer.answer.each o).0 (i, e)).0 in
      left_site budget p o a.refined (node_site q (left_well budget p well a.refined).form site.0 o site.1.0.0 site.1.0.1))
