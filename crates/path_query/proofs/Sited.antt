-- The sites at the end of a path are sites of the program.
use Rattle.std.proofs.Common.{ℕ, List, [], ◌∷◌, All}
use Rattle.link_rules.specs.Linked.{LinkedProgram}
use Rattle.link_rules.specs.WellLinked.{IsInForm}
use Rattle.link_laws.proofs.Lists.{all_at}
use Rattle.link_sites.specs.declared.site.Site.{Site}
use Rattle.link_sites.specs.Sites.{IsSite}
use Rattle.spds_rules.specs.declared.node.Node.{Node}
use Rattle.spds_rules.specs.Answers.{IsAnswered}
use Rattle.spds_rules.specs.Demand.{Asked}
use Rattle.spds_rules.specs.Systems.{Meets}
use Rattle.spds_laws.proofs.Within.{fields_site}
use Rattle.demand_set.proofs.Standing.{node_site}
use Rattle.path_query.specs.Paths.{IsBehind, IsBehindAll, IsPathAnswer}

module _ (p : LinkedProgram) (q : Asked) where
  -- the site may be at some node
  abbrev IsSomewhere : Site → Type 0
  IsSomewhere o = (m : Node) × IsAnswered p q m o

  end_somewhere : (P : Site → Type 0) → ((o : Site) → P o → IsSomewhere o) → (fields : List ℕ) (o : Site) → IsBehindAll p q P fields o → IsSomewhere o
  end_somewhere P by [] o h = by o h
  end_somewhere P by (field ∷ rest) o h = end_somewhere (IsBehind p q P field) (λ o behind. (behind.store.arg, behind.hops.arg)) rest o h

-- all sites of an answer stand in the program
pub path_sites_stand : (p : LinkedProgram) → IsInForm p → (n : Node) (fields : List ℕ) (sites : List Site) (demanded : ℕ)
    → IsPathAnswer p n fields sites demanded → All (IsSite p) sites
path_sites_stand p form n fields sites demanded answer = all_at (IsSite p) sites (λ i o e.
    let q = answer.query in
    let there = end_somewhere p q (IsAnswered p q n) (λ o h. (n, h)) fields o ((answer.answer.each o).0 (i, e)) in
    let site = fields_site p q (Meets p q) o there.1.0 in
    node_site p form site.0 o site.1.0.0 site.1.0.1)
