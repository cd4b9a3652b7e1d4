-- The node of a place, and the sites of its answer, as their texts ask for them.
use Rattle.std.proofs.Common.{ℕ, List, [], ◌∷◌, All}
use Rattle.link_rules.specs.Linked.{LinkedProgram}
use Rattle.link_rules.specs.WellLinked.{IsInForm, IsWellLinked}
use Rattle.link_laws.proofs.Lists.{all_at}
use Rattle.link_sites.specs.declared.site.Site.{Site}
use Rattle.link_sites.specs.Sites.{IsSite}
use Rattle.spds_rules.specs.declared.node.Node.{Node}
use Rattle.spds_laws.proofs.Within.{fields_site}
use Rattle.demand_set.proofs.Standing.{node_site}
use Rattle.spds_rules.specs.Systems.{Meets}
use Rattle.cert_rules.specs.declared.line.Line.{Line}
use Rattle.cert_rules.specs.Certified.{IsCertified}
use Rattle.spds_rules.specs.Demand.{about, asked}
use Rattle.cert_laws.proofs.Sound.{certified_answered}
use Rattle.explain_text.proofs.Asked.{sites_stand}
use Rattle.query_core.specs.Answers.{AreSharedBy, IsAnswerTo}

-- the sites of an answer are sites of the program
pub answer_sites : (p : LinkedProgram) → IsInForm p → (n : Node) (sites : List Site) (demanded : ℕ) → IsAnswerTo p n sites demanded → All (IsSite p) sites
answer_sites p form n sites demanded answer = sites_stand p n form sites answer.answer

-- so are those that two nodes share
pub shared_sites : (p : LinkedProgram) → IsInForm p → (a b : Node) (sites : List Site) (demanded : ℕ) → AreSharedBy p a b sites demanded → All (IsSite p) sites
shared_sites p form a b sites demanded answer = all_at (IsSite p) sites (λ i o e.
    let q = asked (a ∷ b ∷ []) in
    let site = fields_site p q (Meets p q) o ((answer.shared.each o).0 (i, e)).0.0 in
    node_site p form site.0 o site.1.0.0 site.1.0.1)

-- so is one that lines are certified for
pub certified_site : (p : LinkedProgram) → IsWellLinked p → (n : Node) (lines : List Line) (o : Site) → IsCertified p n lines o → IsSite p o
certified_site p well n lines o c =
    let site = fields_site p (about n) (Meets p (about n)) o (certified_answered p n well lines o c).0 in
    node_site p well.form site.0 o site.1.0.0 site.1.0.1
