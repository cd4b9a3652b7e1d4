-- The answer about a place, and its sites.
use Rattle.std.proofs.Common.{ℕ, List, [], ◌∷◌, All, sym, ap, subst, arith}
use Rattle.link_rules.specs.Linked.{LinkedProgram}
use Rattle.link_rules.specs.WellLinked.{IsInForm}
use Rattle.link_laws.proofs.Lists.{all_at}
use Rattle.link_sites.specs.declared.site.Site.{Site}
use Rattle.link_sites.specs.Sites.{IsSite}
use Rattle.spds_rules.specs.declared.node.Node.{Node}
use Rattle.spds_rules.specs.Answers.{AreAnswered, IsAnswered}
use Rattle.spds_rules.specs.Systems.{Meets}
use Rattle.spds_laws.proofs.Within.{fields_site}
use Rattle.demand_set.proofs.Standing.{node_site}
use Rattle.spds_rules.specs.Demand.{about}
use Rattle.query_core.specs.Answers.{IsOver}
use Rattle.query_core.specs.Places.{IsPlaceOf}
use Rattle.query_core.proofs.Determined.{answer_over}
use Rattle.query_core.proofs.Posed.{place_node}
use Rattle.report_text.specs.Answers.{IsLocal, IsQueryNode}
use Rattle.explain_text.specs.Explanations.{IsAnswerTold}

-- a place is a node that a query may name
pub place_named : (p : LinkedProgram) (text : List ℕ) (index : ℕ) (name : List ℕ) (n : Node) → IsPlaceOf p text index name n → IsQueryNode p n
place_named p text index name n place = record {
  is_node = place_node p text index name n place;
  unraised = ap (λ (m : Node). m.place.raised) place.is;
  is_local = subst IsLocal (sym (ap (λ (m : Node). m.var) place.is)) tt;
}

module _ (p : LinkedProgram) (n : Node) where
  -- the sites of an answer, one by one
  pub sites_answered : (sites : List Site) → AreAnswered p (about n) n sites → All (IsAnswered p (about n) n) sites
  sites_answered sites are = all_at (IsAnswered p (about n) n) sites (λ i o e. (are.each o).0 (i, e))

  -- they are sites of the program
  pub sites_stand : IsInForm p → (sites : List Site) → AreAnswered p (about n) n sites → All (IsSite p) sites
  sites_stand form sites are = all_at (IsSite p) sites (λ i o e.
      let site = fields_site p (about n) (Meets p (about n)) o ((are.each o).0 (i, e)).0 in
      node_site p form site.0 o site.1.0.0 site.1.0.1)

  -- what is told isn't over the budget
  pub told_within : (budget : ℕ) (text : List ℕ) → IsAnswerTold p budget n text → IsOver p (n ∷ []) budget → ⊥
  told_within budget text told over =
      let most = told.affordable in
      omega (arith, most, answer_over p n told.sites told.demanded budget told.answer over)
