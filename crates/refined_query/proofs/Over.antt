-- What a query demands of a program that is left, where its node stands and where its method has lost its statements.
use Rattle.std.proofs.Common.{◌≡◌, ℕ, List, [], ◌∷◌, Some, length, slice_get, refl, sym, ap, ◌∙◌, subst, inl, inr, arith}
use Rattle.lists.proofs.Places.{slice_get-there}
use Rattle.demand_set.specs.Demands.{DemandParts, IsDemandOf}
use Rattle.demand_set.specs.Walks.{HasAtMost}
use Rattle.link_rules.specs.declared.code.Code.{Code}
use Rattle.link_rules.specs.Linked.{LinkedMethod, LinkedProgram}
use Rattle.link_sites.specs.declared.site.Site.{Site}
use Rattle.spds_laws.proofs.Within.{fields_within}
use Rattle.spds_rules.specs.declared.node.Node.{Node}
use Rattle.spds_rules.specs.Answers.{AreAnswered}
use Rattle.spds_rules.specs.Demand.{Demand, about}
use Rattle.lists.specs.Lists.{HasMore}
use Rattle.spds_rules.specs.Nodes.{IsNode}
use Rattle.spds_rules.specs.Systems.{Meets}
use Rattle.refined_query.specs.Answers.{IsAnswerOver, IsDemandedBy}
use Rattle.refined_query.specs.Rounds.{StandsOrIsLost}

-- a list without elements
pub empty_list : (cs : List Code) → length cs ≡ 0 → cs ≡ []
empty_list [] e = refl
empty_list (c ∷ cs) e = absurd (omega (arith, e))

module _ (q : LinkedProgram) (n : Node) where
  -- the method of the node
  pub node_method : StandsOrIsLost q n → (m : LinkedMethod) × (slice_get q.methods n.place.method ≡ Some m)
  node_method (inl is) = (is.method, is.there)
  node_method (inr lost) = (lost.method, lost.there)

  -- a method without statements has no node
  pub no_node : (m : LinkedMethod) → slice_get q.methods n.place.method ≡ Some m → m.code ≡ [] → IsNode q n → ⊥
  no_node m there none is =
      let same : is.method ≡ m = let a = is.there in cc (a, there) in
      let code : is.method.code ≡ [] = ap (λ (x : LinkedMethod). x.code) same ∙ none in
      let here = subst (λ (cs : List Code). slice_get cs n.place.index ≡ Some is.code) code is.here in
      cc

  -- where there are statements, the node stands
  pub still_node : StandsOrIsLost q n → (m : LinkedMethod) → slice_get q.methods n.place.method ≡ Some m → (m.code ≡ [] → ⊥) → IsNode q n
  still_node (inl is) m there some = is
  still_node (inr lost) m there some =
      let same : lost.method ≡ m = let a = lost.there in cc (a, there) in
      absurd (some (ap (λ (x : LinkedMethod). x.code) (sym same) ∙ lost.none))

  module _ (no : IsNode q n → ⊥) where
    -- nothing is demanded, and there is no site
    pub lost_answer : (sites : List Site) → sites ≡ [] → IsAnswerOver q n sites 0
    lost_answer sites none = rw none (record {
      answer = record {
        each = λ o. (λ has. let e = has.1 in cc, λ a. absurd (no (fields_within q (about n) (Meets q (about n)) o a.0).0));
        ordered = λ i j d less within. absurd (omega (arith, less, within));
      };
      size = ([], record { each = λ x has. let e = has.1 in cc; all = λ x is. absurd (no is.0); apart = λ i j x e f. cc }, refl);
    })

    pub lost_few : (budget : ℕ) → HasMore (IsDemandedBy q n) budget → ⊥
    lost_few budget more =
        let long = more.more in
        let first = slice_get-there more.some 0 (omega (arith, long)) in
        no (more.each first.0 (0, first.1)).0

  module _ (is : IsNode q n) where
    -- what is demanded is its query's demand
    pub stands_answer : (sites : List Site) (demanded : ℕ) (d : DemandParts) → AreAnswered q (about n) n sites → IsDemandOf q (about n) d
        → demanded ≡ length d.nodes → IsAnswerOver q n sites demanded
    stands_answer sites demanded d answer demand size = record {
      answer = answer;
      size = (
        d.nodes,
        record { each = λ x has. (is, demand.nodes.each x has); all = λ x both. demand.nodes.all x both.1; apart = demand.nodes.apart },
        sym size,
      );
    }

    pub stands_more : (budget : ℕ) → HasMore (IsDemandedBy q n) budget → HasMore (Demand q (about n)) budget
    stands_more budget more = record { some = more.some; each = λ x has. (more.each x has).1; apart = more.apart; more = more.more }

    pub more_stands : (budget : ℕ) → HasMore (Demand q (about n)) budget → HasMore (IsDemandedBy q n) budget
    more_stands budget more = record { some = more.some; each = λ x has. (is, more.each x has); apart = more.apart; more = more.more }

    pub stands_few : (budget : ℕ) → HasAtMost (IsDemandedBy q n) budget → HasAtMost (Demand q (about n)) budget
    stands_few budget few = record { some = few.some; all = λ x demanded. few.all x (is, demanded); few = few.few }
