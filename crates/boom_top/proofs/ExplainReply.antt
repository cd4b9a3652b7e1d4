-- What `explain` is answered.
use Rattle.std.proofs.Common.{◌≡◌, ℕ, ◌≤◌, ◌++◌, List, ◌∷◌, Option, inl, inr, length, subst, sym}
use Rattle.std.specs.Io.KnownBytes.{Appends}
use Rattle.lists.specs.Lists.{Counts}
use Rattle.link_rules.specs.Linked.{LinkedProgram}
use Rattle.link_rules.specs.WellLinked.{IsWellLinked}
use Rattle.link_sites.specs.declared.site.Site.{Site}
use Rattle.spds_rules.specs.Demand.{Demand, about}
use Rattle.spds_rules.specs.declared.node.Node.{Node}
use Rattle.run_covers.specs.Covers.{IsCovered}
use Rattle.cert_rules.specs.Certified.{IsCertified}
use Rattle.query_core.proofs.NamedPlaces.{place_one, place_there}
use Rattle.query_core.proofs.Sound.{answer_sound}
use Rattle.query_core.specs.Answers.{IsAnswerTo}
use Rattle.boom_words.specs.Requests.{PointsTo}
use Rattle.report_text.specs.Answers.{IsQueryNode, count_lines}
use Rattle.report_text.specs.Lines.{text_of}
use Rattle.cert_query.specs.Replays.{IsAccepted}
use Rattle.explain_text.proofs.Asked.{place_named}
use Rattle.explain_text.proofs.Found.{has_explained}
use Rattle.explain_text.specs.Explanations.{IsExplainText, IsExplanation}
use Rattle.boom_top.specs.Explain.{PrintsExplained}
use Rattle.boom_top.specs.Places.{CoversPlace, IsAnswered, IsPlaceReply}
use Rattle.boom_top.specs.Printed.{PrintsAllRuns}
use Rattle.boom_top.specs.declared.status.Status.TheVariants.{Done, NoSuchPlace, OverBudget}
use Rattle.boom_top.proofs.Lines.{has_middle}
use Rattle.boom_top.proofs.PlaceReply.{place_ones}
use Rattle.boom_top.proofs.Splits.{AreOne}

-- what is printed with a site is accepted by a replay
explanation_accepted : (p : LinkedProgram) (n : Node) (sites : List Site) (demanded : ℕ) → IsQueryNode p n → IsAnswerTo p n sites demanded → (o : Site)
    (own : List (List ℕ)) (e : IsExplanation p n o own) (budget : ℕ) → demanded ≤ budget → IsAccepted p budget e.certificate n o demanded
explanation_accepted p n sites demanded named answer o own e budget enough =
    let c = e.certificate in
    let same = sym e.explained.is_target in record {
      is_target = same;
      askable = record {
        is_node = subst (IsQueryNode p) same named;
        size = subst (λ (m : Node). Counts (Demand p (about m)) demanded) same answer.size;
        affordable = enough;
      };
      certified = subst (λ (m : Node). IsCertified p m c.lines o) same e.explained.certified;
    }

-- the replies are one, but for their texts: a site may have several certificates
pub explain_ones : (p : LinkedProgram) (asked : PointsTo) → AreOne p (IsPlaceReply p asked (IsExplainText p)) (Unit {0} → ⊥)
explain_ones p asked = place_ones p asked (IsExplainText p) (Unit {0} → ⊥) (λ form plain n xs ys a b. absurd (plain tt))

-- what is done covers each run
module _ (p : LinkedProgram) (well : IsWellLinked p) (covered : IsCovered p) (old new : Option (List ℕ)) (lines : List (List ℕ)) (wrote : Appends old new (text_of lines)) where
  -- the answer about a node has the line of the site of each object that a run brings
  explained_covered : (budget : ℕ) (n : Node) → IsAnswered p (IsExplainText p) budget n lines → PrintsAllRuns p n old new
  explained_covered budget n a = λ count state number frame x o run holds is.
      let found = answer_sound p well covered n a.sites a.demanded a.answer count state number frame x o run holds is in
      let line = has_explained p n a.sites a.told.lines a.told.lines_are found.0.site found.2 in (
        found.0,
        found.1,
        line.0,
        line.1,
        (
          text_of lines,
          wrote,
          record {
            lines = a.told.query ∷ (a.told.lines ++ count_lines (length a.sites) a.demanded);
            text_is = a.told.text_is;
            has = has_middle a.told.query a.told.lines (count_lines (length a.sites) a.demanded) line.0 line.2;
          },
        ),
      )

  pub explain_covered : (asked : PointsTo) → IsPlaceReply p asked (IsExplainText p) Done lines → CoversPlace p asked old new
  explain_covered asked (inl a) n place = absurd (place_there p asked.method asked.index asked.local n place a.0 a.1)
  explain_covered asked (inr (m, here, inl over)) n place = absurd (let no : Done ≡ OverBudget asked.budget = over.1.0 in cc)
  explain_covered asked (inr (m, here, inr a)) n place =
      explained_covered asked.budget n (subst (λ (n : Node). IsAnswered p (IsExplainText p) asked.budget n lines)
      (place_one p asked.method asked.index asked.local m n here place) a.0)

-- there is evidence for what is done
module _ (p : LinkedProgram) (old new : Option (List ℕ)) (lines : List (List ℕ)) (wrote : Appends old new (text_of lines)) where
  -- each site of an answer is shown by the certificate that is printed with it
  pub explain_evident : (asked : PointsTo) → IsPlaceReply p asked (IsExplainText p) Done lines → PrintsExplained p asked old new
  explain_evident asked (inl a) = absurd (let no : Done ≡ NoSuchPlace a.0 = a.2.0 in cc)
  explain_evident asked (inr (m, here, inl over)) = absurd (let no : Done ≡ OverBudget asked.budget = over.1.0 in cc)
  explain_evident asked (inr (m, here, inr a)) = record {
    node = m;
    place = here;
    sites = a.0.sites;
    demanded = a.0.demanded;
    text = text_of lines;
    told = a.0.told;
    wrote = wrote;
    answered = λ o has. (a.0.answer.answer.each o).0 has;
    replayed = explanation_accepted p m a.0.sites a.0.demanded (place_named p asked.method asked.index asked.local m here) a.0.answer;
  }
