-- What `explain` gives as evidence.
use Rattle.std.specs.Io.KnownBytes.{Appends}
use Rattle.std.specs.Prelude.{ℕ, ◌≤◌, List, Option}
use Rattle.lists.specs.Lists.{Has}
use Rattle.link_rules.specs.Linked.{LinkedProgram}
use Rattle.link_sites.specs.declared.site.Site.{Site}
use Rattle.spds_rules.specs.Answers.{IsAnswered}
use Rattle.spds_rules.specs.Demand.{about}
use Rattle.spds_rules.specs.declared.node.Node.{Node}
use Rattle.query_core.specs.Places.{IsPlaceOf}
use Rattle.boom_words.specs.Requests.{PointsTo}
use Rattle.cert_query.specs.Replays.{IsAccepted}
use Rattle.explain_text.specs.Explanations.{IsExplainText, IsExplanation}

-- The answer about the place was written, and each site that it prints is in both systems at the node. With each site stands a certificate of the node that shows it:
-- its lines are certified for the site, none stands twice, its claim needs each of them, and no derivation in the system of fields is shorter than the one
-- that it writes down. Its text spells it, and a replay accepts it with each budget of at least the size of the demand, which is printed.
pub record PrintsExplained (p : LinkedProgram) (asked : PointsTo) (old new : Option (List ℕ)) : Type 0 where
  pub node : Node
  pub place : IsPlaceOf p asked.method asked.index asked.local node
  pub sites : List Site
  pub demanded : ℕ
  pub text : List ℕ
  pub told : IsExplainText p node sites demanded text
  pub wrote : Appends old new text
  pub answered : (o : Site) → Has sites o → IsAnswered p (about node) node o
  pub replayed : (o : Site) (own : List (List ℕ)) (e : IsExplanation p node o own) (budget : ℕ) → demanded ≤ budget
      → IsAccepted p budget e.certificate node o demanded
