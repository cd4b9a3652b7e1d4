-- What `points-to` gives as evidence.
use Rattle.std.specs.Io.KnownBytes.{Appends}
use Rattle.std.specs.Prelude.{ℕ, List, Option}
use Rattle.lists.specs.Lists.{Has}
use Rattle.link_rules.specs.Linked.{LinkedProgram}
use Rattle.link_sites.specs.declared.site.Site.{Site}
use Rattle.spds_rules.specs.Answers.{IsAnswered}
use Rattle.spds_rules.specs.Demand.{about}
use Rattle.spds_rules.specs.declared.node.Node.{Node}
use Rattle.cert_laws.specs.Shown.{IsShown}
use Rattle.query_core.specs.Places.{IsPlaceOf}
use Rattle.boom_words.specs.Requests.{PointsTo}
use Rattle.report_text.specs.Answers.{IsAnswerText}

-- both systems have an object of the site at the node, and some list of lines is certified, which says so step by step
pub record IsEvident (p : LinkedProgram) (n : Node) (o : Site) : Type 0 where
  pub answered : IsAnswered p (about n) n o
  pub shown : IsShown p n o

-- The answer about the place was written, and each site that it prints is evident.
pub record PrintsShown (p : LinkedProgram) (asked : PointsTo) (old new : Option (List ℕ)) : Type 0 where
  pub node : Node
  pub place : IsPlaceOf p asked.method asked.index asked.local node
  pub sites : List Site
  pub demanded : ℕ
  pub text : List ℕ
  pub told : IsAnswerText p node sites demanded text
  pub wrote : Appends old new text
  pub shown : (o : Site) → Has sites o → IsEvident p node o
