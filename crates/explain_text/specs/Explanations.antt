-- The reply to a query of one local, with a certificate for each site.
use Rattle.std.specs.Prelude.{◌≡◌, ℕ, ◌≤◌, ◌++◌, List, [], ◌∷◌, codes, length}
use Rattle.std.specs.Fmt.{decimal}
use Rattle.link_rules.specs.Linked.{LinkedProgram}
use Rattle.link_sites.specs.declared.site.Site.{Site}
use Rattle.spds_rules.specs.declared.node.Node.{Node}
use Rattle.cert_rules.specs.declared.certificate.Certificate.{Certificate}
use Rattle.cert_rules.specs.Lengths.{HasLength}
use Rattle.cert_rules.specs.Spelled.{SpellsCertificate, ended_lines}
use Rattle.cert_text.specs.Written.{written_lines}
use Rattle.cert_rules.specs.Told.{as_told}
use Rattle.cert_trace.specs.Explained.{IsExplained}
use Rattle.query_core.specs.Answers.{IsAnswerTo}
use Rattle.report_text.specs.Answers.{IsQueryLine, IsSiteLine, count_lines}
use Rattle.report_text.specs.Lines.{text_of}

-- the lines about a certificate: how many rules its field derivation has, as 32 bits tell it, how many lines stand behind the one that names its target,
-- and the certificate
abbrev pub certificate_lines : ℕ → Certificate → List (List ℕ)
certificate_lines rules c = (codes "length " ++ decimal (as_told rules)) ∷ (codes "certificate " ++ decimal (length c.lines)) ∷ written_lines c

-- the lines of a site: its own, and those about a certificate that shows it. The text of the certificate spells it
pub record IsExplanation (p : LinkedProgram) (n : Node) (o : Site) (lines : List (List ℕ)) : Type 0 where
  pub certificate : Certificate
  pub explained : IsExplained p n o certificate
  pub spells : SpellsCertificate (ended_lines (written_lines certificate)) certificate
  pub rules : ℕ
  pub has_length : HasLength certificate.lines rules
  pub site : List ℕ
  pub site_is : IsSiteLine p o site
  pub lines_are : lines ≡ site ∷ certificate_lines rules certificate

-- the lines of sites, one after another
abbrev pub AreExplanations : LinkedProgram → Node → List Site → List (List ℕ) → Type 0
AreExplanations p n [] lines = lines ≡ []
AreExplanations p n (o ∷ sites) lines =
    (own : List (List ℕ)) × (others : List (List ℕ)) × IsExplanation p n o own × AreExplanations p n sites others × (lines ≡ own ++ others)

-- the reply that answers which sites a local may hold, and shows it: a line for the query, those of each site, two for the counts
pub record IsExplainText (p : LinkedProgram) (n : Node) (sites : List Site) (demanded : ℕ) (text : List ℕ) : Type 0 where
  pub query : List ℕ
  pub lines : List (List ℕ)
  pub query_is : IsQueryLine p (codes "explain") n query
  pub lines_are : AreExplanations p n sites lines
  pub text_is : text ≡ text_of (query ∷ (lines ++ count_lines (length sites) demanded))

-- the answer about a node within the budget, as it is told
pub record IsAnswerTold (p : LinkedProgram) (budget : ℕ) (n : Node) (text : List ℕ) : Type 0 where
  pub sites : List Site
  pub demanded : ℕ
  pub answer : IsAnswerTo p n sites demanded
  pub affordable : demanded ≤ budget
  pub told : IsExplainText p n sites demanded text
