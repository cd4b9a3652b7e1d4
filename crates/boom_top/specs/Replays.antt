-- What `replay` is answered: the status and the lines, when it is answered, and its evidence.
use Rattle.std.specs.Io.KnownBytes.{Appends}
use Rattle.std.specs.Prelude.{◌≡◌, ℕ, ◌⊎◌, List, Option}
use Rattle.link_rules.specs.Linked.{LinkedProgram}
use Rattle.link_sites.specs.declared.site.Site.{Site}
use Rattle.spds_rules.specs.Answers.{IsAnswered}
use Rattle.spds_rules.specs.Demand.{about}
use Rattle.spds_rules.specs.declared.node.Node.{Node}
use Rattle.cert_rules.specs.Certified.{IsCertified}
use Rattle.cert_rules.specs.Spelled.{IsFirstBadLine, SpellsCertificate}
use Rattle.cert_rules.specs.declared.certificate.Certificate.{Certificate}
use Rattle.report_text.specs.Answers.{IsAcceptedText}
use Rattle.report_text.specs.Lines.{text_of}
use Rattle.cert_query.specs.Replays.{IsAccepted, IsOverBudget, IsRejectedAt}
use Rattle.boom_top.specs.Refusals.{IsRefusedBy}
use Rattle.boom_top.specs.declared.status.Status.{Status}
use Rattle.boom_top.specs.declared.status.Status.TheVariants.{Done, NotCertificate, OverBudget, Rejected}

-- the certificate is accepted, which is told by what it claims and the size of its demand
pub record IsClaimTold (p : LinkedProgram) (budget : ℕ) (c : Certificate) (lines : List (List ℕ)) : Type 0 where
  pub node : Node
  pub site : Site
  pub demanded : ℕ
  pub accepted : IsAccepted p budget c node site demanded
  pub told : IsAcceptedText p node site demanded (text_of lines)

-- about a certificate: a line refuses it, its demand is over the budget, or it is accepted
abbrev pub IsCertificateReply : LinkedProgram → ℕ → Certificate → Status → List (List ℕ) → Type 0
IsCertificateReply p budget c status lines = ((line : ℕ) × IsRejectedAt p budget c line × IsRefusedBy (Rejected line) status lines)
    ⊎ (IsOverBudget p budget c × IsRefusedBy (OverBudget budget) status lines)
    ⊎ (IsClaimTold p budget c lines × (status ≡ Done))

-- about a text: it spells no certificate, or one
abbrev pub IsReplayReply : LinkedProgram → ℕ → List ℕ → Status → List (List ℕ) → Type 0
IsReplayReply p budget text status lines = ((at : ℕ) × IsFirstBadLine text at × IsRefusedBy (NotCertificate at) status lines)
    ⊎ ((c : Certificate) × SpellsCertificate text c × IsCertificateReply p budget c status lines)

-- a text spells a certificate for a site, within the budget
abbrev pub IsCertificateOf : LinkedProgram → ℕ → List ℕ → Type 0
IsCertificateOf p budget text = (c : Certificate) × SpellsCertificate text c × ((n : Node) × (o : Site) × (demanded : ℕ) × IsAccepted p budget c n o demanded)

-- What a certificate claims was written, and it is the one that the text spells, whose lines are certified for the site that is printed: both systems have
-- an object of the site at the target.
pub record PrintsCertified (p : LinkedProgram) (certificate : List ℕ) (old new : Option (List ℕ)) : Type 0 where
  pub spelled : Certificate
  pub spells : SpellsCertificate certificate spelled
  pub site : Site
  pub demanded : ℕ
  pub text : List ℕ
  pub told : IsAcceptedText p spelled.target site demanded text
  pub wrote : Appends old new text
  pub certified : IsCertified p spelled.target spelled.lines site
  pub answered : IsAnswered p (about spelled.target) spelled.target site
