-- What shows, of each site of an answer, that it is one: the certificate.
use Rattle.std.specs.Prelude.{◌≡◌, ℕ, ◌+◌, ◌<◌, ◌^◌, All, length}
use Rattle.lists.specs.Lists.{IsApart}
use Rattle.link_rules.specs.Linked.{LinkedProgram}
use Rattle.link_sites.specs.declared.site.Site.{Site}
use Rattle.spds_rules.specs.declared.node.Node.{Node}
use Rattle.cert_rules.specs.declared.certificate.Certificate.{Certificate}
use Rattle.cert_rules.specs.Certified.{IsCertified}
use Rattle.cert_rules.specs.Lengths.{HasLength, IsShortest}
use Rattle.cert_rules.specs.Spelled.{FitsLine}
use Rattle.cert_make.specs.Needs.{IsLean}

-- a certificate of the target that shows the site: its lines are certified for it, none stands twice, its claim needs each, its field derivation is a
-- shortest one, and it can be written as a text
pub record IsExplained (p : LinkedProgram) (t : Node) (o : Site) (c : Certificate) : Type 0 where
  pub is_target : c.target ≡ t
  pub certified : IsCertified p t c.lines o
  pub apart : IsApart c.lines
  pub lean : IsLean c.lines
  pub shortest : (length : ℕ) → HasLength c.lines length → IsShortest p t o length
  pub fits : All FitsLine c.lines
  pub few : length c.lines + 1 < 2 ^ 32
