-- What certificates show.
use Rattle.std.specs.Prelude.{List}
use Rattle.link_rules.specs.Linked.{LinkedProgram}
use Rattle.link_sites.specs.declared.site.Site.{Site}
use Rattle.spds_rules.specs.declared.node.Node.{Node}
use Rattle.cert_rules.specs.declared.line.Line.{Line}
use Rattle.cert_rules.specs.Certified.{IsCertified}

-- some list of lines shows that the site is in the answer of the target
abbrev pub IsShown : LinkedProgram → Node → Site → Type 0
IsShown p target o = (lines : List Line) × IsCertified p target lines o
