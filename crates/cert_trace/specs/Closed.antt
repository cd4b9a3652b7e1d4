-- Lines over which the rules give nothing more, and what these lines then give of each derivation.
use Rattle.std.specs.Prelude.{ℕ, List, length}
use Rattle.link_rules.specs.Linked.{LinkedProgram}
use Rattle.link_sites.specs.declared.place.Place.{Place}
use Rattle.link_sites.specs.declared.site.Site.{Site}
use Rattle.spds_rules.specs.declared.node.Node.{Node}
use Rattle.spds_rules.specs.declared.store.StoreAt.{StoreAt}
use Rattle.spds_rules.specs.Demand.{StartIn, about}
use Rattle.cert_rules.specs.declared.fact.Entry.TheVariants.{Base}
use Rattle.cert_rules.specs.declared.fact.Fact.TheVariants.{At, Met}
use Rattle.cert_rules.specs.declared.line.Side.{Side}
use Rattle.cert_rules.specs.Given.{Reads}
use Rattle.cert_lines.specs.Noted.{IsThere, Noted}
use Rattle.cert_work.specs.declared.wants.Wants.{Wants}
use Rattle.cert_work.specs.Rules.{AreWorked}
use Rattle.cert_work.specs.Wants.{AreWants, IsWanted}

-- As far as objects are followed, and they are wherever answers need it, what starts is there, and these meets are, and what the rules give of all lines.
pub record AreClosedIn (p : LinkedProgram) (t : Node) (wants : Wants) (w : Noted) (Meet : Site → Site → StoreAt → Type 0) : Type 0 where
  pub wanted : AreWants p t wants Meet
  pub worked : AreWorked p t wants w (length w.given)
  pub starts : (side : Side) (o : Site) (n : Node) → StartIn p (about t) o n → IsWanted wants o n → IsThere w (At side o Base n) 0
  pub mets : (o base : Site) (s : StoreAt) (n : Node) → Meet o base s → StartIn p (about t) base n → IsWanted wants o n → (most : ℕ) × IsThere w (Met o base s) most

-- objects are followed so
pub record AreClosed (p : LinkedProgram) (t : Node) (w : Noted) (Meet : Site → Site → StoreAt → Type 0) : Type 0 where
  pub wants : Wants
  pub closed : AreClosedIn p t wants w Meet

-- some lines read the call string of an object at a node
abbrev pub IsRead : LinkedProgram → Noted → Site → Node → List Place → Type 0
IsRead p w o n string = (numbers : List ℕ) × Reads p w.given o numbers n string
