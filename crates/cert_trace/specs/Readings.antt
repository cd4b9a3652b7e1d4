-- How a call string is read by the lines that gave links.
use Rattle.std.specs.Prelude.{◌≡◌, ◌+◌, ℕ, List, Some, length, slice_get}
use Rattle.link_sites.specs.declared.place.Place.{Place}
use Rattle.link_sites.specs.declared.site.Site.{Site}
use Rattle.spds_rules.specs.declared.node.Node.{Node}
use Rattle.spds_rules.specs.Spread.{node_spread}
use Rattle.cert_rules.specs.declared.fact.Entry.{Entry}
use Rattle.cert_rules.specs.declared.fact.Entry.TheVariants as entry
use Rattle.cert_rules.specs.declared.fact.Entry.TheVariants.{Base}
use Rattle.cert_rules.specs.declared.fact.Fact.TheVariants.{At, Link}
use Rattle.cert_rules.specs.declared.line.Side.TheVariants.{Call}
use Rattle.cert_rules.specs.Given.{Cites}
use Rattle.cert_lines.specs.declared.keys.Word.{Word}
use Rattle.cert_lines.specs.Noted.{Noted}
use Rattle.cert_work.specs.declared.work.Work.{Work}
use Rattle.cert_work.specs.Work.{AreFiled}
use Rattle.cert_trace.specs.declared.reading.Reading.{Reading}

-- the line gave what stands below the call with which the string goes on, so one call more is read
pub record GoesOn (w : Noted) (o : Site) (string : List Place) (from : Reading) (label : ℕ) (to : Reading) : Type 0 where
  pub node : Node
  pub call : Place
  pub entry_is : from.entry ≡ entry.Call node call
  pub call_is : slice_get string from.level ≡ Some call
  pub links : Cites w.given label (Link Call o from.entry to.entry)
  pub next : to.level ≡ from.level + 1

-- the line gave what stands below the first letter of the word, and so many calls were read then
pub record IsLinkTo (w : Noted) (k : Word) (level label : ℕ) (to : Reading) : Type 0 where
  pub at : to.level ≡ level
  pub links : Cites w.given label (Link k.side k.site k.entry to.entry)

-- the line put the object there, so no call is read
pub record Begins (w : Noted) (o : Site) (n : Node) (label : ℕ) (to : Reading) : Type 0 where
  pub gives : Cites w.given label (At Call o to.entry n)
  pub first : to.level ≡ 0

-- the rest is a string of the method
abbrev pub IsEnd : Reading → Type 0
IsEnd r = r.entry ≡ Base

-- all lines were gone through
pub record AreAllFiled (k : Work) : Type 0 where
  pub filed : AreFiled k.written k
  pub all : k.done ≡ length k.written.given

-- Nothing but speed hangs on it.
abbrev pub entry_spread : Entry → ℕ
entry_spread entry.Base = 0
entry_spread (entry.Field node field) = node_spread node
entry_spread (entry.Call node call) = node_spread node
