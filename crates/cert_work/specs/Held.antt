-- What lines gave, as it is read of them.
use Rattle.std.specs.Prelude.{◌≡◌}
use Rattle.cert_rules.specs.declared.fact.Fact.TheVariants.{At, Link, Met}
use Rattle.cert_rules.specs.Given.{Cites}
use Rattle.cert_rules.specs.Lengths.{cited_length}
use Rattle.cert_lines.specs.Noted.{Noted}
use Rattle.cert_work.specs.declared.held.Held.{Held}
use Rattle.cert_work.specs.declared.held.Below.{Below}
use Rattle.cert_work.specs.declared.held.Meeting.{Meeting}

-- the line put the object there, and is so long
pub record IsHeld (w : Noted) (h : Held) : Type 0 where
  pub gives : Cites w.given h.number (At h.side h.site h.entry h.node)
  pub long : cited_length w.lengths h.number ≡ h.length

-- the line gave what stands below the first letter of the entry under which the object is there, and is so long
pub record IsBelowHeld (w : Noted) (h : Held) (b : Below) : Type 0 where
  pub gives : Cites w.given b.number (Link h.side h.site h.entry b.entry)
  pub long : cited_length w.lengths b.number ≡ b.length

-- the line gave that an object that is there may be stored into one of the base
pub record IsMeeting (w : Noted) (h : Held) (m : Meeting) : Type 0 where
  pub at_arg : h.node ≡ m.store.arg
  pub meets : Cites w.given m.number (Met h.site m.base m.store)
