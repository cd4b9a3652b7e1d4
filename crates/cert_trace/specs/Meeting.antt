-- What a meet rests on.
use Rattle.std.specs.Prelude.{ℕ}
use Rattle.link_sites.specs.Sites.{HasField}
use Rattle.spds_rules.specs.Demand.{StoreIn, about}
use Rattle.spds_rules.specs.Systems.{IsString}
use Rattle.cert_rules.specs.declared.fact.Entry.TheVariants.{Base}
use Rattle.cert_rules.specs.declared.fact.Fact.TheVariants.{At}
use Rattle.cert_rules.specs.declared.line.Side.TheVariants.{Field}
use Rattle.cert_lines.specs.Noted.{IsThere, Noted}
use Rattle.cert_work.specs.declared.roads.View.{View}
use Rattle.cert_trace.specs.declared.meeting.Meeting.{Meeting}
use Rattle.cert_trace.specs.Closed.{IsRead}

-- lines read the call string for both objects, and one gives that the base is there as itself; it has the field
pub record IsJustified (v : View) (w : Noted) (m : Meeting) : Type 0 where
  pub store : StoreIn v.linked.now (about v.target) m.store
  pub at_arg : IsString v.linked.now m.store.arg.place.method m.string.now
  pub at_base : IsString v.linked.now m.store.base.place.method m.string.now
  pub reads_object : IsRead v.linked.now w m.object m.store.arg m.string.now
  pub reads_base : IsRead v.linked.now w m.base m.store.base m.string.now
  pub is_base : (most : ℕ) × IsThere w (At Field m.base Base m.store.base) most
  pub has : HasField v.linked.now m.base m.store.field
