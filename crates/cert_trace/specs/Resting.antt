-- Lines that are closed over the first meets of a demand, and the next meet.
use Rattle.std.specs.Prelude.{◌≡◌, List, [], length}
use Rattle.spds_rules.specs.Systems.{Meets}
use Rattle.demand_set.specs.Demands.{DemandParts}
use Rattle.spds_rules.specs.Demand.{about}
use Rattle.cert_lines.specs.Noted.{Noted}
use Rattle.cert_work.specs.declared.roads.View.{View}
use Rattle.cert_work.specs.declared.work.Work.{Work}
use Rattle.cert_work.specs.Wants.{AreWants}
use Rattle.cert_work.specs.Work.{IsWorkOf}
use Rattle.cert_trace.specs.Closed.{AreClosedIn}
use Rattle.spds_solve.specs.declared.met.Met.{Met}
use Rattle.spds_solve.specs.Solved.{IsListed, RestsOn}

-- objects are followed wherever the answers of the target need it
abbrev pub AreWanted : View → Type 0
AreWanted v = AreWants v.linked.now v.target v.wants.now (Meets v.linked.now (about v.target))

-- all lines were gone through, and they are closed over these meets, as far as objects are followed
pub record IsTraced (v : View) (d : DemandParts) (mets : List Met) (k : Work) : Type 0 where
  pub work : IsWorkOf v k
  pub all : k.done ≡ length k.written.given
  pub closed : AreClosedIn v.linked.now v.target v.wants.now k.written (IsListed d mets)

-- and the next meet rests on these
pub record IsNext (v : View) (d : DemandParts) (k : Work) (met : Met) : Type 0 where
  pub before : List Met
  pub traced : IsTraced v d before k
  pub rests : RestsOn v.linked.now (about v.target) d before met

-- no line, which gives nothing
abbrev pub no_lines : Noted
no_lines = record { lines = []; given = []; lengths = [] }
