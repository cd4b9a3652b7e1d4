use Rattle.std.proofs.Common.{◌<◌, ℕ, List, length, sym, subst}
use Rattle.lists.specs.Groups.{Grouped}
use Rattle.track_tables.specs.Held.{AreHeldIn}
use Rattle.type_track.specs.Receivers.{asked_for}
use Rattle.type_track.proofs.Asking.{loaded_demanded}
use Rattle.type_track.proofs.tracking.findings_by.Goals as goal

pub findings_in-requires-clause-given : goal.findings_in-requires-clause-given
findings_in-requires-clause-given g c κs within =
    let p = c.args.linked.now in
    let q = asked_for c.args.statements.now in
    let d = c.args.demand.now in
    let of = loaded_demanded p q d c.requires.demand c.in_ok-parts.parts c.in_ok-parts.ensures in
    record {
      well = c.requires.well;
      class = c.requires.class;
      demand = c.requires.demand;
      few = c.requires.few;
      parts = c.in_ok-parts.ensures;
      loaded = rw c.loaded.ensures at c.in_ok-loaded.ensures p q d c.requires.solved of;
    }
