-- States of a protocol with at most sixteen stay among the sixteen.
use Rattle.std.proofs.Common.{ℕ, ◌<◌, List, arith}
use Rattle.link_rules.specs.Linked.{LinkedProgram}
use Rattle.link_sites.specs.declared.place.Place.{Place}
use Rattle.link_sites.specs.declared.site.Site.{Site}
use Rattle.spds_rules.specs.declared.node.Node.{Node}
use Rattle.spds_rules.specs.declared.node.Var.{Var}
use Rattle.spds_rules.specs.Demand.{Asked}
use Rattle.track_rules.specs.Protocols.{ProtocolParts}
use Rattle.track_systems.specs.Events.{Goes}
use Rattle.track_systems.specs.Laws.{IsAmongSixteen}
use Rattle.track_systems.specs.Track.{Tracks}
use Rattle.track_systems.specs.Track as track
use Rattle.track_systems.specs.Weights.{Across, Changes, Owns, Sends}
use Rattle.track_systems.specs.Weights as weights

module _ (p : LinkedProgram) (k : ProtocolParts) (q : Asked) (a : Site) (few : IsAmongSixteen k) where
  pub goes_few : (c : Place) (i j : ℕ) → Goes p k c i j → j < 16
  goes_few c i j goes = (few _ goes.3).1

  pub sends_few : {Where : Place → Type 0} {i j : ℕ} → i < 16 → Sends p k q a Where i j → j < 16
  sends_few low weights.none = low
  sends_few low (weights.more {c} {j} {l} sends is may goes) = goes_few c j l goes

  pub owns_few : {c : Place} {v : Var} {i j : ℕ} → i < 16 → Owns p k q a c v i j → j < 16
  owns_few low (weights.never h) = low
  owns_few low (weights.other h) = low
  owns_few {c} {v} {i} low (weights.event {j} may goes) = goes_few c i j goes

  pub across_few : {c : Place} {v : Var} {i j : ℕ} → i < 16 → Across p k q a c v i j → j < 16
  across_few low h = sends_few (owns_few low h.owns) h.inside

  pub changes_few : {b n : Node} {i j : ℕ} → i < 16 → Changes p k q a b n i j → j < 16
  changes_few low (weights.elsewhere h) = low
  changes_few low (weights.kept call h over) = across_few low over
  changes_few low (weights.unsettled call h over) = across_few low over
  changes_few low (weights.unsettled_null call h flies) = low
  changes_few low (weights.settled_null call h flies is apart) = low

  pub tracks_few : {n : Node} {string : List Place} {i : ℕ} → Tracks p k q a n string i → i < 16
  tracks_few (track.fresh start made is) = omega arith
  tracks_few (track.constant start made is sends) = sends_few (omega arith) sends
  tracks_few (track.loaded edge is_loaded answered is sends) = sends_few (omega arith) sends
  tracks_few (track.flows edge tracks changes) = changes_few (tracks_few tracks) changes
  tracks_few (track.enters edge tracks owns) = owns_few (tracks_few tracks) owns
  tracks_few (track.leaves edge tracks) = tracks_few tracks
