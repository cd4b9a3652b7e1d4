-- The states that a site's system tracks are those of the protocol.
use Rattle.std.proofs.Common.{ℕ, ◌<◌, List, length}
use Rattle.link_rules.specs.Linked.{LinkedProgram}
use Rattle.link_sites.specs.declared.place.Place.{Place}
use Rattle.link_sites.specs.declared.site.Site.{Site}
use Rattle.spds_rules.specs.declared.node.Node.{Node}
use Rattle.spds_rules.specs.declared.node.Var.{Var}
use Rattle.spds_rules.specs.Demand.{Asked}
use Rattle.track_rules.specs.Protocols.{IsProtocol, ProtocolParts}
use Rattle.track_systems.specs.Events.{Goes}
use Rattle.track_systems.specs.Track.{Tracks}
use Rattle.track_systems.specs.Track as track
use Rattle.track_systems.specs.Weights.{Across, Changes, Owns, Sends}
use Rattle.track_systems.specs.Weights as weights

module _ (p : LinkedProgram) (k : ProtocolParts) (q : Asked) (a : Site) (form : IsProtocol k) where
  goes_below : (c : Place) (i j : ℕ) → Goes p k c i j → j < length k.states
  goes_below c i j goes = (form.rows _ goes.3).to

  sends_below : {Where : Place → Type 0} {i j : ℕ} → i < length k.states → Sends p k q a Where i j → j < length k.states
  sends_below low weights.none = low
  sends_below low (weights.more {c} {j} {l} sends is may goes) = goes_below c j l goes

  owns_below : {c : Place} {v : Var} {i j : ℕ} → i < length k.states → Owns p k q a c v i j → j < length k.states
  owns_below low (weights.never h) = low
  owns_below low (weights.other h) = low
  owns_below {c} {v} {i} low (weights.event {j} may goes) = goes_below c i j goes

  across_below : {c : Place} {v : Var} {i j : ℕ} → i < length k.states → Across p k q a c v i j → j < length k.states
  across_below low h = sends_below (owns_below low h.owns) h.inside

  changes_below : {b n : Node} {i j : ℕ} → i < length k.states → Changes p k q a b n i j → j < length k.states
  changes_below low (weights.elsewhere h) = low
  changes_below low (weights.kept call h over) = across_below low over
  changes_below low (weights.unsettled call h over) = across_below low over
  changes_below low (weights.unsettled_null call h flies) = low
  changes_below low (weights.settled_null call h flies is apart) = low

  pub tracks_below : {n : Node} {string : List Place} {i : ℕ} → Tracks p k q a n string i → i < length k.states
  tracks_below (track.fresh start made is) = form.some
  tracks_below (track.constant start made is sends) = sends_below form.some sends
  tracks_below (track.loaded edge is_loaded answered is sends) = sends_below form.some sends
  tracks_below (track.flows edge tracks changes) = changes_below (tracks_below tracks) changes
  tracks_below (track.enters edge tracks owns) = owns_below (tracks_below tracks) owns
  tracks_below (track.leaves edge tracks) = tracks_below tracks
