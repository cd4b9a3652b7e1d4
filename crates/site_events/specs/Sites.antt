-- What events do to the objects of one site.
use Rattle.std.specs.Prelude.{◌≡◌, ◌<◌, ◌⊎◌, ◌↔◌, ℕ, List, length, map}
use Rattle.lists.specs.Lists.{Has}
use Rattle.link_rules.specs.Linked.{LinkedProgram}
use Rattle.link_sites.specs.declared.place.Place.{Place}
use Rattle.link_sites.specs.declared.site.Site.{Site}
use Rattle.spds_rules.specs.Demand.{Asked}
use Rattle.track_rules.specs.Protocols.{ProtocolParts}
use Rattle.track_systems.specs.Events.{Goes}
use Rattle.track_systems.specs.Laws.{IsAmongSixteen}
use Rattle.track_systems.specs.Values.{IsWeight}
use Rattle.track_systems.specs.Weights.{Anywhere, IsInside, May, Sends, Within}
use Rattle.weight_laws.specs.declared.rel.Rel.{Rel}
use Rattle.weight_laws.specs.Rel.{Relates}
use Rattle.site_events.specs.declared.inner.Inner.{Inner}
use Rattle.site_events.specs.declared.site.SiteEvents.{SiteEvents}
use Rattle.site_events.specs.declared.statement.Statement.{Statement}
use Rattle.site_events.specs.Inner.{HasTargetAmong}
use Rattle.site_events.specs.Statements.{before_it, statement_at}
use Rattle.site_events.specs.Tables.{AreRaised, HasOne, IsTold}

-- an event to which a run of the call may come leads the first state to the second
abbrev pub LeadsInside : LinkedProgram → List Inner → Place → ℕ → ℕ → Type 0
LeadsInside p inner c i j = (x : Inner) × Has inner x × HasTargetAmong p x.loud.keys c × Relates x.does i j

-- at each statement that may be an event on objects of the site, what this event does; for each call, where the events lead to which a run of it may come;
-- and what events anywhere do. The protocol's rows lead among sixteen states
pub record AreEventsOf (p : LinkedProgram) (k : ProtocolParts) (q : Asked) (a : Site) (e : SiteEvents) : Type 0 where
  pub sixteen : IsAmongSixteen k
  pub may : (place : Place) → May p k q a place → HasOne e.own (statement_at place)
  pub own : (s : Statement) (w : Rel) → IsTold e.own s w → May p k q a (before_it s) × IsWeight w (Goes p k (before_it s))
  pub inside : (c : Place) (i j : ℕ) → i < 16 → LeadsInside p e.inner.items c i j ↔ ((d : Place) × Within p c d × May p k q a d × Goes p k d i j)
  pub anywhere : IsWeight e.anywhere (Sends p k q a Anywhere)

-- a run of the call may enter a method with one of the statements
abbrev pub Enters : LinkedProgram → List Statement → Place → Type 0
Enters p statements c = (method : ℕ) × IsInside p c method × Has (map (λ x. x.method) statements) method

-- what an event at these statements does, with methods among which a call has a target exactly where a run of it may come to one of them
pub record IsInnerOf (p : LinkedProgram) (statements : List Statement) (does : Rel) (x : Inner) : Type 0 where
  pub does_is : x.does ≡ does
  pub enters : (c : Place) → HasTargetAmong p x.loud.keys c ↔ Enters p statements c

-- the statements are in methods of the program
abbrev pub AreInMethods : LinkedProgram → List Statement → Type 0
AreInMethods p statements = (s : Statement) → Has statements s → s.method < length p.methods

-- an event may come at these statements too, and does this
pub record AreRisen (p : LinkedProgram) (statements : List Statement) (does : Rel) (old new : SiteEvents) : Type 0 where
  pub own : AreRaised old.own (λ s. Has statements s) does new.own
  pub kept : (x : Inner) → Has old.inner.items x → Has new.inner.items x
  pub each : (x : Inner) → Has new.inner.items x → Has old.inner.items x ⊎ IsInnerOf p statements does x
  pub inner : (s : Statement) → Has statements s → (x : Inner) × Has new.inner.items x × IsInnerOf p statements does x
  pub anywhere : (i j : ℕ) → i < 16 → Relates new.anywhere i j ↔ (Relates old.anywhere i j ⊎ (((s : Statement) × Has statements s) × Relates does i j))
