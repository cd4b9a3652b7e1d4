-- The weighted pushdown system of a site under a protocol (Reps, Schwoon, Jha and Melski 2005; Späth, Ali and Bodden 2019): its marks are calls, its
-- words call strings, and its weights relations over the protocol's states. Which events an object may have met while it was in the heap, or in a
-- method that was called, is this project's own rule.
use Rattle.std.specs.Prelude.{ℕ, List, ◌∷◌}
use Rattle.link_rules.specs.Linked.{LinkedProgram}
use Rattle.link_sites.specs.declared.place.Place.{Place}
use Rattle.link_sites.specs.declared.site.Site.{Site}
use Rattle.link_sites.specs.declared.site.Site.TheVariants as site
use Rattle.spds_rules.specs.declared.edge.EdgeKind.{EdgeKind}
use Rattle.spds_rules.specs.declared.edge.EdgeKind.TheVariants.{Flow, Load, Call, Return, Jump}
use Rattle.spds_rules.specs.declared.node.Node.{Node}
use Rattle.spds_rules.specs.Answers.{IsAnswered}
use Rattle.spds_rules.specs.Demand.{Asked, EdgeIn, StartIn}
use Rattle.spds_rules.specs.Systems.{IsString}
use Rattle.track_rules.specs.Protocols.{ProtocolParts}
use Rattle.track_systems.specs.Weights.{Anywhere, Changes, Owns, Sends}

-- objects of the site are made by statements of the program. Constants are there from the first
abbrev pub IsMade : Site → Type 0
IsMade (site.New place) = Unit {0}
IsMade (site.Nested place level) = Unit {0}
IsMade (site.Raised place kind) = Unit {0}
IsMade (site.Text number) = ⊥
IsMade (site.Class number) = ⊥

-- the object comes out of the heap or of a static field
abbrev pub IsLoaded : EdgeKind → Type 0
IsLoaded (Load field) = Unit {0}
IsLoaded Jump = Unit {0}
IsLoaded Flow = ⊥
IsLoaded (Call call) = ⊥
IsLoaded (Return call) = ⊥

-- some derivation of the node and the call string has a weight that leads state 0 to this one: an object of the site, which began in state 0, may be
-- in this state there. The states are those between the weights of its rules
pub data Tracks (p : LinkedProgram) (k : ProtocolParts) (q : Asked) (a : Site) : Node → List Place → ℕ → Type 0 where
  -- it has just been made, and no event came yet
  fresh : {n : Node} {string : List Place} → StartIn p q a n → IsMade a → IsString p n.place.method string → Tracks p k q a n string 0
  -- it is a constant, and any events may have come
  constant : {n : Node} {string : List Place} {i : ℕ} → StartIn p q a n → (IsMade a → ⊥) → IsString p n.place.method string → Sends p k q a Anywhere 0 i
      → Tracks p k q a n string i
  -- it was loaded, and any events may have come
  loaded : {b n : Node} {kind : EdgeKind} {string : List Place} {i : ℕ} → EdgeIn p q b kind n → IsLoaded kind → IsAnswered p q n a
      → IsString p n.place.method string → Sends p k q a Anywhere 0 i
      → Tracks p k q a n string i
  -- along a flow
  flows : {b n : Node} {string : List Place} {i j : ℕ} → EdgeIn p q b Flow n → Tracks p k q a b string i → Changes p k q a b n i j → Tracks p k q a n string j
  -- into a call, after its event
  enters : {b n : Node} {call : Place} {string : List Place} {i j : ℕ} → EdgeIn p q b (Call call) n → Tracks p k q a b string i → Owns p k q a call b.var i j
      → Tracks p k q a n (call ∷ string) j
  -- back from a call, as what it returns or throws, or as what was passed
  leaves : {b n : Node} {call : Place} {string : List Place} {i : ℕ} → EdgeIn p q b (Return call) n → Tracks p k q a b (call ∷ string) i
      → Tracks p k q a n string i
