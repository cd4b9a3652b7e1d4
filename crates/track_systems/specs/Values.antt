-- The values of a site's system, as those of any weighted pushdown system: sums of the weights of derivations.
use Rattle.std.specs.Prelude.{◌↔◌, ℕ, ◌<◌, List, ◌∷◌}
use Rattle.link_rules.specs.Linked.{LinkedProgram}
use Rattle.link_sites.specs.declared.place.Place.{Place}
use Rattle.link_sites.specs.declared.site.Site.{Site}
use Rattle.post_star.specs.Derivations.{IsSumOf}
use Rattle.spds_rules.specs.declared.edge.EdgeKind.{EdgeKind}
use Rattle.spds_rules.specs.declared.edge.EdgeKind.TheVariants.{Flow, Call, Return}
use Rattle.spds_rules.specs.declared.node.Node.{Node}
use Rattle.spds_rules.specs.Answers.{IsAnswered}
use Rattle.spds_rules.specs.Demand.{Asked, EdgeIn, StartIn}
use Rattle.spds_rules.specs.Systems.{IsString}
use Rattle.track_rules.specs.Protocols.{ProtocolParts}
use Rattle.track_systems.specs.Track.{IsLoaded, IsMade}
use Rattle.track_systems.specs.Weights.{Anywhere, Changes, Owns, Sends}
use Rattle.weight_laws.specs.declared.rel.Rel.{Rel}
use Rattle.weight_laws.specs.Rel.{Relates, rel_domain}

-- the weight is the relation, over sixteen states
pub record IsWeight (w : Rel) (Leads : ℕ → ℕ → Type 0) : Type 0 where
  pub meant : rel_domain.IsMeant w
  pub each : (i j : ℕ) → i < 16 → j < 16 → Relates w i j ↔ Leads i j

-- the derivations of a node and a call string, with their weights
pub data Derives (p : LinkedProgram) (k : ProtocolParts) (q : Asked) (a : Site) : Node → List Place → Rel → Type 0 where
  fresh : {n : Node} {string : List Place} → StartIn p q a n → IsMade a → IsString p n.place.method string → Derives p k q a n string rel_domain.one
  constant : {n : Node} {string : List Place} {w : Rel} → StartIn p q a n → (IsMade a → ⊥) → IsString p n.place.method string
      → IsWeight w (Sends p k q a Anywhere) → Derives p k q a n string w
  loaded : {b n : Node} {kind : EdgeKind} {string : List Place} {w : Rel} → EdgeIn p q b kind n → IsLoaded kind → IsAnswered p q n a
      → IsString p n.place.method string → IsWeight w (Sends p k q a Anywhere)
      → Derives p k q a n string w
  flows : {b n : Node} {string : List Place} {x w : Rel} → EdgeIn p q b Flow n → Derives p k q a b string x → IsWeight w (Changes p k q a b n)
      → Derives p k q a n string (rel_domain.extend x w)
  enters : {b n : Node} {call : Place} {string : List Place} {x w : Rel} → EdgeIn p q b (Call call) n → Derives p k q a b string x
      → IsWeight w (Owns p k q a call b.var)
      → Derives p k q a n (call ∷ string) (rel_domain.extend x w)
  leaves : {b n : Node} {call : Place} {string : List Place} {x : Rel} → EdgeIn p q b (Return call) n → Derives p k q a b (call ∷ string) x
      → Derives p k q a n string (rel_domain.extend x rel_domain.one)

-- the value of a node and a call string
abbrev pub IsValueAt : LinkedProgram → ProtocolParts → Asked → Site → Node → List Place → Rel → Type 0
IsValueAt p k q a n string = IsSumOf rel_domain (Derives p k q a n string)

-- a derivation of the node with any call string
abbrev pub DerivesAny : LinkedProgram → ProtocolParts → Asked → Site → Node → Rel → Type 0
DerivesAny p k q a n w = (string : List Place) × Derives p k q a n string w

-- the value of a node alone
abbrev pub IsAnyValueAt : LinkedProgram → ProtocolParts → Asked → Site → Node → Rel → Type 0
IsAnyValueAt p k q a n = IsSumOf rel_domain (DerivesAny p k q a n)
