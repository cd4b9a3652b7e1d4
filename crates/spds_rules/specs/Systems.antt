-- The two pushdown systems, and how stores join them (Späth, Ali and Bodden 2019). One matches fields and ignores calls, the other matches calls and
-- ignores fields. That a store goes on at the allocation of what it stores into, under a common call string, is this project's own rule.
use Rattle.std.specs.Prelude.{◌≡◌, ℕ, zero, suc, ◌+◌, ◌⊎◌, List, [], ◌∷◌, length}
use Rattle.link_rules.specs.Linked.{LinkedProgram}
use Rattle.link_rules.specs.WellLinked.{HasTarget}
use Rattle.link_sites.specs.declared.place.Place.{Place}
use Rattle.link_sites.specs.declared.site.Site.{Site}
use Rattle.link_sites.specs.Places.{before}
use Rattle.link_sites.specs.Sites.{HasField}
use Rattle.spds_rules.specs.declared.edge.EdgeKind.{EdgeKind}
use Rattle.spds_rules.specs.declared.edge.EdgeKind.TheVariants.{Flow, Load, Call, Return, Jump}
use Rattle.spds_rules.specs.declared.node.Node.{Node}
use Rattle.spds_rules.specs.declared.store.StoreAt.{StoreAt}
use Rattle.spds_rules.specs.Demand.{Asked, EdgeIn, StartIn, StoreIn}

-- the call strings of a method, the innermost call first: the root, which is the last method, has the empty one, and a method that a call may run has
-- that call in front of each string of the method in which the call stands
pub data IsString (p : LinkedProgram) : ℕ → List Place → Type 0 where
  root : {number : ℕ} → number + 1 ≡ length p.methods → IsString p number []
  called : {number index target : ℕ} {string : List Place} → HasTarget p number index target → IsString p number string
      → IsString p target (before number index ∷ string)

-- edges that keep the fields
abbrev pub KeepsFields : EdgeKind → Type 0
KeepsFields (Load field) = ⊥
KeepsFields Flow = Unit {0}
KeepsFields (Call call) = Unit {0}
KeepsFields (Return call) = Unit {0}
KeepsFields Jump = Unit {0}

-- edges that keep the calls
abbrev pub KeepsCalls : EdgeKind → Type 0
KeepsCalls Flow = Unit {0}
KeepsCalls (Load field) = Unit {0}
KeepsCalls (Call call) = ⊥
KeepsCalls (Return call) = ⊥
KeepsCalls Jump = ⊥

-- The field system of a site, over meets: from the node, the word of fields leads to an object of the site.
pub data InFields (p : LinkedProgram) (q : Asked) (Meet : Site → Site → StoreAt → Type 0) (o : Site) : Node → List ℕ → Type 0 where
  start : {n : Node} → StartIn p q o n → InFields p q Meet o n []
  keep : {a b : Node} {kind : EdgeKind} {word : List ℕ} → EdgeIn p q a kind b → KeepsFields kind → InFields p q Meet o a word → InFields p q Meet o b word
  load : {a b : Node} {field : ℕ} {word : List ℕ} → EdgeIn p q a (Load field) b → InFields p q Meet o a (field ∷ word) → InFields p q Meet o b word
  store : {base : Site} {s : StoreAt} {n : Node} {word : List ℕ} → Meet o base s → StartIn p q base n → InFields p q Meet o s.arg word
      → InFields p q Meet o n (s.field ∷ word)

-- The call system of a site, over meets: an object of the site may be there under the call string. Static fields and stores forget it, and what comes
-- through them may be there under each string of the method.
pub data InCalls (p : LinkedProgram) (q : Asked) (Meet : Site → Site → StoreAt → Type 0) (o : Site) : Node → List Place → Type 0 where
  start : {n : Node} {string : List Place} → StartIn p q o n → IsString p n.place.method string → InCalls p q Meet o n string
  keep : {a b : Node} {kind : EdgeKind} {string : List Place} → EdgeIn p q a kind b → KeepsCalls kind → InCalls p q Meet o a string
      → InCalls p q Meet o b string
  push : {a b : Node} {call : Place} {string : List Place} → EdgeIn p q a (Call call) b → InCalls p q Meet o a string
      → InCalls p q Meet o b (call ∷ string)
  pop : {a b : Node} {call : Place} {string : List Place} → EdgeIn p q a (Return call) b → InCalls p q Meet o a (call ∷ string)
      → InCalls p q Meet o b string
  jump : {a b : Node} {old string : List Place} → EdgeIn p q a Jump b → InCalls p q Meet o a old → IsString p b.place.method string
      → InCalls p q Meet o b string
  store : {base : Site} {s : StoreAt} {n : Node} {old string : List Place} → Meet o base s → StartIn p q base n → InCalls p q Meet o s.arg old
      → IsString p n.place.method string → InCalls p q Meet o n string

-- an object of one site may be stored into one of another under the call string: both may be there under it, the base as itself, and it has the field
pub record StoresUnder (p : LinkedProgram) (q : Asked) (Meet : Site → Site → StoreAt → Type 0) (o base : Site) (s : StoreAt) (string : List Place) : Type 0 where
  pub store : StoreIn p q s
  pub at_arg : InCalls p q Meet o s.arg string
  pub at_base : InCalls p q Meet base s.base string
  pub is_base : InFields p q Meet base s.base []
  pub has : HasField p base s.field

-- under one call string
abbrev pub MayStore : LinkedProgram → Asked → (Site → Site → StoreAt → Type 0) → Site → Site → StoreAt → Type 0
MayStore p q Meet o base s = (string : List Place) × StoresUnder p q Meet o base s string

-- what is met after so many rounds, each of which adds what may be stored over those before it
abbrev pub MetAfter : LinkedProgram → Asked → ℕ → Site → Site → StoreAt → Type 0
MetAfter p q zero o base s = ⊥
MetAfter p q (suc rounds) o base s = MetAfter p q rounds o base s ⊎ MayStore p q (MetAfter p q rounds) o base s

-- the meets: what is met after some number of rounds
abbrev pub Meets : LinkedProgram → Asked → Site → Site → StoreAt → Type 0
Meets p q o base s = (rounds : ℕ) × MetAfter p q rounds o base s

-- the field system over all meets
abbrev pub Fields : LinkedProgram → Asked → Site → Node → List ℕ → Type 0
Fields p q o n word = InFields p q (Meets p q) o n word

-- the call system over all meets
abbrev pub Calls : LinkedProgram → Asked → Site → Node → List Place → Type 0
Calls p q o n string = InCalls p q (Meets p q) o n string
