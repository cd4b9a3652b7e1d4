-- The weights of a site's system: how the states of its objects may change along an edge. Each is a relation, which leads a state to others.
use Rattle.std.specs.Prelude.{◌≡◌, ℕ}
use Rattle.link_rules.specs.Linked.{LinkedProgram}
use Rattle.link_rules.specs.WellLinked.{HasTarget}
use Rattle.link_sites.specs.declared.place.Place.{Place}
use Rattle.link_sites.specs.declared.site.Site.{Site}
use Rattle.link_sites.specs.Places.{in_flight}
use Rattle.spds_rules.specs.declared.node.Node.{Node}
use Rattle.spds_rules.specs.declared.node.Var.{Var}
use Rattle.spds_rules.specs.Answers.{IsAnswered}
use Rattle.spds_rules.specs.Demand.{Asked}
use Rattle.spds_rules.specs.Nodes.{at}
use Rattle.track_rules.specs.Protocols.{ProtocolParts}
use Rattle.track_systems.specs.Events.{Goes, IsEventOn, IsReceiver}
use Rattle.track_systems.specs.Settled.{CallAt, IsKept, IsSettled, IsUnsettled}

-- the methods that a run of the call at the place may enter: the least set that holds its targets, and the targets of calls in it
pub data IsInside (p : LinkedProgram) (c : Place) : ℕ → Type 0 where
  target : {number : ℕ} → HasTarget p c.method c.index number → IsInside p c number
  called : {number index target : ℕ} → IsInside p c number → HasTarget p number index target → IsInside p c target

-- the place is in one of them
abbrev pub Within : LinkedProgram → Place → Place → Type 0
Within p c place = IsInside p c place.method

-- any place
abbrev pub Anywhere : Place → Type 0
Anywhere place = Unit {0}

-- n is the same variable with an exception in flight at the statement of b
abbrev pub InFlight : Node → Node → Type 0
InFlight b n = n ≡ at (in_flight b.place.method b.place.index) b.var

module _ (p : LinkedProgram) (k : ProtocolParts) (q : Asked) (a : Site) where
  -- the statement behind the place may be an event on an object of the site: it is an event statement, and the site is answered at its receiver
  pub record May (c : Place) : Type 0 where
    pub event : ℕ
    pub receiver : Var
    pub is_event : IsEventOn p k c event receiver
    pub answered : IsAnswered p q (at c receiver) a

  -- by events at such statements, in any order and each any number of times, none at all too
  pub data Sends (Where : Place → Type 0) (i : ℕ) : ℕ → Type 0 where
    none : Sends Where i i
    more : {c : Place} {j l : ℕ} → Sends Where i j → Where c → May c → Goes p k c j l → Sends Where i l

  -- by the call at c itself, for an object that v is. Where v is its receiver, and it may be an event on the object, it is one; where v is another
  -- variable, it may be one, as the receiver may be the same object
  pub data Owns (c : Place) (v : Var) (i : ℕ) : ℕ → Type 0 where
    -- it is no event on an object of the site
    never : (May c → ⊥) → Owns c v i i
    -- v isn't its receiver, which may be another object
    other : (IsReceiver p c v → ⊥) → Owns c v i i
    -- it may be an event on the object
    event : {j : ℕ} → May c → Goes p k c i j → Owns c v i j

  -- over the whole call: first by itself, and then by events in the methods that it may enter
  pub record Across (c : Place) (v : Var) (i j : ℕ) : Type 0 where
    pub between : ℕ
    pub owns : Owns c v i between
    pub inside : Sends (Within p c) between j

  -- along a flow from b to n. Over a call that passes a local whose formals are all settled nothing flows: the object comes back from the formal, along
  -- a back edge. But where the receiver is null no method is entered, and what flows is then another local
  pub data Changes (b n : Node) (i : ℕ) : ℕ → Type 0 where
    -- b stands before no call
    elsewhere : (CallAt p b.place → ⊥) → Changes b n i i
    -- the call doesn't pass the variable
    kept : {j : ℕ} (call : CallAt p b.place) → IsKept call b.var → Across b.place b.var i j → Changes b n i j
    -- it passes it, and some formal isn't settled
    unsettled : {j : ℕ} (call : CallAt p b.place) → IsUnsettled call b.var → Across b.place b.var i j → Changes b n i j
    -- the same, into flight: no method may have been entered
    unsettled_null : (call : CallAt p b.place) → IsUnsettled call b.var → InFlight b n → Changes b n i i
    -- it passes it, each formal is settled, and the receiver is another local: into flight, where no method was entered
    settled_null : {receiver : Var} (call : CallAt p b.place) → IsSettled call b.var → InFlight b n → IsReceiver p b.place receiver → (b.var ≡ receiver → ⊥)
        → Changes b n i i
