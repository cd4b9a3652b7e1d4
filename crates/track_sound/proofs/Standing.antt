-- What stands for an object at the frame on top, or was loaded there, is held.
use Rattle.std.proofs.Common.{◌≡◌, ℕ, ◌⊎◌, List, [], Some, length, slice_get, refl, sym, ap, ◌∙◌, subst, inl, inr, arith}
use Rattle.lists.proofs.Places.{slice_get-below, slice_get-push, slice_get-there}
use Rattle.link_laws.proofs.Lists.{map_at}
use Rattle.link_rules.specs.Linked.{LinkedProgram}
use Rattle.link_sites.specs.declared.place.Place.{Place}
use Rattle.link_sites.specs.declared.site.Site.{Site}
use Rattle.link_sites.specs.declared.site.Site.TheVariants as site
use Rattle.spds_rules.specs.declared.edge.EdgeKind.{EdgeKind}
use Rattle.spds_rules.specs.declared.node.Node.{Node}
use Rattle.spds_rules.specs.declared.node.Var.{Var}
use Rattle.spds_rules.specs.declared.node.Var.TheVariants as var
use Rattle.spds_rules.specs.Answers.{IsAnswered}
use Rattle.spds_rules.specs.Demand.{Asked, Demand, EdgeIn}
use Rattle.spds_rules.specs.Nodes.{IsNode, site_of}
use Rattle.spds_rules.specs.Systems.{Calls, Fields, IsString}
use Rattle.step_rules.specs.declared.parts.Slot.TheVariants as slot
use Rattle.step_rules.specs.declared.parts.Value.TheVariants.{Object}
use Rattle.step_rules.specs.Slots.{local_of}
use Rattle.step_rules.specs.States.{Frame, HeapObject, Point, state_of}
use Rattle.run_sound.specs.Agrees.{Agrees}
use Rattle.run_sound.specs.Frames.{places_of}
use Rattle.run_sound.proofs.Invariant.{IsKept, IsReached, sites_of}
use Rattle.run_sound.proofs.Waiting.{string_top}
use Rattle.run_sound.proofs.Words.{object_there}
use Rattle.run_origins.specs.Standing.{StandsFor, node_at}
use Rattle.run_origins.specs.Standing as stands
use Rattle.track_rules.specs.Protocols.{ProtocolParts}
use Rattle.track_runs.specs.Monitor.{IsTracked}
use Rattle.track_systems.specs.Track.{IsLoaded, IsMade, Tracks}
use Rattle.track_systems.specs.Track as track
use Rattle.track_systems.specs.Weights.{Anywhere, Sends}
use Rattle.track_sound.proofs.Held.{AreHeld, AreSent, IsHeld, kind_of, kinds_of}

-- a local that stands for an object holds it
pub stands_local : (p : LinkedProgram) (f : Frame) (x : ℕ) {v : Var} → StandsFor p f x v → (y : ℕ) → v ≡ var.Local y → local_of f y ≡ Some (Object x)
stands_local p f x (stands.slot (slot.Local z) e) = λ y is. let same : z ≡ y = cc (is) in subst (λ (n : ℕ). local_of f n ≡ Some (Object x)) same e
stands_local p f x (stands.slot slot.This e) = λ y is. cc (is)
stands_local p f x (stands.slot (slot.Param i) e) = λ y is. cc (is)
stands_local p f x (stands.slot slot.Caught e) = λ y is. cc (is)
stands_local p f x (stands.slot slot.Thrown e) = λ y is. cc (is)
stands_local p f x (stands.text below e) = λ y is. cc (is)
stands_local p f x (stands.class below e) = λ y is. cc (is)

-- a site is made by statements, or it isn't
pub made_or_not : (a : Site) → IsMade a ⊎ (IsMade a → ⊥)
made_or_not (site.New place) = inl tt
made_or_not (site.Nested place level) = inl tt
made_or_not (site.Raised place kind) = inl tt
made_or_not (site.Text i) = inr (λ h. h)
made_or_not (site.Class i) = inr (λ h. h)

module _ (p : LinkedProgram) (k : ProtocolParts) (q : Asked) where
  -- the string of the frame on top is one of its method
  pub top_string : (at : Point) → Agrees p (state_of at) → IsString p at.top.method (places_of at.below)
  top_string at agrees = subst (IsString p at.top.method) (string_top at.below at.top) (agrees.strings (length at.below) at.top (slice_get-push at.below at.top))

  module _ (heap : List HeapObject) (states : List ℕ) (as_many : length states ≡ length heap) (sent : AreSent p k q (kinds_of heap) states) where
    -- any events lead to the state of a tracked object
    pub sent_of : (x i : ℕ) (kind : HeapObject) → slice_get (kinds_of heap) x ≡ Some kind → slice_get states x ≡ Some i → IsTracked p k kind
        → Sends p k q kind.site Anywhere 0 i
    sent_of x i kind there e tracked =
        let h = sent x i e in
        let one = h.is_kind in
        let same : h.kind ≡ kind = cc in
        subst (λ (o : HeapObject). IsTracked p k o → Sends p k q o.site Anywhere 0 i) same h.is_so tracked

    -- an object of the heap has a kind and a state
    pub record HasState (x : ℕ) (object : HeapObject) : Type 0 where
      pub is_kind : slice_get (kinds_of heap) x ≡ Some (kind_of object)
      pub state : ℕ
      pub is_state : slice_get states x ≡ Some state

    pub state_there : (x : ℕ) (object : HeapObject) → slice_get heap x ≡ Some object → HasState x object
    state_there x object there =
        let at = slice_get-there states x (omega (arith, slice_get-below heap x object there, as_many)) in
        record { is_kind = map_at kind_of heap x object there; state = at.0; is_state = at.1 }

    -- a constant where it is handed on
    constant_held : (n : Node) (string : List Place) (x : ℕ) (a : Site) → IsNode p n → Demand p q n → IsString p n.place.method string → site_of n ≡ Some a
        → (IsMade a → ⊥) → slice_get (sites_of heap) x ≡ Some a
        → IsHeld p k q (kinds_of heap) states n string x
    constant_held n string x a node demanded is_string is_site not_made there =
        let object = object_there heap x a there in
        let has = state_there x object.0 object.1 in
        record {
          kind = kind_of object.0;
          is_kind = has.is_kind;
          state = has.state;
          is_state = has.is_state;
          tracks = λ t. track.constant ((node, is_site ∙ ap Some object.2), demanded) (subst (λ (a : Site). IsMade a → ⊥) object.2 not_made) is_string
              (sent_of x has.state (kind_of object.0) has.is_kind has.is_state t);
        }

    -- an object that was loaded
    pub loaded_held : (b n : Node) (kind : EdgeKind) (string other : List Place) (x : ℕ) → EdgeIn p q b kind n → IsLoaded kind
        → IsReached p q (sites_of heap) n other x → IsString p n.place.method string
        → IsHeld p k q (kinds_of heap) states n string x
    loaded_held b n kind string other x edge is_loaded reached is_string =
        let object = object_there heap x reached.site reached.of_site in
        let has = state_there x object.0 object.1 in
        let answered : IsAnswered p q n object.0.site =
        (subst (λ (a : Site). Fields p q a n []) object.2 reached.by_fields, (other, subst (λ (a : Site). Calls p q a n other) object.2 reached.by_calls)) in
        record {
          kind = kind_of object.0;
          is_kind = has.is_kind;
          state = has.state;
          is_state = has.is_state;
          tracks = λ t. track.loaded edge is_loaded answered is_string (sent_of x has.state (kind_of object.0) has.is_kind has.is_state t);
        }

  -- what stands for an object at the frame on top
  pub stands_held : (at : Point) (states : List ℕ) (kept : IsKept p q (state_of at)) → Agrees p (state_of at) → length states ≡ length at.heap
      → AreSent p k q (kinds_of at.heap) states
      → AreHeld p k q (kinds_of at.heap) states at.top (places_of at.below)
      → (x : ℕ) {v : Var} → StandsFor p at.top x v → IsNode p (node_at at.top v) → Demand p q (node_at at.top v)
      → IsHeld p k q (kinds_of at.heap) states (node_at at.top v) (places_of at.below) x
  stands_held at states kept agrees as_many sent held x (stands.slot from e) = λ node demanded. held from x e demanded
  stands_held at states kept agrees as_many sent held x (stands.text {i} below is) = λ node demanded.
      constant_held at.heap states as_many sent (node_at at.top (var.Text i)) (places_of at.below) x (site.Text i) node demanded (top_string at agrees) refl (λ h. h)
      (subst (λ (n : ℕ). slice_get (sites_of at.heap) n ≡ Some (site.Text i)) (sym is) (kept.memory.constants.texts i below))
  stands_held at states kept agrees as_many sent held x (stands.class {i} below is) = λ node demanded.
      constant_held at.heap states as_many sent (node_at at.top (var.Class i)) (places_of at.below) x (site.Class i) node demanded (top_string at agrees) refl (λ h. h)
      (subst (λ (n : ℕ). slice_get (sites_of at.heap) n ≡ Some (site.Class i)) (sym is) (kept.memory.constants.classes i below))
