-- What is kept stays so while the heap grows.
use Rattle.std.proofs.Common.{◌≡◌, ℕ, List, [], ◌∷◌, ◌++◌, Some, slice_get}
use Rattle.std.proofs.lemmas.List.{map-append}
use Rattle.lists.proofs.Places.{slice_get-append_left}
use Rattle.link_rules.specs.Linked.{LinkedProgram}
use Rattle.link_sites.specs.declared.place.Place.{Place}
use Rattle.link_sites.specs.declared.site.Site.{Site}
use Rattle.spds_rules.specs.declared.node.Node.{Node}
use Rattle.spds_rules.specs.Demand.{Asked}
use Rattle.step_rules.specs.declared.parts.Value.{Value}
use Rattle.step_rules.specs.States.{Frame, HeapObject}
use Rattle.run_sound.proofs.Invariant.{AreSlots, AreStatics, HasConstants, IsObject, IsReached, IsStored, IsTracked, Waits, more, none, sites_of}

-- the objects of the first heap are in the second, with the same sites
abbrev pub Extends : List Site → List Site → Type 0
Extends old new = (x : ℕ) (site : Site) → slice_get old x ≡ Some site → slice_get new x ≡ Some site

-- one more object
pub extends_more : (heap : List HeapObject) (object : HeapObject) → Extends (sites_of heap) (sites_of (heap ++ object ∷ []))
extends_more heap object x site e = rw map-append (slice_get-append_left (sites_of heap) (object.site ∷ []) x site e)

-- the same objects
pub extends_same : (old new : List Site) → new ≡ old → Extends old new
extends_same old new same x site e = rw same e

module _ (p : LinkedProgram) (q : Asked) (old new : List Site) (grows : Extends old new) where
  -- an object stays reached
  pub reached_more : (n : Node) (string : List Place) (x : ℕ) → IsReached p q old n string x → IsReached p q new n string x
  reached_more n string x r = record { site = r.site; of_site = grows x r.site r.of_site; by_fields = r.by_fields; by_calls = r.by_calls }

  -- so do those that the slots of a frame hold
  pub slots_more : (f : Frame) (string : List Place) → AreSlots p q old f string → AreSlots p q new f string
  slots_more f string slots from x e d = reached_more _ string x (slots from x e d)

  -- a frame keeps its string
  pub tracked_more : (f : Frame) (string : List Place) → IsTracked p q old f string → IsTracked p q new f string
  tracked_more f string t = record { shaped = t.shaped; slots = slots_more f string t.slots }

  -- and so do those that wait
  pub waits_more : {below : List Frame} {callee : ℕ} {string : List Place} → Waits p q old below callee string → Waits p q new below callee string
  waits_more (none is_root) = none is_root
  waits_more (more {below} {caller} {string} {callee} waits unraised target tracked) = more (waits_more waits) unraised target (tracked_more caller string tracked)

  -- what was stored was stored
  pub stored_more : (base : Site) (field x : ℕ) → IsStored p q old base field x → IsStored p q new base field x
  stored_more base field x s = record {
    store = s.store;
    is_store = s.is_store;
    is_field = s.is_field;
    string = s.string;
    at_base = s.at_base;
    at_arg = λ d. reached_more s.store.arg s.string x (s.at_arg d);
  }

  -- an object stays as it is
  pub object_more : (object : HeapObject) → IsObject p q old object → IsObject p q new object
  object_more object is = record {
    class = is.class;
    fields = is.fields;
    stored = λ w x has e. stored_more object.site w.field x (is.stored w x has e);
  }

  -- constants stay where they are
  pub constants_more : HasConstants p old → HasConstants p new
  constants_more has = record { texts = λ i below. grows i _ (has.texts i below); classes = λ i below. grows _ _ (has.classes i below) }

  -- static fields hold what they held
  pub statics_more : (statics : List Value) → AreStatics p q old statics → AreStatics p q new statics
  statics_more statics are field x n string e d load is = reached_more n string x (are field x n string e d load is)
