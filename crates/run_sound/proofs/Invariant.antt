-- What each state of a run keeps: of the objects that slots and static fields hold directly, and of each single write. What words of fields lead to
-- follows from it in every state.
use Rattle.std.proofs.Common.{◌≡◌, ℕ, ◌+◌, ◌<◌, ◌⊎◌, ◌++◌, List, [], ◌∷◌, Some, None, true, false, is_some, length, map, slice_get}
use Rattle.lists.specs.Lists.{Has}
use Rattle.link_rules.specs.declared.code.Code.{Code}
use Rattle.link_rules.specs.Linked.{LinkedMethod, LinkedProgram}
use Rattle.link_rules.specs.WellLinked.{HasTarget}
use Rattle.link_sites.specs.declared.place.Place.{Place}
use Rattle.link_sites.specs.declared.site.Site.{Site}
use Rattle.link_sites.specs.declared.site.Site.TheVariants as site
use Rattle.link_sites.specs.Places.{before}
use Rattle.link_sites.specs.Sites.{HasField, IsSiteClass}
use Rattle.spds_rules.specs.declared.node.Node.{Node}
use Rattle.spds_rules.specs.declared.store.StoreAt.{StoreAt}
use Rattle.spds_rules.specs.Demand.{Asked, Demand}
use Rattle.spds_rules.specs.Nodes.{MayStand}
use Rattle.spds_rules.specs.Stores.{IsStore}
use Rattle.spds_rules.specs.Systems.{Calls, Fields, IsString}
use Rattle.step_rules.specs.declared.parts.Slot.{Slot}
use Rattle.step_rules.specs.declared.parts.Value.{Value}
use Rattle.step_rules.specs.declared.parts.Value.TheVariants.{Object}
use Rattle.step_rules.specs.Slots.{slot_of}
use Rattle.step_rules.specs.States.{Frame, HeapObject, Point, State, Write}
use Rattle.run_sound.specs.Frames.{node_of}
use Rattle.run_sound.specs.Simulated.{IsLoadedFrom}

-- the site of each object
abbrev pub sites_of : List HeapObject → List Site
sites_of heap = map (λ object. object.site) heap

-- the object with this number has a site, of which both systems have it at the node, directly and under the string
pub record IsReached (p : LinkedProgram) (q : Asked) (sites : List Site) (n : Node) (string : List Place) (x : ℕ) : Type 0 where
  pub site : Site
  pub of_site : slice_get sites x ≡ Some site
  pub by_fields : Fields p q site n []
  pub by_calls : Calls p q site n string

-- the frame has the form of its method, at one of its places. An object is in flight exactly at a raised one
pub record IsShaped (p : LinkedProgram) (f : Frame) : Type 0 where
  pub method : LinkedMethod
  pub there : slice_get p.methods f.method ≡ Some method
  pub code : Code
  pub here : slice_get method.code f.index ≡ Some code
  pub stands : MayStand code f.raised
  pub locals : length f.locals ≡ length method.locals
  pub params : length f.params ≡ method.params
  pub this : is_some f.this ≡ method.has_this
  pub thrown : f.raised ≡ false → f.thrown ≡ None
  pub flies : f.raised ≡ true → (x : ℕ) × (f.thrown ≡ Some (Object x))

-- each object that a slot of the frame holds is reached, where the slot's node is demanded
abbrev pub AreSlots : LinkedProgram → Asked → List Site → Frame → List Place → Type 0
AreSlots p q sites f string = (from : Slot) (x : ℕ) → slot_of f from ≡ Some (Object x) → Demand p q (node_of f from)
    → IsReached p q sites (node_of f from) string x

-- a frame with this string
pub record IsTracked (p : LinkedProgram) (q : Asked) (sites : List Site) (f : Frame) (string : List Place) : Type 0 where
  pub shaped : IsShaped p f
  pub slots : AreSlots p q sites f string

-- the frames that wait below one of a method: the first is of the root, and each stands, unraised, at a call that has the next one's method among its
-- targets. The string is that of the frame above them
pub data Waits (p : LinkedProgram) (q : Asked) (sites : List Site) : List Frame → ℕ → List Place → Type 0 where
  none : {root : ℕ} → root + 1 ≡ length p.methods → Waits p q sites [] root []
  more : {below : List Frame} {caller : Frame} {string : List Place} {callee : ℕ} → Waits p q sites below caller.method string → caller.raised ≡ false
      → HasTarget p caller.method caller.index callee → IsTracked p q sites caller string
      → Waits p q sites (below ++ caller ∷ []) callee (before caller.method caller.index ∷ string)

-- the frames, where the run goes on
pub record AreFrames (p : LinkedProgram) (q : Asked) (sites : List Site) (below : List Frame) (top : Frame) : Type 0 where
  pub string : List Place
  pub waits : Waits p q sites below top.method string
  pub tracked : IsTracked p q sites top string

-- a store of the field, demanded or not, through which the object with this number may have come into one of the base's site
pub record IsStored (p : LinkedProgram) (q : Asked) (sites : List Site) (base : Site) (field x : ℕ) : Type 0 where
  pub store : StoreAt
  pub is_store : IsStore p store
  pub is_field : store.field ≡ field
  pub string : List Place
  pub at_base : Demand p q store.base → Fields p q base store.base [] × Calls p q base store.base string
  pub at_arg : Demand p q store.arg → IsReached p q sites store.arg string x

-- an object of the heap has the class of its site, each of its writes is of a field that its site has, and each object that was written was stored
pub record IsObject (p : LinkedProgram) (q : Asked) (sites : List Site) (object : HeapObject) : Type 0 where
  pub class : IsSiteClass p object.site object.class
  pub fields : (w : Write) → Has object.writes w → HasField p object.site w.field
  pub stored : (w : Write) (x : ℕ) → Has object.writes w → w.value ≡ Object x → IsStored p q sites object.site w.field x

-- the heap begins with an object for each text and then one for each class constant
pub record HasConstants (p : LinkedProgram) (sites : List Site) : Type 0 where
  pub texts : (i : ℕ) → i < length p.texts → slice_get sites i ≡ Some (site.Text i)
  pub classes : (i : ℕ) → i < length p.class_texts → slice_get sites (length p.texts + i) ≡ Some (site.Class i)

-- what a static field holds is reached wherever the field is loaded into, under each string
abbrev pub AreStatics : LinkedProgram → Asked → List Site → List Value → Type 0
AreStatics p q sites statics = (field x : ℕ) (n : Node) (string : List Place) → slice_get statics field ≡ Some (Object x) → Demand p q n
    → IsLoadedFrom p field n → IsString p n.place.method string → IsReached p q sites n string x

-- the heap and the static fields
pub record IsMemory (p : LinkedProgram) (q : Asked) (heap : List HeapObject) (statics : List Value) : Type 0 where
  pub constants : HasConstants p (sites_of heap)
  pub objects : (x : ℕ) (object : HeapObject) → slice_get heap x ≡ Some object → IsObject p q (sites_of heap) object
  pub static_fields : AreStatics p q (sites_of heap) statics

-- the frames of a state: none once the run has ended
abbrev pub AreFramesOf : LinkedProgram → Asked → State → Type 0
AreFramesOf p q s = (s.frames ≡ []) ⊎ ((below : List Frame) × (top : Frame) × (s.frames ≡ below ++ top ∷ []) × AreFrames p q (sites_of s.heap) below top)

-- what a state keeps
pub record IsKept (p : LinkedProgram) (q : Asked) (s : State) : Type 0 where
  pub frames : AreFramesOf p q s
  pub memory : IsMemory p q s.heap s.statics

-- the same of a state that goes on
pub record IsKeptAt (p : LinkedProgram) (q : Asked) (at : Point) : Type 0 where
  pub frames : AreFrames p q (sites_of at.heap) at.below at.top
  pub memory : IsMemory p q at.heap at.statics
