-- What fits a heap fits a larger one, and what is read of frames and objects that fit.
use Rattle.std.proofs.Common.{◌≡◌, ℕ, zero, suc, ◌<◌, ◌≤◌, ◌==◌, List, [], ◌∷◌, Option, Some, None, true, false, eqb, length, replicate, slice_get, refl, ◌⊎◌, arith, inl, inr}
use Rattle.std.specs.List.{filter, last_or}
use Rattle.std.proofs.lemmas.Bool.Decides.{eqb_tells}
use Rattle.std.proofs.lemmas.List.{append-nil, length-replicate, map-append}
use Rattle.std.proofs.lemmas.List.Elements.{filter-append}
use Rattle.link_rules.specs.declared.code.Arg.{Arg}
use Rattle.link_rules.specs.declared.code.Arg.TheVariants as arg
use Rattle.link_rules.specs.Linked.{LinkedMethod, LinkedProgram}
use Rattle.link_rules.specs.WellLinked.{FitsArg}
use Rattle.step_rules.specs.declared.parts.Slot.{Slot}
use Rattle.step_rules.specs.declared.parts.Slot.TheVariants as slot
use Rattle.step_rules.specs.declared.parts.Value.{Value}
use Rattle.step_rules.specs.declared.parts.Value.TheVariants.{Null, Number, Object}
use Rattle.step_rules.specs.Shapes.{EachOf, FitsFrame, FitsObject, FitsPoint, FitsSlot, FitsValue}
use Rattle.step_rules.specs.Slots.{before_all, field_of, if_set, operand_of, operands_of, or_null, slot_of, values_of}
use Rattle.step_rules.specs.States.{Frame, HeapObject, Point, new_frame, written}
use Rattle.step_rules.proofs.Listing.{each_cons, each_none, each_push}

pub value_more : (n k : ℕ) → n ≤ k → (v : Value) → FitsValue n v → FitsValue k v
value_more n k le (Object o) h = omega (arith, le, h)
value_more n k le Null h = tt
value_more n k le Number h = tt

pub slot_more : (n k : ℕ) → n ≤ k → (s : Option Value) → FitsSlot n s → FitsSlot k s
slot_more n k le (Some v) h = value_more n k le v h
slot_more n k le None h = tt

pub frame_more : (p : LinkedProgram) (n k : ℕ) → n ≤ k → (f : Frame) → FitsFrame p n f → FitsFrame p k f
frame_more p n k le f h = record {
  method = h.method;
  there = h.there;
  within = h.within;
  locals = h.locals;
  holds = λ s. slot_more n k le (slot_of f s) (h.holds s);
  flight = h.flight;
}

pub object_more : (p : LinkedProgram) (n k : ℕ) → n ≤ k → (o : HeapObject) → FitsObject p n o → FitsObject p k o
object_more p n k le o h = record { class = h.class; values = λ field i v e. value_more n k le v (h.values field i v e) }

-- what is written last
last_fits : (n : ℕ) (o : Option Value) (vs : List Value) → FitsSlot n o → EachOf (FitsValue n) vs → FitsSlot n (last_or o vs)
last_fits n o [] h each = h
last_fits n o (v ∷ vs) h each = last_fits n (Some v) vs (each zero v refl) (λ i w e. each (suc i) w e)

or_null_fits : (n : ℕ) (o : Option Value) → FitsSlot n o → FitsValue n (or_null o)
or_null_fits n (Some v) h = h
or_null_fits n None h = tt

pub field_fits : (p : LinkedProgram) (n : ℕ) (object : HeapObject) (field : ℕ) → FitsObject p n object → FitsValue n (field_of object field)
field_fits p n object field h = or_null_fits n (last_or None (values_of object field)) (last_fits n None (values_of object field) tt (h.values field))

-- one more write
pub written_fits : (p : LinkedProgram) (n : ℕ) (object : HeapObject) (field : ℕ) (v : Value) → FitsObject p n object → FitsValue n v
    → FitsObject p n (written object field v)
written_fits p n object field v h fits = record { class = h.class; values = λ f. by f (eqb_tells field f) } where
  by : (f : ℕ) → ((eqb field f ≡ true) × (field ≡ f)) ⊎ ((eqb field f ≡ false) × (field ≡ f → ⊥)) → EachOf (FitsValue n) (values_of (written object field v) f)
  by f (inl e) = rw (
    filter-append (λ w. w.field == f) object.writes (record { field = field; value = v } ∷ []),
    e.0,
    map-append (λ w. w.value) (filter (λ w. w.field == f) object.writes) (record { field = field; value = v } ∷ []),
  )
      (each_push (FitsValue n) (values_of object f) v (h.values f) fits)
  by f (inr e) = rw (
    filter-append (λ w. w.field == f) object.writes (record { field = field; value = v } ∷ []),
    e.0,
    append-nil (filter (λ w. w.field == f) object.writes),
  ) (h.values f)

-- an object into which nothing was written
pub new_fits : (p : LinkedProgram) (n class : ℕ) (object : HeapObject) → object.class ≡ class → object.writes ≡ [] → class < length p.classes → FitsObject p n object
new_fits p n class object is none h = record { class = omega (arith, is, h); values = λ field. rw none (each_none (FitsValue n)) }

module _ (p : LinkedProgram) (at : Point) (fits : FitsPoint p at) (m : LinkedMethod) where
  -- what an operand is
  pub operand_fits : (a : Arg) → FitsArg p m a → FitsSlot (length at.heap) (operand_of p at.top a)
  operand_fits (arg.Local x) h = fits.top.holds (slot.Local x)
  operand_fits arg.Number h = tt
  operand_fits arg.Null h = tt
  operand_fits (arg.Text i) h = omega (arith, fits.constants)
  operand_fits (arg.Class i) h = omega (arith, fits.constants)

  -- what operands are
  pub operands_fit : (args : List Arg) (vs : List Value) → EachOf (FitsArg p m) args → operands_of p at.top args ≡ Some vs → EachOf (FitsValue (length at.heap)) vs
  operands_fit [] vs each e = let none : vs ≡ [] = cc in rw none (each_none (FitsValue (length at.heap)))
  operands_fit (a ∷ args) vs each e =
      split (operand_of p at.top a) (operands_of p at.top args) (operand_fits a (each zero a refl)) (λ ws h. operands_fit args ws (λ i b k. each (suc i) b k) h) e
    where
      split : (first : Option Value) (rest : Option (List Value)) → FitsSlot (length at.heap) first
          → ((ws : List Value) → rest ≡ Some ws → EachOf (FitsValue (length at.heap)) ws) → before_all first rest ≡ Some vs → EachOf (FitsValue (length at.heap)) vs
      split (Some v) (Some ws) h more e = let same : vs ≡ v ∷ ws = cc in rw same (each_cons (FitsValue (length at.heap)) v ws h (more ws refl))
      split (Some v) None h more e = cc
      split None rest h more e = cc

-- unset locals
unset : (k x : ℕ) → if_set (slice_get (replicate k None) x) ≡ None
unset zero x = refl
unset (suc k) zero = refl
unset (suc k) (suc x) = unset k x

-- a value of a list, if it is there
pub there_fits : (n : ℕ) (vs : List Value) (i : ℕ) → EachOf (FitsValue n) vs → FitsSlot n (slice_get vs i)
there_fits n vs i each = by (slice_get vs i) refl where
  by : (o : Option Value) → slice_get vs i ≡ o → FitsSlot n o
  by (Some v) e = each i v e
  by None e = tt

-- the frame of a call
pub new_frame_fits : (p : LinkedProgram) (n number : ℕ) (m : LinkedMethod) (this : Option Value) (args : List Value) → slice_get p.methods number ≡ Some m
    → 0 < length m.code → FitsSlot n this → EachOf (FitsValue n) args → FitsFrame p n (new_frame number m this args)
new_frame_fits p n number m this args there some this_fits args_fit = record {
  method = m;
  there = there;
  within = some;
  locals = length-replicate (length m.locals) None;
  holds = holds;
  flight = tt;
} where
  holds : (s : Slot) → FitsSlot n (slot_of (new_frame number m this args) s)
  holds (slot.Local x) = rw (unset (length m.locals) x) tt
  holds slot.This = this_fits
  holds (slot.Param i) = there_fits n args i args_fit
  holds slot.Caught = tt
  holds slot.Thrown = tt
