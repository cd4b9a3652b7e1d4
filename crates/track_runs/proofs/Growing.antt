-- No step takes an object away.
use Rattle.std.proofs.Common.{◌≡◌, ℕ, ◌+◌, ◌≤◌, ◌++◌, List, [], ◌∷◌, Option, Some, None, length, length-append, length-set, slice_set, refl, sym, ap, ◌∙◌, subst, inl, inr, arith}
use Rattle.link_rules.specs.declared.code.Code.{Code}
use Rattle.link_rules.specs.declared.code.Code.TheVariants.{Call}
use Rattle.link_rules.specs.Linked.{LinkedProgram}
use Rattle.step_rules.specs.declared.parts.Value.{Value}
use Rattle.step_rules.specs.declared.parts.Value.TheVariants.{Object}
use Rattle.step_rules.specs.Effects.{Effect}
use Rattle.step_rules.specs.Effects as effect
use Rattle.step_rules.specs.States.{Frame, HeapObject, Point, State, new_object, under, written}
use Rattle.step_rules.specs.Steps.{Becomes, Leaves, Receives, ReceivesAt, Returns, Step}

-- the heap of another state that is the same
kept : (heap : List HeapObject) (new known : State) → new ≡ known → length heap ≤ length known.heap → length heap ≤ length new.heap
kept heap new known same h = subst (λ (s : State). length heap ≤ length s.heap) (sym same) h

more : (heap : List HeapObject) (x : HeapObject) → length heap ≤ length (heap ++ x ∷ [])
more heap x = omega (arith, length-append heap (x ∷ []))

received : (to : Option ℕ) (value : Option Value) (caller : Point) (new : State) → Receives to value caller new → length caller.heap ≤ length new.heap
received None value caller new same = kept caller.heap new _ same (omega arith)
received (Some to) (Some v) caller new same = kept caller.heap new _ same (omega arith)
received (Some to) None caller new same = kept caller.heap new _ same (omega arith)

received_at : (code : Code) (value : Option Value) (caller : Point) (new : State) → ReceivesAt code value caller new → length caller.heap ≤ length new.heap
received_at (Call to mode class key receiver args targets) value caller new is = received to value caller new is
received_at _ value caller new is = absurd is

returned : (p : LinkedProgram) (at : Point) (value : Option Value) (new : State) → Returns p at value new → length at.heap ≤ length new.heap
returned p at value new (inl ends) = kept at.heap new _ ends.1 (omega arith)
returned p at value new (inr goes) = received_at goes.3.code value (under goes.0 goes.1 at) new goes.3.is_so

left : (at : Point) (o : ℕ) (new : State) → Leaves at o new → length at.heap ≤ length new.heap
left at o new (inl ends) = kept at.heap new _ ends.1 (omega arith)
left at o new (inr goes) = kept at.heap new _ goes.3 (omega arith)

becomes : (p : LinkedProgram) (at : Point) (e : Effect) (new : State) → Becomes p at e new → length at.heap ≤ length new.heap
becomes p at effect.is_ill_typed new is = kept at.heap new _ is (omega arith)
becomes p at (effect.raises kind) new is = kept at.heap new _ is.2 (more at.heap _)
becomes p at (effect.throws o) new is = kept at.heap new _ is (omega arith)
becomes p at (effect.goes index) new is = kept at.heap new _ is (omega arith)
becomes p at (effect.gets to value) new is = kept at.heap new _ is (omega arith)
becomes p at (effect.makes to class) new is = kept at.heap new _ is (more at.heap _)
becomes p at (effect.writes o field value) new is = kept at.heap new _ is.2 (omega (arith, length-set at.heap o (written is.0 field value)))
becomes p at (effect.nests to o inner class) new is =
    let made = new_object inner class in
    kept at.heap new _ is.2 (omega (arith, length-set (at.heap ++ made ∷ []) o (written is.0 0 (Object (length at.heap))), more at.heap made))
becomes p at (effect.sets field value) new is = kept at.heap new _ is (omega arith)
becomes p at (effect.calls frame) new is = kept at.heap new _ is (omega arith)
becomes p at (effect.returns value) new is = returned p at value new is
becomes p at (effect.handles handler o) new is = kept at.heap new _ is (omega arith)
becomes p at (effect.leaves o) new is = left at o new is

pub heap_grows : (p : LinkedProgram) (s next : State) (choice : ℕ) (step : Step p s choice next) → length s.heap ≤ length next.heap
heap_grows p s next choice step =
    subst (λ (t : State). length t.heap ≤ length next.heap) (sym step.stands) (becomes p step.at step.effect next step.becomes)

-- a call makes no object
pub call_keeps : (p : LinkedProgram) (s next : State) (choice : ℕ) (step : Step p s choice next) (frame : Frame) → step.effect ≡ effect.calls frame
    → length next.heap ≡ length s.heap
call_keeps p s next choice step frame same =
    let entered = subst (λ (e : Effect). Becomes p step.at e next) same step.becomes in
    ap (λ (t : State). length t.heap) entered ∙ ap (λ (t : State). length t.heap) (sym step.stands)
