-- States that are kept, before and after.
use Rattle.std.proofs.Common.{◌≡◌, List, refl, ap, ◌∙◌}
use Rattle.jim_step.specs.declared.kept.Kept.{Kept}
use Rattle.jim_step.specs.Keeping.{ending_of, state_in}
use Rattle.jim_step.specs.Stacks.{ChangesTop}
use Rattle.step_rules.specs.declared.parts.Value.{Value}
use Rattle.step_rules.specs.States.{Ending, Frame, HeapObject, Point, State, state_of}

-- a state by its parts
pub same_state : (f g : List Frame) (h i : List HeapObject) (s t : List Value) (e d : Ending) → f ≡ g → h ≡ i → s ≡ t → e ≡ d
    → ◌≡◌ {A = State} (record { frames = f; heap = h; statics = s; ending = e }) (record { frames = g; heap = i; statics = t; ending = d })
same_state f g h i s t e d p q r u = rw (p, q, r, u) refl

-- the top frame changes, and the heap and the static fields become these
pub moved_all : (old new : Kept) (f : Frame → Frame) (heap : List HeapObject) (statics : List Value) (at : Point) → ChangesTop f old.frames.items new.frames.items
    → new.heap ≡ heap → new.statics.items ≡ statics → new.moved ≡ old.moved → state_in old ≡ state_of at
    → state_in new ≡ state_of (record at { top = f at.top; heap = heap; statics = statics })
moved_all old new f heap statics at changes same_heap same_statics moved stands =
    same_state _ _ _ _ _ _ _ _ (changes at.below at.top (ap (λ (s : State). s.frames) stands)) same_heap same_statics
    (ap ending_of moved ∙ ap (λ (s : State). s.ending) stands)

-- the top frame changes alone
pub moved_top : (old new : Kept) (f : Frame → Frame) (at : Point) → ChangesTop f old.frames.items new.frames.items
    → new.heap ≡ old.heap → new.statics.items ≡ old.statics.items → new.moved ≡ old.moved → state_in old ≡ state_of at
    → state_in new ≡ state_of (record at { top = f at.top })
moved_top old new f at changes heap statics moved stands =
    moved_all old new f at.heap at.statics at changes (heap ∙ ap (λ (s : State). s.heap) stands) (statics ∙ ap (λ (s : State). s.statics) stands) moved stands
