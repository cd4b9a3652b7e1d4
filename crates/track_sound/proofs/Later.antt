-- The states of objects, as steps change them.
use Rattle.std.proofs.Common.{◌≡◌, ℕ, zero, suc, ◌+◌, ◌-◌, ◌<◌, ◌≤◌, ◌++◌, List, Some, length, replicate, slice_get, refl, sym, ap, ◌∙◌, subst, inl, inr, arith}
use Rattle.lists.proofs.Places.{slice_get-append_left, slice_get-below, slice_get-there}
use Rattle.lists.proofs.Joined.{slice_get-append_right, slice_get-appended}
use Rattle.link_laws.proofs.Lists.{at_map, map_at}
use Rattle.link_rules.specs.Linked.{LinkedProgram}
use Rattle.spds_rules.specs.Demand.{Asked}
use Rattle.step_rules.specs.States.{HeapObject, Point, State, new_object}
use Rattle.run_origins.specs.Origins.{KeepsObjects}
use Rattle.track_rules.specs.Protocols.{ProtocolParts}
use Rattle.track_runs.specs.Monitor.{with_new}
use Rattle.track_systems.specs.Weights.{Anywhere, Sends}
use Rattle.track_systems.specs.Weights as weights
use Rattle.track_sound.proofs.Held.{AreSent, Extends, kind_of, kinds_of}
use Rattle.track_runs.proofs.Watching.{with_new_many}

-- no step changes the kind of an object
pub kinds_grow : (p : LinkedProgram) (at : Point) (next : State) → KeepsObjects p at next → Extends (kinds_of at.heap) (kinds_of next.heap)
kinds_grow p at next keeps x kind e =
    let old = at_map kind_of at.heap x kind e in
    let now = keeps.objects x old.0 old.1 in
    let same : kind_of now.0 ≡ kind = (λ j. new_object (now.2 j) (now.3 j)) ∙ sym old.2 in
    map_at kind_of next.heap x now.0 now.1 ∙ ap Some same

-- a list of one element
replicated : (n i : ℕ) → i < n → slice_get {X = ℕ} (replicate n 0) i ≡ Some 0
replicated zero i below = absurd (omega (arith, below))
replicated (suc n) zero below = refl
replicated (suc n) (suc i) below = replicated n i (omega (arith, below))

pub replicated_zero : (n i x : ℕ) → slice_get (replicate n 0) i ≡ Some x → x ≡ 0
replicated_zero zero i x e = cc (e)
replicated_zero (suc n) zero x e = cc (e)
replicated_zero (suc n) (suc i) x e = replicated_zero n i x e

-- with the states of new objects, those of others stay
pub new_on : (states : List ℕ) (count : ℕ) → Extends states (with_new states count)
new_on states count x i e = slice_get-append_left states (replicate (count - length states) 0) x i e

-- a new one is in state 0
pub new_fresh : (states : List ℕ) (count x : ℕ) → x ≡ length states → x < count → slice_get (with_new states count) x ≡ Some 0
new_fresh states count x is below =
    let zeros : List ℕ = replicate (count - length states) 0 in
    let first : slice_get (states ++ zeros) (length states + 0) ≡ Some 0 = slice_get-append_right states zeros 0 ∙ replicated (count - length states) 0 (omega (arith, is, below)) in
    let same : length states + 0 ≡ x = omega (arith, is) in
    subst (λ (n : ℕ). slice_get (states ++ zeros) n ≡ Some 0) same first

module _ (p : LinkedProgram) (k : ProtocolParts) (q : Asked) where
  -- any events lead to the states that objects then have
  pub new_sent : (heap next : List HeapObject) (states : List ℕ) → Extends (kinds_of heap) (kinds_of next) → length states ≤ length next
      → AreSent p k q (kinds_of heap) states
      → AreSent p k q (kinds_of next) (with_new states (length next))
  new_sent heap next states grows few sent x i e = elim (slice_get-appended states (replicate (length next - length states) 0) x i e) [
    | inl old ↦ let h = sent x i old in record { kind = h.kind; is_kind = grows x h.kind h.is_kind; is_so = h.is_so }
    | inr anew ↦
        let is : i ≡ 0 = replicated_zero (length next - length states) anew.0 i anew.2 in
        let below : x < length next = omega (arith, slice_get-below (with_new states (length next)) x i e, with_new_many states (length next) few) in
        let object = slice_get-there next x below in
        record {
          kind = kind_of object.0;
          is_kind = map_at kind_of next x object.0 object.1;
          is_so = λ t. subst (λ (s : ℕ). Sends p k q object.0.site Anywhere 0 s) (sym is) weights.none;
        }
  ]
