-- A monitor misses no run.
use Rattle.std.proofs.Common.{◌≡◌, ℕ, ◌≤◌, ◌-◌, ◌⊎◌, List, length, length-append, length-set, replicate, slice_get, slice_set, suc, sym, ◌∙◌, inl, inr, arith}
use Rattle.std.proofs.lemmas.List.{length-replicate}
use Rattle.lists.proofs.Places.{slice_get-below, slice_get-there}
use Rattle.link_rules.specs.Linked.{LinkedProgram}
use Rattle.step_rules.specs.Runs.{Run}
use Rattle.step_rules.specs.States.{State}
use Rattle.step_rules.specs.Steps.{Step}
use Rattle.track_rules.specs.Protocols.{ProtocolParts}
use Rattle.track_runs.specs.Laws.{RunsAreWatched}
use Rattle.track_runs.specs.Monitor.{IsBroken, IsEvent, Watched, with_new}
use Rattle.track_runs.proofs.Deciding.{event_decided, row_decided}
use Rattle.track_runs.proofs.Growing.{call_keeps, heap_grows}

-- there are as many states as objects
pub with_new_many : (states : List ℕ) (count : ℕ) → length states ≤ count → length (with_new states count) ≡ count
with_new_many states count h =
    let new : List ℕ = replicate (count - length states) 0 in
    let many : length new ≡ count - length states = length-replicate (count - length states) 0 in
    omega (arith, length-append states new, many, h)

module _ (p : LinkedProgram) (k : ProtocolParts) where
  -- it is watched, and each object has a state
  abbrev IsKept : (count : ℕ) (s : State) → Run p count s → Type 0
  IsKept count s run = (states : List ℕ) × Watched p k count s run states × (length states ≡ length s.heap)

  allowed : (count choice : ℕ) (s next : State) (run : Run p count s) (step : Step p s choice next) (states : List ℕ) → Watched p k count s run states
      → length states ≡ length s.heap → (event o : ℕ) → IsEvent p k step event o
      → IsKept (suc count) next (Run.steps run step) ⊎ IsBroken p k (suc count) next (Run.steps run step)
  allowed count choice s next run step states watched as_many event o is =
      let there = slice_get-there states o (omega (arith, slice_get-below s.heap o is.object is.there, as_many)) in
      elim (row_decided p k there.0 event) [
        | inl row ↦
            inl (slice_set states o row.0, Watched.event watched step is there.1 row.1, length-set states o row.0 ∙ as_many ∙ sym (call_keeps p s next choice step is.frame is.entered))
        | inr none ↦ inr (IsBroken.here watched step is there.1 (λ to row. none (to, row)))
      ]

  begun : (s : State) → length {A = ℕ} (replicate (length s.heap) 0) ≡ length s.heap
  begun s = length-replicate (length s.heap) 0

  kept : {count : ℕ} {s : State} (run : Run p count s) → IsKept count s run ⊎ IsBroken p k count s run
  kept (Run.begins {s} first) = inl (replicate (length s.heap) 0, Watched.begins first, begun s)
  kept (Run.steps {count} {choice} {s} {next} run step) = elim (kept run) [
    | inr breaks ↦ inr (IsBroken.before breaks step)
    | inl (states, watched, as_many) ↦ elim (event_decided p k step) [
      | inl (event, o, is) ↦ allowed count choice s next run step states watched as_many event o is
      | inr none ↦
          let grown : length states ≤ length next.heap = omega (arith, heap_grows p s next choice step, as_many) in
          inl (with_new states (length next.heap), Watched.quiet watched step (λ event o is. none (event, o, is)), with_new_many states (length next.heap) grown)
    ]
  ]

pub runs_watched : RunsAreWatched
runs_watched p k count s run = elim (kept p k run) [ inl (states, watched, as_many) ↦ inl (states, watched) | inr breaks ↦ inr breaks ]
