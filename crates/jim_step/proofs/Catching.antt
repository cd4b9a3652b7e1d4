-- Handlers of a statement, one after the other.
use Rattle.std.proofs.Common.{◌≡◌, ℕ, ◌<◌, ◌↔◌, IsTrue, Bool, true, false, List, get_or, length}
use Rattle.std.proofs.lemmas.Option.{get_or_from_slice_get}
use Rattle.class_rules.specs.Rows.{Sub}
use Rattle.lists.proofs.Places.{slice_get-below}
use Rattle.link_rules.specs.declared.code.Catch.{Catch}
use Rattle.link_rules.specs.Flow.{CoversPlace}
use Rattle.link_rules.specs.Linked.{LinkedProgram}
use Rattle.step_rules.specs.Offers.{MayCatch}

-- where the test of the handler at an index fails, it doesn't catch
pub not_here : (p : LinkedProgram) (catches : List Catch) (t class i : ℕ) (d : Catch) (b : Bool)
    → IsTrue b ↔ (CoversPlace (get_or catches i d) t × Sub p.rows class (get_or catches i d).class) → b ≡ false → MayCatch p catches t class i → ⊥
not_here p catches t class i d b tells e may =
    let same : get_or catches i d ≡ may.0 = get_or_from_slice_get catches i may.0 d may.1 in
    let h : b ≡ true = tells.1 (rw same (may.2, may.3)) in cc (h, e)

-- a handler that may catch is one of them
pub may_within : (p : LinkedProgram) (catches : List Catch) (t class i : ℕ) → MayCatch p catches t class i → i < length catches
may_within p catches t class i may = slice_get-below catches i may.0 may.1
