-- A reply by what it tells.
use Rattle.std.proofs.Common.{List, ℕ, [], ◌∷◌, Ok, Err, Result, subst, sym}
use Rattle.std.specs.Result.{IfOk}
use Rattle.boom_top.specs.Parts.{Makes, Tells}
use Rattle.boom_top.specs.Refusals.{refusal}
use Rattle.boom_top.specs.declared.query.Reply.{Reply}
use Rattle.boom_top.specs.declared.status.Status.{Status}

-- a refusal is a reply where its status and its line are
pub told_one : (F : Status → List (List ℕ) → Type 0) (reply : Reply) (s : Status) → Tells s reply → F s (refusal s ∷ []) → Makes F reply
told_one F reply s tells f = (refusal s ∷ [], subst (λ (x : Status). F x (refusal s ∷ [])) (sym tells.0) f, tells.1)

module _ {E : Type 0} (F : Status → List (List ℕ) → Type 0) where
  -- so is one that was made
  pub told : (made : Result Reply E) (s : Status) → IfOk made (Tells s) → F s (refusal s ∷ []) → IfOk made (Makes F)
  told (Ok reply) s tells f = told_one F reply s tells f
  told (Err e) s tells f = tt

  -- what is a reply in one way is so in another
  pub passed : (G : Status → List (List ℕ) → Type 0) (made : Result Reply E) → ((s : Status) (lines : List (List ℕ)) → F s lines → G s lines)
      → IfOk made (Makes F) → IfOk made (Makes G)
  passed G (Ok reply) f makes = (makes.0, f reply.status makes.0 makes.1, makes.2)
  passed G (Err e) f makes = tt
