-- The values of operands.
use Rattle.std.proofs.Common.{◌≡◌, ℕ, zero, suc, ◌+◌, ◌<◌, List, [], ◌∷◌, ◌++◌, Option, Some, None, length, slice_get, refl, ap, ◌∙◌, true, false, take, get_or, add-one}
use Rattle.std.specs.Option.{is_some}
use Rattle.std.proofs.Math.Seq.{take-suc}
use Rattle.std.proofs.lemmas.Option.{slice_get-get_or}
use Rattle.link_rules.specs.declared.code.Arg.{Arg}
use Rattle.link_rules.specs.Linked.{LinkedProgram}
use Rattle.step_rules.specs.declared.parts.Value.{Value}
use Rattle.step_rules.specs.Slots.{before_all, operand_of, operands_of}
use Rattle.step_rules.specs.States.{Frame}

module _ (p : LinkedProgram) (f : Frame) where
  -- one more operand that is set
  pub operands_more : (xs : List Arg) (vs : List Value) (a : Arg) (v : Value) → operands_of p f xs ≡ Some vs → operand_of p f a ≡ Some v
      → operands_of p f (xs ++ a ∷ []) ≡ Some (vs ++ v ∷ [])
  operands_more [] vs a v h set = rw set (let e : vs ≡ [] = cc in rw e refl)
  operands_more (x ∷ xs) vs a v h set = split (operand_of p f x) (operands_of p f xs) (λ ws e. operands_more xs ws a v e set) h where
    split : (first : Option Value) (rest : Option (List Value)) → ((ws : List Value) → rest ≡ Some ws → operands_of p f (xs ++ a ∷ []) ≡ Some (ws ++ v ∷ []))
        → before_all first rest ≡ Some vs → before_all first (operands_of p f (xs ++ a ∷ [])) ≡ Some (vs ++ v ∷ [])
    split (Some w) (Some ws) more e = let same : vs ≡ w ∷ ws = cc in rw (more ws refl, same) refl
    split (Some w) None more e = cc
    split None rest more e = cc

  -- an operand that is unset
  pub operands_unset : (xs : List Arg) (i : ℕ) (a : Arg) → slice_get xs i ≡ Some a → operand_of p f a ≡ None → operands_of p f xs ≡ None
  operands_unset [] i a h unset = cc
  operands_unset (x ∷ xs) zero a h unset = let e : operand_of p f x ≡ None = ap (some_or x) h ∙ unset in rw e refl where
    some_or : Arg → Option Arg → Option Value
    some_or d (Some y) = operand_of p f y
    some_or d None = operand_of p f d
  operands_unset (x ∷ xs) (suc i) a h unset = rw (operands_unset xs i a h unset) (none (operand_of p f x)) where
    none : (first : Option Value) → before_all first None ≡ None
    none (Some v) = refl
    none None = refl

  -- the same, by what stands at an index
  pub unset_at : (xs : List Arg) (i : ℕ) (d : Arg) → i < length xs → operand_of p f (get_or xs i d) ≡ None → operands_of p f xs ≡ None
  unset_at xs i d h unset = operands_unset xs i (get_or xs i d) (slice_get-get_or xs i d h) unset

  -- the operands up to the next index
  pub set_at : (xs : List Arg) (i : ℕ) (d : Arg) (vs : List Value) (v : Value) → i < length xs → operand_of p f (get_or xs i d) ≡ Some v
      → operands_of p f (take i xs) ≡ Some vs → operands_of p f (take (i + 1) xs) ≡ Some (vs ++ v ∷ [])
  set_at xs i d vs v h set before = rw (add-one, take-suc xs i d h) (operands_more (take i xs) vs (get_or xs i d) v before set)
