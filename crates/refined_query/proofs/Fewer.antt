-- Narrowing takes pairs of a call and a target away, and adds none.
use Rattle.std.proofs.Common.{◌≡◌, ℕ, suc, ◌≤◌, List, [], ◌∷◌, Some, length, map, slice_get, refl, sym, subst, inl, inr, arith}
use Rattle.std.specs.List.{sum, sum_by}
use Rattle.std.proofs.lemmas.List.Sums.{sum-map, sum_by-cons}
use Rattle.link_rules.specs.declared.code.Code.{Code}
use Rattle.link_rules.specs.declared.code.Code.TheVariants as code
use Rattle.link_rules.specs.Linked.{LinkedMethod, LinkedProgram}
use Rattle.narrow_rules.specs.declared.kept.Kept.{Kept}
use Rattle.narrow_rules.specs.Narrowed.{AreThose, IsKept, IsNarrowed, IsNarrowedBody, IsNarrowedCode, IsNarrowedMethod, StaysIn, none, one, other, pairs_in, targets_at}
use Rattle.refined_query.specs.Rounds.{pairs_of}

-- those with a fact are no more than all
those_fewer : {X : Type 0} (P : X → Type 0) {all some : List X} → AreThose P all some → length some ≤ length all
those_fewer P none = omega arith
those_fewer P (one {x} {all} {some} h r) = let less = those_fewer P r in omega (arith, less)
those_fewer P (other {x} {all} {some} h r) = let less = those_fewer P r in omega (arith, less)

-- where each term is no more than the other's, the sum isn't
sum_fewer : {X : Type 0} (f : X → ℕ) (xs ys : List X) → length xs ≡ length ys
    → ((i : ℕ) (x y : X) → slice_get xs i ≡ Some x → slice_get ys i ≡ Some y → f y ≤ f x) → sum_by f ys ≤ sum_by f xs
sum_fewer f [] [] len each = omega arith
sum_fewer f [] (y ∷ ys) len each = absurd (omega (arith, len))
sum_fewer f (x ∷ xs) [] len each = absurd (omega (arith, len))
sum_fewer f (x ∷ xs) (y ∷ ys) len each =
    let here = each 0 x y refl refl in
    let rest = sum_fewer f xs ys (omega (arith, len)) (λ i a b at_a at_b. each (suc i) a b at_a at_b) in
    let first = sum_by-cons f x xs in
    let second = sum_by-cons f y ys in
    omega (arith, here, rest, first, second)

-- the same of sums of lists of terms
sums_fewer : {X : Type 0} (f : X → ℕ) (xs ys : List X) → length xs ≡ length ys
    → ((i : ℕ) (x y : X) → slice_get xs i ≡ Some x → slice_get ys i ≡ Some y → f y ≤ f x) → sum (map f ys) ≤ sum (map f xs)
sums_fewer f xs ys len each =
    let less = sum_fewer f xs ys len each in
    let first = sum-map f xs in
    let second = sum-map f ys in
    omega (arith, less, first, second)

code_fewer : (kept : List Kept) (number index : ℕ) (c d : Code) → IsNarrowedCode kept number index c d → targets_at d ≤ targets_at c
code_fewer kept number index (code.Call to mode class key receiver args targets) d n =
    subst (λ e. targets_at e ≤ length targets) (sym n.2) (those_fewer (λ target. StaysIn mode (IsKept kept number index target)) n.1)
code_fewer kept number index c d n = subst (λ e. targets_at e ≤ targets_at c) (sym n) (omega arith)

body_fewer : (kept : List Kept) (number : ℕ) (old new : List Code) → IsNarrowedBody kept number old new → pairs_of new ≤ pairs_of old
body_fewer kept number old new n = sums_fewer targets_at old new n.as_many (λ i c d at_c at_d. code_fewer kept number i c d (n.each i c d at_c at_d))

method_fewer : (p : LinkedProgram) (kept : List Kept) (root number : ℕ) (old new : LinkedMethod) → IsNarrowedMethod p kept root number old new
    → pairs_of new.code ≤ pairs_of old.code
method_fewer p kept root number old new n = elim n.becomes [
  | inl goes ↦ body_fewer kept number old.code new.code goes.code
  | inr lost ↦ subst (λ (cs : List Code). pairs_of cs ≤ pairs_of old.code) (sym lost.code) (omega arith)
]

-- a program that is narrowed has no more pairs
pub narrowed_fewer : (p q : LinkedProgram) (kept : List Kept) → IsNarrowed p kept q → pairs_in q ≤ pairs_in p
narrowed_fewer p q kept n =
    sums_fewer (λ (m : LinkedMethod). pairs_of m.code) p.methods q.methods n.as_many
    (λ i old new at_p at_q. method_fewer p kept n.root i old new (n.each i old new at_p at_q))
