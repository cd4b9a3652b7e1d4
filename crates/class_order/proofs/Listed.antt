-- Numbered lists.
use Rattle.std.proofs.Common.{◌≡◌, ℕ, ◌<◌, ◌≤◌, ◌⊎◌, List, [], ◌∷◌, ◌++◌, length, set, replicate, sym, ap, subst, ◌∙◌, inl, inr, arith, get_or-set_same, get_or-set_other}
use Rattle.std.specs.List.{Contains}
use Rattle.std.proofs.lemmas.Bool.{cases_eq}
use Rattle.std.proofs.lemmas.List.{get_or_past, get_or-replicate, length-replicate}
use Rattle.std.proofs.lemmas.List.Elements.{Contains-push, Contains-push_cases, Contains-append_left}
use Rattle.class_order.specs.Groups.{group}
use Rattle.class_order.specs.Tables.{Under}

-- no list of none
pub group-replicate : {X : Type 0} (n at : ℕ) → group {X = X} (replicate n []) at ≡ []
group-replicate {X} n at = elim (below n at) [
  | inl h ↦ get_or-replicate n at [] [] h
  | inr h ↦ get_or_past (replicate n []) at [] (rw length-replicate h)
]
  where
    below : (n at : ℕ) → (at < n) ⊎ (n ≤ at)
    below n at = grind arith

pub group-past : {X : Type 0} (lists : List (List X)) (at : ℕ) → length lists ≤ at → group lists at ≡ []
group-past lists at h = get_or_past lists at [] h

-- a number goes to the end of a list
pub Under-push : (lists : List (List ℕ)) (at x a b : ℕ) → at < length lists → Under (set lists at (group lists at ++ x ∷ [])) a b → Under lists a b ⊎ ((b ≡ at) × (a ≡ x))
Under-push lists at x a b h c = elim (cases_eq b at) [
  | inl e ↦ elim (Contains-push_cases (group lists at) x a (subst (λ ys. Contains ys a) (ap (group (set lists at (group lists at ++ x ∷ []))) e ∙ get_or-set_same lists at _ [] h) c)) [
    | inl old ↦ inl (subst (λ k. Contains (group lists k) a) (sym e) old)
    | inr new ↦ inr (e, sym new)
  ]
  | inr ne ↦ inl (subst (λ ys. Contains ys a) (get_or-set_other lists at b _ [] ne) c)
]

pub Under-pushed : (lists : List (List ℕ)) (at x : ℕ) → at < length lists → Under (set lists at (group lists at ++ x ∷ [])) x at
Under-pushed lists at x h = subst (λ ys. Contains ys x) (sym (get_or-set_same lists at _ [] h)) (Contains-push (group lists at) x)

pub Under-kept : (lists : List (List ℕ)) (at x a b : ℕ) → at < length lists → Under lists a b → Under (set lists at (group lists at ++ x ∷ [])) a b
Under-kept lists at x a b h c = elim (cases_eq b at) [
  | inl e ↦ subst (λ ys. Contains ys a) (sym (ap (group (set lists at (group lists at ++ x ∷ []))) e ∙ get_or-set_same lists at _ [] h)) (Contains-append_left (group lists at) _ a (subst (λ k. Contains (group lists k) a) e c))
  | inr ne ↦ subst (λ ys. Contains ys a) (sym (get_or-set_other lists at b _ [] ne)) c
]
