-- Which classes may have objects of another class too.
use Rattle.std.proofs.Common.{◌≡◌, ℕ, zero, suc, ◌+◌, ◌<◌, ◌≤◌, ◌↔◌, List, [], ◌∷◌, ◌++◌, Option, None, Some, Bool, IsTrue, length, replicate, slice_get, slice_set, inl, inr, sym, subst, arith}
use Rattle.std.proofs.lemmas.Bool.{cases_eq, cases_lt}
use Rattle.class_rules.specs.Rows.{Sub}
use Rattle.lists.specs.Lists.{Has}
use Rattle.lists.proofs.Places.{slice_get-below, slice_get-set_other, slice_get-set_same, Has-push}
use Rattle.link_rules.specs.Linked.{LinkedProgram}
use Rattle.track_runs.specs.Events.{HasBelow}
use Rattle.site_events.specs.EventStatements.{AreBelow, IsBelow}

-- those with a smaller number
abbrev pub AreBelowUpTo : LinkedProgram → ℕ → ℕ → List ℕ → Type 0
AreBelowUpTo p of n below = (class : ℕ) → Has below class ↔ ((class < n) × IsBelow p of class)

module _ (p : LinkedProgram) (of n : ℕ) where
  pub below_none : AreBelowUpTo p of 0 []
  below_none class = ((λ has. let there = has.1 in cc), (λ h. absurd (let lt : class < 0 = h.0 in omega arith)))

  pub below_more : (below : List ℕ) → IsBelow p of n → AreBelowUpTo p of n below → AreBelowUpTo p of (n + 1) (below ++ n ∷ [])
  below_more below is exact class = (
    (λ has. elim ((Has-push below n class).0 has) [
      | inl old ↦ let h = (exact class).0 old in (let lt : class < n = h.0 in omega arith, h.1)
      | inr e ↦ (omega arith, subst (λ (c : ℕ). IsBelow p of c) (sym e) is)
    ]),
    (λ h. (Has-push below n class).1 (elim (cases_lt class n) [
      | inl less ↦ inl ((exact class).1 (less, h.1))
      | inr more ↦ inr (let lt : class < n + 1 = h.0 in omega arith)
    ])),
  )

  pub below_skip : (below : List ℕ) → (IsBelow p of n → ⊥) → AreBelowUpTo p of n below → AreBelowUpTo p of (n + 1) below
  below_skip below none exact class = (
    (λ has. let h = (exact class).0 has in (let lt : class < n = h.0 in omega arith, h.1)),
    (λ h. elim (cases_lt class n) [
      | inl less ↦ (exact class).1 (less, h.1)
      | inr more ↦ absurd (none (subst (λ (c : ℕ). IsBelow p of c) (let lt : class < n + 1 = h.0 in let e : class ≡ n = omega arith in e) h.1))
    ]),
  )

  pub below_all : (below : List ℕ) → length p.classes ≤ n → AreBelowUpTo p of n below → AreBelow p of below
  below_all below past exact class = (
    (λ has. ((exact class).0 has).1),
    (λ is. (exact class).1 (let inside : class < length p.classes = slice_get-below p.classes class is.0.0 is.0.1 in omega arith, is)),
  )

module _ (p : LinkedProgram) (of : ℕ) where
  -- the classes below are those of the program
  pub below_inside : (below : List ℕ) → AreBelow p of below → (class : ℕ) → Has below class → class < length p.classes
  below_inside below exact class has = let is = (exact class).0 has in slice_get-below p.classes class is.0.0 is.0.1

  -- one of them is below the class
  pub has_below : (below : List ℕ) (class : ℕ) → AreBelow p of below → ((c : ℕ) × Has below c × Sub p.rows c class) ↔ HasBelow p of class
  has_below below class exact = (
    (λ h. let is = (exact h.0).0 h.1 in record { class = h.0; instantiable = is.0; below_a = is.1; below_b = h.2 }),
    (λ h. (h.class, (exact h.class).1 (h.instantiable, h.below_a), h.below_b)),
  )

  -- what is known of the classes is so
  abbrev pub AreKnown : List (Option Bool) → Type 0
  AreKnown answers = (class : ℕ) (answer : Bool) → slice_get answers class ≡ Some (Some answer) → IsTrue answer ↔ HasBelow p of class

  nothing : (n class : ℕ) (answer : Bool) → slice_get (replicate n None) class ≡ Some (Some answer) → ⊥
  nothing zero class answer h = cc
  nothing (suc n) zero answer h = cc
  nothing (suc n) (suc class) answer h = nothing n class answer h

  pub known_none : (n : ℕ) → AreKnown (replicate n None)
  known_none n class answer h = absurd (nothing n class answer h)

  pub known_more : (answers : List (Option Bool)) (class : ℕ) (found : Bool) → class < length answers → IsTrue found ↔ HasBelow p of class → AreKnown answers
      → AreKnown (slice_set answers class (Some found))
  known_more answers class found within is known other answer h =
      elim (cases_eq other class) [
        | inl e ↦
            let there = slice_get-set_same answers class (Some found) within in
            let at : slice_get (slice_set answers class (Some found)) class ≡ Some (Some answer) = subst (λ (i : ℕ). slice_get (slice_set answers class (Some found)) i ≡ Some (Some answer)) e h in
            let same : found ≡ answer = cc in
            subst (λ (i : ℕ). IsTrue answer ↔ HasBelow p of i) (sym e) (subst (λ (b : Bool). IsTrue b ↔ HasBelow p of class) same is)
        | inr ne ↦ known other answer (let stays = slice_get-set_other answers class other (Some found) ne in cc)
      ]
