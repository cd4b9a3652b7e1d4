-- Lemmas on the statements that are left of a method.
use Rattle.std.proofs.Common.{◌≡◌, ℕ, zero, suc, ◌<◌, List, [], ◌∷◌, Some, All, length, slice_get, refl, sym, ap, ◌∙◌, subst}
use Rattle.lists.proofs.Places.{slice_get-below, slice_get-there}
use Rattle.lists.specs.Lists.{Has}
use Rattle.jim_ast.specs.declared.syntax.Mode.{Mode}
use Rattle.jim_ast.specs.declared.syntax.Mode.TheVariants.{Special, Virtual, Interface, Static}
use Rattle.link_rules.specs.declared.code.Code.{Code}
use Rattle.link_rules.specs.declared.code.Code.TheVariants as code
use Rattle.link_rules.specs.Flow.{Next}
use Rattle.link_rules.specs.WellLinked.{HasOneTarget, MakesArrays}
use Rattle.link_laws.proofs.Lists.{all_at, at_all}
use Rattle.narrow_rules.specs.declared.kept.Kept.{Kept}
use Rattle.narrow_rules.specs.Narrowed.{AreThose, IsKept, IsNarrowedBody, IsNarrowedCode, StaysIn, none, one, other}

module _ {X : Type 0} (P : X → Type 0) where
  -- what is among those is one of all, and has the fact
  pub those_are : {all some : List X} → AreThose P all some → (i : ℕ) (x : X) → slice_get some i ≡ Some x → Has all x × P x
  those_are none = λ i x e. cc
  those_are (one {x} {all} {some} h r) = at_place x h all some (those_are r) where
    at_place : (x : X) → P x → (all some : List X) → ((i : ℕ) (y : X) → slice_get some i ≡ Some y → Has all y × P y) → (i : ℕ) (y : X)
        → slice_get (x ∷ some) i ≡ Some y → Has (x ∷ all) y × P y
    at_place x h all some rest zero y e = let same : x ≡ y = cc in ((0, e), subst P same h)
    at_place x h all some rest (suc i) y e = let r = rest i y e in ((suc r.0.0, r.0.1), r.1)
  those_are (other h r) = λ i y e. let s = those_are r i y e in ((suc s.0.0, s.0.1), s.1)

  -- one of all that has the fact is among those
  pub those_have : {all some : List X} → AreThose P all some → (i : ℕ) (x : X) → slice_get all i ≡ Some x → P x → Has some x
  those_have none = λ i x e h. cc
  those_have (one {x} {all} {some} h r) = at_place x all some (those_have r) where
    at_place : (x : X) (all some : List X) → ((i : ℕ) (y : X) → slice_get all i ≡ Some y → P y → Has some y) → (i : ℕ) (y : X)
        → slice_get (x ∷ all) i ≡ Some y → P y → Has (x ∷ some) y
    at_place x all some rest zero y e k = (0, e)
    at_place x all some rest (suc i) y e k = let r = rest i y e k in (suc r.0, r.1)
  those_have (other {x} {all} {some} h r) = at_place x all some h (those_have r) where
    at_place : (x : X) (all some : List X) → (P x → ⊥) → ((i : ℕ) (y : X) → slice_get all i ≡ Some y → P y → Has some y) → (i : ℕ) (y : X)
        → slice_get (x ∷ all) i ≡ Some y → P y → Has some y
    at_place x all some h rest zero y e k = let same : y ≡ x = cc in absurd (h (subst P same k))
    at_place x all some h rest (suc i) y e k = rest i y e k

  -- where each has the fact, those are all
  pub those_all : ((x : X) → P x) → {all some : List X} → AreThose P all some → some ≡ all
  those_all each none = refl
  those_all each (one {x} h r) = ap (λ xs. x ∷ xs) (those_all each r)
  those_all each (other {x} h r) = absurd (h (each x))

  -- there is one list of those
  pub those_once : {all one_list : List X} → AreThose P all one_list → (two : List X) → AreThose P all two → one_list ≡ two
  those_once none = λ two r. none_once two r where
    none_once : (two : List X) → AreThose P [] two → [] ≡ two
    none_once two none = refl
  those_once (one {x} {all} {some} h r) = one_once x all some h (those_once r) where
    one_once : (x : X) (all some : List X) → P x → ((two : List X) → AreThose P all two → some ≡ two) → (two : List X)
        → AreThose P (x ∷ all) two → x ∷ some ≡ two
    one_once x all some h rest two (one {some = others} k s) = ap (λ xs. x ∷ xs) (rest others s)
    one_once x all some h rest two (other k s) = absurd (k h)
  those_once (other {x} {all} {some} h r) = other_once x all some h (those_once r) where
    other_once : (x : X) (all some : List X) → (P x → ⊥) → ((two : List X) → AreThose P all two → some ≡ two) → (two : List X)
        → AreThose P (x ∷ all) two → some ≡ two
    other_once x all some h rest two (one k s) = absurd (h k)
    other_once x all some h rest two (other k s) = rest two s

  -- a fact of all is one of those
  pub those_keep : (Q : X → Type 0) {all some : List X} → AreThose P all some → All Q all → All Q some
  those_keep Q {all} {some} r each = all_at Q some (λ i x e. let h = (those_are r i x e).0 in at_all Q all h.0 x each h.1)

-- a call of static or special mode has one target still
pub one_target : (mode : Mode) (Named : ℕ → Type 0) (all some : List ℕ) → AreThose (λ target. StaysIn mode (Named target)) all some
    → HasOneTarget mode all → HasOneTarget mode some
one_target Static Named all some r h = ap length (those_all (λ target. Unit {0}) (λ target. tt) r) ∙ h
one_target Special Named all some r h = ap length (those_all (λ target. Unit {0}) (λ target. tt) r) ∙ h
one_target Virtual Named all some r h = tt
one_target Interface Named all some r h = tt

module _ (kept : List Kept) (number index : ℕ) where
  -- a run goes on as before
  pub next_before : (c d : Code) (t next : ℕ) → IsNarrowedCode kept number index c d → Next d t next → Next c t next
  next_before (code.Call to mode class key receiver args targets) d t next n h = subst (λ e. Next e t next) n.2 h
  next_before c d t next n h = subst (λ e. Next e t next) n h

  -- and makes arrays as before
  pub arrays_before : (c d : Code) → IsNarrowedCode kept number index c d → MakesArrays d → MakesArrays c
  arrays_before (code.Call to mode class key receiver args targets) d n h = subst MakesArrays n.2 h
  arrays_before c d n h = subst MakesArrays n h

  -- one statement is left
  pub code_once : (c d e : Code) → IsNarrowedCode kept number index c d → IsNarrowedCode kept number index c e → d ≡ e
  code_once (code.Call to mode class key receiver args targets) d e n m =
      n.2 ∙ ap (λ some. code.Call to mode class key receiver args some) (those_once (λ target. StaysIn mode (IsKept kept number index target)) n.1 m.0 m.1)
      ∙ sym m.2
  code_once c d e n m = n ∙ sym m

module _ (kept : List Kept) (number : ℕ) (old new : List Code) (n : IsNarrowedBody kept number old new) where
  -- the statement of which one is left
  pub code_before : (index : ℕ) (d : Code) → slice_get new index ≡ Some d → (c : Code) × (slice_get old index ≡ Some c) × IsNarrowedCode kept number index c d
  code_before index d e =
      let c = slice_get-there old index (subst (λ k. index < k) (sym n.as_many) (slice_get-below new index d e)) in
      (c.0, c.1, n.each index c.0 d c.1 e)

  -- what is left of a statement
  pub code_after : (index : ℕ) (c : Code) → slice_get old index ≡ Some c → (d : Code) × (slice_get new index ≡ Some d) × IsNarrowedCode kept number index c d
  code_after index c e =
      let d = slice_get-there new index (subst (λ k. index < k) n.as_many (slice_get-below old index c e)) in
      (d.0, d.1, n.each index c d.0 e d.1)
