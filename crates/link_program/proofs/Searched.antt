-- Texts that are looked for one by one.
use Rattle.std.proofs.Common.{◌≡◌, ℕ, ◌+◌, ◌<◌, ◌≤◌, List, [], ◌∷◌, Some, length, map, slice_get, refl, ap, subst, ◌∙◌, inl, inr, arith}
use Rattle.std.proofs.lemmas.Bool.{cases_lt}
use Rattle.lists.specs.Lists.{Has}
use Rattle.lists.proofs.Places.{slice_get-below}
use Rattle.link_indexes.specs.declared.method.MethodCode.{MethodCode}
use Rattle.link_program.specs.declared.method.MethodHead.{MethodHead}
use Rattle.link_program.specs.Methods.{joined, texts_of}
use Rattle.link_rules.specs.Accessed.{IsFirstPlace}

module _ (texts : List (List ℕ)) (text : List ℕ) where
  -- the text doesn't stand before a place
  abbrev pub IsNotBefore : ℕ → Type 0
  IsNotBefore at = (i : ℕ) → i < at → slice_get texts i ≡ Some text → ⊥

  module _ (at : ℕ) (here : List ℕ) (there : slice_get texts at ≡ Some here) where
    -- it stands there for the first time
    pub first_here : here ≡ text → IsNotBefore at → IsFirstPlace texts text at
    first_here same none = record { holds = there ∙ ap Some same; first = none }

    -- it stands there neither
    pub not_here : (here ≡ text → ⊥) → IsNotBefore at → IsNotBefore (at + 1)
    not_here other none i before is = elim (cases_lt i at) [
      | inl less ↦ none i less is
      | inr not ↦ (let same : i ≡ at = omega (arith, before, not) in
          let moved : slice_get texts at ≡ Some text = subst (λ k. slice_get texts k ≡ Some text) same is in
          other (cc (there, moved)))
    ]

  -- it stands nowhere
  pub nowhere : (at : ℕ) → length texts ≤ at → IsNotBefore at → Has texts text → ⊥
  nowhere at past none has = let below = slice_get-below texts has.0 text has.1 in none has.0 (omega (arith, below, past)) has.1

-- the texts of methods are those of their heads
pub texts-heads : (hs : List MethodHead) (bs : List MethodCode) → length hs ≡ length bs → map (λ (h : MethodHead). h.text) hs ≡ texts_of (joined hs bs)
texts-heads [] bs many = refl
texts-heads (h ∷ hs) [] many = absurd (omega arith)
texts-heads (h ∷ hs) (b ∷ bs) many = ap (λ texts. h.text ∷ texts) (texts-heads hs bs (omega arith))
