-- The calls of a program, statement by statement.
use Rattle.std.proofs.Common.{◌≡◌, ℕ, ◌+◌, ◌<◌, ◌≤◌, ◌⊎◌, ◌↔◌, List, [], ◌∷◌, ◌++◌, Some, Bool, false, length, slice_get, inl, inr, refl, sym, subst, arith}
use Rattle.std.proofs.lemmas.Bool.{cases_lt}
use Rattle.lists.proofs.Places.{slice_get-below}
use Rattle.link_rules.specs.declared.code.Code.{Code}
use Rattle.link_rules.specs.Linked.{LinkedMethod, LinkedProgram}
use Rattle.lists.proofs.Exactly.{AreExactly-push, AreExactly-same}
use Rattle.link_sites.specs.declared.place.Place.{Place}
use Rattle.link_sites.specs.Places.{CodeAt, ComesBefore, HasCode, before}
use Rattle.call_side.specs.Calls.{AreCallsUpTo, AreTheCalls, IsCall, IsCallPlace}

-- a place by its parts
pub place_is : (x : Place) (method index : ℕ) → x.raised ≡ false → x.method ≡ method → x.index ≡ index → x ≡ before method index
place_is x method index raised m i =
    subst (λ (n : ℕ). x ≡ record { method = n; index = index; raised = false }) m
    (subst (λ (k : ℕ). x ≡ record { method = x.method; index = k; raised = false }) i
    (subst (λ (b : Bool). x ≡ record { method = x.method; index = x.index; raised = b }) raised refl))

module _ (p : LinkedProgram) (method index : ℕ) where
  -- what comes before the next statement
  pub next_before : (y : Place) → ComesBefore y (before method (index + 1)) ↔ (ComesBefore y (before method index) ⊎ ((y.method ≡ method) × (y.index ≡ index)))
  next_before y = (
    (λ h. elim h [
      | inl a ↦ inl (inl a)
      | inr b ↦ elim (cases_lt y.index index) [
        | inl less ↦ inl (inr (b.0, less))
        | inr more ↦ inr (b.0, let lt : y.index < index + 1 = b.1 in omega arith)
      ]
    ]),
    (λ h. elim h [
      | inl a ↦ elim a [ inl b ↦ inl b | inr b ↦ inr (b.0, let lt : y.index < index = b.1 in omega arith) ]
      | inr b ↦ inr (b.0, let e : y.index ≡ index = b.1 in omega arith)
    ]),
  )

  pub calls_more : (c : Code) (places : List Place) → CodeAt p method index c → IsCall c → AreCallsUpTo p method index places → AreCallsUpTo p method (index + 1) (places ++ before method index ∷ [])
  calls_more c places at is exact = AreExactly-push places (before method index) exact (λ y h. h.1) (λ y. (
    (λ h. elim ((next_before y).0 h.1) [ inl a ↦ inl (h.0, a) | inr b ↦ inr (place_is y method index h.0.0 b.0 b.1) ]),
    (λ h. elim h [
      | inl a ↦ (a.0, (next_before y).1 (inl a.1))
      | inr e ↦ subst (λ (x : Place). IsCallPlace p x × ComesBefore x (before method (index + 1))) (sym e) ((refl, record { code = c; at = at; is_so = is }), (next_before (before method index)).1 (inr (refl, refl)))
    ]),
  ))

  -- the code at a place is one
  one_code : (c d : Code) (m : LinkedMethod) → slice_get p.methods method ≡ Some m → slice_get m.code index ≡ Some c → CodeAt p method index d → d ≡ c
  one_code c d m there here at =
      let same : at.method ≡ m = let other = at.there in cc in
      let other : slice_get m.code index ≡ Some d = subst (λ (x : LinkedMethod). slice_get x.code index ≡ Some d) same at.here in
      cc

  pub calls_skip : (c : Code) (m : LinkedMethod) (places : List Place) → slice_get p.methods method ≡ Some m → slice_get m.code index ≡ Some c → (IsCall c → ⊥)
      → AreCallsUpTo p method index places → AreCallsUpTo p method (index + 1) places
  calls_skip c m places there here none exact = AreExactly-same places exact (λ y. (
    (λ h. elim ((next_before y).0 h.1) [ inl a ↦ (h.0, a) | inr b ↦ absurd (never y h.0.1 b.0 b.1) ]),
    (λ h. (h.0, (next_before y).1 (inl h.1))),
  ))
    where
      never : (y : Place) → HasCode p y.method y.index IsCall → y.method ≡ method → y.index ≡ index → ⊥
      never y has e f =
          let at = subst (λ (n : ℕ). CodeAt p method n has.code) f (subst (λ (n : ℕ). CodeAt p n y.index has.code) e has.at) in
          none (subst IsCall (one_code c has.code m there here at) has.is_so)

  -- the end of a method
  pub calls_end : (m : LinkedMethod) (places : List Place) → slice_get p.methods method ≡ Some m → length m.code ≤ index → AreCallsUpTo p method index places → AreCallsUpTo p (method + 1) 0 places
  calls_end m places there past exact = AreExactly-same places exact (λ y. (
    (λ h. (
      h.0,
      elim h.1 [
        | inl a ↦ elim (cases_lt y.method method) [
          | inl less ↦ inl less
          | inr more ↦ let e : y.method ≡ method = let lt : y.method < method + 1 = a in omega arith in inr (e, within y h.0.1 e)
        ]
        | inr b ↦ absurd (let lt : y.index < 0 = b.1 in omega arith)
      ],
    )),
    (λ h. (h.0, elim h.1 [ inl a ↦ inl (let lt : y.method < method = a in omega arith) | inr b ↦ inl (let e : y.method ≡ method = b.0 in omega arith) ])),
  ))
    where
      within : (y : Place) → HasCode p y.method y.index IsCall → y.method ≡ method → y.index < index
      within y has e =
          let at : CodeAt p method y.index has.code = subst (λ (n : ℕ). CodeAt p n y.index has.code) e has.at in
          let same : at.method ≡ m = let other = at.there in cc in
          let below : y.index < length m.code = subst (λ (x : LinkedMethod). y.index < length x.code) same (slice_get-below at.method.code y.index has.code at.here) in
          omega arith

-- no statement was looked at
pub calls_none : (p : LinkedProgram) → AreCallsUpTo p 0 0 []
calls_none p = record {
  each = λ y. ((λ has. let there = has.1 in cc), (λ h. elim h.1 [ inl a ↦ absurd (let lt : y.method < 0 = a in omega arith) | inr b ↦ absurd (let lt : y.index < 0 = b.1 in omega arith) ]));
  ordered = λ i j d less below. absurd (omega arith);
}

-- all statements were looked at
pub calls_all : (p : LinkedProgram) (method : ℕ) (places : List Place) → length p.methods ≤ method → AreCallsUpTo p method 0 places → AreTheCalls p places
calls_all p method places past exact = AreExactly-same places exact (λ y. (
  (λ h. (h, inl (let at = h.1.at in let below = slice_get-below p.methods y.method at.method at.there in omega arith))),
  (λ h. h.0),
))
