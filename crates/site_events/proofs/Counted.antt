-- The event statements of a program, statement by statement.
use Rattle.std.proofs.Common.{◌≡◌, ℕ, ◌+◌, ◌<◌, ◌≤◌, ◌⊎◌, ◌↔◌, List, [], ◌∷◌, ◌++◌, Some, Bool, false, length, slice_get, inl, inr, refl, sym, subst, arith}
use Rattle.std.proofs.lemmas.Bool.{cases_lt}
use Rattle.lists.proofs.Places.{slice_get-below}
use Rattle.link_rules.specs.declared.code.Code.{Code}
use Rattle.link_rules.specs.Linked.{LinkedMethod, LinkedProgram}
use Rattle.lists.proofs.Exactly.{AreExactly-push, AreExactly-same}
use Rattle.call_side.proofs.Counted.{next_before, place_is}
use Rattle.link_sites.specs.declared.place.Place.{Place}
use Rattle.link_sites.specs.Places.{CodeAt, ComesBefore, HasCode, before}
use Rattle.track_rules.specs.Protocols.{ProtocolParts}
use Rattle.track_runs.specs.Events.{IsEventCall}
use Rattle.track_systems.specs.Events.{receiver_of}
use Rattle.site_events.specs.declared.event_statement.EventStatement.{EventStatement}
use Rattle.site_events.specs.declared.statements.Act.{Act}
use Rattle.site_events.specs.EventStatements.{AreEventStatements, AreStatementsUpTo, IsAct, IsEventStatement, IsTheAct}

-- a statement by its parts
statement_is : (x : EventStatement) (place : Place) (event receiver : ℕ) → x.place ≡ place → x.event ≡ event → x.receiver ≡ receiver
    → x ≡ record { place = place; event = event; receiver = receiver }
statement_is x place event receiver a b c =
    subst (λ (q : Place). x ≡ record { place = q; event = event; receiver = receiver }) a
    (subst (λ (e : ℕ). x ≡ record { place = x.place; event = e; receiver = receiver }) b
    (subst (λ (r : ℕ). x ≡ record { place = x.place; event = x.event; receiver = r }) c refl))

module _ (p : LinkedProgram) (k : ProtocolParts) (method index : ℕ) where
  -- the code at a place is one
  one_code : (c d : Code) → CodeAt p method index c → CodeAt p method index d → d ≡ c
  one_code c d here at =
      let there = here.there in
      let first = here.here in
      let same : at.method ≡ here.method = let other = at.there in cc in
      let other : slice_get here.method.code index ≡ Some d = subst (λ (x : LinkedMethod). slice_get x.code index ≡ Some d) same at.here in
      cc

  -- what is said of the code at a place
  said : (F : Code → Type 0) (c : Code) (a b : ℕ) → CodeAt p method index c → a ≡ method → b ≡ index → HasCode p a b F → F c
  said F c a b here m i has =
      let at = subst (λ (n : ℕ). CodeAt p method n has.code) i (subst (λ (n : ℕ). CodeAt p n b has.code) m has.at) in
      subst F (one_code c has.code here at) has.is_so

  -- an event statement at the index is the act of its code
  acts : (c : Code) (s : EventStatement) → CodeAt p method index c → IsEventStatement p k s → s.place.method ≡ method → s.place.index ≡ index → IsAct p k c s.event s.receiver
  acts c s here is m i =
      let x = is.receiver.0 in
      let receiver : receiver_of c ≡ Some x = said (λ code. receiver_of code ≡ Some x) c s.place.method s.place.index here m i is.receiver.1 in
      let same : s.receiver ≡ x = let e = is.receiver.2 in cc in
      (said (IsEventCall p k s.event) c s.place.method s.place.index here m i is.statement, subst (λ (r : ℕ). receiver_of c ≡ Some r) (sym same) receiver)

  -- and the act of the code is an event statement
  acted : (c : Code) (event receiver : ℕ) → CodeAt p method index c → IsAct p k c event receiver
      → IsEventStatement p k (record { place = before method index; event = event; receiver = receiver })
  acted c event receiver here act = record {
    unraised = refl;
    statement = record { code = c; at = here; is_so = act.0 };
    receiver = (receiver, record { code = c; at = here; is_so = act.1 }, refl);
  }

  pub statements_more : (c : Code) (act : Act) (list : List EventStatement) → CodeAt p method index c → IsTheAct p k c act → AreStatementsUpTo p k method index list
      → AreStatementsUpTo p k method (index + 1) (list ++ record { place = before method index; event = act.event; receiver = act.receiver } ∷ [])
  statements_more c act list here the exact = AreExactly-push list new exact (λ y h. h.1) (λ y. (
    (λ h. elim ((next_before p method index y.place).0 h.1) [ inl a ↦ inl (h.0, a) | inr b ↦ inr (one y h.0 b.0 b.1) ]),
    (λ h. elim h [
      | inl a ↦ (a.0, (next_before p method index y.place).1 (inl a.1))
      | inr e ↦ subst (λ (x : EventStatement). IsEventStatement p k x × ComesBefore x.place (before method (index + 1))) (sym e)
          (acted c act.event act.receiver here the.is, (next_before p method index (before method index)).1 (inr (refl, refl)))
    ]),
  ))
    where
      new : EventStatement
      new = record { place = before method index; event = act.event; receiver = act.receiver }

      one : (y : EventStatement) → IsEventStatement p k y → y.place.method ≡ method → y.place.index ≡ index → y ≡ new
      one y is m i =
          let same = the.one y.event y.receiver (acts c y here is m i) in
          statement_is y (before method index) act.event act.receiver (place_is y.place method index is.unraised m i) same.0 same.1

  pub statements_skip : (c : Code) (list : List EventStatement) → CodeAt p method index c → ((event : ℕ) → IsEventCall p k event c → ⊥)
      → AreStatementsUpTo p k method index list → AreStatementsUpTo p k method (index + 1) list
  statements_skip c list here none exact = AreExactly-same list exact (λ y. (
    (λ h. elim ((next_before p method index y.place).0 h.1) [ inl a ↦ (h.0, a) | inr b ↦ absurd (none y.event (acts c y here h.0 b.0 b.1).0) ]),
    (λ h. (h.0, (next_before p method index y.place).1 (inl h.1))),
  ))

  -- the end of a method
  pub statements_end : (m : LinkedMethod) (list : List EventStatement) → slice_get p.methods method ≡ Some m → length m.code ≤ index
      → AreStatementsUpTo p k method index list → AreStatementsUpTo p k (method + 1) 0 list
  statements_end m list there past exact = AreExactly-same list exact (λ y. (
    (λ h. (
      h.0,
      elim h.1 [
        | inl a ↦ elim (cases_lt y.place.method method) [
          | inl less ↦ inl less
          | inr more ↦ let e : y.place.method ≡ method = let lt : y.place.method < method + 1 = a in omega arith in inr (e, within y h.0.statement e)
        ]
        | inr b ↦ absurd (let lt : y.place.index < 0 = b.1 in omega arith)
      ],
    )),
    (λ h. (h.0, elim h.1 [ inl a ↦ inl (let lt : y.place.method < method = a in omega arith) | inr b ↦ inl (let e : y.place.method ≡ method = b.0 in omega arith) ])),
  ))
    where
      within : (y : EventStatement) → HasCode p y.place.method y.place.index (IsEventCall p k y.event) → y.place.method ≡ method → y.place.index < index
      within y has e =
          let at : CodeAt p method y.place.index has.code = subst (λ (n : ℕ). CodeAt p n y.place.index has.code) e has.at in
          let same : at.method ≡ m = let other = at.there in cc in
          let below : y.place.index < length m.code = subst (λ (x : LinkedMethod). y.place.index < length x.code) same (slice_get-below at.method.code y.place.index has.code at.here) in
          omega arith

-- no statement was looked at
pub statements_none : (p : LinkedProgram) (k : ProtocolParts) → AreStatementsUpTo p k 0 0 []
statements_none p k = record {
  each = λ y. (
    (λ has. let there = has.1 in cc),
    (λ h. elim h.1 [ inl a ↦ absurd (let lt : y.place.method < 0 = a in omega arith) | inr b ↦ absurd (let lt : y.place.index < 0 = b.1 in omega arith) ]),
  );
  ordered = λ i j d less below. absurd (omega arith);
}

-- all statements were looked at
pub statements_all : (p : LinkedProgram) (k : ProtocolParts) (method : ℕ) (list : List EventStatement) → length p.methods ≤ method
    → AreStatementsUpTo p k method 0 list → AreEventStatements p k list
statements_all p k method list past exact = AreExactly-same list exact (λ y. (
  (λ h. (h, inl (let at = h.statement.at in let below = slice_get-below p.methods y.place.method at.method at.there in omega arith))),
  (λ h. h.0),
))
