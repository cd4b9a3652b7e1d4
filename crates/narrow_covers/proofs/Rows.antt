-- What a statement of a method that stays may do is the same in programs that are alike.
use Rattle.std.proofs.Common.{◌≡◌, ℕ, List, [], ◌∷◌, Bool, true, false, Option, Some, None, slice_get, refl, sym, subst, inl, inr}
use Rattle.jim_ast.specs.declared.syntax.Mode.{Mode}
use Rattle.link_rules.specs.declared.code.Arg.{Arg}
use Rattle.link_rules.specs.declared.code.Catch.{Catch}
use Rattle.link_rules.specs.declared.code.Code.{Code}
use Rattle.link_rules.specs.declared.code.Code.TheVariants as code
use Rattle.link_rules.specs.Linked.{LinkedMethod, LinkedProgram}
use Rattle.link_sites.specs.declared.site.Site.{Site}
use Rattle.link_sites.specs.Places.{CodeAt}
use Rattle.link_sites.specs.Sites.{IsArraySite}
use Rattle.narrow_rules.proofs.Well.{over}
use Rattle.step_rules.specs.declared.parts.Value.{Value}
use Rattle.step_rules.specs.declared.parts.Value.TheVariants.{Null, Number, Object}
use Rattle.step_rules.specs.Effects.{Effect, raises, writes}
use Rattle.step_rules.specs.Offers.{AtObject, CallsWith, FindsElement, IsCaughtAt, MayCatch, Nests, Offers, OffersBy, Row, Unwinds, UnwindsAt, Where, WithObject, WithValue}
use Rattle.step_rules.specs.Slots.{local_of, operand_of, operands_of}
use Rattle.step_rules.specs.States.{HeapObject, Point}
use Rattle.narrow_covers.proofs.Alike.{AreAlike, SiteStays, arrays_move, code_moves, inner_moves, row_same}
use Rattle.narrow_covers.proofs.Entering.{Leads, calls_move}

-- by an operand
value_moves : (source : Option Value) (R S : Value → List Effect → Type 0) (offered : List Effect) → ((value : Value) → R value offered → S value offered)
    → WithValue source R offered → WithValue source S offered
value_moves (Some value) R S offered f h = f value h
value_moves None R S offered f h = h

-- by an object
object_moves : (value : Value) (R S : ℕ → List Effect → Type 0) (offered : List Effect) → ((o : ℕ) → R o offered → S o offered)
    → WithObject value R offered → WithObject value S offered
object_moves (Object o) R S offered f h = f o h
object_moves Null R S offered f h = h
object_moves Number R S offered f h = h

-- by whether something is so
where_moves : (Old New : Type 0) (these offered : List Effect) → (Old → New) → (New → Old) → Where Old these offered → Where New these offered
where_moves Old New these offered to back h = elim h [ inl so ↦ inl (to so.0, so.1) | inr other ↦ inr (λ new. other.0 (back new), other.1) ]

module _ (Stays : ℕ → Type 0) (p : LinkedProgram) (ms : List LinkedMethod) (alike : AreAlike Stays p ms) (back : AreAlike Stays (over p ms) p.methods)
    (at : Point) (sites : (o : ℕ) (object : HeapObject) → slice_get at.heap o ≡ Some object → SiteStays Stays object.site)
    (stays : Stays at.top.method) where
  -- the arrays that an array holds
  nests_move : (to o : ℕ) (outer : Site) (offered : List Effect) → SiteStays Stays outer → Nests p to o outer offered → Nests (over p ms) to o outer offered
  nests_move to o outer offered there h = elim h [
    | inl some ↦ inl (some.0, some.1, inner_moves Stays p ms alike outer some.0 there some.2, some.3, some.4)
    | inr none ↦ inr (λ inner is. none.0 inner (inner_moves Stays (over p ms) p.methods back outer inner there is), none.1)
  ]

  element_moves : (to o : ℕ) (object : HeapObject) (offered : List Effect) → SiteStays Stays object.site → FindsElement p to o object offered
      → FindsElement (over p ms) to o object offered
  element_moves to o object offered there h = elim h [
    | inl found ↦ inl (
      arrays_move Stays p ms alike object.site there found.0,
      (found.1.0, nests_move to o object.site found.1.0 there found.1.1, found.1.2),
    )
    | inr other ↦ inr (λ is. other.0 (arrays_move Stays (over p ms) p.methods back object.site there is), other.1)
  ]

  load_moves : (to : ℕ) (base : Option Value) (offered : List Effect)
      → WithValue base (λ v. WithObject v (λ o. AtObject at.heap o (λ object. FindsElement p to o object))) offered
      → WithValue base (λ v. WithObject v (λ o. AtObject at.heap o (λ object. FindsElement (over p ms) to o object))) offered
  load_moves to base offered h = value_moves base _ _ offered (λ v r. object_moves v _ _ offered
      (λ o s. (s.0, s.1, element_moves to o s.0 offered (sites o s.0 s.1) s.2)) r) h

  store_moves : (source base : Option Value) (offered : List Effect)
      → WithValue source (λ w. WithValue base (λ v. WithObject v (λ o. AtObject at.heap o (λ object.
      Where (IsArraySite p object.site) (writes o 0 w ∷ raises 1 ∷ raises 2 ∷ []))))) offered
      → WithValue source (λ w. WithValue base (λ v. WithObject v (λ o. AtObject at.heap o (λ object.
      Where (IsArraySite (over p ms) object.site) (writes o 0 w ∷ raises 1 ∷ raises 2 ∷ []))))) offered
  store_moves source base offered h = value_moves source _ _ offered (λ w r. value_moves base _ _ offered (λ v s. object_moves v _ _ offered
      (λ o t. (
        t.0,
        t.1,
        where_moves (IsArraySite p t.0.site) (IsArraySite (over p ms) t.0.site) (writes o 0 w ∷ raises 1 ∷ raises 2 ∷ []) offered
            (arrays_move Stays p ms alike t.0.site (sites o t.0 t.1)) (arrays_move Stays (over p ms) p.methods back t.0.site (sites o t.0 t.1)) t.2,
      )) s) r) h

  -- what is entered at each call that may stand there leads to the other program's row
  abbrev pub AllLead : Type 0
  AllLead = (to : Option ℕ) (mode : Mode) (class key : ℕ) (receiver : Option ℕ) (args : List Arg) (targets : List ℕ) → at.top.raised ≡ false
      → CodeAt p at.top.method at.top.index (code.Call to mode class key receiver args targets)
      → Leads p ms key (CallsWith p at mode class key receiver (operands_of p at.top args))
      (CallsWith (over p ms) at mode class key receiver (operands_of p at.top args))

  module _ (lead : AllLead) where
    -- the rows of the table
    row_moves : (c : Code) (offered : List Effect) → at.top.raised ≡ false → CodeAt p at.top.method at.top.index c → Row p at c offered
        → Row (over p ms) at c offered
    row_moves (code.LoadCell to base) offered unraised here h = load_moves to (local_of at.top base) offered h
    row_moves (code.StoreCell base a) offered unraised here h = store_moves (operand_of p at.top a) (local_of at.top base) offered h
    row_moves (code.Call to mode class key receiver args targets) offered unraised here h =
        calls_move p ms at class key (CallsWith p at mode class key receiver (operands_of p at.top args))
        (CallsWith (over p ms) at mode class key receiver (operands_of p at.top args)) (lead to mode class key receiver args targets unraised here)
        mode receiver (operands_of p at.top args) offered (λ other e. e) (λ other e. e) h
    row_moves c offered unraised here h = h

    -- a handler
    caught_moves : (handlers : List Catch) (t class handler : ℕ) → IsCaughtAt p handlers t class handler → IsCaughtAt (over p ms) handlers t class handler
    caught_moves handlers t class handler c =
        record { number = c.number; first = c.first; catch = c.catch; there = c.there; is_handler = c.is_handler }

    unwinds_move : (old new : LinkedMethod) → new.catches ≡ old.catches → (t o class : ℕ) (offered : List Effect) → Unwinds p old t o class offered
        → Unwinds (over p ms) new t o class offered
    unwinds_move old new same t o class offered h = elim h [
      | inl caught ↦ inl (
        caught.0,
        subst (λ handlers. IsCaughtAt (over p ms) handlers t class caught.0) (sym same) (caught_moves old.catches t class caught.0 caught.1),
        caught.2,
      )
      | inr none ↦ inr (λ number may. none.0 number (subst (λ handlers. MayCatch p handlers t class number) same may), none.1)
    ]

    flight_moves : (thrown : Option Value) (offered : List Effect) → UnwindsAt p at thrown offered → UnwindsAt (over p ms) at thrown offered
    flight_moves (Some (Object o)) offered h =
        let m = alike at.top.method stays h.0 h.1 in
        (m.0, m.1, (h.2.0, h.2.1, unwinds_move h.0 m.0 m.2.catches at.top.index o h.2.0.class offered h.2.2))
    flight_moves (Some Null) offered h = elim h [ ]
    flight_moves (Some Number) offered h = elim h [ ]
    flight_moves None offered h = elim h [ ]

    by_flight : (raised : Bool) → at.top.raised ≡ raised → (offered : List Effect) → OffersBy raised p at offered → OffersBy raised (over p ms) at offered
    by_flight false is offered h =
        let d = code_moves Stays p ms alike at.top.method at.top.index h.code stays h.at in
        record { code = d.0; at = d.1; is_so = row_same (over p ms) at offered h.code d.0 d.2 (row_moves h.code offered is h.at h.is_so) }
    by_flight true is offered h = flight_moves at.top.thrown offered h

    -- what the next step may do
    pub offers_move : (offered : List Effect) → Offers p at offered → Offers (over p ms) at offered
    offers_move offered h = by_flight at.top.raised refl offered h
