-- Whether a step is an event, and whether a row allows it.
use Rattle.std.proofs.Common.{◌≡◌, ℕ, ◌<◌, Bool, true, false, true≢false, List, [], ◌∷◌, Option, Some, None, slice_get, refl, sym, ap, ◌∙◌, subst, inl, inr, arith}
use Rattle.std.proofs.lemmas.Bool.{cases_eq, cases_order}
use Rattle.class_rules.specs.Rows.{Sub}
use Rattle.class_rules.proofs.Decided.{IsDecided, anywhere_decided, both_decided, not_decided, same_decided, sub_decided, there_decided}
use Rattle.link_rules.specs.declared.code.Code.{Code}
use Rattle.link_rules.specs.declared.code.Code.TheVariants.{Call, NewArray, NewMulti}
use Rattle.link_rules.specs.Linked.{LinkedClass, LinkedKey, LinkedMethod, LinkedProgram}
use Rattle.link_rules.specs.WellLinked.{MakesArrays}
use Rattle.link_sites.specs.declared.site.Site.{Site}
use Rattle.link_sites.specs.declared.site.Site.TheVariants as site
use Rattle.link_sites.specs.Places.{HasCode}
use Rattle.link_sites.specs.Sites.{HasLevel, IsArraySite, IsUnraised}
use Rattle.link_sites.specs.declared.place.Place.{Place}
use Rattle.step_rules.specs.declared.parts.Value.{Value}
use Rattle.step_rules.specs.declared.parts.Value.TheVariants.{Null, Number, Object}
use Rattle.step_rules.specs.Effects.{Effect}
use Rattle.step_rules.specs.Effects as effect
use Rattle.step_rules.specs.States.{Frame, HeapObject, State}
use Rattle.step_rules.specs.Steps.{Step}
use Rattle.track_rules.specs.declared.row.ProtocolRow.{ProtocolRow}
use Rattle.track_rules.specs.Protocols.{HasRow, ProtocolParts}
use Rattle.track_runs.specs.Events.{CallsEvent, HasBelow, IsEventAt, IsEventCall}
use Rattle.track_runs.specs.Monitor.{IsEvent, IsTracked}
use Rattle.step_rules.proofs.Deciding.{level_decided}

-- two texts are the same, or they aren't
texts_decided : (xs ys : List ℕ) → IsDecided (xs ≡ ys)
texts_decided [] [] = inl refl
texts_decided [] (y ∷ ys) = inr (λ e. cc)
texts_decided (x ∷ xs) [] = inr (λ e. cc)
texts_decided (x ∷ xs) (y ∷ ys) = same_decided joined parts (both_decided (cases_eq x y) (texts_decided xs ys)) where
  joined : (x ≡ y) × (xs ≡ ys) → x ∷ xs ≡ y ∷ ys
  joined h = let a = h.0 in let b = h.1 in cc

  parts : x ∷ xs ≡ y ∷ ys → (x ≡ y) × (xs ≡ ys)
  parts e = let a : x ≡ y = cc in let b : xs ≡ ys = cc in (a, b)

true_decided : (b : Bool) → IsDecided (b ≡ true)
true_decided true = inl refl
true_decided false = inr (λ e. true≢false (sym e))

false_decided : (b : Bool) → IsDecided (b ≡ false)
false_decided true = inr (λ e. true≢false e)
false_decided false = inl refl

less_decided : (a b : ℕ) → IsDecided (a < b)
less_decided a b = elim (cases_order a b) [
  | inl same ↦ inr (λ h. omega (arith, h, same))
  | inr apart ↦ elim apart [ inl less ↦ inl less | inr greater ↦ inr (λ h. omega (arith, h, greater)) ]
]

module _ (p : LinkedProgram) where
  -- a statement at a place
  code_decided : (Fact : Code → Type 0) → ((c : Code) → IsDecided (Fact c)) → (number index : ℕ) → IsDecided (HasCode p number index Fact)
  code_decided Fact decide number index =
      same_decided
      (λ h. record { code = h.2.0; at = record { method = h.0; there = h.1; here = h.2.1 }; is_so = h.2.2 })
      (λ h. (h.at.method, h.at.there, (h.code, h.at.here, h.is_so)))
      (there_decided (λ (m : LinkedMethod). (c : Code) × (slice_get m.code index ≡ Some c) × Fact c) (λ m. there_decided Fact decide m.code index) p.methods number)

  arrays_decided : (c : Code) → IsDecided (MakesArrays c)
  arrays_decided (NewArray to) = inl tt
  arrays_decided (NewMulti to levels) = inl tt
  arrays_decided _ = inr (λ h. h)

  unraised_decided : (place : Place) (Fact : Code → Type 0) → ((c : Code) → IsDecided (Fact c)) → IsDecided (IsUnraised p place Fact)
  unraised_decided place Fact decide = both_decided (false_decided place.raised) (code_decided Fact decide place.method place.index)

  array_decided : (s : Site) → IsDecided (IsArraySite p s)
  array_decided (site.New place) = unraised_decided place MakesArrays arrays_decided
  array_decided (site.Nested place level) = unraised_decided place (HasLevel level) (level_decided level)
  array_decided (site.Raised place kind) = inr (λ h. h)
  array_decided (site.Text number) = inr (λ h. h)
  array_decided (site.Class number) = inr (λ h. h)

  module _ (k : ProtocolParts) where
    tracked_decided : (object : HeapObject) → IsDecided (IsTracked p k object)
    tracked_decided object = both_decided (not_decided (array_decided object.site)) (sub_decided p.rows object.class k.class)

    below_decided : (a b : ℕ) → IsDecided (HasBelow p a b)
    below_decided a b =
        same_decided
        (λ h. record { class = h.0; instantiable = (h.1, h.2, h.3.0); below_a = h.3.1.0; below_b = h.3.1.1 })
        (λ h. (h.class, h.instantiable.0, h.instantiable.1, (h.instantiable.2, (h.below_a, h.below_b))))
        (anywhere_decided (λ (class : ℕ) (c : LinkedClass). (c.instantiable ≡ true) × (Sub p.rows class a × Sub p.rows class b))
        (λ class c. both_decided (true_decided c.instantiable) (both_decided (sub_decided p.rows class a) (sub_decided p.rows class b))) p.classes)

    -- whether some event has the name
    named_decided : (name : List ℕ) → IsDecided ((event : ℕ) × (slice_get k.events event ≡ Some name))
    named_decided name =
        same_decided
        (λ h. (h.0, h.2 ∙ ap Some h.3))
        (λ h. (h.0, name, h.1, refl))
        (anywhere_decided (λ (event : ℕ) (other : List ℕ). other ≡ name) (λ event other. texts_decided other name) k.events)

    calls_decided : (class key : ℕ) → IsDecided ((event : ℕ) × CallsEvent p k event class key)
    calls_decided class key =
        same_decided
        (λ h. (h.0.2.0, record { methods = h.0.0; there = h.0.1; named = h.0.2.1; below = h.1 }))
        (λ h. ((h.1.methods, h.1.there, (h.0, h.1.named)), h.1.below))
        (both_decided
        (there_decided (λ (methods : LinkedKey). (event : ℕ) × (slice_get k.events event ≡ Some methods.name)) (λ methods. named_decided methods.name) p.keys key)
        (below_decided k.class class))

    event_call_decided : (c : Code) → IsDecided ((event : ℕ) × IsEventCall p k event c)
    event_call_decided (Call to mode class key (Some receiver) args targets) = calls_decided class key
    event_call_decided (Call to mode class key None args targets) = inr (λ h. h.1)
    event_call_decided _ = inr (λ h. h.1)

    event_at_decided : (method index : ℕ) → IsDecided ((event : ℕ) × IsEventAt p k event method index)
    event_at_decided method index =
        same_decided
        (λ h. (h.is_so.0, record { code = h.code; at = h.at; is_so = h.is_so.1 }))
        (λ h. record { code = h.1.code; at = h.1.at; is_so = (h.0, h.1.is_so) })
        (code_decided (λ c. (event : ℕ) × IsEventCall p k event c) event_call_decided method index)

    -- which object is the receiver, if any
    object_decided : (v : Option Value) → IsDecided ((o : ℕ) × (v ≡ Some (Object o)))
    object_decided None = inr (λ h. let e = h.1 in cc)
    object_decided (Some Null) = inr (λ h. let e = h.1 in cc)
    object_decided (Some Number) = inr (λ h. let e = h.1 in cc)
    object_decided (Some (Object o)) = inl (o, refl)

    pub event_decided : {s next : State} {choice : ℕ} (step : Step p s choice next) → IsDecided ((event : ℕ) × (o : ℕ) × IsEvent p k step event o)
    event_decided {s} {next} {choice} step = by step.effect refl
      where
        called : (frame : Frame) → step.effect ≡ effect.calls frame → IsDecided ((o : ℕ) × (frame.this ≡ Some (Object o)))
            → IsDecided ((event : ℕ) × (o : ℕ) × IsEvent p k step event o)
        called frame entered (inr none) =
            inr (λ h. let other = h.2.entered in let same : h.2.frame ≡ frame = cc in none (h.1, subst (λ (f : Frame). f.this ≡ Some (Object h.1)) same h.2.receiver))
        called frame entered (inl (o, is)) =
            same_decided
            (λ h. (h.1.0, o, record { frame = frame; entered = entered; receiver = is; object = h.0.0; there = h.0.1; tracked = h.0.2; statement = h.1.1 }))
            (λ h.
            let other = h.2.entered in
            let same : h.2.frame ≡ frame = cc in
            let receiver : frame.this ≡ Some (Object h.1) = subst (λ (f : Frame). f.this ≡ Some (Object h.1)) same h.2.receiver in
            let one : h.1 ≡ o = cc in
            ((h.2.object, subst (λ (n : ℕ). slice_get s.heap n ≡ Some h.2.object) one h.2.there, h.2.tracked), (h.0, h.2.statement)))
            (both_decided (there_decided (IsTracked p k) tracked_decided s.heap o) (event_at_decided step.at.top.method step.at.top.index))

        by : (e : Effect) → step.effect ≡ e → IsDecided ((event : ℕ) × (o : ℕ) × IsEvent p k step event o)
        by (effect.calls frame) e = called frame e (object_decided frame.this)
        by effect.is_ill_typed e = inr (λ h. let entered = h.2.entered in cc)
        by (effect.raises kind) e = inr (λ h. let entered = h.2.entered in cc)
        by (effect.throws o) e = inr (λ h. let entered = h.2.entered in cc)
        by (effect.goes index) e = inr (λ h. let entered = h.2.entered in cc)
        by (effect.gets to value) e = inr (λ h. let entered = h.2.entered in cc)
        by (effect.makes to class) e = inr (λ h. let entered = h.2.entered in cc)
        by (effect.writes o field value) e = inr (λ h. let entered = h.2.entered in cc)
        by (effect.nests to o inner class) e = inr (λ h. let entered = h.2.entered in cc)
        by (effect.sets field value) e = inr (λ h. let entered = h.2.entered in cc)
        by (effect.returns value) e = inr (λ h. let entered = h.2.entered in cc)
        by (effect.handles handler o) e = inr (λ h. let entered = h.2.entered in cc)
        by (effect.leaves o) e = inr (λ h. let entered = h.2.entered in cc)

    -- whether a row allows the event in the state
    pub row_decided : (from event : ℕ) → IsDecided ((to : ℕ) × HasRow k from event to)
    row_decided from event =
        same_decided
        (λ h. (h.1.to, (h.0, h.2 ∙ ap Some (whole h.1 h.3.0 h.3.1))))
        (λ h. (h.1.0, record { from = from; event = event; to = h.0 }, h.1.1, (refl, refl)))
        (anywhere_decided (λ (n : ℕ) (row : ProtocolRow). (row.from ≡ from) × (row.event ≡ event)) (λ n row. both_decided (cases_eq row.from from) (cases_eq row.event event)) k.rows)
      where
        whole : (row : ProtocolRow) → row.from ≡ from → row.event ≡ event → row ≡ record { from = from; event = event; to = row.to }
        whole row a b = λ j. record { from = a j; event = b j; to = row.to }
