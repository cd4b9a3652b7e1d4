use Rattle.std.proofs.Common.{◌≡◌, Option, Some, None, [], true, false, refl, sym, subst, ◌∙◌, inl, inr, true≢false}
use Rattle.std.specs.Bool.{Decides}
use Rattle.std.proofs.lemmas.Bool.Decides.{Decides-eqb}
use Rattle.std.proofs.lemmas.Option.{get_or_from_slice_get}
use Rattle.std.proofs.lemmas.Slice.Eq.{slice_eq-Decides}
use Rattle.lists.proofs.Places.{slice_get-below}
use Rattle.link_rules.specs.Classes.{IsParentBy, class_name, object_name}
use Rattle.link_rules.specs.Names.{text_of}
use Rattle.link_classes.specs.Seen.{seen_class}
use Rattle.link_classes.proofs.Within.{name_placed, parent_within}
use Rattle.link_classes.proofs.rows.parent.Goals as goal

pub bounds-class-extended : goal.bounds-class-extended
bounds-class-extended c =
    let within = parent_within c.args.class.now.names.now c.args.class.now.class.now c.requires.class.within c.in-Some.extended c.in-Some.is in
    (name_placed c.args.order.now.all.now.texts c.args.class.now c.in-Some.extended c.requires.class within).0

pub number_or_end-requires-clause-name : goal.number_or_end-requires-clause-name
number_or_end-requires-clause-name c =
    let within = parent_within c.args.class.now.names.now c.args.class.now.class.now c.requires.class.within c.in-Some.extended c.in-Some.is in
    let placed = name_placed c.args.order.now.all.now.texts c.args.class.now c.in-Some.extended c.requires.class within in
    slice_get-below c.args.order.now.all.now.texts _ _ (placed.1 (record { 0 = 0 }))

pub returns-in-Some : goal.returns-in-Some
returns-in-Some c =
    let within = parent_within c.args.class.now.names.now c.args.class.now.class.now c.requires.class.within c.in-Some.extended c.in-Some.is in
    let placed = name_placed c.args.order.now.all.now.texts c.args.class.now c.in-Some.extended c.requires.class within in
    record {
      name = Some (text_of c.args.class.now.names.now c.in-Some.extended);
      is_name = subst (λ p. IsParentBy c.args.class.now.names.now (class_name (seen_class c.args.class.now)) p (Some (text_of c.args.class.now.names.now c.in-Some.extended))) (sym c.in-Some.is) refl;
      row = c.number_or_end.ensures (text_of c.args.class.now.names.now c.in-Some.extended) (placed.1 (record { 0 = 0 }));
    }

-- an option without a value is none
none_from_not : {X : Type 0} (o : Option X) → ((x : X) → o ≡ Some x → ⊥) → o ≡ None
none_from_not None h = refl
none_from_not (Some x) h = absurd (h x refl)

pub returns-then-eq : goal.returns-then-eq
returns-then-eq c =
    let by_bytes : Decides true (c.text.result.now ≡ object_name) = subst (λ b. Decides b (c.text.result.now ≡ object_name)) c.if-eq.true (slice_eq-Decides Decides-eqb _ _ _ c.eq.ensures) in
    let named : class_name (seen_class c.args.class.now) ≡ c.text.result.now = get_or_from_slice_get c.args.class.now.names.now c.args.class.now.class.now.name.0 c.text.result.now [] c.text.ensures in
    record {
      name = None;
      is_name = subst (λ p. IsParentBy c.args.class.now.names.now (class_name (seen_class c.args.class.now)) p None) (sym (none_from_not c.args.class.now.class.now.parent c.in_default.not-Some))
          (inl (named ∙ by_bytes.0 refl, refl));
      row = tt;
    }

pub returns : goal.returns
returns c =
    let by_bytes : Decides false (c.text.result.now ≡ object_name) = subst (λ b. Decides b (c.text.result.now ≡ object_name)) c.if-eq.false (slice_eq-Decides Decides-eqb _ _ _ c.eq.ensures) in
    let named : class_name (seen_class c.args.class.now) ≡ c.text.result.now = get_or_from_slice_get c.args.class.now.names.now c.args.class.now.class.now.name.0 c.text.result.now [] c.text.ensures in
    record {
      name = Some object_name;
      is_name = subst (λ p. IsParentBy c.args.class.now.names.now (class_name (seen_class c.args.class.now)) p (Some object_name)) (sym (none_from_not c.args.class.now.class.now.parent c.in_default.not-Some))
          (inr ((λ same. true≢false (sym (by_bytes.1 (sym named ∙ same)))), refl));
      row = c.requires.object;
    }
