use Rattle.std.proofs.Common.{◌≡◌, ◌<◌, ◌⊎◌, inl, inr, Some, length, slice_get, ap, subst, ◌∙◌, arith}
use Rattle.std.proofs.lemmas.List.{length-map}
use Rattle.lists.proofs.Places.{slice_get-below}
use Rattle.link_rules.specs.Refusals.{HasEarlierName}
use Rattle.link_classes.specs.Seen.{seen_class, seen_classes}
use Rattle.link_classes.proofs.EarlierNames.{earlier, not_earlier}
use Rattle.link_classes.proofs.Growing.{below_or_last, seen_there}
use Rattle.link_classes.proofs.repeated.first_repeated.Goals as goal

pub returns-then-first_of_name-number-clause-some : goal.returns-then-first_of_name-number-clause-some
returns-then-first_of_name-number-clause-some c = λ w same.
    let there : slice_get (seen_classes c.args.order.now.classes.items) c.loop-number.number ≡ Some (seen_class c.index-classes-number.result) =
    subst (λ cs. slice_get (seen_classes cs) c.loop-number.number ≡ Some (seen_class c.index-classes-number.result)) c.as_slice-classes.ensures.value
    (seen_there c.as_slice-classes.result.now c.loop-number.number c.index-classes-number.result c.loop-number-test.true c.index-classes-number.is) in
    record {
      holds = earlier w (seen_classes c.args.order.now.classes.items) c.loop-number.number c.first_of_name.result (seen_class c.index-classes-number.result) same there c.first_of_name.ensures
          c.if-first_of_name-number.true;
      first = λ m before h. c.loop-number.invariant w m same before h;
    }

pub loop-number-preserved : goal.loop-number-preserved
loop-number-preserved c = λ w n same below h.
    let there : slice_get (seen_classes c.args.order.now.classes.items) c.loop-number.number ≡ Some (seen_class c.index-classes-number.result) =
    subst (λ cs. slice_get (seen_classes cs) c.loop-number.number ≡ Some (seen_class c.index-classes-number.result)) c.as_slice-classes.ensures.value
    (seen_there c.as_slice-classes.result.now c.loop-number.number c.index-classes-number.result c.loop-number-test.true c.index-classes-number.is) in
    let here = not_earlier w (seen_classes c.args.order.now.classes.items) c.loop-number.number c.first_of_name.result (seen_class c.index-classes-number.result) same there c.first_of_name.ensures
    c.if-first_of_name-number.false in
    let place : (n < c.loop-number.number) ⊎ (n ≡ c.loop-number.number) = below_or_last n c.loop-number.number (omega arith) in
    elim place [
      | inl before ↦ c.loop-number.invariant w n same before h
      | inr last ↦ here (subst (HasEarlierName w) last h)
    ]

pub returns-clause-none : goal.returns-clause-none
returns-clause-none c = λ w n same h.
    let below = slice_get-below w.classes n h.class h.there in
    let long = ap length same ∙ length-map c.args.order.now.classes.items seen_class in
    c.loop-number.invariant w n same (omega (arith, below, long, c.as_slice-classes.ensures.value, c.as_slice-classes.ensures.len, c.loop-number-test.false, c.args.order.now.classes.ok.0)) h
