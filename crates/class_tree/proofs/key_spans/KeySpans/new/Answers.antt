use Rattle.std.proofs.Common.{◌<◌, ◌∙◌, length, length-set, get_or, arith, Contains}
use Rattle.std.proofs.lemmas.List.Elements.{Contains-get_or, All-contains}
use Rattle.class_tree.specs.declared.first_rows.Member.{Member}
use Rattle.class_order.specs.Groups.{group}
use Rattle.class_tree.proofs.KeyLists.{keyed_apart, keyed_exact, united_more, apart_more}
use Rattle.class_tree.proofs.key_spans.KeySpans.new.Goals as goal

pub gathered-requires-clause-known : goal.gathered-requires-clause-known
gathered-requires-clause-known c = λ k d h.
    let u : Contains (group c.in_ok-classes.classes c.loop-at.at) (get_or c.get.result.now k d) = rw (← c.get.ensures) (Contains-get_or c.get.result.now k d h) in
    let m = c.in_ok-classes.ensures.classes.some c.loop-at.at _ u in
    rw (← m.3) (All-contains (λ (m : Member). m.class < length c.args.reach.now) c.args.members.now m.0 c.requires.known m.1)

pub loop-at-preserved : goal.loop-at-preserved
loop-at-preserved c =
    let within : c.loop-at.at < length c.loop-at.spans = omega (arith, c.loop-at-test.true, c.loop-at.invariant.len, c.len-at-end.ensures) in
    rw c.put.ensures (record {
      len = length-set c.loop-at.spans _ _ ∙ c.loop-at.invariant.len;
      apart = apart_more c.loop-at.spans c.loop-at.at c.in_ok-united.field-0.items within c.loop-at.invariant.apart c.in_ok-united.ensures.apart;
      exact = united_more c.in_ok-classes.classes c.args.reach.now c.loop-at.spans c.loop-at.at c.in_ok-united.field-0.items within c.loop-at.invariant.exact
          (λ p. let same = c.in_ok-united.ensures.same p in let all = rw c.get.ensures at (c.in_ok-all.ensures.places p) in (λ h. all.0 (same.0 h), λ h. same.1 (all.1 h)));
    })

pub returns : goal.returns
returns c = record {
  len = c.loop-at.invariant.len;
  apart = keyed_apart c.args.members.now _ c.in_ok-classes.classes c.args.reach.now _ c.in_ok-keys.ensures c.in_ok-classes.ensures.classes c.loop-at.invariant.apart (λ i p h. c.loop-at.invariant.exact i p (omega (arith, h)));
  exact = keyed_exact c.args.members.now _ c.in_ok-classes.classes c.args.reach.now _ c.in_ok-keys.ensures c.in_ok-classes.ensures.classes c.loop-at.invariant.apart (λ i p h. c.loop-at.invariant.exact i p (omega (arith, h)));
}
