use Rattle.std.proofs.Common.{◌≡◌, ◌+◌, ◌<◌, ◌↔◌, ◌⊎◌, ◌++◌, List, length, take, inl, inr, ◌∙◌, ap, subst, append_assoc, arith}
use Rattle.std.proofs.lemmas.List.{take_all}
use Rattle.lists.specs.Lists.{Has}
use Rattle.spds_tables.specs.declared.numbered.StartAt.{StartAt}
use Rattle.call_side.proofs.Lists.{Has-take_more, has-read}
use Rattle.spds_tables.proofs.works.begin_all.Goals as goal

pub begin-requires-clause-led : goal.begin-requires-clause-led
begin-requires-clause-led c =
    rw (c.loop-start.invariant.steps, c.loop-start.invariant.last) (c.requires.led _ (has-read c.args.starts.now c.loop-start.start-index _ (omega arith)))

-- one more has come
one_more : (first old new front longer : List StartAt) (x : StartAt) → ((s : StartAt) → Has old s ↔ (Has first s ⊎ Has front s))
    → ((s : StartAt) → Has longer s ↔ (Has front s ⊎ (s ≡ x))) → ((s : StartAt) → Has new s ↔ (Has old s ⊎ (s ≡ x)))
    → (s : StartAt) → Has new s ↔ (Has first s ⊎ Has longer s)
one_more first old new front longer x was more now s = (
  (λ h. elim ((now s).0 h) [
    | inl o ↦ elim ((was s).0 o) [ inl a ↦ inl a | inr b ↦ inr ((more s).1 (inl b)) ]
    | inr e ↦ inr ((more s).1 (inr e))
  ]),
  (λ h. elim h [
    | inl a ↦ (now s).1 (inl ((was s).1 (inl a)))
    | inr l ↦ elim ((more s).0 l) [ inl b ↦ (now s).1 (inl ((was s).1 (inr b))) | inr e ↦ (now s).1 (inr e) ]
  ]),
)

pub loop-start-preserved : goal.loop-start-preserved
loop-start-preserved c =
    let was = c.loop-start.invariant in
    let now = c.in_ok-begin.ensures in
    let below : c.loop-start.start-index < length c.args.starts.now = omega arith in
    record {
      steps = now.steps ∙ was.steps;
      last = now.last ∙ was.last;
      rules = now.rules ∙ was.rules;
      tied = now.tied;
      begun = one_more _ _ _ (take c.loop-start.start-index c.args.starts.now) (take (c.loop-start.start-index + 1) c.args.starts.now) _ was.begun
          (λ s. Has-take_more c.args.starts.now c.loop-start.start-index _ s below) now.begun;
      apart = λ h. now.apart (was.apart h);
      behind = (was.behind.0 ++ now.behind.0, now.behind.1 ∙ ap (λ (xs : List StartAt). xs ++ now.behind.0) was.behind.1 ∙ append_assoc c.args.begun.now was.behind.0 now.behind.0);
    }

pub returns-clause-begun : goal.returns-clause-begun
returns-clause-begun c =
    subst (λ (xs : List StartAt). (s : StartAt) → Has c.loop-start.begun s ↔ (Has c.args.begun.now s ⊎ Has xs s))
    (take_all c.loop-start.start-index c.args.starts.now (omega arith)) c.loop-start.invariant.begun
