use Rattle.std.proofs.Common.{◌∙◌, List, ap, inl, inr, subst}
use Rattle.lists.specs.Lists.{Has}
use Rattle.spds_tables.specs.declared.numbered.StartAt.{StartAt}
use Rattle.spds_tables.specs.Parts.{starts_at}
use Rattle.spds_tables.specs.Tables.{Opens}
use Rattle.spds_tables.proofs.Built.{calls_filled, fields_filled, starts_among, starts_led, undone}
use Rattle.spds_tables.proofs.tables.fill.Goals as goal

pub add_field_starts-requires : goal.add_field_starts-requires
add_field_starts-requires c = record { last = ap (λ j. j.last) c.requires.fields ∙ c.requires.led.field_last }

pub begin_all-requires-clause-led : goal.begin_all-requires-clause-led
begin_all-requires-clause-led c s has =
    let e = c.requires.calls in
    let own : Has (starts_at c.args.parts.now c.args.site) s = subst (λ (xs : List StartAt). Has xs s) c.starts_of-starts.ensures has in
    starts_led c.args.parts.now c.args.site c.requires.led c.args.tables.now.calls (ap (λ j. j.steps) e ∙ c.requires.led.call_steps) (ap (λ j. j.last) e ∙ c.requires.led.call_last) s
    (starts_among c.args.parts.now c.args.site s own)

pub returns : goal.returns
returns c =
    let starts = rw (c.deref.ensures.value, c.starts_of-starts.ensures) at c.in_ok-add_field_starts.ensures in
    let now = c.in_ok-begin_all.ensures in
    let tied = rw c.deref-2.ensures.value at now.tied in
    let own = rw (c.starts_of-starts.ensures, c.requires.begun) at now.begun in
    record {
      fields = fields_filled c.args.parts.now c.args.site c.requires.led _ _ c.requires.fields starts;
      calls = calls_filled c.args.parts.now c.args.site c.requires.led _ _ _ c.requires.calls now.steps now.last now.rules tied;
      opened = λ s has. elim ((own s).0 has) [ inl a ↦ cc a.1 | inr b ↦ Opens.own b ];
      own = λ s has. (own s).1 (inr has);
      stored = λ m. rw c.requires.mets (λ has s among. cc has.1);
      apart = now.apart (rw c.requires.begun (λ i j x a b. cc a));
      own_mets = λ m. rw c.requires.mets ((λ has. cc has.1), (λ h. cc h.0.1));
      done = undone c.args.parts.now c.args.site c.args.tables.now.done c.requires.done;
    }
