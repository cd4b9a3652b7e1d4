use Rattle.std.proofs.Common.{◌∙◌, subst}
use Rattle.std.proofs.lemmas.List.{take_all}
use Rattle.class_order.specs.declared.spans.Span.{Span}
use Rattle.default_turns.specs.Stays.{AddsAt}
use Rattle.default_turns.proofs.Staying.{BareIn, bare_more, bare_none, bare_of}
use Rattle.default_turns.proofs.stays.add_stays.Goals as goal

abbrev none : Span
none = record { start = 0; end = 0 }

pub loop-span-init : goal.loop-span-init
loop-span-init c = bare_none c.args.row c.get-span-items.result.now c.in_ok-hidden.hidden.items c.args.stays.now.items

pub loop-span-preserved : goal.loop-span-preserved
loop-span-preserved c =
    let hidden = c.in_ok-hidden.hidden.items in
    bare_more c.args.row c.get-span-items.result.now hidden c.loop-span.span-index none c.args.stays.now.items c.loop-span.stays.items c.add_bare.new.stays.items c.loop-span-test.true
    (rw (← c.as_slice.ensures.value) c.in_ok-add_bare.ensures) c.loop-span.invariant

pub returns-clause-added : goal.returns-clause-added
returns-clause-added c =
    let hidden = c.in_ok-hidden.hidden.items in
    let whole = take_all c.loop-span.span-index c.get-span-items.result.now c.loop-span-test.false in
    bare_of c.args.line.placed.tree.now c.args.line.placed.layout c.requires.line.laid c.args.line.holders.now c.args.interface c.args.row c.requires.interface hidden c.in_ok-hidden.ensures.exact
    c.args.stays.now.items c.loop-span.stays.items
    (subst (λ xs. AddsAt c.args.row (BareIn xs hidden) c.args.stays.now.items c.loop-span.stays.items) (whole ∙ c.get-span-items.ensures) c.loop-span.invariant)
