use Rattle.std.proofs.Common.{◌∙◌, subst}
use Rattle.std.proofs.lemmas.List.{take_all}
use Rattle.std.proofs.lemmas.Result.{IfOk-weaker}
use Rattle.default_turns.proofs.Hiders.{AreHidden, hidden_all, hidden_more, hidden_none}
use Rattle.default_turns.proofs.hiding.hidden_from.Goals as goal

pub loop-span-init : goal.loop-span-init
loop-span-init c = record {
  known = c.requires.known;
  hidden = rw c.new-hidden.ensures.items (hidden_none c.args.line.placed.tree.now c.args.line.placed.layout c.requires.line.laid c.args.line.holders.now c.requires.line.placed c.args.interface c.get-span-items.result.now);
}

pub loop-span-preserved : goal.loop-span-preserved
loop-span-preserved c = record {
  known = c.in_ok-add_hidden.ensures.known;
  hidden = hidden_more c.args.line.placed.tree.now c.args.line.placed.layout c.requires.line.laid c.args.line.holders.now c.requires.line.placed c.args.interface c.get-span-items.result.now c.loop-span.span-index _
      c.loop-span.hidden.items c.add_hidden.new.hidden.items c.loop-span-test.true c.in_ok-add_hidden.ensures.added c.loop-span.invariant.hidden;
}

pub returns-clause-exact : goal.returns-clause-exact
returns-clause-exact c =
    let whole = take_all c.loop-span.span-index c.get-span-items.result.now c.loop-span-test.false in
    let are = subst (λ xs. AreHidden c.args.line.placed.tree.now c.args.line.placed.layout.places.now c.args.line.holders.now c.args.interface xs c.loop-span.hidden.items)
    (whole ∙ c.get-span-items.ensures) c.loop-span.invariant.hidden in
    IfOk-weaker c.united.result _ _ (λ united same. hidden_all c.args.line.placed.tree.now c.args.line.placed.layout c.requires.line.laid c.args.line.holders.now c.requires.line.placed c.args.interface
    c.loop-span.hidden.items united.items c.requires.interface are same) c.united.ensures.same
