use Rattle.std.proofs.Common.{[], sym, subst}
use Rattle.lists.specs.Lists.{FirstSeen}
use Rattle.link_classes.proofs.Numbering.{numbers_kept}
use Rattle.link_classes.proofs.names.AllNames.new.Goals as goal

pub returns-clause-input : goal.returns-clause-input
returns-clause-input c =
    numbers_kept c.add_names.new.texts _ c.args.input.now _ c.in_ok-of_input.ensures.numbers (λ i x h. c.in_ok-of_root.ensures.kept i x (c.in_ok-of_prelude.ensures.kept i x h))

pub returns-clause-prelude : goal.returns-clause-prelude
returns-clause-prelude c = numbers_kept c.add_names-2.new.texts _ c.args.prelude.now _ c.in_ok-of_prelude.ensures.numbers c.in_ok-of_root.ensures.kept

pub returns-clause-texts : goal.returns-clause-texts
returns-clause-texts c =
    let begun = subst (FirstSeen []) (sym c.new-texts.ensures) FirstSeen.none in
    c.in_ok-of_root.ensures.seen _ (c.in_ok-of_prelude.ensures.seen _ (c.in_ok-of_input.ensures.seen [] begun))
