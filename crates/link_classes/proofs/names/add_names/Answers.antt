use Rattle.std.proofs.Common.{take, sym, subst, ap, append_assoc, ◌++◌, ◌∷◌, [], ◌∙◌}
use Rattle.lists.specs.Lists.{FirstSeen}
use Rattle.link_classes.specs.Numbered.{AreNumbers}
use Rattle.link_classes.proofs.Numbering.{one_more}
use Rattle.link_classes.proofs.names.add_names.Goals as goal

pub loop-at-preserved : goal.loop-at-preserved
loop-at-preserved c = record {
  numbers = subst (λ names. AreNumbers c.add_name.new.texts names c.add_name.new.ids.items) (sym (one_more c.args.names.now c.loop-at.at c.text.result.now c.text.ensures))
      (c.in_ok-add_name.ensures.numbers (take c.loop-at.at c.args.names.now) c.loop-at.invariant.numbers);
  kept = λ i x h. c.in_ok-add_name.ensures.kept i x (c.loop-at.invariant.kept i x h);
  seen = λ seen before.
      let more = one_more c.args.names.now c.loop-at.at c.text.result.now c.text.ensures in
      subst (λ names. FirstSeen names c.add_name.new.texts) (append_assoc seen (take c.loop-at.at c.args.names.now) (c.text.result.now ∷ []) ∙ ap (λ names. seen ++ names) (sym more))
      (c.in_ok-add_name.ensures.seen (seen ++ take c.loop-at.at c.args.names.now) (c.loop-at.invariant.seen seen before));
}
