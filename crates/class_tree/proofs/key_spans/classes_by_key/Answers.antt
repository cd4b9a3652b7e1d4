use Rattle.std.proofs.Common.{Contains, ◌∙◌, sym, length-set, arith}
use Rattle.std.proofs.lemmas.List.Elements.{All-get_or}
use Rattle.std.proofs.lemmas.List.Quantifiers.{position-Some}
use Rattle.class_tree.specs.declared.first_rows.Member.{Member}
use Rattle.class_tree.proofs.KeyLists.{classes_more, key_index}
use Rattle.class_tree.proofs.key_spans.classes_by_key.Goals as goal
use Rattle.class_tree.proofs.key_spans.classes_by_key.Goals.{in-Some+in_ok-push, in_default}

pub loop-member-preserved : goal.loop-member-preserved
loop-member-preserved c = elim c.match-index_of.branch [
  | in-Some+in_ok-push w ↦ rw (w.classes-is, w.in_ok-push.ensures) (record {
    len = length-set _ _ _ ∙ c.loop-member.invariant.len;
    classes = let here = sym w.in-Some.ensures in let within = (position-Some _ c.args.keys.now w.in-Some.at 0 here).0 in
        classes_more _ _ _ c.loop-member.member-index w.in-Some.at _ c.loop-member-test.true (omega (arith, within, c.loop-member.invariant.len)) here c.loop-member.invariant.classes;
  })
  | in_default w ↦ let i = key_index c.args.keys.now _ (All-get_or (λ (m : Member). Contains c.args.keys.now m.key) c.args.members.now c.loop-member.member-index _ c.loop-member-test.true c.requires) in absurd (w.in_default.not-Some i.0 (c.index_of.ensures ∙ i.1))
]
