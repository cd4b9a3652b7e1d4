use Rattle.std.proofs.Common.{◌≡◌, ◌++◌, ◌∷◌, [], List, ap, ◌∙◌}
use Rattle.lists.specs.Lists.{Has}
use Rattle.spds_rules.specs.declared.node.Node.{Node}
use Rattle.path_query.specs.Paths.{IsEndOf}
use Rattle.path_query.proofs.Asking.{asks_path}
use Rattle.path_query.proofs.Collecting.{collected_all, collected_more, only_one}
use Rattle.path_query.proofs.targets.path_targets.Goals as goal

pub loop-field-init : goal.loop-field-init
loop-field-init c = only_one (λ f x. IsEndOf c.args.linked.now f x) c.args.node c.push.new.self.items (c.in_ok-push.ensures.items ∙ ap (λ (ns : List Node). ns ++ c.args.node ∷ []) c.new-targets.ensures.items)

pub loop-field-preserved : goal.loop-field-preserved
loop-field-preserved c =
    collected_more (λ f x. IsEndOf c.args.linked.now f x) (λ m. m ≡ c.args.node) c.args.fields.now c.loop-field.field-index _ c.loop-field-test.true (Has c.loop-field.targets.items)
    (Has c.push_ends.new.targets.items) c.loop-field.invariant c.in_ok-push_ends.ensures

pub returns : goal.returns
returns c =
    asks_path c.args.linked.now c.args.node c.args.fields.now c.loop-field.targets.items
    (collected_all (λ f x. IsEndOf c.args.linked.now f x) (λ m. m ≡ c.args.node) c.args.fields.now c.loop-field.field-index c.loop-field-test.false (Has c.loop-field.targets.items) c.loop-field.invariant)
