use Rattle.std.proofs.Common.{[], true, subst}
use Rattle.link_rules.specs.Keys.{IsMethodKeyNumber}
use Rattle.link_rules.specs.Root.{name_at, void_type}
use Rattle.link_classes.specs.Keyed.{method_key_by}
use Rattle.link_classes.specs.Numbered.{fixed_names}
use Rattle.link_classes.proofs.Known.{numbered_names, numbers_within}
use Rattle.link_classes.proofs.bodies.initializer_number.Goals as goal

pub returns : goal.returns
returns c = λ texts entry methods numbered knows count.
    let key = c.in_ok-key.ensures texts (numbers_within texts (fixed_names entry) c.args.root.now numbered) in
    let found = subst (λ k. IsMethodKeyNumber methods k c.method_number.result) key.stands (c.method_number.ensures texts methods knows key.within count) in
    subst (λ names. IsMethodKeyNumber methods (method_key_by names (name_at 3) [] void_type true) c.method_number.result) (numbered_names texts (fixed_names entry) c.args.root.now numbered) found
