use Rattle.std.proofs.Common.{sym, subst}
use Rattle.link_rules.specs.Classes.{IsNamed}
use Rattle.link_codes.proofs.Present.{is_some_from}
use Rattle.link_codes.proofs.scope.MethodScope.class.Goals as goal

pub unwrap-requires : goal.unwrap-requires
unwrap-requires c =
    let number = c.requires.declared.0 in
    is_some_from c.number.result number
    ((c.number.ensures number).1 (subst (λ text. IsNamed c.args.self.now.classes.now.world.classes text number) (sym c.name.ensures.text) c.requires.declared.1))
