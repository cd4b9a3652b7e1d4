use Rattle.link_codes.proofs.Present.{is_some_from}
use Rattle.link_codes.proofs.scope.MethodScope.jump.Goals as goal

pub unwrap-requires : goal.unwrap-requires
unwrap-requires c = is_some_from c.label.result c.requires.0 ((c.label.ensures c.requires.0).1 c.requires.1)
