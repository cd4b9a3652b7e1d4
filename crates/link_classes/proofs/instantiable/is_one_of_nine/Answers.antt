use Rattle.std.proofs.Common.{◌∷◌, codes}
use Rattle.link_rules.specs.Targets.{exception_names}
use Rattle.link_classes.proofs.instantiable.is_one_of_nine.Goals as goal

pub returns : goal.returns
returns c =
    let class = c.is_this_or-is.ensures exception_names c.is_raised.ensures in
    let string = c.is_this_or-is-2.ensures (codes "java.lang.Class" ∷ exception_names) class in
    c.is_this_or.ensures (codes "java.lang.String" ∷ codes "java.lang.Class" ∷ exception_names) string
