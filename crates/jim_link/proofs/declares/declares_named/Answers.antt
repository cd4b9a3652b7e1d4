use Rattle.std.proofs.Common.{◌∷◌, codes}
use Rattle.link_rules.specs.Targets.{exception_names}
use Rattle.jim_link.proofs.declares.declares_named.Goals as goal

pub returns : goal.returns
returns c =
    let class = c.declares_too-all.ensures exception_names c.declares_exceptions.ensures in
    let string = c.declares_too-all-2.ensures (codes "java.lang.Class" ∷ exception_names) class in
    c.declares_too.ensures (codes "java.lang.String" ∷ codes "java.lang.Class" ∷ exception_names) string
