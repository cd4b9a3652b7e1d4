use Rattle.link_rules.specs.Classes.{IsDeclared, classes_of}
use Rattle.jim_link.proofs.Declaring.{all_cons, all_tail}
use Rattle.jim_link.proofs.declares.declares_too.Goals as goal

pub returns-then-declares : goal.returns-then-declares
returns-then-declares c = λ names is.
    let P = IsDeclared (classes_of c.args.program.now) in
    (λ t. all_cons P c.args.name.now names (c.declares.ensures.0 c.if-declares.true) (is.0 t), λ all. is.1 (all_tail P c.args.name.now names all))
