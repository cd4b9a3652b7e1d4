use Rattle.std.proofs.Common.{[], ◌∷◌, sym, subst}
use Rattle.link_codes.specs.Contexts.{context_of}
use Rattle.link_codes.specs.Constants.{Uses}
use Rattle.link_codes.proofs.Used.{uses_class, uses_text}
use Rattle.link_codes.proofs.args.arg.Goals as goal

pub returns-in_ok-text-in-Text-clause-uses : goal.returns-in_ok-text-in-Text-clause-uses
returns-in_ok-text-in-Text-clause-uses c =
    let names = (context_of c.args.scope.now).names in
    subst (λ operand. Uses names (operand ∷ []) c.args.constants.now c.text-in-Text.new.self) (sym c.in-Text.is)
    (uses_text names c.in-Text.name c.text.result.now c.args.constants.now c.text-in-Text.new.self c.text.ensures c.in_ok-text-in-Text.ensures.added c.in_ok-text-in-Text.ensures.same)

pub returns-in_ok-class_text-in-ClassConst-clause-uses : goal.returns-in_ok-class_text-in-ClassConst-clause-uses
returns-in_ok-class_text-in-ClassConst-clause-uses c =
    let names = (context_of c.args.scope.now).names in
    subst (λ operand. Uses names (operand ∷ []) c.args.constants.now c.class_text.new.self) (sym c.in-ClassConst.is)
    (uses_class names c.in-ClassConst.name c.text-in-ClassConst.result.now c.args.constants.now c.class_text.new.self c.text-in-ClassConst.ensures
    c.in_ok-class_text-in-ClassConst.ensures.added c.in_ok-class_text-in-ClassConst.ensures.same)
