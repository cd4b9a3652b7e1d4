use Rattle.std.proofs.Common.{ap, sym, ◌∙◌}
use Rattle.jim_text.specs.declared.lead.Lead.TheVariants as lead
use Rattle.jim_ast.specs.declared.syntax.Imm.TheVariants as operands
use Rattle.jim_stmts.proofs.Choices.{imm_at}
use Rattle.jim_stmts.proofs.operands.imm.Goals as goal

pub returns-in-Name-clause-imm : goal.returns-in-Name-clause-imm
returns-in-Name-clause-imm c = λ x r h. let f = imm_at lead.Name x _ r h (sym c.lead.ensures ∙ c.in-Name.is) in ap operands.Local (c.name.ensures.name _ _ f.1) ∙ f.2

pub returns-in-Text-clause-imm : goal.returns-in-Text-clause-imm
returns-in-Text-clause-imm c = λ x r h. let f = imm_at lead.Text x _ r h (sym c.lead.ensures ∙ c.in-Text.is) in ap operands.Text (c.name-in-Text.ensures.name _ _ f.1) ∙ f.2

pub returns-in-Class-clause-imm : goal.returns-in-Class-clause-imm
returns-in-Class-clause-imm c = λ x r h. let f = imm_at lead.Class x _ r h (sym c.lead.ensures ∙ c.in-Class.is) in ap operands.ClassConst (c.name-in-Class.ensures.name _ _ (c.skip-in-Class.ensures.rest _ _ f.1)) ∙ f.2
