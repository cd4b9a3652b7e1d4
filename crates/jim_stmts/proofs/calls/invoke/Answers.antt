use Rattle.std.proofs.Common.{◌∙◌, sym}
use Rattle.jim_text.specs.declared.lead.Lead.TheVariants as lead
use Rattle.jim_stmts.proofs.Choices.{invoke_at, invoke_plain, ok_same}
use Rattle.jim_stmts.proofs.calls.invoke.Goals as goal

pub returns-in-StaticInvoke-clause-call : goal.returns-in-StaticInvoke-clause-call
returns-in-StaticInvoke-clause-call c = λ x r h p. let y = invoke_at lead.StaticInvoke x _ r h (sym c.lead.ensures ∙ c.in-StaticInvoke.is) in ok_same c.on_class.result y.2 (c.on_class.ensures.call y.0 r y.1)

pub returns-in_default-clause-call : goal.returns-in_default-clause-call
returns-in_default-clause-call c = λ x r h p. let y = invoke_plain x _ r h (λ e. c.in_default.not-StaticInvoke (c.lead.ensures ∙ e)) (λ e. c.in_default.not-DynamicInvoke (c.lead.ensures ∙ e)) in ok_same c.on_receiver.result y.2 (c.on_receiver.ensures.call y.0 r y.1)

pub returns-in_default-clause-rest : goal.returns-in_default-clause-rest
returns-in_default-clause-rest c = λ x r h p. let y = invoke_plain x _ r h (λ e. c.in_default.not-StaticInvoke (c.lead.ensures ∙ e)) (λ e. c.in_default.not-DynamicInvoke (c.lead.ensures ∙ e)) in c.on_receiver.ensures.rest y.0 r y.1
