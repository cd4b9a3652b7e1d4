use Rattle.std.proofs.Common.{sym, ap, refl, ◌∙◌}
use Rattle.jim_text.specs.declared.Kind.TheVariants.{Word, Name}
use Rattle.jim_text.specs.declared.lead.Lead.TheVariants as lead
use Rattle.jim_text.specs.Words.{is_known}
use Rattle.jim_text.proofs.NameLemmas.{name_low}
use Rattle.jim_text.proofs.TokenLemmas.{named, made_class}
use Rattle.jim_text.proofs.lexer.name_at.Goals as goal

pub returns-then-is_known-clause-token : goal.returns-then-is_known-clause-token
returns-then-is_known-clause-token c =
    named Word _ c.made.ensures c.name_end-to.ensures (λ k h. name_low h) (λ h. ap is_known (sym c.word_lead-lead.ensures) ∙ sym c.is_known.ensures ∙ c.if-is_known.true)

pub returns-then-is_known-clause-lead : goal.returns-then-is_known-clause-lead
returns-then-is_known-clause-lead c = made_class c.args.bytes.now c.args.at _ Word _ _ c.made.ensures c.name_end-to.ensures.low (λ _. c.word_lead-lead.ensures)

pub returns-else-is_known-clause-token : goal.returns-else-is_known-clause-token
returns-else-is_known-clause-token c =
    named Name _ c.made-else-is_known.ensures c.name_end-to.ensures (λ k h. name_low h) (λ h. (h, ap is_known (sym c.word_lead-lead.ensures) ∙ sym c.is_known.ensures ∙ c.if-is_known.false))

pub returns-else-is_known-clause-lead : goal.returns-else-is_known-clause-lead
returns-else-is_known-clause-lead c = made_class c.args.bytes.now c.args.at _ Name lead.Name _ c.made-else-is_known.ensures c.name_end-to.ensures.low (λ _. refl)
