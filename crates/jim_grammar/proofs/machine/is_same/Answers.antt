use Rattle.std.proofs.Common.{sym, ◌∙◌, subst, rules, ◌≡◌, true}
use denote.Enum.Bare.{same_true}
use Rattle.jim_text.specs.contracts.lead.Lead.{the_type}
use Rattle.jim_text.specs.contracts.lead.LeadPartialEq.TheImpl.{eq-value}
use Rattle.jim_text.specs.declared.lead.Lead.{Lead}
use Rattle.jim_grammar.proofs.machine.is_same.Goals as goal

self : (x : Lead) → (eq-value).it x x ≡ true
self x = search rules

pub returns : goal.returns
returns c = ((λ h. same_true the_type (search rules) _ _ (sym c.eq.ensures ∙ h)), λ e. c.eq.ensures ∙ subst (λ z. (eq-value).it c.args.a z ≡ true) e (self c.args.a))
