use Rattle.std.proofs.Common.{[], List, ap, sym, ◌∙◌, subst}
use Rattle.call_side.specs.Indexed.{IsFiledBy, base_key}
use Rattle.call_side.proofs.CallStrings.{IsLed-by}
use Rattle.post_star.specs.declared.bases.BaseStep.{BaseStep}
use Rattle.post_star.specs.Jobs.{Stock}
use Rattle.weight_laws.specs.declared.rel.Rel.{Rel}
use Rattle.track_tables.proofs.parts.strings_of.Goals as goal

pub new-requires-2 : goal.new-requires-2
new-requires-2 c =
    record { led = IsLed-by {W = Rel} c.args.linked.now c.in_ok-all.all.items [] c.root.result (c.in_ok-all.ensures.led c.requires.well) c.root.ensures (λ s has. cc has.1) }

pub returns-clause-steps : goal.returns-clause-steps
returns-clause-steps c =
    let is = c.in_ok-new.ensures.ok ∙ c.in_ok-common.ensures in
    let steps = ap (λ (s : Stock Rel). s.steps) is in
    subst (λ (all : List BaseStep). IsFiledBy base_key all c.in_ok-steps.steps) (c.deref.ensures.value ∙ sym steps) c.in_ok-steps.ensures
