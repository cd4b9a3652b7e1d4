use Rattle.std.proofs.Common.{◌∙◌, ap, sym, refl, Ok}
use Rattle.std.proofs.lemmas.Bool.{false≢true}
use Rattle.post_star.specs.Works.{rose, stayed}
use Rattle.post_star.proofs.rise.Rising.rise.Goals as goal

pub returns-in_ok-push_back : goal.returns-in_ok-push_back
returns-in_ok-push_back g c = record {
  raised = c.in_ok-raise.ensures.raised;
  paid = rose (λ h. false≢true (sym (c.in_ok-raise.ensures.exact.1 h) ∙ c.if-branch.true)) c.in_ok-push_back.ensures.items;
}

pub returns-else-branch : goal.returns-else-branch
returns-else-branch g c = record { raised = c.in_ok-raise.ensures.raised; paid = stayed (c.in_ok-raise.ensures.still (ap Ok c.if-branch.false)) refl }
