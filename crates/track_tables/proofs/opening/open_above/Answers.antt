use Rattle.std.proofs.Common.{◌≡◌, Some, None, slice_get, sym, ◌∙◌, arith}
use Rattle.call_side.proofs.Filed.{filed_from}
use Rattle.track_tables.proofs.Growing.{past_all}
use Rattle.track_tables.proofs.Upward.{open_more}
use Rattle.track_tables.proofs.opening.open_above.Goals as goal

pub loop-base-init : goal.loop-base-init
loop-base-init c = record { bases = λ number x there. there; above = λ step has is. absurd (let none = is.1 in omega arith) }

pub loop-base-preserved : goal.loop-base-preserved
loop-base-preserved c =
    let parts = c.args.parts.now in
    let old = c.loop-base.bases.keys in
    let new = c.open_steps.new.bases.keys in
    let marks = c.loop-base.marks.keys in
    let more = c.open_steps.new.marks.keys in
    let steps = parts.strings.value.steps in
    let base = c.in-Some.base in
    let was = c.loop-base.invariant in
    let now = c.in_ok-open_steps.ensures in
    let there : slice_get old c.loop-base.at ≡ Some base = sym c.in-Some.ensures.value in
    let filed = rw (← c.steps_from.ensures) at (filed_from steps parts.steps base c.requires) in
    record {
      bases = λ number x at. now.bases number x (was.bases number x at);
      above = open_more steps c.loop-base.at base old new marks more now.bases now.marks there (λ step has is. now.steps step ((filed step).1 (has, is))) was.above;
    }

pub returns-clause-above : goal.returns-clause-above
returns-clause-above c = λ step has base.
    let keys = c.loop-base.bases.keys in
    let none : slice_get keys c.loop-base.at ≡ None = sym c.base_at.ensures.value ∙ c.in_default.is in
    c.loop-base.invariant.above step has (past_all keys c.loop-base.at step.base none base)
