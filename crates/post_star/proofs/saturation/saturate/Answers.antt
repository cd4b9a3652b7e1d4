use Rattle.std.proofs.Common.{◌∙◌, ◌++◌, ap}
use Rattle.post_star.proofs.Jobs.{led_fewer}
use Rattle.post_star.proofs.saturation.saturate.Goals as goal

pub with_bases-requires : goal.with_bases-requires
with_bases-requires g c = rw c.in_ok-steps.ensures (record { led = led_fewer c.requires.led })

pub complete-requires : goal.complete-requires
complete-requires g c = rw (ap (λ j. j.steps) c.in_ok-work.ensures ∙ c.in_ok-steps.ensures, ap (λ j. j.last) c.in_ok-work.ensures) (record { led = c.requires.led })

pub into_table-requires : goal.into_table-requires
into_table-requires g c = ap (λ j. j.settled) c.in_ok-complete.ensures

pub returns : goal.returns
returns g c =
    let rules = ap (λ j. j.rules) c.in_ok-complete.ensures ∙ ap (λ j. j.rules ++ c.args.rules.now) c.in_ok-work.ensures in
    let starts = ap (λ j. j.starts) c.in_ok-complete.ensures ∙ ap (λ j. j.starts ++ c.args.starts.now) c.in_ok-work.ensures in
    let steps = ap (λ j. j.steps) c.in_ok-complete.ensures ∙ ap (λ j. j.steps) c.in_ok-work.ensures ∙ c.in_ok-steps.ensures in
    let last = ap (λ j. j.last) c.in_ok-complete.ensures ∙ ap (λ j. j.last) c.in_ok-work.ensures in
    rw (rules, starts, steps, last) at c.into_table.ensures
