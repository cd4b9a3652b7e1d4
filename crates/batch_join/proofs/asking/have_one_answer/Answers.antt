use Rattle.batch_join.proofs.Joined.{told_once}
use Rattle.batch_join.proofs.asking.have_one_answer.Goals as goal

-- the law of an `Ask`, which holds in every thread, is taken in the one at hand
pub returns : goal.returns
returns g c =
    let here = g.met.A.Ask g.world.𝓛 g.world.𝓜 g.world.𝓡 ((λ s x. x), (λ x. x), (λ x. x), λ x. x) in
    λ asked. told_once (g.A.Ask.tells asked) (here.one asked) 0
