use Rattle.post_star.specs.Index.{Stays, Pops, PopsMark, PopsAnywhere, StepsFrom}
use Rattle.post_star.proofs.Found.{under_none}
use Rattle.post_star.proofs.index.Index.new.Goals as goal

pub returns : goal.returns
returns g c = record {
  stays = under_none Stays _ c.new.ensures;
  pops = under_none Pops _ c.new-2.ensures;
  marked = under_none PopsMark _ c.new-3.ensures;
  by_mark = under_none PopsAnywhere _ c.new-4.ensures;
  below = under_none StepsFrom _ c.new-5.ensures;
}
