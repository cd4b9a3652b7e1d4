use Rattle.std.proofs.Common.{List, subst}
use Rattle.lists.specs.Lists.{Has}
use Rattle.spds_solve.proofs.Posting.{none}
use Rattle.spds_solve.proofs.known.Known.new.Goals as goal
use Rattle.spds_tables.specs.declared.numbered.Met.{Met as Numbers}

pub returns : goal.returns
returns c parts mets = record {
  args = c.new.ensures.posted;
  bases = c.new-2.ensures.posted;
  in_args = λ x knows. absurd (c.new.ensures.none x knows);
  in_bases = λ x knows. absurd (c.new-2.ensures.none x knows);
  in_pending = λ m has. none (subst (λ (xs : List Numbers). Has xs m) c.new-3.ensures.empty has);
  seen = λ store a b head other x y fit. absurd (c.new.ensures.none _ x);
}
