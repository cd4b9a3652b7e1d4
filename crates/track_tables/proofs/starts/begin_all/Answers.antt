use Rattle.std.proofs.Common.{sym, subst, arith}
use Rattle.std.proofs.lemmas.List.{take_all}
use Rattle.call_side.specs.Bases.{AreLed, IsLast}
use Rattle.track_tables.proofs.Beginning.{begun_more, begun_none}
use Rattle.track_tables.proofs.starts.begin_all.Goals as goal

pub loop-number-init : goal.loop-number-init
loop-number-init c = begun_none c.args.linked.now c.args.nodes.now c.args.weight c.args.growth.now

pub begin-requires-clause-led : goal.begin-requires-clause-led
begin-requires-clause-led c = subst (AreLed c.args.linked.now) (sym c.loop-number.invariant.steps) c.requires.led

pub begin-requires-clause-last : goal.begin-requires-clause-last
begin-requires-clause-last c = subst (IsLast c.args.linked.now) (sym c.loop-number.invariant.last) c.requires.last

pub loop-number-preserved : goal.loop-number-preserved
loop-number-preserved c =
    begun_more c.args.linked.now c.args.nodes.now c.args.weight c.args.numbers.now c.loop-number.number-index (omega arith) c.args.growth.now c.loop-number.growth c.begin.new.growth
    c.loop-number.invariant c.in_ok-begin.ensures

pub returns : goal.returns
returns c = let all = take_all c.loop-number.number-index c.args.numbers.now (omega arith) in rw all at c.loop-number.invariant
