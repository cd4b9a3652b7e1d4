use Rattle.std.proofs.Common.{List, ℕ, [], sym, subst}
use Rattle.std.proofs.lemmas.List.{take_all, take_more}
use Rattle.rule_cells.specs.Entered.{AreEntered}
use Rattle.rule_cells.proofs.entered.keep_all.Goals as goal

pub loop-i-init : goal.loop-i-init
loop-i-init g c = λ count are. are

pub loop-i-preserved : goal.loop-i-preserved
loop-i-preserved g c = λ count are. subst (λ (ks : List ℕ). AreEntered {W = g.row.W.Denot} count [] ks c.keep.new.entries)
    (sym (take_more c.args.kept.now c.loop-i.i 0 c.loop-i-test.true))
    (c.keep.ensures count _ (c.loop-i.invariant count are))

pub returns : goal.returns
returns g c = λ count are. subst (λ (ks : List ℕ). AreEntered {W = g.row.W.Denot} count [] ks c.loop-i.entries) (take_all c.loop-i.i c.args.kept.now c.loop-i-test.false)
    (c.loop-i.invariant count are)
