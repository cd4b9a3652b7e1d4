use Rattle.std.proofs.Common.{◌⊎◌, List, inl, inr, subst, sym, arith}
use Rattle.std.proofs.lemmas.List.{take_all}
use Rattle.lists.specs.Lists.{Has}
use Rattle.call_side.proofs.Lists.{Has-take_more, has-read}
use Rattle.spds_solve.specs.Known.{AreStillAt}
use Rattle.spds_solve.proofs.Posting.{none}
use Rattle.spds_solve.proofs.known.changed_pairs.Goals as goal
use Rattle.spds_tables.specs.declared.numbered.Met.{Met as Numbers}

pub loop-pair-init : goal.loop-pair-init
loop-pair-init c = rw c.new-found.ensures.items (record { each = λ m has. has; all = λ m has. none has })

pub put_changed-requires-clause-object : goal.put_changed-requires-clause-object
put_changed-requires-clause-object c = (c.requires _ (has-read c.args.pairs.now c.loop-pair.pair-index _ (omega arith))).0

pub put_changed-requires-clause-base : goal.put_changed-requires-clause-base
put_changed-requires-clause-base c = (c.requires _ (has-read c.args.pairs.now c.loop-pair.pair-index _ (omega arith))).1

pub loop-pair-preserved : goal.loop-pair-preserved
loop-pair-preserved c =
    let was = c.loop-pair.invariant in
    let now = c.in_ok-put_changed.ensures in
    record {
      each = λ m has. (Has-take_more c.args.pairs.now c.loop-pair.pair-index _ m (omega arith)).1
          (elim (now.each m has) [ inl before ↦ inl (was.each m before) | inr e ↦ inr e ]);
      all = λ m has. elim ((Has-take_more c.args.pairs.now c.loop-pair.pair-index _ m (omega arith)).0 has) [
        | inl before ↦ elim (was.all m before) [ inl there ↦ inl (now.kept m there) | inr still ↦ inr still ]
        | inr e ↦ subst (λ (x : Numbers). Has c.put_changed.new.found.items x ⊎ AreStillAt c.args.changed.now x) (sym e) now.there
      ];
    }

pub returns-clause-each : goal.returns-clause-each
returns-clause-each c m has =
    subst (λ (xs : List Numbers). Has xs m) (take_all c.loop-pair.pair-index c.args.pairs.now (omega arith)) (c.loop-pair.invariant.each m has)

pub returns-clause-all : goal.returns-clause-all
returns-clause-all c m has =
    c.loop-pair.invariant.all m (subst (λ (xs : List Numbers). Has xs m) (sym (take_all c.loop-pair.pair-index c.args.pairs.now (omega arith))) has)
