use Rattle.std.proofs.Common.{◌≡◌, Some, slice_get, slice_set, arith, sym, ap, ◌∙◌, subst}
use Rattle.std.proofs.lemmas.Option.{slice_get-get_or}
use Rattle.rule_cells.specs.declared.entered.Entered.TheVariants.{Never, Once, Otherwise}
use Rattle.rule_cells.specs.Forests.{AreRooted}
use Rattle.rule_cells.proofs.Rooting.{rooted_circle, rooted_hung, rooted_none}
use Rattle.rule_cells.proofs.cells.follow.Goals as goal

pub returns-then-at-number : goal.returns-then-at-number
returns-then-at-number g c = λ rules kept told are was.
    let entries = c.args.entries.now in
    let new = c.root_of-root.new.cells in
    let once : slice_get entries c.args.number ≡ Some (Once c.in-Once.from c.in-Once.weight) = slice_get-get_or entries c.args.number _ c.requires.number ∙ ap Some c.in-Once.is in
    let found = c.root_of-root.ensures.kept rules kept was.root told was.forest in
    let keeps = c.root_of-root.ensures.roots rules kept was.root told was.forest in
    let entry = are.each c.args.number (Once c.in-Once.from c.in-Once.weight) once in
    let many = keeps.many in
    let same = c.requires.many in
    let low = entry.1 in
    subst
    (λ (o : g.row.W.Denot). AreRooted g.W.Weight.domain rules kept entries c.args.number (slice_set new c.args.number (record { head = c.root_of-root.result.head; offset = o })))
    (sym c.extend.ensures)
    (rooted_hung g.met.W.Weight.laws rules kept told entries c.args.number c.in-Once.from c.in-Once.weight once c.args.cells.now was new keeps found.0
    c.root_of-root.result found.1 c.if-at-number.true (omega (arith, many, same, low)) entry.0)

pub returns-else-at-number : goal.returns-else-at-number
returns-else-at-number g c = λ rules kept told are was.
    let entries = c.args.entries.now in
    let once : slice_get entries c.args.number ≡ Some (Once c.in-Once.from c.in-Once.weight) = slice_get-get_or entries c.args.number _ c.requires.number ∙ ap Some c.in-Once.is in
    let found = c.root_of-root.ensures.kept rules kept was.root told was.forest in
    let keeps = c.root_of-root.ensures.roots rules kept was.root told was.forest in
    rooted_circle g.met.W.Weight.laws rules kept told entries c.args.number c.in-Once.from c.in-Once.weight once c.args.cells.now was c.root_of-root.new.cells keeps found.0
    c.root_of-root.result found.1 c.if-at-number.false

pub returns-in-Never : goal.returns-in-Never
returns-in-Never g c = λ rules kept told are was.
    let entries = c.args.entries.now in
    let there : slice_get entries c.args.number ≡ Some Never = slice_get-get_or entries c.args.number _ c.requires.number ∙ ap Some c.in-Never.is in
    rooted_none g.met.W.Weight.laws rules kept told entries c.args.number Never c.args.cells.now there (λ m w other. cc) was

pub returns-in-Otherwise : goal.returns-in-Otherwise
returns-in-Otherwise g c = λ rules kept told are was.
    let entries = c.args.entries.now in
    let there : slice_get entries c.args.number ≡ Some Otherwise = slice_get-get_or entries c.args.number _ c.requires.number ∙ ap Some c.in-Otherwise.is in
    rooted_none g.met.W.Weight.laws rules kept told entries c.args.number Otherwise c.args.cells.now there (λ m w other. cc) was
