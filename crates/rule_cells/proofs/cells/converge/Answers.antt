use Rattle.std.proofs.Common.{◌≡◌, ℕ, length, arith, sym, ◌∙◌, subst}
use Rattle.rule_cells.specs.Entered.{AreEntered}
use Rattle.rule_cells.proofs.Rooting.{converged, rooted_begins}
use Rattle.rule_cells.proofs.cells.converge.Goals as goal

pub returns : goal.returns
returns g c = λ rules kept told are own.
    let laws = g.met.W.Weight.laws in
    let entries = c.args.entries.now in
    let begun = rooted_begins laws rules kept told entries c.args.cells.now (c.requires.cells ∙ sym c.requires.entries) own in
    let rooted = c.follow_all.ensures rules kept told (subst (λ (n : ℕ). AreEntered n rules kept entries) (sym c.requires.entries) are) begun in
    let flat = c.flatten.ensures rules kept rooted.root told rooted.forest in
    let many : length c.flatten.new.cells ≡ c.args.count = omega arith in
    converged laws rules kept told c.args.count rooted.root entries c.flatten.new.cells are many (λ n m w at. rooted.rooted n m w (omega arith) at) flat.0 flat.1
