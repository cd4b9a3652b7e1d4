use Rattle.std.proofs.Common.{◌≡◌, Some, slice_get, sym, ap, subst, ◌∙◌, arith}
use Rattle.std.specs.Prelude.{◌↔◌}
use Rattle.std.proofs.lemmas.Option.{slice_get-get_or}
use Rattle.link_program.proofs.Increasing.{no_row, row_number}
use Rattle.link_program.proofs.numbering.Numbering.number.Goals as goal

pub returns-then-row-len : goal.returns-then-row-len
returns-then-row-len c = λ n. (
  (λ e. cc),
  λ h. absurd (no_row c.self.inside.rows.items c.self.inside.numbers.items c.args.row n c.self.invariant (omega (arith, c.len.ensures, c.if-row-len.true, c.self.inside.numbers.ok.0))
      (subst (λ rows. slice_get rows n ≡ Some c.args.row) (sym c.self.view_is) h)),
)

pub returns : goal.returns
returns c = λ n.
    let numbers = c.self.inside.numbers.items in
    let there = slice_get-get_or numbers c.args.row c.index.result.now (omega (arith, c.len.ensures, c.if-row-len.false, c.self.inside.numbers.ok.0)) ∙ ap Some (sym c.index.ensures) in
    subst (λ rows. (c.index.result.now ≡ Some n) ↔ (slice_get rows n ≡ Some c.args.row)) c.self.view_is
    (row_number c.self.inside.rows.items numbers c.args.row c.index.result.now c.self.invariant there n)
