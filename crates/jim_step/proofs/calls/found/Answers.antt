use Rattle.std.proofs.Common.{◌≡◌, length, ap, sym, arith, ◌∙◌}
use Rattle.lists.proofs.Places.{slice_get-there}
use Rattle.jim_step.proofs.Founds.{no_length, none_by_row, numbered_below, row_found, some_length}
use Rattle.jim_step.proofs.calls.found.Goals as goal

pub returns-in_default-clause-none : goal.returns-in_default-clause-none
returns-in_default-clause-none c =
    none_by_row c.args.linked.now c.args.class c.args.key c.resolve.result c.in_default.is c.resolve.ensures

pub returns-in_default-method_of_row-clause-none : goal.returns-in_default-method_of_row-clause-none
returns-in_default-method_of_row-clause-none c = λ number m finds.
    let there = row_found c.args.linked.now c.args.class c.args.key c.resolve.result c.in-Some.row c.in-Some.is c.resolve.ensures number m finds in
    let some = (c.method_of_row.ensures number).1 there in
    cc (some, c.in_default-method_of_row.is)

pub code-requires : goal.code-requires
code-requires c = numbered_below c.args.linked.now c.in-Some-method_of_row.number c.in-Some.row c.tell_form.ensures
    ((c.method_of_row.ensures c.in-Some-method_of_row.number).0 c.in-Some-method_of_row.is)

pub returns-then-is_empty-clause-none : goal.returns-then-is_empty-clause-none
returns-then-is_empty-clause-none c = λ number m finds.
    let there = row_found c.args.linked.now c.args.class c.args.key c.resolve.result c.in-Some.row c.in-Some.is c.resolve.ensures number m finds in
    let some = (c.method_of_row.ensures number).1 there in
    let same : number ≡ c.in-Some-method_of_row.number = cc (some, c.in-Some-method_of_row.is) in
    let code = c.code.ensures m (rw same at finds.there) in
    let none = no_length (length c.code.result.now) (sym c.is_empty.ensures ∙ c.if-is_empty.true) in
    omega (arith, none, ap length code, finds.has_statements)

pub returns-clause-some : goal.returns-clause-some
returns-clause-some c =
    let numbered = (c.method_of_row.ensures c.in-Some-method_of_row.number).0 c.in-Some-method_of_row.is in
    let m = slice_get-there c.args.linked.now.methods c.in-Some-method_of_row.number
    (numbered_below c.args.linked.now c.in-Some-method_of_row.number c.in-Some.row c.tell_form.ensures numbered) in
    let code = c.code.ensures m.0 m.1 in (
      m.0,
      record {
        row = c.in-Some.row;
        resolved = rw c.in-Some.is at c.resolve.ensures;
        numbered = numbered;
        there = m.1;
        has_statements = omega (arith, some_length (length c.code.result.now) (sym c.is_empty.ensures ∙ c.if-is_empty.false), ap length code);
      },
    )
