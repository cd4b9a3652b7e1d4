-- Method look-up finds one method.
use Rattle.std.proofs.Common.{◌≡◌, ℕ, zero, suc, ◌==◌, true, false, ◌<◌, Option, Some, None, length, slice_get, sym, ◌∙◌, arith}
use Rattle.std.proofs.lemmas.Bool.{eqb-true}
use Rattle.class_rules.proofs.Selected.{selection_one}
use Rattle.class_rules.specs.Lookups.{Resolve}
use Rattle.lists.proofs.Places.{slice_get-below}
use Rattle.link_rules.specs.Linked.{LinkedMethod, LinkedProgram}
use Rattle.link_rules.specs.WellLinked.{IsInForm}
use Rattle.step_rules.specs.Offers.{Finds}

module _ (p : LinkedProgram) (class key : ℕ) where
  -- where look-up gives no row, no method is found
  pub none_by_row : (o : Option ℕ) → o ≡ None → Resolve p.rows class key o → (number : ℕ) (m : LinkedMethod) → Finds p class key number m → ⊥
  none_by_row o none resolved number m finds = let e = selection_one p.rows class key o (Some finds.row) resolved finds.resolved in cc (e, none)

  -- what is found has the row that look-up gives
  pub row_found : (o : Option ℕ) (row : ℕ) → o ≡ Some row → Resolve p.rows class key o → (number : ℕ) (m : LinkedMethod) → Finds p class key number m
      → slice_get p.method_rows number ≡ Some row
  row_found o row is resolved number m finds =
      let e = selection_one p.rows class key o (Some finds.row) resolved finds.resolved in finds.numbered ∙ sym e ∙ is

-- the method of a row of the linked program has a number
pub numbered_below : (p : LinkedProgram) (number row : ℕ) → IsInForm p → slice_get p.method_rows number ≡ Some row → number < length p.methods
numbered_below p number row form e = omega (arith, form.rows, slice_get-below p.method_rows number row e)

-- a list that isn't empty has an element
pub some_length : (n : ℕ) → n == 0 ≡ false → 0 < n
some_length zero e = cc
some_length (suc n) e = omega arith

pub no_length : (n : ℕ) → n == 0 ≡ true → n ≡ 0
no_length n e = eqb-true n 0 e
