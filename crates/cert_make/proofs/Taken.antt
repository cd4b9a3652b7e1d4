-- The lines with numbers, taken one after another under new numbers.
use Rattle.std.proofs.Common.{◌≡◌, ℕ, suc, ◌+◌, ◌<◌, ◌≤◌, List, [], ◌∷◌, ◌++◌, Some, length, length-append, slice_get, sym, ap, ◌∙◌, inl, inr, arith}
use Rattle.std.proofs.lemmas.Bool.{cases_order}
use Rattle.lists.proofs.Places.{slice_get-append_left, slice_get-below, slice_get-push}
use Rattle.cert_rules.specs.declared.line.Line.{Line}
use Rattle.cert_make.specs.Needs.{renumbered}
use Rattle.cert_make.specs.Numbers.{AreAnew, up_to}

-- those with so many of the numbers
pub record AreAnewBelow (numbers : List ℕ) (lines : List Line) (at : ℕ) (found : List Line) : Type 0 where
  pub as_many : length found ≡ at
  pub each : (j i : ℕ) (l : Line) → j < at → slice_get numbers j ≡ Some (suc i) → slice_get lines i ≡ Some l → slice_get found j ≡ Some (renumbered (up_to numbers) l)

module _ (numbers : List ℕ) (lines : List Line) where
  pub anew_none : (found : List Line) → found ≡ [] → AreAnewBelow numbers lines 0 found
  anew_none found empty = record { as_many = ap length empty; each = λ j i l less. absurd (omega (arith, less)) }

  pub anew_next : (at i : ℕ) (l new : Line) (found : List Line) → slice_get numbers at ≡ Some (suc i) → slice_get lines i ≡ Some l → new ≡ renumbered (up_to numbers) l
      → AreAnewBelow numbers lines at found → AreAnewBelow numbers lines (at + 1) (found ++ new ∷ [])
  anew_next at i l new found here there is are = record {
    as_many = omega (arith, length-append found (new ∷ []), are.as_many);
    each = λ j k m less number line_is. elim (cases_order j at) [
      | inl same ↦
          let one : k ≡ i = cc (number, here, same) in
          let line : m ≡ l = cc (one, line_is, there) in
          let last : slice_get (found ++ new ∷ []) j ≡ Some new = ap (slice_get (found ++ new ∷ [])) (same ∙ sym are.as_many) ∙ slice_get-push found new in
          last ∙ ap Some (is ∙ ap (renumbered (up_to numbers)) (sym line))
      | inr apart ↦ elim apart [
        | inl below ↦ slice_get-append_left found (new ∷ []) j _ (are.each j k m below number line_is)
        | inr above ↦ absurd (omega (arith, less, above))
      ]
    ];
  }

  pub anew_all : (at : ℕ) (found : List Line) → length numbers ≤ at → at ≤ length numbers → AreAnewBelow numbers lines at found → AreAnew numbers lines found
  anew_all at found end within are = record {
    as_many = omega (arith, are.as_many, end, within);
    each = λ j i l number line_is. are.each j i l (omega (arith, slice_get-below numbers j (suc i) number, end)) number line_is;
  }
