-- The derived test on selections is equality.
use Rattle.std.proofs.Common.{◌≡◌, ◌≢◌, ◌∙◌, ap, false, sym, true, refl, eq-eqb, eqb-true}
use Rattle.std.proofs.lemmas.Bool.{false≢true}
use Rattle.object_ranges.specs.declared.selection.Selection.{Selection}
use Rattle.object_ranges.specs.declared.selection.Selection.TheVariants.{Method, Nothing, Several}
use Rattle.object_ranges.specs.contracts.selection.SelectionPartialEq.TheImpl.{eq-value}

pub same_selection : (x y : Selection) → eq-value.it x y ≡ true → x ≡ y
same_selection Nothing Nothing h = refl
same_selection Nothing (Method b) h = absurd (false≢true h)
same_selection Nothing Several h = absurd (false≢true h)
same_selection (Method a) Nothing h = absurd (false≢true h)
same_selection (Method a) (Method b) h = ap Method (eqb-true a b h)
same_selection (Method a) Several h = absurd (false≢true h)
same_selection Several Nothing h = absurd (false≢true h)
same_selection Several (Method b) h = absurd (false≢true h)
same_selection Several Several h = refl

itself : (x : Selection) → eq-value.it x x ≡ true
itself Nothing = refl
itself (Method a) = eq-eqb a a refl
itself Several = refl

pub other_selection : (x y : Selection) → eq-value.it x y ≡ false → x ≢ y
other_selection x y h = λ same. false≢true (sym h ∙ ap (eq-value.it x) (sym same) ∙ itself x)
