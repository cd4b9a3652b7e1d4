-- Marks for ascending numbers: the lines with these numbers are the marked ones, and the place of a number counts the marks.
use Rattle.std.proofs.Common.{◌≡◌, ℕ, zero, suc, ◌+◌, ◌<◌, ◌≤◌, ◌↔◌, Bool, true, false, List, [], ◌∷◌, ◌++◌, Some, length, map, slice_get, refl, sym, ap, subst, ◌∙◌, arith}
use Rattle.std.specs.Prelude.{eqb}
use Rattle.std.specs.Cmp.{unsigned_Decides}
use Rattle.std.specs.Set.{is_member}
use Rattle.std.proofs.lemmas.List.{length-map}
use Rattle.std.proofs.lemmas.Map.Made.{is_member-Decides}
use Rattle.std.proofs.lemmas.Option.{slice_get-get_or}
use Rattle.lists.specs.Lists.{Has}
use Rattle.lists.proofs.Places.{slice_get-below, slice_get-there, slice_get-extensional}
use Rattle.lists.proofs.Joined.{slice_get-mapped}
use Rattle.cert_rules.specs.declared.line.Line.{Line}
use Rattle.cert_make.specs.Needs.{CiteBack, IsNeeded, renumbered}
use Rattle.cert_make.specs.Numbers.{AreAnew, AreNumbers, up_to}
use Rattle.cert_make.proofs.Ascending.{contained, parted, there_from, up_to_at, up_to_next, up_to_other}
use Rattle.cert_make.proofs.Found.{needed_within}
use Rattle.cert_make.proofs.Marks.{IsAnew, IsMarked, MarksNeeded, rank, selected}
use Rattle.cert_make.proofs.Selecting.{chosen, length-selected, rank-none, rank-suc_marked, rank-suc_other}

-- for so many numbers behind one, whether each is among these
abbrev pub marks_behind : List ℕ → ℕ → ℕ → List Bool
marks_behind numbers i zero = []
marks_behind numbers i (suc count) = is_member eqb numbers (suc i) ∷ marks_behind numbers (suc i) count

length-marks_behind : (numbers : List ℕ) (i count : ℕ) → length (marks_behind numbers i count) ≡ count
length-marks_behind numbers i zero = refl
length-marks_behind numbers i (suc count) = ap suc (length-marks_behind numbers (suc i) count)

marks_behind_at : (numbers : List ℕ) (i count j : ℕ) → j < count → slice_get (marks_behind numbers i count) j ≡ Some (is_member eqb numbers (suc (i + j)))
marks_behind_at numbers i zero j less = absurd (omega (arith, less))
marks_behind_at numbers i (suc count) zero less = let same : i ≡ i + 0 = omega arith in ap (λ (k : ℕ). Some (is_member eqb numbers (suc k))) same
marks_behind_at numbers i (suc count) (suc j) less =
    let same : suc i + j ≡ i + suc j = omega arith in
    marks_behind_at numbers (suc i) count j (omega (arith, less)) ∙ ap (λ (k : ℕ). Some (is_member eqb numbers (suc k))) same

module _ (lines : List Line) (claim : Line) (numbers : List ℕ) (back : CiteBack (lines ++ claim ∷ []))
    (exact : (number : ℕ) → Has numbers number ↔ IsNeeded lines claim number) (are : AreNumbers numbers) where
  -- a mark for each line: whether the claim needs it
  abbrev pub marks_for : List Bool
  marks_for = marks_behind numbers 0 (length lines)

  as_many : length marks_for ≡ length lines
  as_many = length-marks_behind numbers 0 (length lines)

  mark_there : (i : ℕ) → i < length lines → slice_get marks_for i ≡ Some (is_member eqb numbers (suc i))
  mark_there i less = let same : 0 + i ≡ i = omega arith in marks_behind_at numbers 0 (length lines) i less ∙ ap (λ (k : ℕ). Some (is_member eqb numbers (suc k))) same

  within : (number : ℕ) → Has numbers number → (0 < number) × (number ≤ length lines)
  within number has = needed_within lines claim back number ((exact number).0 has)

  from_mark : (i : ℕ) → slice_get marks_for i ≡ Some true → Has numbers (suc i)
  from_mark i at =
      let there = mark_there i (omega (arith, as_many, slice_get-below marks_for i true at)) in
      let is : is_member eqb numbers (suc i) ≡ true = cc in
      there_from numbers (suc i) ((is_member-Decides unsigned_Decides numbers (suc i)).0 is)

  to_mark : (i : ℕ) → Has numbers (suc i) → slice_get marks_for i ≡ Some true
  to_mark i has = mark_there i (omega (arith, (within (suc i) has).1)) ∙ ap Some ((is_member-Decides unsigned_Decides numbers (suc i)).1 (contained numbers (suc i) has))

  pub marks_needed : MarksNeeded lines claim marks_for
  marks_needed = record { as_many = as_many; exact = at }
    where
      at : (number : ℕ) → IsMarked marks_for number ↔ IsNeeded lines claim number
      at zero = (λ h. absurd h, λ h. absurd (omega (arith, (needed_within lines claim back zero h).0)))
      at (suc i) = (λ h. (exact (suc i)).0 (from_mark i h), λ h. to_mark i ((exact (suc i)).1 h))

  -- as many numbers are at most one as lines up to it are marked
  rank_by : (i : ℕ) (mark : Bool) → slice_get marks_for i ≡ Some mark → rank marks_for i ≡ up_to numbers i → rank marks_for (suc i) ≡ up_to numbers (suc i)
  rank_by i true at before = rank-suc_marked marks_for i at ∙ ap suc before ∙ sym (up_to_next numbers are.ascending i (from_mark i at))
  rank_by i false at before = rank-suc_other marks_for i at ∙ before ∙ sym (up_to_other numbers i (λ has. let yes = to_mark i has in cc))

  rank_is : (i : ℕ) → i ≤ length lines → rank marks_for i ≡ up_to numbers i
  rank_is zero less =
      let none = parted numbers 0 0 (omega arith) (λ k low. absurd (omega (arith, low)))
      (λ k from low. omega (arith, (within _ (k, slice_get-get_or numbers k 0 low)).0)) in
      rank-none marks_for ∙ sym none
  rank_is (suc i) less =
      let m = slice_get-there marks_for i (omega (arith, as_many, less)) in
      rank_by i m.0 m.1 (rank_is i (omega (arith, less)))

  pub is_anew : IsAnew marks_for (up_to numbers)
  is_anew i at =
      let low = slice_get-below marks_for i true at in
      up_to_next numbers are.ascending i (from_mark i at) ∙ ap suc (sym (rank_is i (omega (arith, as_many, low))))

  -- and the lines with the numbers are the marked ones
  pub as_selected : (found : List Line) → AreAnew numbers lines found → found ≡ map (renumbered (up_to numbers)) (selected marks_for lines)
  as_selected found anew = slice_get-extensional found (map (renumbered (up_to numbers)) (selected marks_for lines)) many (λ j x y there is. let other = at j y is in cc)
    where
      all : up_to numbers (length lines) ≡ length numbers
      all = parted numbers (length lines) (length numbers) (omega arith) (λ k low. (within _ (k, slice_get-get_or numbers k 0 low)).1) (λ k from low. absurd (omega (arith, from, low)))

      many : length found ≡ length (map (renumbered (up_to numbers)) (selected marks_for lines))
      many =
          anew.as_many ∙ sym all ∙ sym (rank_is (length lines) (omega arith)) ∙ sym (length-selected marks_for lines) ∙ sym (length-map (selected marks_for lines) (renumbered (up_to numbers)))

      at : (j : ℕ) (y : Line) → slice_get (map (renumbered (up_to numbers)) (selected marks_for lines)) j ≡ Some y → slice_get found j ≡ Some y
      at j y is =
          let m = slice_get-mapped (renumbered (up_to numbers)) (selected marks_for lines) j y is in
          let c = chosen marks_for lines j m.0 m.1 in
          let has = from_mark c.from c.at in
          let place : suc has.0 ≡ suc j = sym (up_to_at numbers are.ascending has.0 (suc c.from) has.1) ∙ is_anew c.from c.at ∙ ap suc (sym c.place) in
          let same : has.0 ≡ j = omega (arith, place) in
          anew.each j c.from m.0 (subst (λ (k : ℕ). slice_get numbers k ≡ Some (suc c.from)) same has.1) c.there ∙ ap Some m.2
