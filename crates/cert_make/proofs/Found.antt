-- The numbers of the lines that a claim needs, as they are found.
use Rattle.std.proofs.Common.{◌≡◌, ◌↔◌, ℕ, zero, suc, ◌+◌, ◌<◌, ◌≤◌, List, [], ◌∷◌, ◌++◌, Some, Result, Ok, Err, OnOk, length, slice_get, take, sym, ap, subst, ◌∙◌, inl, inr, arith}
use Rattle.std.proofs.lemmas.Bool.{cases_order}
use Rattle.std.proofs.lemmas.List.{take_all}
use Rattle.lists.specs.Grown.{IsGrownBy}
use Rattle.lists.specs.Lists.{Adds, Has}
use Rattle.lists.proofs.Grown.{grown_none, grown_one, grown_same, grown_then}
use Rattle.lists.proofs.Places.{slice_get-append_left, slice_get-below, slice_get-push, slice_get-there, take-next}
use Rattle.cert_rules.specs.declared.line.Line.{Line}
use Rattle.cert_make.specs.Needs.{CiteBack, CitesLine, IsNeeded, numbers_of}
use Rattle.cert_make.proofs.Anew.{has_or, has_right}

-- no number more
pub none_more : (old : List ℕ) → IsGrownBy (Has []) old old
none_more old = grown_none (Has []) old (λ n has. let e = has.1 in cc)

-- one more
one_more : (now : List ℕ) (number : ℕ) (new : List ℕ) → Adds now number new → IsGrownBy (Has (number ∷ [])) now new
one_more now number new adds = grown_same (λ n. n ≡ number) (Has (number ∷ [])) now new (grown_one number now new adds) (λ n is. (zero, ap Some (sym is))) only
  where
    only : (n : ℕ) → Has (number ∷ []) n → n ≡ number
    only n (zero, there) = cc
    only n (suc i, there) = cc

-- by some, and then by others
pub grown_both : (first second old now new : List ℕ) → IsGrownBy (Has first) old now → IsGrownBy (Has second) now new → IsGrownBy (Has (first ++ second)) old new
grown_both first second old now new f s = grown_then (Has first) (Has second) (Has (first ++ second)) old now new f s
    (λ n has. (has.0, slice_get-append_left first second has.0 n has.1)) (λ n has. has_right first second n has) (λ n has. has_or first second has.0 n has.1)

pub grown_on_both : {A E : Type 0} (r : Result A E) (first second old now new : List ℕ) → IsGrownBy (Has first) old now → OnOk r (IsGrownBy (Has second) now new) → OnOk r (IsGrownBy (Has (first ++ second)) old new)
grown_on_both (Ok a) first second old now new f s = grown_both first second old now new f s
grown_on_both (Err e) first second old now new f s = s

pub grown_next : (numbers : List ℕ) (i number : ℕ) (old now new : List ℕ) → slice_get numbers i ≡ Some number → IsGrownBy (Has (take i numbers)) old now → Adds now number new
    → IsGrownBy (Has (take (i + 1) numbers)) old new
grown_next numbers i number old now new there grown adds =
    subst (λ (xs : List ℕ). IsGrownBy (Has xs) old new) (sym (take-next numbers i number there)) (grown_both (take i numbers) (number ∷ []) old now new grown (one_more now number new adds))

pub grown_all : (numbers : List ℕ) (i : ℕ) (old new : List ℕ) → length numbers ≤ i → IsGrownBy (Has (take i numbers)) old new → IsGrownBy (Has numbers) old new
grown_all numbers i old new end grown = subst (λ (xs : List ℕ). IsGrownBy (Has xs) old new) (take_all i numbers end) grown

module _ (lines : List Line) (claim : Line) where
  -- what is found so far is needed, and has what the claim cites, and what the lines with so many of the numbers cite
  pub record IsFound (at : ℕ) (found : List ℕ) : Type 0 where
    pub within : at ≤ length found
    pub each : (number : ℕ) → Has found number → IsNeeded lines claim number
    pub claimed : (number : ℕ) → CitesLine claim number → Has found number
    pub done : (i k : ℕ) (l : Line) (number : ℕ) → i < at → slice_get found i ≡ Some (suc k) → slice_get lines k ≡ Some l → CitesLine l number → Has found number

  module _ (back : CiteBack (lines ++ claim ∷ [])) where
    pub line_back : (i : ℕ) (l : Line) (number : ℕ) → slice_get lines i ≡ Some l → CitesLine l number → (0 < number) × (number ≤ i)
    line_back i l number there cites = back i l number (slice_get-append_left lines (claim ∷ []) i l there) cites

    pub claim_back : (number : ℕ) → CitesLine claim number → (0 < number) × (number ≤ length lines)
    claim_back number cites = back (length lines) claim number (slice_get-push lines claim) cites

    -- what is needed is the number of a line
    pub needed_within : (number : ℕ) → IsNeeded lines claim number → (0 < number) × (number ≤ length lines)
    needed_within number (IsNeeded.by_claim cites) = claim_back number cites
    needed_within number (IsNeeded.by_line {i} l h there cites) =
        let b = line_back i l number there cites in
        (b.0, omega (arith, b.1, slice_get-below lines i l there))

  pub found_first : (none new : List ℕ) → none ≡ [] → IsGrownBy (Has (numbers_of claim)) none new → IsFound 0 new
  found_first none new empty grown = record {
    within = omega arith;
    each = λ number has. elim (grown.each number has) [
      | inl before ↦ (let e = before.1 in let is = ap (λ (xs : List ℕ). slice_get xs before.0) empty in cc)
      | inr cites ↦ IsNeeded.by_claim cites
    ];
    claimed = λ number cites. grown.all number cites;
    done = λ i k l number less. absurd (omega (arith, less));
  }

  -- one more line is looked at
  pub found_more : (at k : ℕ) (l : Line) (old new : List ℕ) → slice_get old at ≡ Some (suc k) → slice_get lines k ≡ Some l → IsFound at old → IsGrownBy (Has (numbers_of l)) old new → IsFound (at + 1) new
  found_more at k l old new here line_there found grown = record {
    within = omega (arith, slice_get-below new at (suc k) (grown.same at (suc k) here));
    each = λ number has. elim (grown.each number has) [
      | inl before ↦ found.each number before
      | inr cites ↦ IsNeeded.by_line l (found.each (suc k) (at, here)) line_there cites
    ];
    claimed = λ number cites. still number (found.claimed number cites);
    done = λ i j m number less there line_is cites. elim (cases_order i at) [
      | inl same ↦
          let is : j ≡ k = let a = grown.same at (suc k) here in cc (a, there, same) in
          let one : m ≡ l = cc (is, line_is, line_there) in
          grown.all number (subst (λ (x : Line). CitesLine x number) one cites)
      | inr apart ↦ elim apart [
        | inl below ↦ still number (found.done i j m number below (old_at i (suc j) there below) line_is cites)
        | inr above ↦ absurd (omega (arith, less, above))
      ]
    ];
  }
    where
      still : (number : ℕ) → Has old number → Has new number
      still number has = (has.0, grown.same has.0 number has.1)

      old_at : (i x : ℕ) → slice_get new i ≡ Some x → i < at → slice_get old i ≡ Some x
      old_at i x e below =
          let y = slice_get-there old i (omega (arith, slice_get-below old at (suc k) here, below)) in
          let same : y.0 ≡ x = let a = grown.same i y.0 y.1 in cc (a, e) in
          y.1 ∙ ap Some same

  -- all are
  pub found_all : (at : ℕ) (found : List ℕ) → length found ≤ at → IsFound at found → (number : ℕ) → Has found number ↔ IsNeeded lines claim number
  found_all at found end f number = (f.each number, closed number)
    where
      closed : (number : ℕ) → IsNeeded lines claim number → Has found number
      closed number (IsNeeded.by_claim cites) = f.claimed number cites
      closed number (IsNeeded.by_line {i} l h there cites) =
          let has = closed (suc i) h in
          f.done has.0 i l number (omega (arith, slice_get-below found has.0 (suc i) has.1, end)) has.1 there cites
