-- Lengths of lines.
use Rattle.std.proofs.Common.{◌≡◌, ℕ, zero, suc, ◌+◌, ◌-◌, ◌<◌, ◌≤◌, Bool, true, false, List, [], ◌∷◌, ◌++◌, Some, length, map, slice_get, slice_index_or, take, refl, sym, ap, subst, ◌∙◌, arith, length-append}
use Rattle.std.proofs.lemmas.List.{append-nil, length-take, map-append, take_all}
use Rattle.std.proofs.lemmas.Option.{get_or_from_slice_get}
use Rattle.lists.proofs.Places.{slice_get-append_left, slice_get-push, slice_get-there, take-next}
use Rattle.cert_rules.specs.declared.line.Line.{Line}
use Rattle.cert_rules.specs.declared.line.Line.TheVariants as line
use Rattle.cert_rules.specs.declared.line.Side.TheVariants.{Field, Call}
use Rattle.cert_rules.specs.Lengths.{HasLength, cited_length, length_by, lengths_behind, lengths_of}
use Rattle.cert_rules.specs.Told.{as_told}
use Rattle.cert_make.specs.Needs.{CitesLine, renumbered}
use Rattle.cert_make.proofs.Marks.{IsAnew, IsMarked, rank, selected}
use Rattle.cert_make.proofs.Selecting.{selected-none, selected-push_marked, selected-push_other, selected_at}

lengths_behind-push : (lengths : List ℕ) (lines : List Line) (l : Line) → lengths_behind lengths (lines ++ l ∷ []) ≡ lengths_behind lengths lines ++ length_by (lengths_behind lengths lines) l ∷ []
lengths_behind-push lengths [] l = refl
lengths_behind-push lengths (k ∷ lines) l = lengths_behind-push (lengths ++ length_by lengths k ∷ []) lines l

-- one line more
pub lengths_of-push : (lines : List Line) (l : Line) → lengths_of (lines ++ l ∷ []) ≡ lengths_of lines ++ length_by (lengths_of lines) l ∷ []
lengths_of-push lines l = lengths_behind-push [] lines l

length-lengths_behind : (lengths : List ℕ) (lines : List Line) → length (lengths_behind lengths lines) ≡ length lengths + length lines
length-lengths_behind lengths [] = omega arith
length-lengths_behind lengths (l ∷ lines) =
    omega (arith, length-lengths_behind (lengths ++ length_by lengths l ∷ []) lines, length-append lengths (length_by lengths l ∷ []))

-- there is one for each line
pub length-lengths_of : (lines : List Line) → length (lengths_of lines) ≡ length lines
length-lengths_of lines = omega (arith, length-lengths_behind [] lines)

-- the length with a number that stands there
cited_at : (lengths : List ℕ) (i x : ℕ) → slice_get lengths i ≡ Some x → cited_length lengths (suc i) ≡ x
cited_at lengths i x there = get_or_from_slice_get lengths i x 0 there

module _ (old fresh : List ℕ) (new : ℕ → ℕ) where
  -- a line has the same length where those that it cites have
  length_anew : (l : Line) → ((number : ℕ) → CitesLine l number → cited_length fresh (new number) ≡ cited_length old number) → length_by fresh (renumbered new l) ≡ length_by old l
  length_anew (line.Start side n) keeps = refl
  length_anew (line.Jump from n) keeps = refl
  length_anew (line.Put from meet n) keeps = refl
  length_anew (line.Flow Field from n) keeps = ap (λ (k : ℕ). k + 1) (keeps from (zero, refl))
  length_anew (line.Flow Call from n) keeps = refl
  length_anew (line.PushField from meet n) keeps = refl
  length_anew (line.PushCall from n) keeps = refl
  length_anew (line.LinkField from meet n) keeps = ap (λ (k : ℕ). k + 1) (keeps from (zero, refl))
  length_anew (line.LinkCall from n) keeps = refl
  length_anew (line.Pop Field from link n) keeps = let a = keeps from (zero, refl) in let b = keeps link (suc zero, refl) in cc
  length_anew (line.Pop Call from link n) keeps = refl
  length_anew (line.BasePop from n) keeps = refl
  length_anew (line.Shared first second string) keeps = refl
  length_anew (line.Meet shared base) keeps = refl
  length_anew (line.Claim field call) keeps = refl

module _ (marks : List Bool) (new : ℕ → ℕ) (anew : IsAnew marks new) where
  -- the length of a marked line stands under its new number, also with more behind
  pub cited_anew : (lengths more : List ℕ) (number : ℕ) → IsMarked marks number → number ≤ length lengths → cited_length (selected marks lengths ++ more) (new number) ≡ cited_length lengths number
  cited_anew lengths more zero at within = absurd at
  cited_anew lengths more (suc i) at within =
      let x = slice_get-there lengths i (omega arith) in
      let there = slice_get-append_left (selected marks lengths) more (rank marks i) x.0 (selected_at marks lengths i x.0 at x.1) in
      ap (cited_length (selected marks lengths ++ more)) (anew i at) ∙ cited_at (selected marks lengths ++ more) (rank marks i) x.0 there ∙ sym (cited_at lengths i x.0 x.1)

  module _ (lines : List Line) (as_many : length marks ≡ length lines)
      (back : (i : ℕ) (l : Line) (number : ℕ) → slice_get lines i ≡ Some l → CitesLine l number → (0 < number) × (number ≤ i))
      (closed : (i : ℕ) (l : Line) (number : ℕ) → slice_get lines i ≡ Some l → slice_get marks i ≡ Some true → CitesLine l number → IsMarked marks number) where
    -- the lengths of the marked lines
    abbrev Fit : List Line → Type 0
    Fit front = lengths_of (map (renumbered new) (selected marks front)) ≡ selected marks (lengths_of front)

    fit_none : Fit []
    fit_none = ap (λ (ls : List Line). lengths_of (map (renumbered new) ls)) (selected-none marks) ∙ sym (selected-none marks)

    module _ (i : ℕ) (l : Line) (there : slice_get lines i ≡ Some l) (front : List Line) (count : length front ≡ i) (fit : Fit front) where
      many : length (lengths_of front) ≡ i
      many = length-lengths_of front ∙ count

      fit_other : slice_get marks i ≡ Some false → Fit (front ++ l ∷ [])
      fit_other not =
          let at_line : slice_get marks (length front) ≡ Some false = ap (slice_get marks) count ∙ not in
          let at_length : slice_get marks (length (lengths_of front)) ≡ Some false = ap (slice_get marks) many ∙ not in
          ap (λ (ls : List Line). lengths_of (map (renumbered new) ls)) (selected-push_other marks front l at_line) ∙ fit
          ∙ sym (selected-push_other marks (lengths_of front) (length_by (lengths_of front) l) at_length) ∙ ap (selected marks) (sym (lengths_of-push front l))

      fit_marked : slice_get marks i ≡ Some true → Fit (front ++ l ∷ [])
      fit_marked at =
          let at_line : slice_get marks (length front) ≡ Some true = ap (slice_get marks) count ∙ at in
          let at_length : slice_get marks (length (lengths_of front)) ≡ Some true = ap (slice_get marks) many ∙ at in
          let written = map (renumbered new) (selected marks front) in
          let here = selected marks (lengths_of front) in
          let same : length_by here (renumbered new l) ≡ length_by (lengths_of front) l = length_anew (lengths_of front) here new l (keeps at) in
          ap (λ (ls : List Line). lengths_of (map (renumbered new) ls)) (selected-push_marked marks front l at_line)
          ∙ ap lengths_of (map-append (renumbered new) (selected marks front) (l ∷ []))
          ∙ lengths_of-push written (renumbered new l)
          ∙ ap (λ (ns : List ℕ). ns ++ length_by ns (renumbered new l) ∷ []) fit
          ∙ ap (λ (k : ℕ). here ++ k ∷ []) same
          ∙ sym (selected-push_marked marks (lengths_of front) (length_by (lengths_of front) l) at_length) ∙ ap (selected marks) (sym (lengths_of-push front l))
        where
          keeps : slice_get marks i ≡ Some true → (number : ℕ) → CitesLine l number → cited_length (selected marks (lengths_of front)) (new number) ≡ cited_length (lengths_of front) number
          keeps at number cites =
              let within : number ≤ length (lengths_of front) = omega (arith, many, (back i l number there cites).1) in
              subst (λ (ns : List ℕ). cited_length ns (new number) ≡ cited_length (lengths_of front) number) (append-nil (selected marks (lengths_of front)))
              (cited_anew (lengths_of front) [] number (closed i l number there at cites) within)

    fit_up_to : (i : ℕ) → i ≤ length lines → Fit (take i lines)
    fit_up_to zero within = fit_none
    fit_up_to (suc i) within =
        let l = slice_get-there lines i (omega arith) in
        let m = slice_get-there marks i (omega (arith, as_many)) in
        let count : length (take i lines) ≡ i = omega (arith, length-take i lines) in
        let before = fit_up_to i (omega arith) in
        let next : take i lines ++ l.0 ∷ [] ≡ take (suc i) lines = sym (take-next lines i l.0 l.1) ∙ ap (λ (k : ℕ). take k lines) one_more in
        subst Fit next (by_mark i l.0 l.1 (take i lines) count before m.0 m.1)
      where
        one_more : i + 1 ≡ suc i
        one_more = omega arith

        by_mark : (i : ℕ) (l : Line) → slice_get lines i ≡ Some l → (front : List Line) → length front ≡ i → Fit front → (m : Bool) → slice_get marks i ≡ Some m → Fit (front ++ l ∷ [])
        by_mark i l there front count fit true at = fit_marked i l there front count fit at
        by_mark i l there front count fit false at = fit_other i l there front count fit at

    -- the marked lines have the lengths that they had
    pub lengths_anew : lengths_of (map (renumbered new) (selected marks lines)) ≡ selected marks (lengths_of lines)
    lengths_anew = subst Fit (take_all (length lines) lines (omega arith)) (fit_up_to (length lines) (omega arith))

-- lengths as 32 bits tell them
pub told_at : (lengths : List ℕ) (i : ℕ) → slice_index_or (map as_told lengths) i 0 ≡ as_told (slice_index_or lengths i 0)
told_at [] i = refl
told_at (x ∷ lengths) zero = refl
told_at (x ∷ lengths) (suc i) = told_at lengths i

pub told_cited : (lengths : List ℕ) (number : ℕ) → cited_length (map as_told lengths) number ≡ as_told (cited_length lengths number)
told_cited lengths zero = refl
told_cited lengths (suc i) = told_at lengths i

pub told_next : (told : List ℕ) (x : ℕ) (lines : List Line) (i : ℕ) (l : Line) → slice_get lines i ≡ Some l → told ≡ map as_told (lengths_of (take i lines))
    → x ≡ as_told (length_by (lengths_of (take i lines)) l) → told ++ x ∷ [] ≡ map as_told (lengths_of (take (i + 1) lines))
told_next told x lines i l there before here =
    let front = lengths_of (take i lines) in
    ap (λ (ns : List ℕ). ns ++ x ∷ []) before ∙ ap (λ (k : ℕ). map as_told front ++ k ∷ []) here ∙ sym (map-append as_told front (length_by front l ∷ []))
    ∙ ap (map as_told) (sym (lengths_of-push (take i lines) l)) ∙ ap (λ (ls : List Line). map as_told (lengths_of ls)) (sym (take-next lines i l there))

-- the last element of a list
slice_get-last : {X : Type 0} (front : List X) (x : X) → slice_get (front ++ x ∷ []) (length (front ++ x ∷ []) - 1) ≡ Some x
slice_get-last front x =
    let count : length (front ++ x ∷ []) - 1 ≡ length front = omega (arith, length-append front (x ∷ [])) in
    ap (slice_get (front ++ x ∷ [])) count ∙ slice_get-push front x

-- the length that the last line claims
pub told_claim : (told : List ℕ) (lines : List Line) (l : Line) (field call : ℕ) → told ≡ map as_told (lengths_of lines) → slice_get lines (length lines - 1) ≡ Some l → l ≡ line.Claim field call
    → (len : ℕ) → HasLength lines len → cited_length told field ≡ as_told len
told_claim told lines l field call are last is len has =
    let claim = line.Claim has.0 has.1 in
    let by_end : slice_get lines (length lines - 1) ≡ Some claim =
    subst (λ (ls : List Line). slice_get ls (length ls - 1) ≡ Some claim) (sym has.2.1) (slice_get-last has.2.0 claim) in
    let same : line.Claim field call ≡ claim = cc in
    let fields : field ≡ has.0 = cc in
    ap (λ (ns : List ℕ). cited_length ns field) are ∙ told_cited (lengths_of lines) field ∙ ap (λ (k : ℕ). as_told (cited_length (lengths_of lines) k)) fields ∙ ap as_told (sym has.3)

-- and that of one that ends otherwise
pub no_claim : (lines : List Line) → ((l : Line) → slice_get lines (length lines - 1) ≡ Some l → (field call : ℕ) → l ≡ line.Claim field call → ⊥) → (len : ℕ) → HasLength lines len → ⊥
no_claim lines not len has =
    let claim = line.Claim has.0 has.1 in
    not claim (subst (λ (ls : List Line). slice_get ls (length ls - 1) ≡ Some claim) (sym has.2.1) (slice_get-last has.2.0 claim)) has.0 has.1 refl
