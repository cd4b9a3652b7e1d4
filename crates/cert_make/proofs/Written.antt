-- The certificate that is written: the marked lines under new numbers, and the claim behind them.
use Rattle.std.proofs.Common.{◌≡◌, ◌↔◌, ℕ, zero, suc, ◌≤◌, Bool, true, false, List, [], ◌∷◌, ◌++◌, Some, None, All, map, slice_get, take, refl, sym, ap, subst, ◌∙◌, arith}
use Rattle.std.proofs.lemmas.List.{length-map, map-append}
use Rattle.std.proofs.lemmas.List.Elements.{All-cons, All-head, All-map, All-nil, All-push, All-tail}
use Rattle.lists.specs.Lists.{Has, IsApart}
use Rattle.lists.proofs.Places.{IsApart-push, slice_get-append_left, slice_get-there}
use Rattle.lists.proofs.Joined.{slice_get-mapped}
use Rattle.link_program.proofs.Found.{at_map}
use Rattle.link_rules.specs.Linked.{LinkedProgram}
use Rattle.link_sites.specs.declared.site.Site.{Site}
use Rattle.spds_rules.specs.declared.node.Node.{Node}
use Rattle.cert_rules.specs.declared.fact.Fact.{Fact}
use Rattle.cert_rules.specs.declared.line.Line.{Line}
use Rattle.cert_rules.specs.declared.line.Line.TheVariants as line
use Rattle.cert_rules.specs.Certified.{AreGiven, IsCertified}
use Rattle.cert_rules.specs.Given.{Cites, Facts, Gives}
use Rattle.cert_rules.specs.Lengths.{CanClaim, HasLength, cited_length, lengths_of}
use Rattle.cert_rules.specs.Spelled.{FitNumbers, FitsLine, IsRoomy}
use Rattle.cert_laws.proofs.Givens.{given_more}
use Rattle.cert_laws.proofs.Writing.{cites_push}
use Rattle.cert_make.specs.Needs.{CiteBack, CitesLine, IsLean, IsNeeded, numbers_of, renumbered}
use Rattle.cert_make.specs.Numbers.{AreAnew, AreNumbers, up_to}
use Rattle.cert_make.proofs.Anew.{gives_anew, has_right, in_two}
use Rattle.cert_make.proofs.Ascending.{up_to_within}
use Rattle.cert_make.proofs.Found.{claim_back, line_back}
use Rattle.cert_make.proofs.Marking.{as_selected, is_anew, marks_for, marks_needed}
use Rattle.cert_make.proofs.Marks.{IsAnew, IsMarked, MarksNeeded, rank, selected}
use Rattle.cert_make.proofs.Selecting.{IsChosen, chosen, length-selected, selected_at, take-selected}
use Rattle.cert_make.proofs.Sums.{cited_anew, length-lengths_of, lengths_anew, lengths_of-push}

-- a line cites the new numbers
numbers_of-renumbered : (new : ℕ → ℕ) (l : Line) → numbers_of (renumbered new l) ≡ map new (numbers_of l)
numbers_of-renumbered new (line.Start side n) = refl
numbers_of-renumbered new (line.Jump from n) = refl
numbers_of-renumbered new (line.Put from meet n) = refl
numbers_of-renumbered new (line.Flow side from n) = refl
numbers_of-renumbered new (line.PushField from meet n) = refl
numbers_of-renumbered new (line.PushCall from n) = refl
numbers_of-renumbered new (line.LinkField from meet n) = refl
numbers_of-renumbered new (line.LinkCall from n) = refl
numbers_of-renumbered new (line.Pop side from link n) = refl
numbers_of-renumbered new (line.BasePop from n) = refl
numbers_of-renumbered new (line.Shared first second string) = sym (map-append new first second)
numbers_of-renumbered new (line.Meet shared base) = refl
numbers_of-renumbered new (line.Claim field call) = refl

cites_anew : (new : ℕ → ℕ) (l : Line) (number : ℕ) → CitesLine l number → CitesLine (renumbered new l) (new number)
cites_anew new l number cites =
    subst (λ (numbers : List ℕ). Has numbers (new number)) (sym (numbers_of-renumbered new l)) (cites.0, at_map new (numbers_of l) cites.0 number cites.1)

-- new numbers that are taken back
module _ (new back : ℕ → ℕ) where
  abbrev TakenBack : List ℕ → Type 0
  TakenBack numbers = (number : ℕ) → Has numbers number → back (new number) ≡ number

  map_back : (numbers : List ℕ) → TakenBack numbers → map back (map new numbers) ≡ numbers
  map_back [] is = refl
  map_back (number ∷ numbers) is =
      let here = is number (zero, refl) in
      let behind = map_back numbers (λ k has. is k (suc has.0, has.1)) in cc

  renumbered_back : (l : Line) → ((number : ℕ) → CitesLine l number → back (new number) ≡ number) → renumbered back (renumbered new l) ≡ l
  renumbered_back (line.Start side n) is = refl
  renumbered_back (line.Jump from n) is = ap (λ (k : ℕ). line.Jump k n) (is from (zero, refl))
  renumbered_back (line.Put from meet n) is = let a = is from (zero, refl) in let b = is meet (suc zero, refl) in cc
  renumbered_back (line.Flow side from n) is = ap (λ (k : ℕ). line.Flow side k n) (is from (zero, refl))
  renumbered_back (line.PushField from meet n) is = let a = is from (zero, refl) in let b = is meet (suc zero, refl) in cc
  renumbered_back (line.PushCall from n) is = ap (λ (k : ℕ). line.PushCall k n) (is from (zero, refl))
  renumbered_back (line.LinkField from meet n) is = let a = is from (zero, refl) in let b = is meet (suc zero, refl) in cc
  renumbered_back (line.LinkCall from n) is = ap (λ (k : ℕ). line.LinkCall k n) (is from (zero, refl))
  renumbered_back (line.Pop side from link n) is = let a = is from (zero, refl) in let b = is link (suc zero, refl) in cc
  renumbered_back (line.BasePop from n) is = ap (λ (k : ℕ). line.BasePop k n) (is from (zero, refl))
  renumbered_back (line.Shared first second string) is =
      let a = map_back first (λ number has. is number (has.0, slice_get-append_left first second has.0 number has.1)) in
      let b = map_back second (λ number has. is number (has_right first second number has)) in
      cc
  renumbered_back (line.Meet shared base) is = let a = is shared (zero, refl) in let b = is base (suc zero, refl) in cc
  renumbered_back (line.Claim field call) is = let a = is field (zero, refl) in let b = is call (suc zero, refl) in cc

-- the place of the marked element before which so many stand
nth : List Bool → ℕ → ℕ
nth [] k = 0
nth (false ∷ marks) k = suc (nth marks k)
nth (true ∷ marks) zero = 0
nth (true ∷ marks) (suc k) = suc (nth marks k)

nth-rank : (marks : List Bool) (i : ℕ) → slice_get marks i ≡ Some true → nth marks (rank marks i) ≡ i
unfolding nth
nth-rank [] i at = cc
nth-rank (true ∷ marks) zero at = refl
nth-rank (false ∷ marks) zero at = cc
nth-rank (true ∷ marks) (suc i) at = ap suc (nth-rank marks i at)
nth-rank (false ∷ marks) (suc i) at = ap suc (nth-rank marks i at)

-- the old number
old_number : List Bool → ℕ → ℕ
old_number marks zero = 0
old_number marks (suc k) = suc (nth marks k)

-- lines of which each can be spelled
fit_numbers : (new : ℕ → ℕ) → ((k : ℕ) → IsRoomy (new k)) → (numbers : List ℕ) → FitNumbers numbers → FitNumbers (map new numbers)
fit_numbers new roomy numbers fit = (omega (arith, length-map numbers new, fit.0), All-map IsRoomy new numbers (λ k d less. roomy _))

fits_anew : (new : ℕ → ℕ) → ((k : ℕ) → IsRoomy (new k)) → (l : Line) → FitsLine l → FitsLine (renumbered new l)
fits_anew new roomy (line.Start side n) fit = fit
fits_anew new roomy (line.Jump from n) fit = (roomy from, fit.1)
fits_anew new roomy (line.Put from meet n) fit = (roomy from, roomy meet, fit.2)
fits_anew new roomy (line.Flow side from n) fit = (roomy from, fit.1)
fits_anew new roomy (line.PushField from meet n) fit = (roomy from, roomy meet, fit.2)
fits_anew new roomy (line.PushCall from n) fit = (roomy from, fit.1)
fits_anew new roomy (line.LinkField from meet n) fit = (roomy from, roomy meet, fit.2)
fits_anew new roomy (line.LinkCall from n) fit = (roomy from, fit.1)
fits_anew new roomy (line.Pop side from link n) fit = (roomy from, roomy link, fit.2)
fits_anew new roomy (line.BasePop from n) fit = (roomy from, fit.1)
fits_anew new roomy (line.Shared first second string) fit = (fit_numbers new roomy first fit.0, fit_numbers new roomy second fit.1, fit.2)
fits_anew new roomy (line.Meet shared base) fit = (roomy shared, roomy base)
fits_anew new roomy (line.Claim field call) fit = (roomy field, roomy call)

selected_fit : (marks : List Bool) (lines : List Line) → All FitsLine lines → All FitsLine (selected marks lines)
selected_fit [] lines fit = All-nil FitsLine
selected_fit (mark ∷ marks) [] fit = All-nil FitsLine
selected_fit (true ∷ marks) (l ∷ lines) fit = All-cons FitsLine l (selected marks lines) (All-head FitsLine l lines fit) (selected_fit marks lines (All-tail FitsLine l lines fit))
selected_fit (false ∷ marks) (l ∷ lines) fit = selected_fit marks lines (All-tail FitsLine l lines fit)

module _ (lines : List Line) (field call : ℕ) (marks : List Bool) (new : ℕ → ℕ)
    (cite_back : CiteBack (lines ++ line.Claim field call ∷ [])) (needed : MarksNeeded lines (line.Claim field call) marks) (anew : IsAnew marks new) where
  abbrev claim : Line
  claim = line.Claim field call

  abbrev new_claim : Line
  new_claim = line.Claim (new field) (new call)

  abbrev front : List Line
  front = map (renumbered new) (selected marks lines)

  abbrev pub written : List Line
  written = front ++ new_claim ∷ []

  -- what a marked line cites is marked, and what the claim cites
  closed : (i : ℕ) (l : Line) (number : ℕ) → slice_get lines i ≡ Some l → slice_get marks i ≡ Some true → CitesLine l number → IsMarked marks number
  closed i l number there at cites = (needed.exact number).1 (IsNeeded.by_line l ((needed.exact (suc i)).0 at) there cites)

  claimed : (number : ℕ) → CitesLine claim number → IsMarked marks number
  claimed number cites = (needed.exact number).1 (IsNeeded.by_claim cites)

  -- the lines give what the marked lines gave
  module _ (p : LinkedProgram) (t : Node) (given : Facts) where
    cited_anew_at : (facts : Facts) (number : ℕ) (fact : Fact) → IsMarked marks number → Cites facts number fact → Cites (selected marks facts) (new number) fact
    cited_anew_at facts zero fact at cites = absurd cites
    cited_anew_at facts (suc i) fact at cites =
        subst (λ (k : ℕ). Cites (selected marks facts) k fact) (sym (anew i at)) (selected_at marks facts i (Some fact) at cites)

    front_given : AreGiven p t lines given → AreGiven p t front (selected marks given)
    front_given are = record {
      as_many =
          length-selected marks given ∙ ap (rank marks) are.as_many ∙ sym (length-selected marks lines) ∙ sym (length-map (selected marks lines) (renumbered new));
      each = λ j k there.
          let m = slice_get-mapped (renumbered new) (selected marks lines) j k there in
          let c = chosen marks lines j m.0 m.1 in
          let is = are.each c.from m.0 c.there in
          let gives = gives_anew p t (take c.from given) (selected marks (take c.from given)) new m.0 is.fact
          (λ number fact cites. cited_anew_at (take c.from given) number fact (closed c.from m.0 number c.there c.at cites)) is.gives in
          let fronts : selected marks (take c.from given) ≡ take j (selected marks given) = sym (take-selected marks given c.from) ∙ ap (λ (n : ℕ). take n (selected marks given)) (sym c.place) in
          record {
            fact = is.fact;
            there = ap (slice_get (selected marks given)) c.place ∙ selected_at marks given c.from is.fact c.at is.there;
            gives = subst (λ (f : Facts). Gives p t f k is.fact) fronts (subst (λ (x : Line). Gives p t (selected marks (take c.from given)) x is.fact) m.2 gives);
          };
    }

  pub written_certified : (p : LinkedProgram) (t : Node) (o : Site) → CanClaim p t lines o field call → IsCertified p t written o
  written_certified p t o can =
      let are = front_given p t can.given can.are_given in
      let by_fields = cited_anew_at p t can.given can.given field _ (claimed field (zero, refl)) can.by_fields in
      let by_calls = cited_anew_at p t can.given can.given call _ (claimed call (suc zero, refl)) can.by_calls in
      record {
        given = selected marks can.given ++ None ∷ [];
        are_given = given_more p t front (selected marks can.given) new_claim None are (record { site = o; entry = can.entry; by_fields = by_fields; by_calls = by_calls }, refl);
        field = new field;
        call = new call;
        last = (front, refl);
        of_site = cites_push (selected marks can.given) None (new field) _ by_fields;
      }

  pub written_length : HasLength written (cited_length (lengths_of lines) field)
  written_length =
      let within = claim_back lines claim cite_back field (zero, refl) in
      let lengths : lengths_of written ≡ selected marks (lengths_of lines) ++ 0 ∷ [] =
      lengths_of-push front new_claim ∙ ap (λ (ns : List ℕ). ns ++ 0 ∷ []) (lengths_anew marks new anew lines needed.as_many (line_back lines claim cite_back) closed) in
      let at = cited_anew marks new anew (lengths_of lines) (0 ∷ []) field (claimed field (zero, refl)) (omega (arith, length-lengths_of lines, within.1)) in
      (new field, new call, (front, refl), sym at ∙ ap (λ (ns : List ℕ). cited_length ns (new field)) (sym lengths))

  -- what was needed is needed
  needed_anew : (number : ℕ) → IsNeeded lines claim number → IsNeeded front new_claim (new number)
  needed_anew number (IsNeeded.by_claim cites) = IsNeeded.by_claim (cites_anew new claim number cites)
  needed_anew number (IsNeeded.by_line {i} l h there cites) =
      let at = (needed.exact (suc i)).1 h in
      let here : IsNeeded front new_claim (suc (rank marks i)) = subst (λ (k : ℕ). IsNeeded front new_claim k) (anew i at) (needed_anew (suc i) h) in
      IsNeeded.by_line (renumbered new l) here (at_map (renumbered new) (selected marks lines) (rank marks i) l (selected_at marks lines i l at there)) (cites_anew new l number cites)

  pub written_lean : IsLean written
  written_lean = record {
    front = front;
    field = new field;
    call = new call;
    whole = refl;
    needed = λ i less.
        let l = slice_get-there front i less in
        let m = slice_get-mapped (renumbered new) (selected marks lines) i l.0 l.1 in
        let c = chosen marks lines i m.0 m.1 in
        subst (λ (k : ℕ). IsNeeded front new_claim k) (anew c.from c.at ∙ ap suc (sym c.place)) (needed_anew (suc c.from) ((needed.exact (suc c.from)).0 c.at));
  }

  -- each line under its old numbers again
  taken_back : (number : ℕ) → IsMarked marks number → old_number marks (new number) ≡ number
  unfolding old_number
  taken_back zero at = absurd at
  taken_back (suc i) at = ap (old_number marks) (anew i at) ∙ ap suc (nth-rank marks i at)

  line_taken_back : (j : ℕ) (l : Line) (c : IsChosen marks lines j l) → renumbered (old_number marks) (renumbered new l) ≡ l
  line_taken_back j l c = renumbered_back new (old_number marks) l (λ number cites. taken_back number (closed c.from l number c.there c.at cites))

  front_apart : IsApart lines → IsApart front
  front_apart apart i j x p q =
      let a = slice_get-mapped (renumbered new) (selected marks lines) i x p in
      let b = slice_get-mapped (renumbered new) (selected marks lines) j x q in
      let first = chosen marks lines i a.0 a.1 in
      let second = chosen marks lines j b.0 b.1 in
      let same : a.0 ≡ b.0 = sym (line_taken_back i a.0 first) ∙ ap (renumbered (old_number marks)) (a.2 ∙ sym b.2) ∙ line_taken_back j b.0 second in
      let one = apart first.from second.from b.0 (subst (λ (l : Line). slice_get lines first.from ≡ Some l) same first.there) second.there in
      first.place ∙ ap (rank marks) one ∙ sym second.place

  -- no number that is needed is greater than both of the claim
  needed_up_to : (most : ℕ) → field ≤ most → call ≤ most → (number : ℕ) → IsNeeded lines claim number → number ≤ most
  needed_up_to most f c number (IsNeeded.by_claim cites) = in_two (λ (k : ℕ). k ≤ most) field call f c cites.0 number cites.1
  needed_up_to most f c number (IsNeeded.by_line {i} l h there cites) =
      omega (arith, needed_up_to most f c (suc i) h, (line_back lines claim cite_back i l number there cites).1)

  claim_alone : Has front new_claim → ⊥
  claim_alone has =
      let m = slice_get-mapped (renumbered new) (selected marks lines) has.0 new_claim has.1 in
      let c = chosen marks lines has.0 m.0 m.1 in
      let by_old = renumbered_back new (old_number marks) claim (λ number cites. taken_back number (claimed number cites)) in
      let same : m.0 ≡ claim = sym (line_taken_back has.0 m.0 c) ∙ ap (renumbered (old_number marks)) m.2 ∙ by_old in
      let there : slice_get lines c.from ≡ Some claim = c.there ∙ ap Some same in
      let f = line_back lines claim cite_back c.from claim field there (zero, refl) in
      let k = line_back lines claim cite_back c.from claim call there (suc zero, refl) in
      absurd (omega (arith, needed_up_to c.from f.1 k.1 (suc c.from) ((needed.exact (suc c.from)).0 c.at)))

  pub written_once : IsApart lines → IsApart written
  written_once apart = IsApart-push front new_claim (front_apart apart) claim_alone

  pub written_fits : ((k : ℕ) → IsRoomy (new k)) → All FitsLine lines → All FitsLine written
  written_fits roomy fit =
      let each : All (λ (l : Line). FitsLine (renumbered new l)) (selected marks lines) = λ k d less. fits_anew new roomy _ (selected_fit marks lines fit k d less) in
      All-push FitsLine front new_claim (All-map FitsLine (renumbered new) (selected marks lines) each) (roomy field, roomy call)

-- what is said of the certificate
pub record IsPart (lines : List Line) (field call : ℕ) (certificate : List Line) : Type 0 where
  pub certified : (p : LinkedProgram) (t : Node) (o : Site) → CanClaim p t lines o field call → IsCertified p t certificate o
  pub long : HasLength certificate (cited_length (lengths_of lines) field)
  pub lean : IsLean certificate
  pub once : IsApart lines → IsApart certificate
  pub fits : All FitsLine lines → All FitsLine certificate

-- the lines with the numbers of those that a claim needs, and the claim behind them
module _ (lines : List Line) (field call : ℕ) (numbers : List ℕ) (back : CiteBack (lines ++ line.Claim field call ∷ []))
    (exact : (number : ℕ) → Has numbers number ↔ IsNeeded lines (line.Claim field call) number) (are : AreNumbers numbers) where
  abbrev ms : List Bool
  ms = marks_for lines (line.Claim field call) numbers back exact are

  abbrev needed_marks : MarksNeeded lines (line.Claim field call) ms
  needed_marks = marks_needed lines (line.Claim field call) numbers back exact are

  abbrev places : IsAnew ms (up_to numbers)
  places = is_anew lines (line.Claim field call) numbers back exact are

  part_of : IsPart lines field call (map (renumbered (up_to numbers)) (selected ms lines) ++ line.Claim (up_to numbers field) (up_to numbers call) ∷ [])
  part_of = record {
    certified = written_certified lines field call ms (up_to numbers) back needed_marks places;
    long = written_length lines field call ms (up_to numbers) back needed_marks places;
    lean = written_lean lines field call ms (up_to numbers) back needed_marks places;
    once = written_once lines field call ms (up_to numbers) back needed_marks places;
    fits = written_fits lines field call ms (up_to numbers) back needed_marks places (λ k. omega (arith, up_to_within numbers k, are.few));
  }

  pub is_part : (found : List Line) (last : Line) (certificate : List Line) → AreAnew numbers lines found → last ≡ renumbered (up_to numbers) (line.Claim field call) → certificate ≡ found ++ last ∷ []
      → IsPart lines field call certificate
  is_part found last certificate anew claims whole =
      let front = as_selected lines (line.Claim field call) numbers back exact are found anew in
      let as_written = whole ∙ ap (λ (ls : List Line). ls ++ last ∷ []) front ∙ ap (λ (l : Line). map (renumbered (up_to numbers)) (selected ms lines) ++ l ∷ []) claims in
      subst (IsPart lines field call) (sym as_written) part_of
