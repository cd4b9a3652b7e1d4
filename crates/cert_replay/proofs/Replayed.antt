-- Lines that were replayed up to one of them.
use Rattle.std.proofs.Common.{◌≡◌, ◌⊎◌, ℕ, zero, suc, ◌+◌, ◌<◌, ◌≤◌, List, [], ◌∷◌, ◌++◌, Option, Some, None, Result, Ok, Err, length, take, slice_get, refl, sym, ap, subst, ◌∙◌, inl, inr, arith, length-append}
use Rattle.std.proofs.lemmas.List.{length-take, take-append-le, take-take, take_all}
use Rattle.std.specs.Result.{IsErrAnd}
use Rattle.lists.proofs.Places.{slice_get-below, take-next}
use Rattle.link_rules.specs.Linked.{LinkedProgram}
use Rattle.spds_rules.specs.declared.node.Node.{Node}
use Rattle.cert_rules.specs.declared.fact.Fact.{Fact}
use Rattle.cert_rules.specs.declared.line.Line.{Line}
use Rattle.cert_rules.specs.Certified.{AreGiven, IsUngiven}
use Rattle.cert_rules.specs.Given.{Facts, Gives}
use Rattle.cert_text.proofs.NodeWords.{some_one}
use Rattle.cert_laws.proofs.Givens.{given_front, given_more, given_split, slice_get-front}
use Rattle.cert_replay.specs.declared.error.ReplayError.{ReplayError}
use Rattle.cert_replay.specs.declared.error.ReplayError.TheVariants.{NoMemory, Rejected}
use Rattle.cert_replay.specs.Replays.{IsRefusal}
use Rattle.cert_replay.proofs.From.{Finds}

-- a number up to the next one is that one, or is up to this one
le_split : (k i : ℕ) → k ≤ i + 1 → (k ≤ i) ⊎ (k ≡ i + 1)
le_split zero i h = inl (omega arith)
le_split (suc k) zero h = inr (omega arith)
le_split (suc k) (suc i) h = elim (le_split k i (omega arith)) [ inl a ↦ inl (omega arith) | inr b ↦ inr (omega arith) ]

-- one error names one line
pub same_refusal : {A : Type 0} (i k : ℕ) → ◌≡◌ {A = Result A ReplayError} (Err (Rejected i)) (Err (Rejected k)) → i ≡ k
same_refusal i k e = cc

-- an error that is handed on
pub refusal_of : {A : Type 0} (k : ℕ) (e : ReplayError) (r : Result A ReplayError) → IsErrAnd r (λ x. x ≡ e) → (e ≡ Rejected k) ⊎ (e ≡ NoMemory) → IsRefusal k r
refusal_of k e (Ok x) is or = is
refusal_of k e (Err x) is or = elim or [ inl named ↦ inl (is ∙ named) | inr none ↦ inr (is ∙ none) ]

-- one of two numbers is below the other, or they are one
lt_cases : (i j : ℕ) → (i < j) ⊎ ((i ≡ j) ⊎ (j < i))
lt_cases zero zero = inr (inl refl)
lt_cases zero (suc j) = inl (omega arith)
lt_cases (suc i) zero = inr (inr (omega arith))
lt_cases (suc i) (suc j) = elim (lt_cases i j) [ inl a ↦ inl (omega arith) | inr b ↦ elim b [ inl c ↦ inr (inl (ap suc c)) | inr d ↦ inr (inr (omega arith)) ] ]

module _ (p : LinkedProgram) (t : Node) (lines : List Line) where
  -- the first lines give this, and nothing else
  pub record IsReplayed (i : ℕ) (given : Facts) : Type 0 where
    pub are : AreGiven p t (take i lines) given
    pub one : (k : ℕ) → k ≤ i → (other : Facts) → AreGiven p t (take k lines) other → other ≡ take k given

  pub replay_none : IsReplayed 0 []
  replay_none = record {
    are = record { as_many = refl; each = λ i l there. cc };
    one = λ k within other are.
        let none : length other ≡ 0 = omega (arith, are.as_many, length-take k lines) in
        sym (take_all 0 other (omega arith)) ∙ sym (take_all k [] (omega arith));
  }

  -- there are as many facts as lines
  as_many : (i : ℕ) (given : Facts) → IsReplayed i given → length given ≤ i
  as_many i given replayed = omega (arith, replayed.are.as_many, length-take i lines)

  -- one line more
  pub replay_next : (i : ℕ) (given : Facts) (line : Line) (g : Option Fact) → slice_get lines i ≡ Some line → Finds (Gives p t given line) (Some g) → IsReplayed i given
      → IsReplayed (i + 1) (given ++ g ∷ [])
  replay_next i given line g there finds replayed = record {
    are = subst (λ (l : List Line). AreGiven p t l (given ++ g ∷ [])) (sym next) (given_more p t (take i lines) given line g replayed.are ((finds g).0 refl));
    one = λ k within other are. elim (le_split k i within) [
      | inl up_to ↦ replayed.one k up_to other are ∙ sym (take-append-le k given (g ∷ []) (omega (arith, count)))
      | inr last ↦
          let split = given_split p t (take i lines) line other (subst (λ (l : List Line). AreGiven p t l other) (ap (λ n. take n lines) last ∙ next) are) in
          let front : split.front ≡ given = replayed.one i (omega arith) split.front split.are ∙ take_all i given (omega (arith, count)) in
          let fact : g ≡ split.fact = some_one g split.fact ((finds split.fact).1 (subst (λ (f : Facts). Gives p t f line split.fact) front split.gives)) in
          let whole : other ≡ given ++ g ∷ [] = split.whole ∙ ap (λ (f : Facts). f ++ split.fact ∷ []) front ∙ ap (λ (x : Option Fact). given ++ x ∷ []) (sym fact) in
          whole ∙ sym (take_all k (given ++ g ∷ []) (omega (arith, count, last, length-append given (g ∷ []))))
    ];
  }
    where
      next : take (i + 1) lines ≡ take i lines ++ line ∷ []
      next = take-next lines i line there

      count : length given ≡ i
      count = let below = slice_get-below lines i line there in omega (arith, below, replayed.are.as_many, length-take i lines)

  -- what all lines of a longer list give begins with this
  begins : (i : ℕ) (given : Facts) → IsReplayed i given → (k : ℕ) (other : Facts) → i ≤ k → AreGiven p t (take k lines) other → take i other ≡ given
  begins i given replayed k other within are =
      let front = subst (λ (l : List Line). AreGiven p t l (take i other)) (take-take i k lines within) (given_front p t (take k lines) other i are) in
      replayed.one i (omega arith) (take i other) front ∙ take_all i given (as_many i given replayed)

  -- a line that gives nothing: the first
  pub replay_refused : (i : ℕ) (given : Facts) (line : Line) → slice_get lines i ≡ Some line → Finds (Gives p t given line) None → IsReplayed i given → IsUngiven p t lines i
  replay_refused i given line there finds replayed = record {
    line = line;
    there = there;
    given = given;
    before = replayed.are;
    none = λ fact gives. let e = (finds fact).1 gives in cc;
  }

  -- no list behind it gives
  pub refused_front : (i : ℕ) (given : Facts) (line : Line) → slice_get lines i ≡ Some line → Finds (Gives p t given line) None → IsReplayed i given
      → (k : ℕ) (other : Facts) → i < k → AreGiven p t (take k lines) other → ⊥
  refused_front i given line there finds replayed k other less are =
      let is = are.each i line (slice_get-front k lines i less ∙ there) in
      let gives = subst (λ (f : Facts). Gives p t f line is.fact) (begins i given replayed k other (omega arith) are) is.gives in
      let e = (finds is.fact).1 gives in cc

  pub refused_all : (i : ℕ) (given : Facts) (line : Line) → slice_get lines i ≡ Some line → Finds (Gives p t given line) None → IsReplayed i given → (other : Facts)
      → AreGiven p t lines other → ⊥
  refused_all i given line there finds replayed other are =
      let below = slice_get-below lines i line there in
      refused_front i given line there finds replayed (length lines) other below
      (subst (λ (l : List Line). AreGiven p t l other) (sym (take_all (length lines) lines (omega arith))) are)

  -- all lines
  pub replay_all : (i : ℕ) (given : Facts) → length lines ≤ i → IsReplayed i given → AreGiven p t lines given
  replay_all i given all replayed = subst (λ (l : List Line). AreGiven p t l given) (take_all i lines all) replayed.are

  pub replay_one : (i : ℕ) (given : Facts) → length lines ≤ i → IsReplayed i given → (other : Facts) → AreGiven p t lines other → given ≡ other
  replay_one i given all replayed other are =
      let same = replayed.one i (omega arith) other (subst (λ (l : List Line). AreGiven p t l other) (sym (take_all i lines all)) are) in
      sym (same ∙ take_all i given (as_many i given replayed))

  -- a line that was replayed gives something
  pub replayed_gives : (i : ℕ) (given : Facts) → IsReplayed i given → (j : ℕ) → j < i → IsUngiven p t lines j → ⊥
  replayed_gives i given replayed j less un =
      let at = slice_get-front i lines j less ∙ un.there in
      let is = replayed.are.each j un.line at in
      let same = replayed.one j (omega arith) un.given un.before in
      un.none is.fact (subst (λ (f : Facts). Gives p t f un.line is.fact) (sym same) is.gives)

  -- the line that was refused is the first that gives nothing
  pub refused_one : (i : ℕ) (given : Facts) (line : Line) → slice_get lines i ≡ Some line → Finds (Gives p t given line) None → IsReplayed i given → (j : ℕ) → IsUngiven p t lines j → i ≡ j
  refused_one i given line there finds replayed j un =
      let not_before : j < i → ⊥ = λ less. replayed_gives i given replayed j less un in
      let not_behind : i < j → ⊥ = λ less. refused_front i given line there finds replayed j un.given less un.before in
      elim (lt_cases i j) [ inl less ↦ absurd (not_behind less) | inr rest ↦ elim rest [ inl same ↦ same | inr more ↦ absurd (not_before more) ] ]

  -- where all were replayed there is none
  pub replayed_whole : (i : ℕ) (given : Facts) → length lines ≤ i → IsReplayed i given → (j : ℕ) → IsUngiven p t lines j → ⊥
  replayed_whole i given all replayed j un = let below = slice_get-below lines j un.line un.there in replayed_gives i given replayed j (omega arith) un
