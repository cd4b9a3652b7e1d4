-- What lines give, one after another.
use Rattle.std.proofs.Common.{◌≡◌, ℕ, zero, suc, ◌+◌, ◌<◌, ◌≤◌, List, [], ◌∷◌, ◌++◌, Option, Some, length, take, slice_get, refl, sym, ap, subst, ◌∙◌, inl, inr, arith, length-append}
use Rattle.std.proofs.Math.Seq.{take-append_seam, take-length}
use Rattle.std.proofs.lemmas.List.{length-take, take-append-le, take-take}
use Rattle.lists.proofs.Places.{slice_get-append_left, slice_get-below, slice_get-push, slice_get-pushed, take-next}
use Rattle.lists.proofs.Joined.{slice_get-taken}
use Rattle.link_rules.specs.Linked.{LinkedProgram}
use Rattle.spds_rules.specs.declared.node.Node.{Node}
use Rattle.cert_rules.specs.declared.fact.Fact.{Fact}
use Rattle.cert_rules.specs.declared.line.Line.{Line}
use Rattle.cert_rules.specs.declared.line.Line.TheVariants.{Claim}
use Rattle.cert_rules.specs.Certified.{AreGiven, EndsWith}
use Rattle.spds_rules.specs.Demand.{about}
use Rattle.cert_rules.specs.Given.{Cites, Facts, Gives, IsHeld}

module _ {X : Type 0} where
  -- and within the front
  pub taken_below : (k : ℕ) (xs : List X) (i : ℕ) (x : X) → slice_get (take k xs) i ≡ Some x → i < k
  taken_below zero xs i x e = cc
  taken_below (suc k) [] i x e = cc
  taken_below (suc k) (y ∷ xs) zero x e = omega arith
  taken_below (suc k) (y ∷ xs) (suc i) x e = omega (arith, taken_below k xs i x e)

  -- there it stands in the front
  pub slice_get-front : (k : ℕ) (xs : List X) (i : ℕ) → i < k → slice_get (take k xs) i ≡ slice_get xs i
  slice_get-front zero xs i less = absurd (omega arith)
  slice_get-front (suc k) [] i less = refl
  slice_get-front (suc k) (y ∷ xs) zero less = refl
  slice_get-front (suc k) (y ∷ xs) (suc i) less = slice_get-front k xs i (omega arith)

-- what a front cites, the list cites
pub cites_more : (k : ℕ) (given : Facts) (number : ℕ) (fact : Fact) → Cites (take k given) number fact → Cites given number fact
cites_more k given zero fact cites = cites
cites_more k given (suc number) fact cites = slice_get-taken k given number (Some fact) cites

-- a number cites one fact
pub cites_one : (given : Facts) (number : ℕ) (a b : Fact) → Cites given number a → Cites given number b → a ≡ b
cites_one given zero a b p q = absurd p
cites_one given (suc number) a b p q = cc

module _ (p : LinkedProgram) (t : Node) where
  -- one line more
  pub given_more : (lines : List Line) (given : Facts) (line : Line) (g : Option Fact) → AreGiven p t lines given → Gives p t given line g → AreGiven p t (lines ++ line ∷ []) (given ++ g ∷ [])
  given_more lines given line g are gives = record {
    as_many = omega (arith, length-append given (g ∷ []), length-append lines (line ∷ []), are.as_many);
    each = λ i l there. elim (slice_get-pushed lines line i l there) [
      | inl before ↦
          let is = are.each i l before in
          let below = slice_get-below lines i l before in
          let within : i ≤ length given = omega (arith, below, are.as_many) in
          record {
            fact = is.fact;
            there = slice_get-append_left given (g ∷ []) i (is.fact) (is.there);
            gives = subst (λ (f : Facts). Gives p t f l is.fact) (sym (take-append-le i given (g ∷ []) within)) is.gives;
          }
      | inr last ↦
          let count : i ≡ length given = last.0 ∙ sym are.as_many in
          let front : take i (given ++ g ∷ []) ≡ given = ap (λ k. take k (given ++ g ∷ [])) count ∙ take-append_seam given (g ∷ []) in
          record {
            fact = g;
            there = ap (slice_get (given ++ g ∷ [])) count ∙ slice_get-push given g;
            gives = subst (λ (f : Facts). Gives p t f l g) (sym front) (subst (λ (x : Line). Gives p t given x g) (sym last.1) gives);
          }
    ];
  }

  -- a front of the lines
  pub given_front : (lines : List Line) (given : Facts) (k : ℕ) → AreGiven p t lines given → AreGiven p t (take k lines) (take k given)
  given_front lines given k are = record {
    as_many = omega (arith, length-take k given, length-take k lines, are.as_many);
    each = λ i l there.
        let less = taken_below k lines i l there in
        let is = are.each i l (slice_get-taken k lines i l there) in
        record {
          fact = is.fact;
          there = slice_get-front k given i less ∙ is.there;
          gives = subst (λ (f : Facts). Gives p t f l is.fact) (sym (take-take i k given (omega arith))) is.gives;
        };
  }

  -- what the last of the lines gives, over what those before it gave
  pub record IsSplit (lines : List Line) (line : Line) (given : Facts) : Type 0 where
    pub front : Facts
    pub fact : Option Fact
    pub are : AreGiven p t lines front
    pub gives : Gives p t front line fact
    pub whole : given ≡ front ++ fact ∷ []

  pub given_split : (lines : List Line) (line : Line) (given : Facts) → AreGiven p t (lines ++ line ∷ []) given → IsSplit lines line given
  given_split lines line given are =
      let n = length lines in
      let is = are.each n line (slice_get-push lines line) in
      let count : length given ≡ n + 1 = omega (arith, are.as_many, length-append lines (line ∷ [])) in
      record {
        front = take n given;
        fact = is.fact;
        are = subst (λ (l : List Line). AreGiven p t l (take n given)) (take-append_seam lines (line ∷ [])) (given_front (lines ++ line ∷ []) given n are);
        gives = is.gives;
        whole = sym (take-length given) ∙ ap (λ k. take k given) count ∙ take-next given n is.fact is.there;
      }

  -- the site that the last line claims is held there, by both lines that it cites
  pub claim_held : (lines : List Line) (given : Facts) (field call : ℕ) → AreGiven p t lines given → EndsWith lines field call → IsHeld p (about t) given field call t
  claim_held lines given field call are last =
      let n = length last.0 in
      let there : slice_get lines n ≡ Some (Claim field call) = subst (λ (l : List Line). slice_get l n ≡ Some (Claim field call)) (sym last.1) (slice_get-push last.0 (Claim field call)) in
      let is = are.each n (Claim field call) there in
      let held = is.gives.0 in
      record {
        site = held.site;
        entry = held.entry;
        by_fields = cites_more n given field _ held.by_fields;
        by_calls = cites_more n given call _ held.by_calls;
      }
