-- Lines with notes on them: what they give, and one line more.
use Rattle.std.proofs.Common.{length-set, ◌≡◌, ◌≢◌, ◌↔◌, ◌⊎◌, ◌∙◌, inl, inr, Bool, true, false, not, IsTrue, nat_eq, eqb-true, eq-eqb, ℕ, zero, suc, ◌+◌, ◌≤◌, ◌<◌, ◌^◌, List, [], ◌∷◌, ◌++◌, Option, Some, None, length, map, slice_get, slice_index_or, refl, sym, ap, subst, arith, length-append}
use Rattle.std.specs.List.{slice_set}
use Rattle.std.proofs.lemmas.Bool.{false≢true}
use Rattle.std.proofs.lemmas.List.{map-append}
use Rattle.lists.specs.Lists.{Has}
use Rattle.lists.proofs.Places.{IsApart-push, slice_get-append_left, slice_get-below, slice_get-push, slice_get-pushed, slice_get-set_other, slice_get-set_same, slice_get-there}
use Rattle.lists.proofs.Joined.{slice_get-mapped}
use Rattle.cert_rules.specs.declared.fact.Fact.{Fact}
use Rattle.cert_rules.specs.declared.line.Line.{Line}
use Rattle.cert_lines.specs.declared.keys.Known.{Known}
use Rattle.cert_lines.specs.declared.written.Note.{Note}
use Rattle.cert_lines.specs.Spread.{known_of}
use Rattle.cert_lines.specs.Noted.{AreNotes, GivesAt, IsBettered, IsShortestOf, IsThere, Noted, fact_of, length_at, noted_by, noted_fact, with_line}

map_got : {X Y : Type 0} (f : X → Y) (xs : List X) (i : ℕ) (x : X) → slice_get xs i ≡ Some x → slice_get (map f xs) i ≡ Some (f x)
map_got f [] i x h = cc
map_got f (y ∷ xs) zero x h = let e : y ≡ x = cc in ap (λ z. Some (f z)) e
map_got f (y ∷ xs) (suc i) x h = map_got f xs i x h

map_or : {X : Type 0} (f : X → ℕ) (xs : List X) (i : ℕ) (x : X) → slice_get xs i ≡ Some x → slice_index_or (map f xs) i 0 ≡ f x
map_or f [] i x h = cc
map_or f (y ∷ xs) zero x h = let e : y ≡ x = cc in ap f e
map_or f (y ∷ xs) (suc i) x h = map_or f xs i x h

same_map : {X Y : Type 0} (f g : X → Y) (xs : List X) → ((i : ℕ) (x : X) → slice_get xs i ≡ Some x → f x ≡ g x) → map f xs ≡ map g xs
same_map f g [] h = refl
same_map f g (x ∷ xs) h = λ j. h 0 x refl j ∷ same_map f g xs (λ i y e. h (suc i) y e) j

one_got : {X : Type 0} (xs : List X) (i : ℕ) (x y : X) → slice_get xs i ≡ Some x → slice_get xs i ≡ Some y → x ≡ y
one_got xs i x y h k = cc

-- each has the number by which its fact is spread
abbrev AreKnown : List Known → Type 0
AreKnown facts = (number : ℕ) (k : Known) → slice_get facts number ≡ Some k → k ≡ known_of k.fact

fact_of_some : (k : Option Known) (fact : Fact) → ((x : Known) → k ≡ Some x → x ≡ known_of x.fact) → fact_of k ≡ Some fact → k ≡ Some (known_of fact)
fact_of_some None fact is h = cc
fact_of_some (Some k) fact is h = let e : k.fact ≡ fact = cc in ap Some (is k refl ∙ ap known_of e)

module _ (lines : List Line) (facts : List Known) (notes : List Note) where
  abbrev whole : Noted
  whole = noted_by lines facts notes

  pub gives_note : AreKnown facts → (i : ℕ) (fact : Fact) → GivesAt whole i fact → (n : Note) × (slice_get notes i ≡ Some n) × (slice_get facts n.fact ≡ Some (known_of fact))
  gives_note are i fact h = let m = slice_get-mapped (noted_fact facts) notes i (Some fact) h in (m.0, m.1, fact_of_some (slice_get facts m.0.fact) fact (are m.0.fact) m.2)

  pub note_gives : (i : ℕ) (n : Note) (fact : Fact) → slice_get notes i ≡ Some n → slice_get facts n.fact ≡ Some (known_of fact) → GivesAt whole i fact
  note_gives i n fact there named = map_got (noted_fact facts) notes i n there ∙ ap (λ k. Some (fact_of k)) named

  pub note_length : (i : ℕ) (n : Note) → slice_get notes i ≡ Some n → length_at whole i ≡ n.length
  note_length i n there = map_or (λ (m : Note). m.length) notes i n there

  -- no line gives a fact without a number
  pub none_gives : AreKnown facts → (fact : Fact) → (Has facts (known_of fact) → ⊥) → (i : ℕ) → GivesAt whole i fact → ⊥
  none_gives are fact none i h = let n = gives_note are i fact h in none (n.0.fact, n.2)

  module _ (best : List ℕ) (are : AreNotes lines facts notes best) where
    pub note_there : (i : ℕ) → i < length lines → i < length notes
    note_there i h = omega (arith, h, are.as_many)

    pub best_there : (number : ℕ) (k : Known) → slice_get facts number ≡ Some k → number < length best
    best_there number k h = omega (arith, are.rows, slice_get-below facts number k h)

    pub last_there : (number i : ℕ) → slice_get best number ≡ Some i → i < length notes
    last_there number i h = let b = are.each number i h in slice_get-below notes i b.note b.there

    pub shortest : (fact : Fact) (number i : ℕ) → slice_get facts number ≡ Some (known_of fact) → slice_get best number ≡ Some i → IsShortestOf whole fact i
    shortest fact number i named h =
        let b = are.each number i h in
        record {
          gives = note_gives i b.note fact b.there (ap (slice_get facts) b.of ∙ named);
          least = λ j g.
              let n = gives_note are.known j fact g in
              let one : n.0.fact ≡ number = are.apart n.0.fact number (known_of fact) n.2 named in
              let less = (b.last j n.0 n.1 one).1 in
              omega (arith, less, note_length i b.note b.there, note_length j n.0 n.1);
        }

    pub bettered : (i b : ℕ) (n : Note) → slice_get notes i ≡ Some n → slice_get best n.fact ≡ Some b → b ≢ i → IsBettered whole i
    bettered i b n there h other =
        let k = slice_get-there facts n.fact (are.named i n there) in
        let k_is = k.1 ∙ ap Some (are.known n.fact k.0 k.1) in
        let is = are.each n.fact b h in
        let last = is.last i n there refl in
        record {
          fact = k.0.fact;
          gives = note_gives i n k.0.fact there k_is;
          further = b;
          behind = lower i b last.0 other;
          again = note_gives b is.note k.0.fact is.there (ap (slice_get facts) is.of ∙ k_is);
          short = omega (arith, last.1, note_length b is.note is.there, note_length i n there);
        }
      where
        lower : (x y : ℕ) → x ≤ y → y ≢ x → x < y
        lower x y le ne = grind (arith, le, ne)

    pub not_last : (i b : ℕ) (n : Note) → slice_get notes i ≡ Some n → slice_get best n.fact ≡ Some b → IsBettered whole i → b ≡ i → ⊥
    not_last i b n there h is e =
        let first = gives_note are.known i is.fact is.gives in
        let second = gives_note are.known is.further is.fact is.again in
        let same : n.fact ≡ first.0.fact = ap (λ (m : Note). m.fact) (one_got notes i n first.0 there first.1) in
        let one : second.0.fact ≡ first.0.fact = are.apart second.0.fact first.0.fact (known_of is.fact) second.2 first.2 in
        let low = ((are.each n.fact b h).last is.further second.0 second.1 (one ∙ sym same)).0 in
        omega (arith, low, is.behind, e)

    -- a line more for a fact that has lines, the last of which is longer
    module _ (line : Line) (fact : Fact) (number last length' : ℕ) (ln : Note) (named : slice_get facts number ≡ Some (known_of fact)) (is_last : slice_get best number ≡ Some last)
        (there : slice_get notes last ≡ Some ln) (shorter : length' < ln.length) (few : length lines + 3 < 2 ^ 32) where
      abbrev note : Note
      note = record { fact = number; length = length' }

      pub pushed_same : AreNotes (lines ++ line ∷ []) facts (notes ++ note ∷ []) (slice_set best number (length lines))
      pushed_same = record {
        as_many = omega (arith, length-append notes (note ∷ []), length-append lines (line ∷ []), are.as_many);
        few = omega (arith, length-append lines (line ∷ []), few);
        rows = length-set best number (length lines) ∙ are.rows;
        apart = are.apart;
        known = are.known;
        named = λ i n h. elim (slice_get-pushed notes note i n h) [
          | inl before ↦ are.named i n before
          | inr e ↦ subst (λ (m : Note). m.fact < length facts) (sym e.1) (slice_get-below facts number (known_of fact) named)
        ];
        each = λ f i h. elim (cases f number) [
          | inl e ↦
              let is : slice_get (slice_set best number (length lines)) number ≡ Some (length lines) = slice_get-set_same best number (length lines) (best_there number (known_of fact) named) in
              let at : i ≡ length lines = one_got (slice_set best number (length lines)) number i (length lines) (subst (λ (x : ℕ). slice_get (slice_set best number (length lines)) x ≡ Some i) e h) is in
              record {
                note = note;
                there = ap (slice_get (notes ++ note ∷ [])) (at ∙ sym are.as_many) ∙ slice_get-push notes note;
                of = sym e;
                last = λ j n g of. elim (slice_get-pushed notes note j n g) [
                  | inl before ↦
                      let l = (are.each number last is_last).last j n before (of ∙ e) in
                      let one : (are.each number last is_last).note ≡ ln = one_got notes last _ ln (are.each number last is_last).there there in
                      let longer : ln.length ≤ n.length = subst (λ (m : Note). m.length ≤ n.length) one l.1 in
                      (omega (arith, slice_get-below notes j n before, are.as_many, at), omega (arith, shorter, longer))
                  | inr f ↦ (omega (arith, f.0, are.as_many, at), subst (λ (m : Note). length' ≤ m.length) (sym f.1) (omega arith))
                ];
              }
          | inr ne ↦
              let old = are.each f i (sym (slice_get-set_other best number f (length lines) ne) ∙ h) in
              record {
                note = old.note;
                there = slice_get-append_left notes (note ∷ []) i old.note old.there;
                of = old.of;
                last = λ j n g of. elim (slice_get-pushed notes note j n g) [
                  | inl before ↦ old.last j n before of
                  | inr e ↦ absurd (ne (sym of ∙ ap (λ (m : Note). m.fact) e.1))
                ];
              }
        ];
      }
        where
          cases : (a b : ℕ) → (a ≡ b) ⊎ (a ≢ b)
          cases zero zero = inl refl
          cases zero (suc b) = inr (λ e. absurd (omega (arith, e)))
          cases (suc a) zero = inr (λ e. absurd (omega (arith, e)))
          cases (suc a) (suc b) = elim (cases a b) [ inl e ↦ inl (ap suc e) | inr n ↦ inr (λ e. n (omega (arith, e))) ]

      pub noted_same : noted_by (lines ++ line ∷ []) facts (notes ++ note ∷ []) ≡ with_line whole line fact length'
      noted_same =
          let given : map (noted_fact facts) (notes ++ note ∷ []) ≡ whole.given ++ Some fact ∷ []
          = map-append (noted_fact facts) notes (note ∷ []) ∙ ap (λ (k : Option Known). whole.given ++ fact_of k ∷ []) named in
          let lengths : map (λ (m : Note). m.length) (notes ++ note ∷ []) ≡ whole.lengths ++ length' ∷ [] = map-append (λ (m : Note). m.length) notes (note ∷ []) in
          λ j. record { lines = lines ++ line ∷ []; given = given j; lengths = lengths j }

      pub not_there : IsThere whole fact length' → ⊥
      not_there t =
          let s = (shortest fact number last named is_last).least t.at t.gives in
          omega (arith, s, t.short, note_length last ln there, shorter)

    -- a line more for a fact that has none
    module _ (line : Line) (fact : Fact) (length' : ℕ) (new : Has facts (known_of fact) → ⊥) (few : length lines + 3 < 2 ^ 32) where
      abbrev first : Note
      first = record { fact = length facts; length = length' }

      pub pushed_new : AreNotes (lines ++ line ∷ []) (facts ++ known_of fact ∷ []) (notes ++ first ∷ []) (best ++ length lines ∷ [])
      pushed_new = record {
        as_many = omega (arith, length-append notes (first ∷ []), length-append lines (line ∷ []), are.as_many);
        few = omega (arith, length-append lines (line ∷ []), few);
        rows = omega (arith, length-append best (length lines ∷ []), length-append facts (known_of fact ∷ []), are.rows);
        apart = IsApart-push facts (known_of fact) are.apart new;
        known = λ number k h. elim (slice_get-pushed facts (known_of fact) number k h) [
          | inl before ↦ are.known number k before
          | inr e ↦ e.1 ∙ ap (λ (x : Known). known_of x.fact) (sym e.1)
        ];
        named = λ i n h. elim (slice_get-pushed notes first i n h) [
          | inl before ↦ omega (arith, are.named i n before, length-append facts (known_of fact ∷ []))
          | inr e ↦ subst (λ (m : Note). m.fact < length (facts ++ known_of fact ∷ [])) (sym e.1) (omega (arith, length-append facts (known_of fact ∷ [])))
        ];
        each = λ f i h. elim (slice_get-pushed best (length lines) f i h) [
          | inl before ↦
              let old = are.each f i before in
              record {
                note = old.note;
                there = slice_get-append_left notes (first ∷ []) i old.note old.there;
                of = old.of;
                last = λ j n g of. elim (slice_get-pushed notes first j n g) [
                  | inl b ↦ old.last j n b of
                  | inr e ↦ let is : length facts ≡ f = sym (ap (λ (m : Note). m.fact) e.1) ∙ of in absurd (omega (arith, is, slice_get-below best f i before, are.rows))
                ];
              }
          | inr e ↦
              record {
                note = first;
                there = ap (slice_get (notes ++ first ∷ [])) (e.1 ∙ sym are.as_many) ∙ slice_get-push notes first;
                of = sym (e.0 ∙ are.rows);
                last = λ j n g of. elim (slice_get-pushed notes first j n g) [
                  | inl b ↦ absurd (omega (arith, are.named j n b, of, e.0, are.rows))
                  | inr k ↦ (omega (arith, k.0, are.as_many, e.1), subst (λ (m : Note). length' ≤ m.length) (sym k.1) (omega arith))
                ];
              }
        ];
      }

      pub noted_new : noted_by (lines ++ line ∷ []) (facts ++ known_of fact ∷ []) (notes ++ first ∷ []) ≡ with_line whole line fact length'
      noted_new =
          let kept : map (noted_fact (facts ++ known_of fact ∷ [])) notes ≡ whole.given
          = same_map (noted_fact (facts ++ known_of fact ∷ [])) (noted_fact facts) notes (λ i n h.
          let k = slice_get-there facts n.fact (are.named i n h) in
          ap fact_of (slice_get-append_left facts (known_of fact ∷ []) n.fact k.0 k.1 ∙ sym k.1)) in
          let last : noted_fact (facts ++ known_of fact ∷ []) first ≡ Some fact = ap fact_of (slice_get-push facts (known_of fact)) in
          let given : map (noted_fact (facts ++ known_of fact ∷ [])) (notes ++ first ∷ []) ≡ whole.given ++ Some fact ∷ []
          = map-append (noted_fact (facts ++ known_of fact ∷ [])) notes (first ∷ []) ∙ (λ j. kept j ++ last j ∷ []) in
          let lengths : map (λ (m : Note). m.length) (notes ++ first ∷ []) ≡ whole.lengths ++ length' ∷ [] = map-append (λ (m : Note). m.length) notes (first ∷ []) in
          λ j. record { lines = lines ++ line ∷ []; given = given j; lengths = lengths j }

      pub none_there : IsThere whole fact length' → ⊥
      none_there t = none_gives are.known fact new t.at t.gives

-- a line that was put last gives its fact
pub last_gives : (w : Noted) (line : Line) (fact : Fact) (n : ℕ) (i : ℕ) → i ≡ length w.given → GivesAt (with_line w line fact n) i fact
last_gives w line fact n i e = ap (slice_get (w.given ++ Some fact ∷ [])) e ∙ slice_get-push w.given (Some fact)

-- the test whether two numbers differ
pub tells : {P : Type 0} (b i : ℕ) → (b ≢ i → P) → (P → b ≡ i → ⊥) → IsTrue (not (nat_eq b i)) ↔ P
tells {P = P} b i differ same = by (nat_eq b i) refl
  where
    by : (t : Bool) → nat_eq b i ≡ t → IsTrue (not t) ↔ P
    by true e = ((λ h. absurd (false≢true h)), (λ x. absurd (same x (eqb-true b i e))))
    by false e = ((λ h. differ (λ s. false≢true (sym e ∙ eq-eqb b i s))), (λ x. refl))
