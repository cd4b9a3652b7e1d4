-- The places of the classes from which a class is reached.
use Rattle.std.proofs.Common.{◌≡◌, ℕ, ◌+◌, ◌<◌, ◌≤◌, ◌⊎◌, ◌↔◌, Some, List, [], ◌∷◌, ◌++◌, length, length-set, get_or, slice_get, set, take, refl, sym, ap, subst, ◌∙◌, inl, inr, arith, get_or-set_same, get_or-set_other, replicate}
use Rattle.std.proofs.lemmas.Bool.{cases_eq}
use Rattle.std.proofs.lemmas.List.{length-replicate}
use Rattle.std.proofs.lemmas.Option.{slice_get-get_or, slice_get_within}
use Rattle.class_order.specs.declared.spans.Span.{Span}
use Rattle.class_order.specs.Groups.{group}
use Rattle.class_rules.specs.Paths.{Path, ProperPath, here, step}
use Rattle.class_order.specs.Spans.{AreApart, Holds, HoldsAny}
use Rattle.class_order.specs.Tables.{Under, IsFinishing, HavePlaces, IsReach}
use Rattle.class_order.proofs.Listed.{group-replicate}
use Rattle.lists.proofs.Elements.{Contains-at, Contains-nil, Contains-take_more, Contains-take_kept, Contains-take_last}
use Rattle.class_order.proofs.Placed.{taken_at}
use Rattle.class_order.proofs.Spanned.{apart_none, holds_none, holds_left, holds_right, holds_cases, holds_push, holds_push_cases}

-- ---- from one relation to another

module _ (S T : ℕ → ℕ → Type 0) (to : (a b : ℕ) → S a b → T a b) where
  pub path_map : {a b : ℕ} → Path S a b → Path T a b
  path_map here = here
  path_map (step {a} {b} st p) = step (to a b st) (path_map p)

  pub proper_map : (a b : ℕ) → ProperPath S a b → ProperPath T a b
  proper_map a b (c, st, p) = (c, to a c st, path_map p)

-- ---- the spans of several classes

pub gathered_none : (table : List (List Span)) (p : ℕ) → Holds [] p ↔ HoldsAny table [] p
gathered_none table p = (λ h. absurd (holds_none p h), λ (c, m, h). absurd (Contains-nil c m))

pub gathered_more : (table : List (List Span)) (classes : List ℕ) (all : List Span) (i d : ℕ) → i < length classes → ((p : ℕ) → Holds all p ↔ HoldsAny table (take i classes) p)
    → (p : ℕ) → Holds (all ++ group table (get_or classes i d)) p ↔ HoldsAny table (take (i + 1) classes) p
gathered_more table classes all i d h same p = (
  λ q. elim (holds_cases all (group table (get_or classes i d)) p q) [
    | inl old ↦ let r = (same p).0 old in (r.0, Contains-take_kept classes i d r.0 h r.1, r.2)
    | inr new ↦ (get_or classes i d, Contains-take_last classes i d h, new)
  ],
  λ (c, m, q). elim (Contains-take_more classes i d c h m) [
    | inl old ↦ holds_left all _ p ((same p).1 (c, old, q))
    | inr at ↦ holds_right all _ p (subst (λ k. Holds (group table k) p) (sym at) q)
  ],
)

-- ---- paths by their last step

pub path_push : {Step : ℕ → ℕ → Type 0} {a b c : ℕ} → Path Step a b → Step b c → Path Step a c
path_push here s = step s here
path_push (step t p) s = step t (path_push p s)

pub path_last : {Step : ℕ → ℕ → Type 0} {a c : ℕ} → Path Step a c → (a ≡ c) ⊎ ((b : ℕ) × Path Step a b × Step b c)
path_last here = inl refl
path_last {Step} {c = c} (step {a} {b} t p) = by a b c t (path_last p)
  where
    by : (a b c : ℕ) → Step a b → (b ≡ c) ⊎ ((d : ℕ) × Path Step b d × Step d c) → (a ≡ c) ⊎ ((d : ℕ) × Path Step a d × Step d c)
    by a b c t (inl e) = inr (a, here, subst (Step a) e t)
    by a b c t (inr (d, q, s)) = inr (d, step t q, s)

-- one step or more, with one more
pub proper_push : {Step : ℕ → ℕ → Type 0} {a b c : ℕ} → Path Step a b → Step b c → ProperPath Step a c
proper_push {c = c} here s = (c, s, here)
proper_push (step {b = x} t p) s = (x, t, path_push p s)

-- and by the last of them
pub proper_last : {Step : ℕ → ℕ → Type 0} {a b c : ℕ} → Step a b → Path Step b c → (d : ℕ) × Path Step a d × Step d c
proper_last {a = a} t here = (a, here, t)
proper_last t (step u p) = let r = proper_last u p in (r.0, step t r.1, r.2)

-- ---- the table

-- the classes before index i of the order have their spans
pub record IsReaching (below : List (List ℕ)) (order places : List ℕ) (i : ℕ) (table : List (List Span)) : Type 0 where
  pub len : length table ≡ length below
  pub apart : (b : ℕ) → AreApart (group table b)
  pub exact : (j b a : ℕ) → j < i → slice_get order j ≡ Some b → a < length below → Holds (group table b) (get_or places a 0) ↔ Path (Under below) a b

pub reaching_none : (below : List (List ℕ)) (order places : List ℕ) → IsReaching below order places 0 (replicate (length below) [])
reaching_none below order places = record {
  len = length-replicate (length below) [];
  apart = λ b. rw (group-replicate (length below) b) apart_none;
  exact = λ j b a lt. absurd (omega arith);
}

module _ (below : List (List ℕ)) (order places : List ℕ) (f : IsFinishing below order) (p : HavePlaces (length below) places)
    (i c : ℕ) (at : slice_get order i ≡ Some c) (table : List (List Span)) (r : IsReaching below order places i table)
    (all united : List Span) (gathered : (q : ℕ) → Holds all q ↔ HoldsAny table (group below c) q) (apart : AreApart united)
    (same : (q : ℕ) → Holds united q ↔ Holds (all ++ record { start = get_or places c 0; end = get_or places c 0 + 1 } ∷ []) q) where
  own : Span
  own = record { start = get_or places c 0; end = get_or places c 0 + 1 }

  known : c < length below
  known = f.settled.within c (Contains-at order i c at)

  -- where a class one step below stands in the order
  before : (d : ℕ) → Under below d c → (j : ℕ) × (j < i) × (slice_get order j ≡ Some d)
  before d u = taken_at order i d (omega (arith, slice_get_within order i c at)) (f.settled.after i c d at u)

  united_exact : (a : ℕ) → a < length below → Holds united (get_or places a 0) ↔ Path (Under below) a c
  united_exact a h = (
    λ q. elim (holds_push_cases all _ (get_or places a 0) ((same (get_or places a 0)).0 q)) [
      | inl old ↦ let g = (gathered (get_or places a 0)).0 old in let j = before g.0 g.1 in path_push ((r.exact j.0 g.0 a j.1 j.2 h).0 g.2) g.1
      | inr mine ↦ let is : a ≡ c = p.own a c h known (omega (arith, mine.0, mine.1)) in subst (Path (Under below) a) is here
    ],
    λ q. (same (get_or places a 0)).1 (elim (path_last q) [
      | inl e ↦ let at' = ap (λ k. get_or places k 0) e in holds_push all _ (get_or places a 0) (omega (arith, at')) (omega (arith, at'))
      | inr last ↦ let j = before last.0 last.2 in holds_left all _ (get_or places a 0) ((gathered (get_or places a 0)).1 (last.0, last.2, (r.exact j.0 last.0 a j.1 j.2 h).1 last.1))
    ]),
  )

  pub reaching_more : IsReaching below order places (i + 1) (set table c united)
  reaching_more = record {
    len = length-set table c united ∙ r.len;
    apart = λ b. elim (cases_eq b c) [
      | inl e ↦ subst AreApart (sym (here_is b e)) apart
      | inr ne ↦ subst AreApart (sym (get_or-set_other table c b united [] ne)) (r.apart b)
    ];
    exact = λ j b a lt e h. elim (cases_eq b c) [
      | inl is ↦ subst (λ k. Holds (group (set table c united) b) (get_or places a 0) ↔ Path (Under below) a k) (sym is)
          (subst (λ xs. Holds xs (get_or places a 0) ↔ Path (Under below) a c) (sym (here_is b is)) (united_exact a h))
      | inr ne ↦ subst (λ xs. Holds xs (get_or places a 0) ↔ Path (Under below) a b) (sym (get_or-set_other table c b united [] ne)) (r.exact j b a (earlier j b lt e ne) e h)
    ];
  }
    where
      here_is : (b : ℕ) → b ≡ c → group (set table c united) b ≡ united
      here_is b e = ap (group (set table c united)) e ∙ get_or-set_same table c united [] (omega (arith, r.len, known))

      earlier : (j b : ℕ) → j < i + 1 → slice_get order j ≡ Some b → (b ≡ c → ⊥) → j < i
      earlier j b lt e ne = by (below_or_at j lt)
        where
          below_or_at : (j : ℕ) → j < i + 1 → (j < i) ⊎ (j ≡ i)
          below_or_at j h = grind arith

          by : (j < i) ⊎ (j ≡ i) → j < i
          by (inl h) = h
          by (inr h) = absurd (ne (cc (e, at, ap (slice_get order) h)))

pub reaching_all : (below : List (List ℕ)) (order places : List ℕ) (i : ℕ) (table : List (List Span)) → IsFinishing below order → length order ≤ i → IsReaching below order places i table → IsReach (Under below) (length below) places table
reaching_all below order places i table f over r = record {
  len = r.len;
  apart = r.apart;
  exact = λ a b ha hb. let m = f.all b hb in r.exact m.0 b a (omega (arith, m.1)) (slice_get-get_or order m.0 b m.1 ∙ ap Some m.2) ha;
}
