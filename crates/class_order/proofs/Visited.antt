-- What a search upwards or downwards has reached.
use Rattle.std.proofs.Common.{◌≡◌, ◌↔◌, ℕ, ◌+◌, ◌<◌, ◌≤◌, ◌⊎◌, Bool, true, false, MatchBool, Some, List, [], ◌∷◌, ◌++◌, length, length-append, get_or, slice_get, sym, ap, subst, ◌∙◌, inl, inr, arith, take, eqb}
use Rattle.std.specs.Cmp.{unsigned_Decides}
use Rattle.std.specs.List.{Contains, IsDistinct}
use Rattle.std.proofs.lemmas.List.{append-nil, append_assoc}
use Rattle.std.proofs.lemmas.List.Elements.{Contains-push, Contains-push_cases, Contains-append_left}
use Rattle.std.proofs.lemmas.Map.Made.{is_member-Decides}
use Rattle.std.proofs.lemmas.Map.Steps.{length-le_from_distinct_below}
use Rattle.std.proofs.lemmas.Option.{slice_get-get_or, slice_get_within}
use Rattle.class_order.specs.Groups.{group}
use Rattle.class_rules.specs.Paths.{Path, here, step, ProperPath}
use Rattle.class_order.specs.Tables.{HasReached, IsWithin, Under, Visits}
use Rattle.class_order.proofs.Reached.{proper_last, proper_push}
use Rattle.lists.proofs.Elements.{Contains-nil, Contains-at, Contains-take_more, Contains-take_kept, Contains-take_last, slice_get-append_below}

pub visits_none : (reached : List ℕ) → Visits [] reached reached
visits_none reached = record { added = []; grown = sym (append-nil reached); visited = λ c h. absurd (Contains-nil c h); only = λ c h. inl h }

-- a class that was reached before
visits_old : (classes old new : List ℕ) (i d : ℕ) → i < length classes → Visits (take i classes) old new → Contains new (get_or classes i d) → Visits (take (i + 1) classes) old new
visits_old classes old new i d h v there = record {
  added = v.added;
  grown = v.grown;
  visited = λ c m. elim (Contains-take_more classes i d c h m) [ inl p ↦ v.visited c p | inr e ↦ subst (Contains new) e there ];
  only = λ c m. elim (v.only c m) [ inl p ↦ inl p | inr p ↦ inr (Contains-take_kept classes i d c h p) ];
}

-- a class that is new
visits_new : (classes old new : List ℕ) (i d : ℕ) → i < length classes → Visits (take i classes) old new → Visits (take (i + 1) classes) old (new ++ get_or classes i d ∷ [])
visits_new classes old new i d h v = record {
  added = v.added ++ get_or classes i d ∷ [];
  grown = ap (λ xs. xs ++ get_or classes i d ∷ []) v.grown ∙ append_assoc old v.added _;
  visited = λ c m. elim (Contains-take_more classes i d c h m) [
    | inl p ↦ Contains-append_left new _ c (v.visited c p)
    | inr e ↦ subst (Contains (new ++ get_or classes i d ∷ [])) e (Contains-push new (get_or classes i d))
  ];
  only = λ c m. elim (Contains-push_cases new (get_or classes i d) c m) [
    | inl p ↦ elim (v.only c p) [ inl q ↦ inl q | inr q ↦ inr (Contains-take_kept classes i d c h q) ]
    | inr e ↦ inr (subst (Contains (take (i + 1) classes)) e (Contains-take_last classes i d h))
  ];
}

-- one more class was put into the set
pub visits_more : (classes old mid new : List ℕ) (i d : ℕ) (is_new : Bool) → i < length classes → Visits (take i classes) old mid
    → MatchBool is_new ((new ≡ mid ++ get_or classes i d ∷ []) × (Contains mid (get_or classes i d) → ⊥)) ((new ≡ mid) × Contains mid (get_or classes i d)) → Visits (take (i + 1) classes) old new
visits_more classes old mid new i d true h v (is, absent) = rw is (visits_new classes old mid i d h v)
visits_more classes old mid new i d false h v (is, there) = rw is (visits_old classes old mid i d h v there)

pub visits_longer : (classes old new : List ℕ) → Visits classes old new → length old ≤ length new
visits_longer classes old new v = omega (arith, ap length v.grown, length-append old v.added)

-- each class was reached from one of the old; those before index `at` have been gone on from
pub record IsSearched (steps : List (List ℕ)) (old : List ℕ) (at : ℕ) (reached : List ℕ) : Type 0 where
  pub paths : (c : ℕ) → Contains reached c → (d : ℕ) × Contains old d × Path (Under steps) c d
  pub begun : (c : ℕ) → Contains old c → Contains reached c
  pub closed : (i c d : ℕ) → i < at → slice_get reached i ≡ Some d → Under steps c d → Contains reached c

pub searched_start : (steps : List (List ℕ)) (old : List ℕ) (at : ℕ) → ((i c d : ℕ) → i < at → slice_get old i ≡ Some d → Under steps c d → Contains old c) → IsSearched steps old at old
searched_start steps old at done = record { paths = λ c m. (c, m, here); begun = λ c m. m; closed = done }

kept : (old new : List ℕ) (classes : List ℕ) → Visits classes old new → (c : ℕ) → Contains old c → Contains new c
kept old new classes v c m = subst (λ xs. Contains xs c) (sym v.grown) (Contains-append_left old v.added c m)

pub searched_more : (steps : List (List ℕ)) (old : List ℕ) (at d : ℕ) (reached new : List ℕ) → IsSearched steps old at reached → slice_get reached at ≡ Some d → Visits (group steps d) reached new → IsSearched steps old (at + 1) new
searched_more steps old at d reached new s there v = record {
  paths = λ c m. elim (v.only c m) [
    | inl before ↦ s.paths c before
    | inr u ↦ let p = s.paths d (Contains-at reached at d there) in (p.0, p.1, step u p.2)
  ];
  begun = λ c m. kept reached new _ v c (s.begun c m);
  closed = λ i c e lt h u.
      let within : at < length reached = slice_get_within reached at d there in
      let back : slice_get reached i ≡ Some e = sym (ap (λ xs. slice_get xs i) v.grown ∙ slice_get-append_below reached v.added i (omega arith)) ∙ h in
      elim (below_or_at i lt) [
        | inl less ↦ kept reached new _ v c (s.closed i c e less back u)
        | inr same ↦ let is : e ≡ d = cc (back, there, ap (slice_get reached) same) in v.visited c (subst (Under steps c) is u)
      ];
}
  where
    below_or_at : (i : ℕ) → i < at + 1 → (i < at) ⊎ (i ≡ at)
    below_or_at i h = grind arith

-- where all have been gone on from, no class is missed
pub searched_all : (steps : List (List ℕ)) (old : List ℕ) (at : ℕ) (reached : List ℕ) → IsSearched steps old at reached → length reached ≤ at → HasReached steps old reached
searched_all steps old at reached s over c = (s.paths c, λ (d, m, p). on p (s.begun d m))
  where
    on : {a b : ℕ} → Path (Under steps) a b → Contains reached b → Contains reached a
    on here m = m
    on (step {a} {b} u p) m = let n = on p m in s.closed n.0 a b (omega (arith, n.1)) (slice_get-get_or reached n.0 b n.1 ∙ ap Some n.2) u

-- the classes that were added are known
pub within_more : (steps : List (List ℕ)) (d : ℕ) (reached new : List ℕ) → ((a b : ℕ) → Under steps a b → a < length steps) → IsWithin (length steps) reached → Visits (group steps d) reached new
    → IsWithin (length steps) new
within_more steps d reached new known within v c m = elim (v.only c m) [ inl old ↦ within c old | inr u ↦ known c d u ]

-- after the classes one step from a class were added, what was reached before is gone on from already
pub visits_closed : (steps : List (List ℕ)) (classes old new : List ℕ) → Visits classes old new → ((a b : ℕ) → Contains old a → Under steps b a → Contains old b)
    → (i c d : ℕ) → i < length old → slice_get new i ≡ Some d → Under steps c d → Contains new c
visits_closed steps classes old new v closed i c d lt e u =
    let before : slice_get old i ≡ Some d = sym (ap (λ xs. slice_get xs i) v.grown ∙ slice_get-append_below old v.added i lt) ∙ e in
    kept old new classes v c (closed d c (Contains-at old i d before) u)

-- with what is reached from there
pub met_more : (steps : List (List ℕ)) (class : ℕ) (old mid new : List ℕ) → ((a b : ℕ) → Contains old a → Under steps b a → Contains old b) → Visits (group steps class) old mid → HasReached steps mid new
    → (c : ℕ) → Contains new c ↔ (Contains old c ⊎ ProperPath (Under steps) c class)
met_more steps class old mid new closed v has c = (
  λ m. let p = (has c).0 m in elim (v.only p.0 p.1) [
    | inl before ↦ inl (back p.2 before)
    | inr u ↦ inr (proper_push p.2 u)
  ],
  λ s. elim s [
    | inl before ↦ (has c).1 (c, kept old mid _ v c before, here)
    | inr p ↦ let q = proper_last p.1 p.2 in (has c).1 (q.0, v.visited q.0 q.2, q.1)
  ],
)
  where
    back : {a b : ℕ} → Path (Under steps) a b → Contains old b → Contains old a
    back here m = m
    back (step {a} {b} u p) m = closed b a (back p m) u

-- so there are no more of them than classes
pub searched_bound : (reached : List ℕ) (n : ℕ) → IsDistinct eqb reached → IsWithin n reached → length reached ≤ n
searched_bound reached n once within = length-le_from_distinct_below reached n once (λ q m. within q ((is_member-Decides unsigned_Decides reached q).0 m))
