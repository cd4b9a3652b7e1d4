-- Stay after stay: what stays past where one begins are the default methods of the classes from there up to where the next one begins.
use Rattle.std.proofs.Common.{◌≡◌, ℕ, ◌+◌, ◌<◌, ◌≤◌, List, [], ◌∷◌, ◌++◌, length, get_or, take, sym, ap, subst, ◌∙◌, inl, inr, arith}
use Rattle.std.specs.List.{All, Contains}
use Rattle.std.specs.List.Sorted.{IsNonDecreasingBy}
use Rattle.std.proofs.lemmas.List.{get_or-take, length-take, take_more}
use Rattle.lists.proofs.Elements.{Contains-nil, same_read}
use Rattle.class_rules.specs.Lookups.{IsDefault}
use Rattle.class_rules.specs.Rows.{Rows}
use Rattle.class_tree.proofs.Lowest.{same_defaults}
use Rattle.class_tree.specs.Defaults.{AreDefaults}
use Rattle.class_tree.specs.declared.tree.Defaults.{Defaults}
use Rattle.class_tree.specs.declared.tree.Defaults.TheVariants.{Nothing}
use Rattle.default_turns.specs.declared.furthest.Furthest.{Furthest}
use Rattle.default_turns.specs.declared.stays.Stay.{Stay}
use Rattle.default_turns.specs.declared.turns.DefaultTurn.{DefaultTurn}
use Rattle.default_turns.specs.Furthest.{AreFurthest, StaysPast}
use Rattle.default_turns.specs.Stays.{AreStays, IsLastThere}
use Rattle.default_turns.specs.Turns.{AddsTurn, AreUpTo, TellDefaults, defaults_at}
use Rattle.default_turns.proofs.Covered.{below_or}

-- the stays from this one on begin behind the place
abbrev pub IsBefore : List Stay → ℕ → ℕ → Type 0
IsBefore stays n place = (j : ℕ) (d : Stay) → n ≤ j → j < length stays → place < (get_or stays j d).start

-- those before this one have begun
abbrev pub HaveBegun : List Stay → ℕ → ℕ → Type 0
HaveBegun stays n at = (j : ℕ) (d : Stay) → j < n → j < length stays → (get_or stays j d).start ≤ at

-- what is told up to where the next stay begins
pub record TellTo (rows : Rows) (places : List ℕ) (key : ℕ) (stays : List Stay) (n : ℕ) (turns : List DefaultTurn) : Type 0 where
  pub rising : IsNonDecreasingBy (λ (t : DefaultTurn). t.at) turns
  pub up_to : (j : ℕ) (d : Stay) → n ≤ j → j < length stays → All (λ (t : DefaultTurn). t.at ≤ (get_or stays j d).start) turns
  pub exact : (c : ℕ) → c < length rows.classes → IsBefore stays n (get_or places c 0) → AreDefaults (IsDefault rows c key) (defaults_at turns (get_or places c 0))

-- ---- the classes up to where the next stay begins

module _ (rows : Rows) (places : List ℕ) (key : ℕ) (stays : List Stay) (are : AreStays rows places key stays) (n at : ℕ) (begun : HaveBegun stays n at) (c : ℕ)
    (known : c < length rows.classes) (from : at ≤ get_or places c 0) (before : IsBefore stays n (get_or places c 0)) where
  abbrev q : ℕ
  q = get_or places c 0

  begun_at : (s : Stay) → Contains stays s → s.start ≤ q → Contains (take n stays) s
  begun_at s (j, h, e) low = elim (below_or j n) [
    | inl lt ↦ (j, omega (arith, lt, h, length-take n stays), get_or-take n stays j s lt ∙ e)
    | inr ge ↦ let same = ap (λ (u : Stay). u.start) e in absurd (omega (arith, before j s ge h, same, low))
  ]

  began : (s : Stay) → Contains (take n stays) s → Contains stays s × (s.start ≤ at)
  began s (j, h, e) =
      let lt : j < n = omega (arith, h, length-take n stays) in
      let in_all : j < length stays = omega (arith, h, length-take n stays) in
      let is = sym (get_or-take n stays j s lt) ∙ e in
      let same = ap (λ (u : Stay). u.start) is in
      ((j, in_all, is), omega (arith, begun j s lt in_all, same))

  -- none ends on the way
  steady : (s : Stay) → Contains stays s → at < s.end → q < s.end
  steady s m lt =
      let t = are.ended s m in
      let same = ap (λ (u : Stay). u.start) t.1.2 in
      elim (below_or t.1.0 n) [
        | inl early ↦ absurd (omega (arith, begun t.1.0 t.0 early t.1.1, same, t.2, lt))
        | inr late ↦ omega (arith, before t.1.0 t.0 late t.1.1, same, t.2)
      ]

  to_past : (row : ℕ) → IsDefault rows c key row → StaysPast (take n stays) at row
  to_past row d = let s = (are.exact c row known).1 d in (s.0, begun_at s.0 s.1 s.3, s.2, omega (arith, from, s.4))

  of_past : (row : ℕ) → StaysPast (take n stays) at row → IsDefault rows c key row
  of_past row (s, m, e, past) = let b = began s m in (are.exact c row known).0 (s, b.0, e, omega (arith, b.1, from), steady s b.0 past)

  pub past_are : (d : Defaults) → AreDefaults (StaysPast (take n stays) at) d → AreDefaults (IsDefault rows c key) d
  past_are d past = same_defaults (StaysPast (take n stays) at) (IsDefault rows c key) of_past to_past d past

-- ---- none has begun

pub told_none : (rows : Rows) (places : List ℕ) (key : ℕ) (stays : List Stay) → AreStays rows places key stays → TellTo rows places key stays 0 []
told_none rows places key stays are = record {
  rising = λ i j d le h. absurd (omega (arith, h));
  up_to = λ j d le h k e lt. absurd (omega (arith, lt));
  exact = λ c known before.
      past_are rows places key stays are 0 0 (λ j d lt h. absurd (omega (arith, lt))) c known (omega arith) before Nothing (λ row s. absurd (Contains-nil s.0 s.1));
}

-- ---- one more

module _ (stays : List Stay) (sorted : IsNonDecreasingBy (λ (s : Stay). s.start) stays) (n : ℕ) (d : Stay) (h : n < length stays) where
  abbrev start : ℕ
  start = (get_or stays n d).start

  start_is : (e : Stay) → (get_or stays n e).start ≡ start
  start_is e = ap (λ (u : Stay). u.start) (same_read stays n e d h)

  begun_next : HaveBegun stays (n + 1) start
  begun_next j e lt in_all = omega (arith, sorted j n e (omega (arith, lt)) h, start_is e)

  coming_next : (j : ℕ) (e : Stay) → n + 1 ≤ j → j < length stays → start ≤ (get_or stays j e).start
  coming_next j e le in_all = omega (arith, sorted n j e (omega (arith, le)) in_all, start_is e)

  pub furthest_next : (f : Furthest) → AreFurthest (take n stays ++ get_or stays n d ∷ []) f → AreFurthest (take (n + 1) stays) f
  furthest_next f a = subst (λ xs. AreFurthest xs f) (sym (take_more stays n d h)) a

  module _ (rows : Rows) (places : List ℕ) (key : ℕ) (are : AreStays rows places key stays) (turns : List DefaultTurn) (told : TellTo rows places key stays n turns) where
    before_too : (place : ℕ) → place < start → IsBefore stays (n + 1) place → IsBefore stays n place
    before_too place lt before j e le in_all = omega (arith, sorted n j e le in_all, start_is e, lt)

    up : AreUpTo start turns
    up = record { rising = told.rising; up_to = told.up_to n d (omega arith) h }

    later : (new : List DefaultTurn) → All (λ (t : DefaultTurn). t.at ≤ start) new → (j : ℕ) (e : Stay) → n + 1 ≤ j → j < length stays → All (λ (t : DefaultTurn). t.at ≤ (get_or stays j e).start) new
    later new all j e le in_all k f lt = let below = all k f lt in omega (arith, below, coming_next j e le in_all)

    pub told_next : (defaults : Defaults) (new : List DefaultTurn) → AreDefaults (StaysPast (take (n + 1) stays) (get_or stays n d).start) defaults
        → AddsTurn (record { at = (get_or stays n d).start; defaults = defaults }) turns new → TellTo rows places key stays (n + 1) new
    told_next defaults new past adds = record {
      rising = (adds.ordered up).rising;
      up_to = later new (adds.ordered up).up_to;
      exact = λ c known before. elim (below_or (get_or places c 0) start) [
        | inl lt ↦ subst (AreDefaults (IsDefault rows c key)) (sym (adds.kept (get_or places c 0) lt)) (told.exact c known (before_too (get_or places c 0) lt before))
        | inr le ↦ subst (AreDefaults (IsDefault rows c key)) (sym (adds.told up (get_or places c 0) le))
            (past_are rows places key stays are (n + 1) start begun_next c known le before defaults past)
      ];
    }

    -- the next one begins at the same place
    pub told_same : (IsLastThere stays n → ⊥) → TellTo rows places key stays (n + 1) turns
    told_same not = record {
      rising = told.rising;
      up_to = later turns up.up_to;
      exact = λ c known before. elim (below_or (get_or places c 0) start) [
        | inl lt ↦ told.exact c known (before_too (get_or places c 0) lt before)
        | inr le ↦ absurd (not (λ e in_all. omega (arith, before (n + 1) e (omega arith) in_all, start_is e, le)))
      ];
    }

-- ---- all have begun

pub told_all : (rows : Rows) (places : List ℕ) (key : ℕ) (stays : List Stay) (n : ℕ) (turns : List DefaultTurn) → length stays ≤ n → TellTo rows places key stays n turns
    → TellDefaults rows places key turns
told_all rows places key stays n turns past told = record { rising = told.rising; exact = λ c known. told.exact c known (λ j d le h. absurd (omega (arith, past, le, h))) }
