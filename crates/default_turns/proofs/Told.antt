-- What is told by turns, and what one more at the end changes.
use Rattle.std.proofs.Common.{◌≡◌, ℕ, zero, suc, ◌+◌, ◌-◌, ◌<◌, ◌≤◌, Bool, true, false, cond, leb, leb-true, Some, None, List, [], ◌∷◌, ◌++◌, length, slice_get, refl, ap, ◌∙◌, arith}
use Rattle.std.specs.List.{All}
use Rattle.std.proofs.lemmas.Bool.{le-leb}
use Rattle.std.proofs.lemmas.List.Elements.{All-push, All-weaker}
use Rattle.std.proofs.lemmas.List.Sorted.{IsNonDecreasingBy-push}
use Rattle.lists.proofs.Places.{slice_get-below, slice_get-there}
use Rattle.class_tree.specs.declared.tree.Defaults.{Defaults}
use Rattle.class_tree.specs.declared.tree.Defaults.TheVariants.{Nothing}
use Rattle.default_turns.specs.declared.turns.DefaultTurn.{DefaultTurn}
use Rattle.default_turns.specs.Turns.{AddsTurn, defaults_from}

-- by a test of the first turn
told_by : (b : Defaults) (t : DefaultTurn) (ts : List DefaultTurn) (n : ℕ) (x : Bool) → leb t.at n ≡ x → defaults_from b (t ∷ ts) n ≡ cond x (defaults_from t.defaults ts n) b
told_by b t ts n x e = ap (λ y. cond y (defaults_from t.defaults ts n) b) e

-- those of the last turn of all
last_told : Defaults → List DefaultTurn → Defaults
last_told b [] = b
last_told b (t ∷ ts) = last_told t.defaults ts

-- they are told, where no turn comes after the place
told_last : (b : Defaults) (ts : List DefaultTurn) (n : ℕ) → All (λ (t : DefaultTurn). t.at ≤ n) ts → defaults_from b ts n ≡ last_told b ts
unfolding last_told
told_last b [] n up = refl
told_last b (t ∷ ts) n up =
    told_by b t ts n true (le-leb t.at n (up 0 t (omega arith))) ∙ told_last t.defaults ts n (λ k d h. up (suc k) d (omega (arith, h)))

last_pushed : (b : Defaults) (ts : List DefaultTurn) (t : DefaultTurn) → last_told b (ts ++ t ∷ []) ≡ t.defaults
unfolding last_told
last_pushed b [] t = refl
last_pushed b (u ∷ ts) t = last_pushed u.defaults ts t

last_at : (b : Defaults) (ts : List DefaultTurn) (i : ℕ) (t : DefaultTurn) → i + 1 ≡ length ts → slice_get ts i ≡ Some t → last_told b ts ≡ t.defaults
unfolding last_told
last_at b [] i t h e = absurd (omega (arith, h))
last_at b (u ∷ []) zero t h e = let same : u ≡ t = cc (e) in ap (λ (x : DefaultTurn). x.defaults) same
last_at b (u ∷ v ∷ ts) zero t h e = absurd (omega (arith, h))
last_at b (u ∷ ts) (suc i) t h e = last_at u.defaults ts i t (omega (arith, h)) e

last_read : (b : Defaults) (ts : List DefaultTurn) (t : DefaultTurn) → slice_get ts (length ts - 1) ≡ Some t → last_told b ts ≡ t.defaults
last_read b ts t e = let lt = slice_get-below ts (length ts - 1) t e in last_at b ts (length ts - 1) t (omega (arith, lt)) e

last_none : (b : Defaults) (ts : List DefaultTurn) → slice_get ts (length ts - 1) ≡ None → last_told b ts ≡ b
unfolding last_told
last_none b [] e = refl
last_none b (u ∷ ts) e = let p = slice_get-there (u ∷ ts) (length (u ∷ ts) - 1) (omega arith) in absurd (cc (p.1, e))

-- a later turn changes nothing before it
told_later : (b : Defaults) (ts : List DefaultTurn) (t : DefaultTurn) (n : ℕ) → n < t.at → defaults_from b (ts ++ t ∷ []) n ≡ defaults_from b ts n
told_later b [] t n h = by (leb t.at n) refl
  where
    by : (x : Bool) → leb t.at n ≡ x → defaults_from b (t ∷ []) n ≡ b
    by true e = absurd (omega (arith, leb-true t.at n e, h))
    by false e = told_by b t [] n false e
told_later b (u ∷ ts) t n h = ap (λ x. cond (leb u.at n) x b) (told_later u.defaults ts t n h)

up_to_later : (a n : ℕ) (ts : List DefaultTurn) → a ≤ n → All (λ (t : DefaultTurn). t.at ≤ a) ts → All (λ (t : DefaultTurn). t.at ≤ n) ts
up_to_later a n ts le up = All-weaker (λ (t : DefaultTurn). t.at ≤ a) (λ (t : DefaultTurn). t.at ≤ n) (λ t h. omega (arith, h, le)) ts up

module _ (turn : DefaultTurn) (old : List DefaultTurn) where
  pub turn_pushed : AddsTurn turn old (old ++ turn ∷ [])
  turn_pushed = record {
    ordered = λ a. record {
      rising = IsNonDecreasingBy-push (λ (t : DefaultTurn). t.at) old turn a.rising (λ d h. a.up_to (length old - 1) d (omega (arith, h)));
      up_to = All-push (λ (t : DefaultTurn). t.at ≤ turn.at) old turn a.up_to (omega arith);
    };
    kept = λ place lt. told_later Nothing old turn place lt;
    told = λ a place le. told_last Nothing (old ++ turn ∷ []) place (up_to_later turn.at place (old ++ turn ∷ []) le (All-push (λ (t : DefaultTurn). t.at ≤ turn.at) old turn a.up_to (omega arith)))
        ∙ last_pushed Nothing old turn;
  }

  turn_left : last_told Nothing old ≡ turn.defaults → AddsTurn turn old old
  turn_left same = record {
    ordered = λ a. a;
    kept = λ place lt. refl;
    told = λ a place le. told_last Nothing old place (up_to_later turn.at place old le a.up_to) ∙ same;
  }

  -- the last one tells the same
  pub turn_as_last : (last : DefaultTurn) → slice_get old (length old - 1) ≡ Some last → last.defaults ≡ turn.defaults → AddsTurn turn old old
  turn_as_last last there same = turn_left (last_read Nothing old last there ∙ same)

  -- there is none, and the turn tells nothing
  pub turn_of_none : slice_get old (length old - 1) ≡ None → Nothing ≡ turn.defaults → AddsTurn turn old old
  turn_of_none none same = turn_left (last_none Nothing old none ∙ same)
