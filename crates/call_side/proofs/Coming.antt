-- Pairs that come in one after another.
use Rattle.std.proofs.Common.{◌≡◌, ℕ, ◌+◌, ◌⊎◌, ◌↔◌, List, Option, Some, None, slice_get, take, inl, inr, refl, sym, ap, subst}
use Rattle.auto_table.specs.declared.entry.Entry.{Entry}
use Rattle.lists.specs.Lists.{Has}
use Rattle.lists.proofs.Places.{Has-push, take-next}
use Rattle.call_side.specs.declared.origin.Origin.{Origin}
use Rattle.call_side.specs.declared.pairs.Pair.{Pair}
use Rattle.call_side.specs.Search.{Asked, Came, IsTrail, MayCome, SpellBoth}
use Rattle.call_side.specs.Trails.{AreKept}

pub kept_has : (old new : List Pair) (pair : Pair) → AreKept old new → Has old pair → Has new pair
kept_has old new pair kept has = (has.0, kept has.0 pair has.1)

pub may_kept : (q : Asked) (old new : List Pair) (pair : Pair) (origin : Option Origin) → AreKept old new → MayCome q old pair origin → MayCome q new pair origin
may_kept q old new pair None kept may = may
may_kept q old new pair (Some origin) kept may = (may.0, kept origin.from may.0 may.1, may.2)

module _ {Which : Pair → Type 0} (origin : Option Origin) where
  -- those of one kind came, and then those of another
  pub came_then : {A B : Pair → Type 0} (old mid new : List Pair) (before between after : List (Option Origin)) → Came A origin old before mid between → Came B origin mid between new after
      → ((pair : Pair) → Which pair → A pair ⊎ B pair) → ((pair : Pair) → A pair → Which pair) → ((pair : Pair) → B pair → Which pair) → Came Which origin old before new after
  came_then old mid new before between after first second split left right = record {
    kept = λ number pair there. second.kept number pair (first.kept number pair there);
    there = λ q pair word which spells. elim (split pair which) [
      | inl a ↦ kept_has mid new pair second.kept (first.there q pair word a spells)
      | inr b ↦ second.there q pair word b spells
    ];
    trail = λ q may trail. second.trail q (λ pair b. may_kept q old mid pair origin first.kept (may pair (right pair b))) (first.trail q (λ pair a. may pair (left pair a)) trail);
  }

-- a pair by its parts
pub pair_is : (p : Pair) (first second : Entry) → p.first ≡ first → p.second ≡ second → p ≡ record { first = first; second = second }
pair_is p first second f s =
    subst (λ (e : Entry). p ≡ record { first = e; second = second }) f (subst (λ (e : Entry). p ≡ record { first = p.first; second = e }) s refl)

-- one pair comes in
pub came_one : (origin : Option Origin) (pair : Pair) (old new : List Pair) (before after : List (Option Origin)) → AreKept old new
    → ((q : Asked) (word : List ℕ) → SpellBoth q pair word → Has new pair) → ((q : Asked) → MayCome q old pair origin → IsTrail q old before → IsTrail q new after)
    → Came (λ p. p ≡ pair) origin old before new after
came_one origin pair old new before after kept there trail = record {
  kept = kept;
  there = λ q p word e spells. subst (λ (x : Pair). Has new x) (sym e) (there q word (subst (λ (x : Pair). SpellBoth q x word) e spells));
  trail = λ q may. trail q (may pair refl);
}

module _ (origin : Option Origin) (old mid new : List Pair) (before between after : List (Option Origin)) where
  -- one more of the second entries
  pub row_more : (first x : Entry) (seconds : List Entry) (index : ℕ) → slice_get seconds index ≡ Some x
      → Came (λ pair. (pair.first ≡ first) × Has (take index seconds) pair.second) origin old before mid between → Came (λ pair. pair ≡ record { first = first; second = x }) origin mid between new after
      → Came (λ pair. (pair.first ≡ first) × Has (take (index + 1) seconds) pair.second) origin old before new after
  row_more first x seconds index there some one =
      came_then origin old mid new before between after some one
      (λ pair which. elim ((Has-next pair.second).0 which.1) [ inl a ↦ inl (which.0, a) | inr b ↦ inr (pair_is pair first x which.0 b) ])
      (λ pair a. (a.0, (Has-next pair.second).1 (inl a.1)))
      (λ pair b. (ap (λ (p : Pair). p.first) b, (Has-next pair.second).1 (inr (ap (λ (p : Pair). p.second) b))))
    where
      Has-next : (y : Entry) → Has (take (index + 1) seconds) y ↔ (Has (take index seconds) y ⊎ (y ≡ x))
      Has-next y = rw (take-next seconds index x there) (Has-push (take index seconds) x y)

  -- one more of the first
  pub rows_more : (x : Entry) (firsts seconds : List Entry) (index : ℕ) → slice_get firsts index ≡ Some x
      → Came (λ pair. Has (take index firsts) pair.first × Has seconds pair.second) origin old before mid between → Came (λ pair. (pair.first ≡ x) × Has seconds pair.second) origin mid between new after
      → Came (λ pair. Has (take (index + 1) firsts) pair.first × Has seconds pair.second) origin old before new after
  rows_more x firsts seconds index there some row =
      came_then origin old mid new before between after some row
      (λ pair which. elim ((Has-next pair.first).0 which.0) [ inl a ↦ inl (a, which.1) | inr b ↦ inr (b, which.1) ])
      (λ pair a. ((Has-next pair.first).1 (inl a.0), a.1))
      (λ pair b. ((Has-next pair.first).1 (inr b.0), b.1))
    where
      Has-next : (y : Entry) → Has (take (index + 1) firsts) y ↔ (Has (take index firsts) y ⊎ (y ≡ x))
      Has-next y = rw (take-next firsts index x there) (Has-push (take index firsts) x y)
