-- The steps of the search.
use Rattle.std.proofs.Common.{◌≡◌, ℕ, ◌+◌, ◌<◌, ◌≤◌, ◌⊎◌, ◌↔◌, List, [], ◌∷◌, Option, Some, length, slice_get, take, inl, inr, sym, subst, ◌∙◌, arith}
use Rattle.std.proofs.lemmas.Bool.{cases_lt}
use Rattle.auto_table.specs.declared.entry.Entry.{Entry}
use Rattle.auto_table.specs.declared.entry.Entry.TheVariants.{Base}
use Rattle.lists.specs.Lists.{Has}
use Rattle.lists.proofs.Places.{slice_get-below, slice_get-there, Has-push, take-next}
use Rattle.call_side.specs.declared.origin.Origin.{Origin}
use Rattle.call_side.specs.declared.pairs.Pair.{Pair}
use Rattle.call_side.specs.Search.{AreBegun, AreDone, Asked, Came, IsLedOn, IsTrail, MoveBoth, ShareNone, SpellBoth, last_pair}
use Rattle.call_side.specs.Trails.{AreKept}
use Rattle.call_side.specs.Words.{Moves}
use Rattle.call_side.proofs.Coming.{kept_has, pair_is}

module _ (q : Asked) where
  pub led_kept : (pair : Pair) (mark : ℕ) (old new : List Pair) → AreKept old new → IsLedOn q pair mark old → IsLedOn q pair mark new
  led_kept pair mark old new kept led next word moves spells = kept_has old new next kept (led next word moves spells)

  -- all pairs that a mark leads to came in
  module _ (pair : Pair) (mark from : ℕ) (old new : List Pair) (before after : List (Option Origin)) (firsts seconds : List Entry)
      (there : slice_get old from ≡ Some pair) (nexts : (next : Entry) → Has firsts next ↔ Moves q.steps q.first pair.first mark next)
      (others : (next : Entry) → Has seconds next ↔ Moves q.steps q.second pair.second mark next)
      (came : Came (λ next. Has firsts next.first × Has seconds next.second) (Some (record { mark = mark; from = from })) old before new after) where
    pub led_by : IsLedOn q pair mark new
    led_by next word moves spells = came.there q next word ((nexts next.first).1 moves.0, (others next.second).1 moves.1) spells

    pub trail_by : IsTrail q old before → IsTrail q new after
    trail_by trail = came.trail q (λ next which. (pair, there, ((nexts next.first).0 which.0, (others next.second).0 which.1))) trail

  -- one more mark
  pub led_more : (pair : Pair) (marks : List ℕ) (index mark : ℕ) (old new : List Pair) → slice_get marks index ≡ Some mark → AreKept old new → ((m : ℕ) → Has (take index marks) m → IsLedOn q pair m old)
      → IsLedOn q pair mark new → (m : ℕ) → Has (take (index + 1) marks) m → IsLedOn q pair m new
  led_more pair marks index mark old new there kept some one m has =
      elim ((Has-push (take index marks) mark m).0 (rw (take-next marks index mark there) at has)) [
        | inl a ↦ led_kept pair m old new kept (some m a)
        | inr b ↦ subst (λ (k : ℕ). IsLedOn q pair k new) (sym b) one
      ]

  -- all marks that lead on were taken
  pub led_all : (pair : Pair) (marks : List ℕ) (new : List Pair) → ((mark : ℕ) (next : Pair) → MoveBoth q pair mark next → Has marks mark) → ((m : ℕ) → Has marks m → IsLedOn q pair m new)
      → (mark : ℕ) → IsLedOn q pair mark new
  led_all pair marks new all led mark next word moves spells = led mark (all mark next moves) next word moves spells

  -- one pair more is done
  module _ (number : ℕ) (pair : Pair) (old new : List Pair) (there : slice_get old number ≡ Some pair) (kept : AreKept old new) where
    was : (k : ℕ) (p : Pair) → k ≤ number → slice_get new k ≡ Some p → slice_get old k ≡ Some p
    was k p less now =
        let below : number < length old = slice_get-below old number pair there in
        let x = slice_get-there old k (omega arith) in
        let same = kept k x.0 x.1 in
        let one : x.0 ≡ p = cc in
        subst (λ (y : Pair). slice_get old k ≡ Some y) one x.1

    this : (k : ℕ) (p : Pair) → k < number + 1 → slice_get new k ≡ Some p → ((k < number) × (slice_get old k ≡ Some p)) ⊎ (p ≡ pair)
    this k p less now = elim (cases_lt k number) [
      | inl lower ↦ inl (lower, was k p (omega arith) now)
      | inr more ↦
          let e : k ≡ number = omega arith in
          let old_there : slice_get old number ≡ Some p = subst (λ (i : ℕ). slice_get old i ≡ Some p) e (was k p (omega arith) now) in
          inr cc
    ]

    pub done_more : AreDone q number old → ((mark : ℕ) → IsLedOn q pair mark new) → (pair ≡ last_pair q.last → ⊥) → AreDone q (number + 1) new
    done_more done led other = record {
      led = λ k mark p less now. elim (this k p less now) [
        | inl a ↦ led_kept p mark old new kept (done.led k mark p a.0 a.1)
        | inr e ↦ subst (λ (x : Pair). IsLedOn q x mark new) (sym e) (led mark)
      ];
      none = λ k p less now last. elim (this k p less now) [
        | inl a ↦ done.none k p a.0 a.1 last
        | inr e ↦ other (sym e ∙ last)
      ];
    }

  -- where all pairs are done, none reads a word
  module _ (number : ℕ) (pairs : List Pair) (past : length pairs ≤ number) (done : AreDone q number pairs) where
    pub reads_none : (word : List ℕ) (pair : Pair) → Has pairs pair → SpellBoth q pair word → ⊥
    reads_none [] pair has spells = done.none has.0 pair (omega (arith, slice_get-below pairs has.0 pair has.1)) has.1 (pair_is pair (Base q.last) (Base q.last) spells.0 spells.1)
    reads_none (mark ∷ word) pair has spells =
        let next : Pair = record { first = spells.0.0; second = spells.1.0 } in
        let both : SpellBoth q next word = (spells.0.2, spells.1.2) in
        reads_none word next (done.led has.0 mark pair (omega (arith, slice_get-below pairs has.0 pair has.1)) has.1 next word (spells.0.1, spells.1.1) both) both

    pub share_none : AreBegun q pairs → ShareNone q
    share_none begun word first second =
        let pair : Pair = record { first = first.entry; second = second.entry } in
        reads_none word pair (begun pair word (first.among, second.among) (first.spells, second.spells)) (first.spells, second.spells)
