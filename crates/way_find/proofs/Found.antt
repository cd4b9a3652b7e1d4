-- What a search has found grows at its end, and tells a way to each element.
use Rattle.std.proofs.Common.{◌≡◌, ◌⊎◌, ◌∙◌, ℕ, zero, suc, ◌+◌, ◌-◌, ◌<◌, ◌≤◌, List, [], ◌∷◌, ◌++◌, Some, length, slice_get, take, reverse, refl, sym, ap, subst, inl, inr, arith, append_assoc, length-append}
use Rattle.std.proofs.lemmas.List.{append-nil, reverse-append}
use Rattle.lists.specs.Grown.{IsLonger}
use Rattle.lists.specs.Lists.{Has}
use Rattle.lists.proofs.Grown.{got_longer, got_shorter, has_longer, longer_push}
use Rattle.lists.proofs.Places.{slice_get-append_left, slice_get-below, slice_get-pushed, slice_get-there, take-next}
use Rattle.way_find.specs.declared.seen.Back.{Back}
use Rattle.way_find.specs.declared.ways.Step.{Step}
use Rattle.way_find.specs.Seen.{AreBacks, AreBegun, IsBack, IsClosed, LeadsTo}
use Rattle.way_find.specs.Ways.{Leads}

place_cases : (i at : ℕ) → i < at + 1 → (i < at) ⊎ (i ≡ at)
place_cases zero zero low = inr refl
place_cases zero (suc at) low = inl (omega arith)
place_cases (suc i) zero low = absurd (omega arith)
place_cases (suc i) (suc at) low = elim (place_cases i at (omega arith)) [ inl a ↦ inl (omega arith) | inr b ↦ inr (ap suc b) ]

module _ {V : Type 0} where
  -- one start more
  pub begun_next : (starts : List (Step V)) (i : ℕ) (s : Step V) (old new : List V) (number : ℕ) → slice_get starts i ≡ Some s → IsLonger old new
      → AreBegun (take i starts) old → slice_get new number ≡ Some s.to → AreBegun (take (i + 1) starts) new
  begun_next starts i s old new number there longer begun here x has =
      let at : slice_get (take i starts ++ s ∷ []) has.0 ≡ Some x = subst (λ (xs : List (Step V)). slice_get xs has.0 ≡ Some x) (take-next starts i s there) has.1 in
      elim (slice_get-pushed (take i starts) s has.0 x at) [
        | inl before ↦ has_longer old new longer x.to (begun x (has.0, before))
        | inr e ↦ (number, here ∙ ap (λ (y : Step V). Some y.to) (sym e.1))
      ]

  -- one element more is looked at
  module _ (old new : List V) (longer : IsLonger old new) (at : ℕ) (from : V) (there : slice_get old at ≡ Some from) where
    pub closed_next : (Goes : V → ℕ → V → Type 0) → IsClosed Goes old at → ((label : ℕ) (to : V) → Goes from label to → Has new to) → IsClosed Goes new (at + 1)
    closed_next Goes closed more i x to label low h goes =
        let below = slice_get-below old at from there in
        elim (place_cases i at low) [
          | inl before ↦ has_longer old new longer to (closed i x to label before (got_shorter old new longer i x (omega arith) h) goes)
          | inr e ↦
              let again = got_longer old new longer at from there in
              let here : slice_get new at ≡ Some x = subst (λ (n : ℕ). slice_get new n ≡ Some x) e h in
              let same : x ≡ from = cc in
              more label to (subst (λ (y : V). Goes y label to) same goes)
        ]

    pub none_next : (P : V → Type 0) → ((i : ℕ) (v : V) → i < at → slice_get old i ≡ Some v → P v → ⊥) → (P from → ⊥) → (i : ℕ) (v : V) → i < at + 1
        → slice_get new i ≡ Some v → P v → ⊥
    none_next P none never i v low h is =
        let below = slice_get-below old at from there in
        elim (place_cases i at low) [
          | inl before ↦ none i v before (got_shorter old new longer i v (omega arith) h) is
          | inr e ↦
              let again = got_longer old new longer at from there in
              let here : slice_get new at ≡ Some v = subst (λ (n : ℕ). slice_get new n ≡ Some v) e h in
              let same : v ≡ from = cc in
              never (subst P same is)
        ]

  module _ (Goes : V → ℕ → V → Type 0) (starts : List (Step V)) where
    back_longer : (old new : List V) → IsLonger old new → (i : ℕ) (b : Back) (to : V) → IsBack Goes starts old i b to → IsBack Goes starts new i b to
    back_longer old new longer i b to (inl s) = inl s
    back_longer old new longer i b to (inr c) = inr (record {
      at = c.at;
      number = c.number;
      earlier = c.earlier;
      from = c.from;
      from_is = got_longer old new longer c.at c.from c.from_is;
      goes = c.goes;
    })

    pub backs_none : AreBacks Goes starts [] []
    backs_none = record { as_many = refl; each = λ i b to h k. cc }

    pub backs_push : (seen : List V) (backs : List Back) (back : Back) (to : V) → AreBacks Goes starts seen backs → IsBack Goes starts seen (length seen) back to
        → AreBacks Goes starts (seen ++ to ∷ []) (backs ++ back ∷ [])
    backs_push seen backs back to are is = record {
      as_many = omega (arith, length-append backs (back ∷ []), length-append seen (to ∷ []), are.as_many);
      each = λ i b x h k. elim (slice_get-pushed backs back i b h) [
        | inl before ↦ elim (slice_get-pushed seen to i x k) [
          | inl old ↦ back_longer seen (seen ++ to ∷ []) (longer_push seen to) i b x (are.each i b x before old)
          | inr e ↦ absurd (omega (arith, e.0, are.as_many, slice_get-below backs i b before))
        ]
        | inr e ↦ elim (slice_get-pushed seen to i x k) [
          | inl old ↦ absurd (omega (arith, e.0, are.as_many, slice_get-below seen i x old))
          | inr f ↦
              back_longer seen (seen ++ to ∷ []) (longer_push seen to) i b x
              (subst (λ (n : ℕ). IsBack Goes starts seen n b x) (sym f.0)
              (subst (λ (c : Back). IsBack Goes starts seen (length seen) c x) (sym e.1) (subst (IsBack Goes starts seen (length seen) back) (sym f.1) is)))
        ]
      ];
    }

    -- behind labels that lead to the element with the number, from 1, these, backwards, lead to the last one
    abbrev pub Completes : List V → ℕ → ℕ → List ℕ → Type 0
    Completes seen last zero labels = LeadsTo Goes starts seen last (reverse labels)
    Completes seen last (suc i) labels = (front : List ℕ) → LeadsTo Goes starts seen i front → LeadsTo Goes starts seen last (front ++ reverse labels)

    pub completes_last : (seen : List V) (last : ℕ) → Completes seen last (last + 1) []
    completes_last seen last =
        let e : last + 1 ≡ suc last = omega arith in
        subst (λ (n : ℕ). Completes seen last n []) (sym e)
        (λ front leads to h. subst (λ (ls : List ℕ). Leads Goes starts ls to) (sym (append-nil front)) (leads to h))

    behind : (labels : List ℕ) (label : ℕ) → reverse (labels ++ label ∷ []) ≡ label ∷ reverse labels
    behind labels label = reverse-append labels (label ∷ [])

    pub completes_next : (seen : List V) (backs : List Back) (last left : ℕ) (labels : List ℕ) (b : Back) → AreBacks Goes starts seen backs → 0 < left → left ≤ length seen
        → slice_get backs (left - 1) ≡ Some b → Completes seen last left labels → Completes seen last b.before (labels ++ b.label ∷ []) × (b.before < left)
    completes_next seen backs last zero labels b are some within there was = absurd (omega arith)
    completes_next seen backs last (suc i) labels b are some within there was =
        let e : suc i - 1 ≡ i = omega arith in
        let here : slice_get backs i ≡ Some b = subst (λ (n : ℕ). slice_get backs n ≡ Some b) e there in
        let to = slice_get-there seen i (omega arith) in
        elim (are.each i b to.0 here to.1) [
          | inl s ↦ (
            subst (λ (n : ℕ). Completes seen last n (labels ++ b.label ∷ [])) (sym s.0)
                (λ x h. subst (λ (ls : List ℕ). Leads Goes starts ls x) (sym (behind labels b.label))
                (was (b.label ∷ []) (λ y g. let same : to.0 ≡ y = cc in subst (Leads Goes starts (b.label ∷ [])) same (Leads.start (record { label = b.label; to = to.0 }) s.1)) x h)),
            omega (arith, s.0),
          )
          | inr c ↦ (
            let number : b.before ≡ suc c.at = omega (arith, c.number) in
                subst (λ (n : ℕ). Completes seen last n (labels ++ b.label ∷ [])) (sym number)
                (λ front leads x h.
                let whole : (front ++ b.label ∷ []) ++ reverse labels ≡ front ++ reverse (labels ++ b.label ∷ [])
                = append_assoc front (b.label ∷ []) (reverse labels) ∙ ap (λ (ls : List ℕ). front ++ ls) (sym (behind labels b.label)) in
                subst (λ (ls : List ℕ). Leads Goes starts ls x) whole
                (was (front ++ b.label ∷ []) (λ y g.
                let same : to.0 ≡ y = cc in
                subst (Leads Goes starts (front ++ b.label ∷ [])) same (Leads.step b.label (leads c.from c.from_is) c.goes)) x h)),
            omega (arith, c.number, c.earlier),
          )
        ]

    -- where all is closed, each way ends in the list
    pub found_all : (seen : List V) → AreBegun starts seen → IsClosed Goes seen (length seen) → {labels : List ℕ} {v : V} → Leads Goes starts labels v → Has seen v
    found_all seen begun closed (Leads.start s has) = begun s has
    found_all seen begun closed (Leads.step {a} {b} label leads goes) =
        let at = found_all seen begun closed leads in closed at.0 a b label (slice_get-below seen at.0 a at.1) at.1 goes
