-- What an event does, and the closure of a relation.
use Rattle.std.proofs.Common.{◌≡◌, ℕ, ◌<◌, ◌↔◌, ◌*◌, ◌%◌, ◌^◌, List, [], ◌∷◌, ◌++◌, Some, zero, suc, get_or, replicate, slice_get, slice_index, slice_set, inl, inr, refl, sym, ap, subst, ◌∙◌, arith}
use Rattle.std.specs.Int.{bit_at}
use Rattle.std.proofs.Math.Nat.{mod-eq_of_lt}
use Rattle.std.proofs.lemmas.Bool.{cases_eq, cases_lt}
use Rattle.std.proofs.lemmas.Nat.{pow_below}
use Rattle.std.proofs.lemmas.Nat.Bits.{bit_at-pow_same, bit_at-zero, bit_at_above}
use Rattle.std.proofs.lemmas.Option.{get_or_from_slice_get}
use Rattle.lists.specs.Lists.{Has}
use Rattle.lists.proofs.Places.{slice_get-set_other, slice_get-set_same, slice_get-there, Has-push}
use Rattle.track_rules.specs.declared.row.ProtocolRow.{ProtocolRow}
use Rattle.track_rules.specs.Protocols.{HasRow, ProtocolParts}
use Rattle.track_systems.specs.Values.{IsWeight}
use Rattle.weight_laws.proofs.Meaning.{meaning}
use Rattle.weight_laws.specs.declared.rel.Rel.{Rel}
use Rattle.weight_laws.specs.Rel.{Relates, rel_domain}
use Rattle.weight_laws.specs.RelLaws.{pow_bit, rel_lawful}
use Rattle.site_events.specs.Leading.{Leads}
use Rattle.site_events.specs.Leading as leading

-- a row, where none is read
abbrev pub no_row : ProtocolRow
no_row = record { from = 0; event = 0; to = 0 }

module _ (event : ℕ) where
  -- the event's rows among some rows
  abbrev pub IsEventBy : List ProtocolRow → Rel → Type 0
  IsEventBy rows rel = (i j : ℕ) → i < 16 → Relates rel i j ↔ Has rows (record { from = i; event = event; to = j })

  row_is : (row : ProtocolRow) (i j : ℕ) → i ≡ row.from → event ≡ row.event → j ≡ row.to → record { from = i; event = event; to = j } ≡ row
  row_is row i j a e b =
      subst (λ (x : ℕ). record { from = i; event = event; to = x } ≡ row) (sym b)
      (subst (λ (x : ℕ). record { from = i; event = x; to = row.to } ≡ row) (sym e)
      (subst (λ (x : ℕ). record { from = x; event = row.event; to = row.to } ≡ row) (sym a) refl))

  pub rows_none : IsEventBy [] rel_domain.zero
  rows_none i j h = ((λ r. absurd (meaning.zero i j h r)), (λ b. let none = b.1 in cc))

  pub rows_more : (rows : List ProtocolRow) (row : ProtocolRow) (old rel : Rel) → ((i j : ℕ) → i < 16 → Relates rel i j ↔ ((i ≡ row.from) × (j ≡ row.to)))
      → event ≡ row.event → IsEventBy rows old → IsEventBy (rows ++ row ∷ []) (rel_domain.combine old rel)
  rows_more rows row old rel rel_is e is i j h = (
    (λ r. elim ((meaning.combine old rel i j h).0 r) [
      | inl a ↦ (Has-push rows row (record { from = i; event = event; to = j })).1 (inl ((is i j h).0 a))
      | inr a ↦ let b = (rel_is i j h).0 a in (Has-push rows row (record { from = i; event = event; to = j })).1 (inr (row_is row i j b.0 e b.1))
    ]),
    (λ b. (meaning.combine old rel i j h).1 (elim ((Has-push rows row (record { from = i; event = event; to = j })).0 b) [
      | inl there ↦ inl ((is i j h).1 there)
      | inr same ↦ inr ((rel_is i j h).1 (ap (λ (r : ProtocolRow). r.from) same, ap (λ (r : ProtocolRow). r.to) same))
    ])),
  )

  pub rows_skip : (rows : List ProtocolRow) (row : ProtocolRow) (old : Rel) → (event ≡ row.event → ⊥) → IsEventBy rows old → IsEventBy (rows ++ row ∷ []) old
  rows_skip rows row old other is i j h = (
    (λ r. (Has-push rows row (record { from = i; event = event; to = j })).1 (inl ((is i j h).0 r))),
    (λ b. elim ((Has-push rows row (record { from = i; event = event; to = j })).0 b) [
      | inl there ↦ (is i j h).1 there
      | inr same ↦ absurd (other (ap (λ (r : ProtocolRow). r.event) same))
    ]),
  )

  pub rows_all : (k : ProtocolParts) (rel : Rel) → rel_domain.IsMeant rel → IsEventBy k.rows rel → IsWeight rel (λ i j. HasRow k i event j)
  rows_all k rel meant is = record { meant = meant; each = λ i j h g. is i j h }

module _ (step : Rel) where
  -- no more than the steps lead to, and each state itself
  pub record IsWithin (reach : Rel) : Type 0 where
    pub meant : rel_domain.IsMeant reach
    pub each : (i j : ℕ) → i < 16 → Relates reach i j → Leads (Relates step) i j
    pub itself : (i : ℕ) → i < 16 → Relates reach i i

  pub within_one : IsWithin rel_domain.one
  within_one = record {
    meant = rel_lawful.one_meant;
    each = λ i j h r. subst (λ (l : ℕ). Leads (Relates step) i l) (sym ((meaning.one i j h).0 r)) leading.none;
    itself = λ i h. (meaning.one i i h).1 refl;
  }

  module _ (step_meant : rel_domain.IsMeant step) where
    -- a relation leads among sixteen states
    relates_below : (i j : ℕ) → Relates step i j → j < 16
    relates_below i j r = elim (cases_lt j 16) [
      | inl low ↦ low
      | inr high ↦ let none : bit_at (slice_index step.0 i) j ≡ 0 = bit_at_above (slice_index step.0 i) 16 j (step_meant.fits i) high in cc
    ]

    pub within_more : (reach : Rel) → IsWithin reach → IsWithin (rel_domain.combine reach (rel_domain.extend reach step))
    within_more reach within = record {
      meant = rel_lawful.combine_meant reach (rel_domain.extend reach step) within.meant (rel_lawful.extend_meant reach step within.meant step_meant);
      each = λ i j h r. elim ((meaning.combine reach (rel_domain.extend reach step) i j h).0 r) [
        | inl a ↦ within.each i j h a
        | inr b ↦ let over = (meaning.extend reach step i j h).0 b in leading.more (within.each i over.0 h over.2) over.3
      ];
      itself = λ i h. (meaning.combine reach (rel_domain.extend reach step) i i h).1 (inl (within.itself i h));
    }

    -- the heights fall
    pub falls : (reach : Rel) → rel_domain.IsMeant reach → (rel_domain.combine (rel_domain.extend reach step) reach ≡ reach → ⊥)
        → rel_domain.height (rel_domain.combine reach (rel_domain.extend reach step)) < rel_domain.height reach
    falls reach mr other =
        let further = rel_domain.extend reach step in
        let mf : rel_domain.IsMeant further = rel_lawful.extend_meant reach step mr step_meant in
        let both = rel_domain.combine reach further in
        let above : rel_domain.combine reach both ≡ both =
        sym (rel_lawful.combine_assoc reach reach further mr mr mf) ∙ subst (λ (x : Rel). rel_domain.combine x further ≡ rel_domain.combine reach further) (sym (rel_lawful.combine_self reach mr)) refl in
        rel_lawful.falls reach both mr (rel_lawful.combine_meant reach further mr mf) above
        (λ e. other (rel_lawful.combine_comm further reach mf mr ∙ sym e))

    leads_below : (i j : ℕ) → i < 16 → Leads (Relates step) i j → j < 16
    leads_below i j h leading.none = h
    leads_below i j h (leading.more {j = from} way then) = relates_below from j then

    pub closed : (reach : Rel) → IsWithin reach → (rel_domain.combine (rel_domain.extend reach step) reach ≡ reach) → IsWeight reach (Leads (Relates step))
    closed reach within all = record { meant = within.meant; each = λ i j h g. (within.each i j h, complete i j h) }
      where
        complete : (i j : ℕ) → i < 16 → Leads (Relates step) i j → Relates reach i j
        complete i j h leading.none = within.itself i h
        complete i j h (leading.more {j = from} way then) =
            let below : from < 16 = leads_below i from h way in
            let over : Relates (rel_domain.extend reach step) i j = (meaning.extend reach step i j h).1 (from, below, complete i from h way, then) in
            subst (λ (x : Rel). Relates x i j) all ((meaning.combine (rel_domain.extend reach step) reach i j h).1 (inl over))

-- a word of no bits for each state
abbrev pub zeros : List ℕ
zeros = replicate 16 0

zero_at : (n i x : ℕ) → slice_get (replicate n 0) i ≡ Some x → x ≡ 0
zero_at zero i x h = cc
zero_at (suc n) zero x h = cc
zero_at (suc n) (suc i) x h = zero_at n i x h

shifted : (to : ℕ) → to < 16 → 1 * 2 ^ to % 65536 ≡ 2 ^ to
shifted to h = let below : 2 ^ to < 65536 = pow_below to 16 h in let same : 1 * 2 ^ to ≡ 2 ^ to = omega arith in rw same (mod-eq_of_lt below)

-- a relation with one pair
pub one_pair : (from to : ℕ) → from < 16 → to < 16 → (i j : ℕ) → i < 16
    → Relates (record { 0 = slice_set zeros from (1 * 2 ^ to % 65536) }) i j ↔ ((i ≡ from) × (j ≡ to))
one_pair from to f t i j h =
    elim (cases_eq i from) [
      | inl e ↦ (
        (λ b. (e, pow_bit to j (subst (λ (w : ℕ). bit_at w j ≡ 1) (word e) b))),
        (λ same. subst (λ (w : ℕ). bit_at w j ≡ 1) (sym (word e)) (subst (λ (l : ℕ). bit_at (2 ^ to) l ≡ 1) (sym same.1) (bit_at-pow_same to))),
      )
      | inr ne ↦ (
        (λ b. let bit : bit_at 0 j ≡ 1 = subst (λ (w : ℕ). bit_at w j ≡ 1) (no_word ne) b in let no : bit_at 0 j ≡ 0 = bit_at-zero j in cc),
        (λ same. absurd (ne same.0)),
      )
    ]
  where
    set_to : List ℕ
    set_to = slice_set zeros from (1 * 2 ^ to % 65536)

    word : i ≡ from → get_or set_to i 0 ≡ 2 ^ to
    word e =
        let at : slice_get set_to i ≡ Some (1 * 2 ^ to % 65536) = subst (λ (n : ℕ). slice_get set_to n ≡ Some (1 * 2 ^ to % 65536)) (sym e) (slice_get-set_same zeros from (1 * 2 ^ to % 65536) f) in
        get_or_from_slice_get set_to i (1 * 2 ^ to % 65536) 0 at ∙ shifted to t

    no_word : (i ≡ from → ⊥) → get_or set_to i 0 ≡ 0
    no_word ne =
        let x = slice_get-there zeros i h in
        let stays : slice_get set_to i ≡ slice_get zeros i = slice_get-set_other zeros from i (1 * 2 ^ to % 65536) ne in
        get_or_from_slice_get set_to i x.0 0 (stays ∙ x.1) ∙ zero_at 16 i x.0 x.1
