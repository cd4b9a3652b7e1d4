-- The names of a protocol, numbered row by row.
use Rattle.std.proofs.Common.{◌≡◌, ℕ, zero, suc, ◌+◌, ◌<◌, ◌≤◌, List, [], ◌∷◌, ◌++◌, Some, flat_map, length, length-append, map, get_or, slice_get, take, drop, take-append-drop, append_assoc, refl, sym, ap, subst, ◌∙◌, inl, inr, arith}
use Rattle.std.proofs.lemmas.Grind.{flat_map-append}
use Rattle.std.proofs.lemmas.List.{map-append, take-take}
use Rattle.lists.specs.Lists.{IsLeast, Adds, Each, FirstSeen, none, next}
use Rattle.lists.proofs.Places.{slice_get-adds, slice_get-below, slice_get-pushed, take-next}
use Rattle.link_laws.proofs.Lists.{each_right, first_seen_apart, same_place}
use Rattle.link_rules.specs.Linked.{LinkedProgram}
use Rattle.track_rules.specs.declared.row.ProtocolRow.{ProtocolRow}
use Rattle.track_rules.specs.Protocols.{IsNumbered, IsProtocol, NamedProtocol, NamedRow, NamesTooMany, Spells, named_events, named_states}
use Rattle.protocol_words.specs.declared.numbering.Numbered.{Numbered}
use Rattle.protocol_words.specs.declared.words.RowNames.{RowNames}
use Rattle.protocol_words.specs.declared.error.ProtocolError.{ProtocolError}
use Rattle.protocol_words.specs.declared.error.ProtocolError.TheVariants.{NoMemory, NotProtocol, TooManyStates, UnknownClass}
use Rattle.protocol_words.specs.Numberings.{IsCrowded, IsNumbering, protocol_parts}
use Rattle.protocol_words.specs.Refused.{IsRefusedFor}
use Rattle.protocol_words.specs.Spellings.{named_row}
use Rattle.protocol_words.proofs.Seen.{fewer, seen_has}

-- the two states of a row
abbrev pub states_in : NamedRow → List (List ℕ)
states_in row = row.from ∷ row.to ∷ []

-- the first rows alone
abbrev pub front : NamedProtocol → ℕ → NamedProtocol
front k i = record k { rows = take i k.rows }

-- the names of the first rows come first
states_split : (k : NamedProtocol) (i : ℕ) → named_states k ≡ named_states (front k i) ++ flat_map states_in (drop i k.rows)
states_split k i =
    ap (λ rows. k.first ∷ flat_map states_in rows) (sym (take-append-drop i k.rows)) ∙ ap (λ l. k.first ∷ l) (flat_map-append states_in (take i k.rows) (drop i k.rows))

-- where all parts name no more than 16 states the first ones don't
pub few_names : (k : NamedProtocol) (states : List (List ℕ)) → FirstSeen (named_states k) states → length states ≤ 16 → (at : ℕ) → NamesTooMany k at → ⊥
few_names k states seen few at many =
    let less = fewer (named_states (front k at)) (flat_map states_in (drop at k.rows)) many.0 states many.1 (subst (λ us. FirstSeen us states) (states_split k at) seen) in
    omega (arith, less, few, many.2)

-- the names of the first rows are numbered, and there are no more than 16 states
pub record IsCounted (k : NamedProtocol) (i : ℕ) (states events : List (List ℕ)) (rows : List ProtocolRow) : Type 0 where
  pub are_states : FirstSeen (named_states (front k i)) states
  pub are_events : FirstSeen (named_events (front k i)) events
  pub are_rows : Each (IsNumbered states events) (take i k.rows) rows
  pub few : length states ≤ 16

-- the first state alone
pub counted_none : (k : NamedProtocol) (states : List (List ℕ)) → Adds [] k.first states → IsCounted k 0 states [] []
counted_none k states adds = record {
  are_states = next none adds;
  are_events = none;
  are_rows = record { as_many = refl; each = λ i x y p q. cc };
  few = elim adds [ inl old ↦ (let there = old.0.1 in cc) | inr new ↦ omega (arith, ap (length {A = List ℕ}) new.1) ];
}

-- lists side by side, with one pair more
pub each_push : {X Y : Type 0} (R S : X → Y → Type 0) (xs : List X) (ys : List Y) (x : X) (y : Y) → Each R xs ys → ((a : X) (b : Y) → R a b → S a b) → S x y
    → Each S (xs ++ x ∷ []) (ys ++ y ∷ [])
each_push R S xs ys x y each to last = record {
  as_many = omega (arith, length-append xs (x ∷ []), length-append ys (y ∷ []), each.as_many);
  each = λ i a b p q. elim (slice_get-pushed xs x i a p) [
    | inl old ↦ elim (slice_get-pushed ys y i b q) [
      | inl also ↦ to a b (each.each i a b old also)
      | inr new ↦ absurd (omega (arith, slice_get-below xs i a old, new.0, each.as_many))
    ]
    | inr new ↦ elim (slice_get-pushed ys y i b q) [
      | inl old ↦ absurd (omega (arith, slice_get-below ys i b old, new.0, each.as_many))
      | inr also ↦ subst (λ a. S a b) (sym new.1) (subst (λ b. S x b) (sym also.1) last)
    ]
  ];
}

module _ (k : NamedProtocol) (i : ℕ) (row : NamedRow) (there : slice_get k.rows i ≡ Some row) where
  -- the states with those of one row more
  states_next : (states mid new : List (List ℕ)) → FirstSeen (named_states (front k i)) states → Adds states row.from mid → Adds mid row.to new
      → FirstSeen (named_states (front k (i + 1))) new
  states_next states mid new seen a b =
      let rows = take-next k.rows i row there in
      let more = flat_map-append states_in (take i k.rows) (row ∷ []) ∙ sym (append_assoc (flat_map states_in (take i k.rows)) (row.from ∷ []) (row.to ∷ [])) in
      subst (λ us. FirstSeen us new) (sym (ap (λ rs. k.first ∷ flat_map states_in rs) rows ∙ ap (λ l. k.first ∷ l) more)) (next (next seen a) b)

  events_next : (events new : List (List ℕ)) → FirstSeen (named_events (front k i)) events → Adds events row.event new → FirstSeen (named_events (front k (i + 1))) new
  events_next events new seen adds =
      let event : NamedRow → List ℕ = λ r. r.event in
      let more = ap (map event) (take-next k.rows i row there) ∙ map-append event (take i k.rows) (row ∷ []) in
      subst (λ us. FirstSeen us new) (sym more) (next seen adds)

  module _ (states mid new events others : List (List ℕ)) (rows : List ProtocolRow) (counted : IsCounted k i states events rows) (from_added : Adds states row.from mid) (to_added : Adds mid row.to new) where
    -- one row more
    pub counted_more : (numbers : ProtocolRow) → Adds events row.event others → slice_get mid numbers.from ≡ Some row.from → slice_get others numbers.event ≡ Some row.event
        → slice_get new numbers.to ≡ Some row.to → length new ≤ 16 → IsCounted k (i + 1) new others (rows ++ numbers ∷ [])
    counted_more numbers event_added from event to few = record {
      are_states = states_next states mid new counted.are_states from_added to_added;
      are_events = events_next events others counted.are_events event_added;
      are_rows = subst (λ named. Each (IsNumbered new others) named (rows ++ numbers ∷ [])) (sym (take-next k.rows i row there))
          (each_push (IsNumbered states events) (IsNumbered new others) (take i k.rows) rows row numbers counted.are_rows
          (λ a b is. record {
            from = slice_get-adds mid new row.to to_added b.from a.from (slice_get-adds states mid row.from from_added b.from a.from is.from);
            event = slice_get-adds events others row.event event_added b.event a.event is.event;
            to = slice_get-adds mid new row.to to_added b.to a.to (slice_get-adds states mid row.from from_added b.to a.to is.to);
          })
          (record { from = slice_get-adds mid new row.to to_added numbers.from row.from from; event = event; to = to }));
      few = few;
    }

    -- where the row brings a 17th state it is the first that does
    pub crowds : 16 < length new → IsLeast (NamesTooMany k) (i + 1)
    crowds many = record {
      holds = (new, states_next states mid new counted.are_states from_added to_added, many);
      first = λ m below crowded.
          let before : m ≤ i = omega arith in
          let named = subst (λ rows. FirstSeen (named_states (record k { rows = rows })) crowded.0) (sym (take-take m i k.rows before)) crowded.1 in
          few_names (front k i) states counted.are_states counted.few m (crowded.0, named, crowded.2);
    }

-- the row at a place, by its names
named_at : (rows : List RowNames) (i : ℕ) (d : RowNames) → i < length rows → slice_get (map named_row rows) i ≡ Some (named_row (get_or rows i d))
named_at [] i d h = absurd (omega arith)
named_at (r ∷ rs) zero d h = refl
named_at (r ∷ rs) (suc i) d h = named_at rs i d (omega arith)

pub named_here : (rows items : List RowNames) (i : ℕ) (d : RowNames) → items ≡ rows → i < length items → slice_get (map named_row rows) i ≡ Some (named_row (get_or items i d))
named_here rows items i d e h = subst (λ rs. slice_get (map named_row rs) i ≡ Some (named_row (get_or items i d))) e (named_at items i d h)

-- what a word spells has the form of protocols
pub form_of : (word : List ℕ) (k : NamedProtocol) (class : ℕ) (n : Numbered) → Spells word k → IsNumbering k n → IsProtocol (protocol_parts class n)
form_of word k class n spells is = record {
  some = (let first = seen_has is.states 0 k.first refl in omega (arith, slice_get-below n.states first.0 k.first first.1));
  few = is.few;
  states = first_seen_apart is.states;
  events = first_seen_apart is.events;
  rows = λ row has.
      let named = each_right (IsNumbered n.states n.events) k.rows n.rows.items has.0 row is.rows has.1 in
      record {
        from = slice_get-below n.states row.from named.0.from named.2.from;
        event = slice_get-below n.events row.event named.0.event named.2.event;
        to = slice_get-below n.states row.to named.0.to named.2.to;
      };
  apart = λ i j row other p q from event.
      let one = each_right (IsNumbered n.states n.events) k.rows n.rows.items i row is.rows p in
      let two = each_right (IsNumbered n.states n.events) k.rows n.rows.items j other is.rows q in
      let froms = same_place n.states other.from one.0.from two.0.from (subst (λ s. slice_get n.states s ≡ Some one.0.from) from one.2.from) two.2.from in
      let events = same_place n.events other.event one.0.event two.0.event (subst (λ e. slice_get n.events e ≡ Some one.0.event) event one.2.event) two.2.event in
      spells.apart i j one.0 two.0 one.1 two.1 froms events;
}

-- why the names aren't numbered is why the word is no protocol
pub crowded_refused : (p : LinkedProgram) (word : List ℕ) (k : NamedProtocol) → Spells word k → (e : ProtocolError) → IsCrowded k e → IsRefusedFor p word e
crowded_refused p word k spells (TooManyStates at) h = (k, spells, h)
crowded_refused p word k spells NoMemory h = tt
crowded_refused p word k spells (NotProtocol at) h = absurd h
crowded_refused p word k spells UnknownClass h = absurd h
