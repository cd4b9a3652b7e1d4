-- Each word is a protocol or refused: what it spells is decided part by part.
use Rattle.std.proofs.Common.{◌≡◌, ℕ, zero, suc, ◌+◌, ◌<◌, ◌≤◌, ◌⊎◌, List, [], ◌∷◌, ◌++◌, Option, Some, None, flat_map, length, slice_get, take, append_assoc, refl, sym, ap, subst, ◌∙◌, inl, inr, arith}
use Rattle.std.proofs.lemmas.Bool.{cases_eq, cases_lt}
use Rattle.std.proofs.lemmas.List.{append-nil, take_all}
use Rattle.class_rules.proofs.Decided.{IsDecided, both_decided, same_decided}
use Rattle.lists.specs.Lists.{Adds, Has, Each, FirstSeen, none, next}
use Rattle.lists.proofs.Places.{IsApart-adds, slice_get-append_left, slice_get-there, take-next}
use Rattle.link_laws.proofs.Lists.{map_at}
use Rattle.link_laws.proofs.OneList.{first_seen_one}
use Rattle.link_rules.specs.Accessed.{linked_class_names}
use Rattle.link_rules.specs.Linked.{LinkedProgram}
use Rattle.step_rules.proofs.Deciding.{least_of, same_text_decided}
use Rattle.track_rules.specs.declared.row.ProtocolRow.{ProtocolRow}
use Rattle.track_rules.specs.Protocols.{AreParts, Breaks, IsName, IsNoProtocol, IsNumbered, NamedProtocol, NamedRow, NamesTooMany, Spells, named_events, named_states}
use Rattle.protocol_words.specs.Laws.{EachWordHasAnOutcome, Outcome, IsOutcome, is_protocol, breaks_at, crowds_at, lacks_class}
use Rattle.protocol_words.specs.Spellings.{AreRows, IsHead, IsRow}
use Rattle.protocol_words.proofs.Counting.{few_names, front, states_in}
use Rattle.protocol_words.proofs.Names.{head_one, row_head, row_one}
use Rattle.lists.proofs.Cutting.{has_between}
use Rattle.protocol_words.proofs.Parts.{are_parts, ends}
use Rattle.protocol_words.proofs.Rows.{IsRead, are_rows, breaks_again, breaks_form, key_of, read_more, read_none, unbroken}
use Rattle.protocol_words.proofs.Seen.{seen_has}
use Rattle.protocol_words.proofs.Spelled.{no_form, spelled_by, unspelled_by}
use Rattle.std.specs.List.{slice_split}
use Rattle.lists.proofs.Joined.{slice_get-append_right}

-- whether an element stands in a list
has_decided : {X : Type 0} → ((x y : X) → IsDecided (x ≡ y)) → (xs : List X) (y : X) → IsDecided (Has xs y)
has_decided {X} same [] y = inr (λ h. let there = h.1 in cc)
has_decided {X} same (x ∷ xs) y = elim (same x y) [
  | inl here ↦ inl (zero, ap Some here)
  | inr other ↦ elim (has_decided same xs y) [
    | inl later ↦ inl (suc later.0, later.1)
    | inr nowhere ↦ inr (λ h. neither x xs other nowhere h.0 h.1)
  ]
] where
  neither : (x : X) (xs : List X) → (x ≡ y → ⊥) → (Has xs y → ⊥) → (i : ℕ) → slice_get (x ∷ xs) i ≡ Some y → ⊥
  neither x xs other nowhere zero e = other (cc)
  neither x xs other nowhere (suc i) e = nowhere (i, e)

-- where a list is cut at the first place of a character
first_cut : (c : ℕ) (xs : List ℕ) → ((a : List ℕ) × (b : List ℕ) × (xs ≡ a ++ c ∷ b) × (Has a c → ⊥)) ⊎ (Has xs c → ⊥)
first_cut c [] = inr (λ h. let there = h.1 in cc)
first_cut c (x ∷ xs) = elim (cases_eq x c) [
  | inl here ↦ inl ([], xs, ap (λ z. z ∷ xs) here, λ h. let there = h.1 in cc)
  | inr other ↦ elim (first_cut c xs) [
    | inl cut ↦ inl (x ∷ cut.0, cut.1, ap (λ l. x ∷ l) cut.2, λ h. neither cut.0 other cut.3 h.0 h.1)
    | inr nowhere ↦ inr (λ h. neither xs other nowhere h.0 h.1)
  ]
] where
  neither : (ys : List ℕ) → (x ≡ c → ⊥) → (Has ys c → ⊥) → (i : ℕ) → slice_get (x ∷ ys) i ≡ Some c → ⊥
  neither ys other nowhere zero e = other (cc)
  neither ys other nowhere (suc i) e = nowhere (i, e)

-- and at the last
last_cut : (c : ℕ) (xs : List ℕ) → ((a : List ℕ) × (b : List ℕ) × (xs ≡ a ++ c ∷ b) × (Has b c → ⊥)) ⊎ (Has xs c → ⊥)
last_cut c [] = inr (λ h. let there = h.1 in cc)
last_cut c (x ∷ xs) = elim (last_cut c xs) [
  | inl cut ↦ inl (x ∷ cut.0, cut.1, ap (λ l. x ∷ l) cut.2, cut.3)
  | inr nowhere ↦ elim (cases_eq x c) [
    | inl here ↦ inl ([], xs, ap (λ z. z ∷ xs) here, nowhere)
    | inr other ↦ inr (λ h. neither other nowhere h.0 h.1)
  ]
] where
  neither : (x ≡ c → ⊥) → (Has xs c → ⊥) → (i : ℕ) → slice_get (x ∷ xs) i ≡ Some c → ⊥
  neither other nowhere zero e = other (cc)
  neither other nowhere (suc i) e = nowhere (i, e)

-- whether a text is a name
name_decided : (text : List ℕ) → IsDecided (IsName text)
name_decided text = elim (cases_lt 0 (length text)) [
  | inl some ↦ elim (has_decided cases_eq text 32) [
    | inl blank ↦ inr (λ name. name.no_blank blank)
    | inr no_blank ↦ elim (has_decided cases_eq text 59) [
      | inl semicolon ↦ inr (λ name. name.no_semicolon semicolon)
      | inr no_semicolon ↦ inl (record { some = some; no_blank = no_blank; no_semicolon = no_semicolon })
    ]
  ]
  | inr empty ↦ inr (λ name. omega (arith, empty, name.some))
]

-- whether a part is two names
head_decided : (part : List ℕ) → ((a : List ℕ) × (b : List ℕ) × IsHead part a b) ⊎ ((a b : List ℕ) → IsHead part a b → ⊥)
head_decided part = elim (first_cut 32 part) [
  | inl cut ↦ elim (both_decided (name_decided cut.0) (name_decided cut.1)) [
    | inl names ↦ inl (cut.0, cut.1, record { is_text = cut.2; is_first = names.0; is_second = names.1 })
    | inr other ↦ inr (λ a b head.
        let same = head_one part a b cut.0 cut.1 head cut.2 cut.3 in other (subst IsName same.0 head.is_first, subst IsName same.1 head.is_second))
  ]
  | inr other ↦ inr (λ a b head. other (rw head.is_text (has_between a b 32)))
]

-- whether a part is three names
row_decided : (part : List ℕ) → ((row : NamedRow) × IsRow part row) ⊎ ((row : NamedRow) → IsRow part row → ⊥)
row_decided part = elim (last_cut 32 part) [
  | inl cut ↦ elim (head_decided cut.0) [
    | inl head ↦ elim (name_decided cut.1) [
      | inl name ↦ inl (
        record { from = head.0; event = head.1; to = cut.1 },
        record {
          is_text = cut.2 ∙ ap (λ l. l ++ 32 ∷ cut.1) head.2.is_text;
          names = record { from = head.2.is_first; event = head.2.is_second; to = name };
        },
      )
      | inr other ↦ inr (λ row is. other (subst IsName (row_one part cut.0 cut.1 row is cut.2 cut.3).1 is.names.to))
    ]
    | inr other ↦ inr (λ row is. other row.from row.event (row_head cut.0 row is.names (row_one part cut.0 cut.1 row is cut.2 cut.3).0))
  ]
  | inr other ↦ inr (λ row is. other (rw is.is_text (has_between (key_of row) row.to 32)))
]

-- the parts of a word behind its first are rows, or one is the first that breaks the grammar
module _ (first : List ℕ) (parts : List (List ℕ)) where
  abbrev BreaksFirst : ℕ → Type 0
  BreaksFirst at = (0 < at) × Breaks (first ∷ parts) at × ((m : ℕ) → 0 < m → m < at → Breaks (first ∷ parts) m → ⊥)

  read_from : (left i : ℕ) (rows : List NamedRow) (keys : List (List ℕ)) → i + left ≡ length parts → IsRead (take i parts) rows keys
      → ((all : List NamedRow) × AreRows parts all) ⊎ ((at : ℕ) × BreaksFirst at)
  read_from zero i rows keys e read =
      let all : length parts ≤ i = omega arith in
      inl (rows, subst (λ ps. AreRows ps rows) (take_all i parts all) (are_rows (take i parts) rows keys read))
  read_from (suc left) i rows keys e read =
      let below : i < length parts = omega arith in
      let at = slice_get-there parts i below in
      let before = unbroken first parts i rows (are_rows (take i parts) rows keys read) in
      elim (row_decided at.0) [
        | inl row ↦ elim (has_decided same_text_decided keys (key_of row.0)) [
          | inl has ↦ inr (suc i, (omega arith, breaks_again first parts i rows keys at.0 row.0 read at.1 row.1 has, before))
          | inr new ↦
              let adds : Adds keys (key_of row.0) (keys ++ key_of row.0 ∷ []) = inr (new, refl) in
              let apart = IsApart-adds keys (keys ++ key_of row.0 ∷ []) (key_of row.0) read.apart adds in
              let more = read_more (take i parts) rows keys (keys ++ key_of row.0 ∷ []) at.0 (key_of row.0) row.0 read row.1 refl new adds apart in
              read_from left (i + 1) (rows ++ row.0 ∷ []) (keys ++ key_of row.0 ∷ []) (omega arith)
              (subst (λ ps. IsRead ps (rows ++ row.0 ∷ []) (keys ++ key_of row.0 ∷ [])) (sym (take-next parts i at.0 at.1)) more)
        ]
        | inr other ↦ inr (suc i, (omega arith, breaks_form first parts i rows at.0 at.1 other, before))
      ]

-- a word spells a protocol, or one part is the first that breaks the grammar
spelled_decided : (word : List ℕ) → ((k : NamedProtocol) × Spells word k) ⊎ ((at : ℕ) × IsNoProtocol word at)
spelled_decided word = by (slice_split ends word) (are_parts word)
  where
    by : (parts : List (List ℕ)) → AreParts word parts → ((k : NamedProtocol) × Spells word k) ⊎ ((at : ℕ) × IsNoProtocol word at)
    by [] is = absurd (omega (arith, is.some))
    by (part ∷ parts) is = elim (head_decided part) [
      | inl head ↦ elim (read_from part parts (length parts) 0 [] [] (omega arith) read_none) [
        | inl rows ↦ inl (record { class = head.0; first = head.1; rows = rows.0 }, spelled_by word part head.0 head.1 parts rows.0 is head.2 rows.1)
        | inr broken ↦ inr (broken.0, unspelled_by word part head.0 head.1 parts is head.2 broken.0 broken.1)
      ]
      | inr other ↦ inr (0, no_form word part parts is other)
    ]

-- an element is added where it isn't there
adds_some : (old : List (List ℕ)) (x : List ℕ) → (new : List (List ℕ)) × Adds old x new
adds_some old x = elim (has_decided same_text_decided old x) [ inl has ↦ (old, inl (has, refl)) | inr new ↦ (old ++ x ∷ [], inr (new, refl)) ]

-- names stand in the order of their first appearance
seen_from : (done old : List (List ℕ)) → FirstSeen done old → (uses : List (List ℕ)) → (new : List (List ℕ)) × FirstSeen (done ++ uses) new
seen_from done old seen [] = (old, subst (λ us. FirstSeen us old) (sym (append-nil done)) seen)
seen_from done old seen (x ∷ xs) =
    let added = adds_some old x in
    let more = seen_from (done ++ x ∷ []) added.0 (next seen added.1) xs in
    (more.0, subst (λ us. FirstSeen us more.0) (append_assoc done (x ∷ []) xs) more.1)

-- whether the first parts name more than 16 states
many_decided : (k : NamedProtocol) (at : ℕ) → IsDecided (NamesTooMany k at)
many_decided k at =
    let seen = seen_from [] [] none (named_states (front k at)) in
    elim (cases_lt 16 (length seen.0)) [
      | inl more ↦ inl (seen.0, seen.1, more)
      | inr few ↦ inr (λ many. omega (arith, few, many.2, ap (length {A = List ℕ}) (first_seen_one many.1 seen.0 seen.1)))
    ]

-- what stands in what an element becomes stands in what all become
has_in : {X Y : Type 0} (f : X → List Y) (xs : List X) (i : ℕ) (x : X) (j : ℕ) (y : Y) → slice_get xs i ≡ Some x → slice_get (f x) j ≡ Some y → Has (flat_map f xs) y
has_in f [] i x j y e h = cc
has_in f (z ∷ zs) zero x j y e h = let same : z ≡ x = cc in (j, slice_get-append_left (f z) (flat_map f zs) j y (subst (λ w. slice_get (f w) j ≡ Some y) (sym same) h))
has_in f (z ∷ zs) (suc i) x j y e h = let rest = has_in f zs i x j y e h in (length (f z) + rest.0, slice_get-append_right (f z) (flat_map f zs) rest.0 ∙ rest.1)

-- rows whose names are there have their numbers
numbers_some : (states events : List (List ℕ)) (rows : List NamedRow) → ((row : NamedRow) → Has rows row → Has states row.from × Has events row.event × Has states row.to)
    → (numbers : List ProtocolRow) × Each (IsNumbered states events) rows numbers
numbers_some states events [] there = ([], record { as_many = refl; each = λ i x y p q. cc })
numbers_some states events (row ∷ rows) there =
    let here = there row (0, refl) in
    let rest = numbers_some states events rows (λ r h. there r (suc h.0, h.1)) in
    let numbers : ProtocolRow = record { from = here.0.0; event = here.1.0; to = here.2.0 } in
    let is : IsNumbered states events row numbers = record { from = here.0.1; event = here.1.1; to = here.2.1 } in
    (numbers ∷ rest.0, record { as_many = ap suc rest.1.as_many; each = λ i x y p q. cons numbers rest.0 is rest.1 i x y p q })
  where
    cons : (numbers : ProtocolRow) (others : List ProtocolRow) → IsNumbered states events row numbers → Each (IsNumbered states events) rows others → (i : ℕ) (x : NamedRow) (y : ProtocolRow)
        → slice_get (row ∷ rows) i ≡ Some x → slice_get (numbers ∷ others) i ≡ Some y → IsNumbered states events x y
    cons numbers others is rest zero x y p q =
        let first : row ≡ x = cc in
        let second : numbers ≡ y = cc in
        subst (λ r. IsNumbered states events r y) first (subst (λ n. IsNumbered states events row n) second is)
    cons numbers others is rest (suc i) x y p q = rest.each i x y p q

-- whether a text stands at a place
at_decided : (texts : List (List ℕ)) (text : List ℕ) (i : ℕ) → IsDecided (slice_get texts i ≡ Some text)
at_decided texts text i = by (slice_get texts i)
  where
    inside : (t : List ℕ) → Some t ≡ Some text → t ≡ text
    inside t e = cc

    by : (o : Option (List ℕ)) → IsDecided (o ≡ Some text)
    by None = inr (λ e. cc)
    by (Some t) = same_decided (λ e. ap Some e) (inside t) (same_text_decided t text)

module _ (p : LinkedProgram) (word : List ℕ) (k : NamedProtocol) (spells : Spells word k) where
  -- a protocol of no more than 16 states is one of a class, or its class isn't there
  classed : (states events : List (List ℕ)) → FirstSeen (named_states k) states → FirstSeen (named_events k) events → length states ≤ 16 → (one : Outcome) × IsOutcome p word one
  classed states events in_states in_events few = elim (has_decided same_text_decided (linked_class_names p.classes) k.class) [
    | inl has ↦
        let rows = numbers_some states events k.rows (λ row h. (
          state row h 0 row.from refl,
          seen_has in_events h.0 row.event (map_at (λ (r : NamedRow). r.event) k.rows h.0 row h.1),
          state row h 1 row.to refl,
        )) in
        let class = least_of (λ i. slice_get (linked_class_names p.classes) i ≡ Some k.class) (at_decided (linked_class_names p.classes) k.class) has.0 has.1 in (
          is_protocol (record { class = class.0; states = states; events = events; rows = rows.0 }),
          record { named = k; spelled = spells; states = in_states; events = in_events; rows = rows.1; few = few; class = class.1 },
        )
    | inr unknown ↦ (lacks_class, record { named = k; spelled = spells; few = few_names k states in_states few; unknown = unknown })
  ]
    where
      state : (row : NamedRow) → Has k.rows row → (j : ℕ) (name : List ℕ) → slice_get (states_in row) j ≡ Some name → Has states name
      state row h j name e = let there = has_in states_in k.rows h.0 row j name h.1 e in seen_has in_states (suc there.0) name there.1

  -- what spells a protocol has an outcome
  spelled_outcome : (one : Outcome) × IsOutcome p word one
  spelled_outcome =
      let states = seen_from [] [] none (named_states k) in
      let events = seen_from [] [] none (named_events k) in
      elim (cases_lt 16 (length states.0)) [
        | inl many ↦
            let all = take_all (length k.rows) k.rows (omega arith) in
            let whole : NamesTooMany k (length k.rows) =
            (states.0, subst (λ rows. FirstSeen (named_states (record k { rows = rows })) states.0) (sym all) states.1, many) in
            let least = least_of (NamesTooMany k) (many_decided k) (length k.rows) whole in
            (crowds_at least.0, (k, spells, least.1))
        | inr few ↦ classed states.0 events.0 states.1 events.1 few
      ]

pub outcome_some : EachWordHasAnOutcome
outcome_some p word = elim (spelled_decided word) [ inl spelled ↦ spelled_outcome p word spelled.0 spelled.1 | inr broken ↦ (breaks_at broken.0, broken.1) ]
