-- Rows, as the parts of a word spell them.
use Rattle.std.proofs.Common.{◌≡◌, ℕ, zero, suc, ◌+◌, ◌<◌, List, [], ◌∷◌, ◌++◌, Option, Some, None, IfSome, IfNone, is_some, true, false, true≢false, Bor, length, map, get_or, slice_get, take, refl, sym, ap, subst, ◌∙◌, inl, inr, arith}
use Rattle.std.proofs.lemmas.List.{map-append}
use Rattle.jim_ast.specs.declared.names.NameId.{NameId}
use Rattle.lists.specs.Lists.{Adds, Has, IsApart}
use Rattle.lists.proofs.Places.{slice_get-below, slice_get-pushed, slice_get-there, take-next}
use Rattle.link_laws.proofs.Lists.{at_map, map_at}
use Rattle.track_rules.specs.Protocols.{AreNames, Breaks, IsRowAt, NamedRow, head_text, row_text}
use Rattle.protocol_words.specs.Spellings.{AreRows, IsRow, texts}
use Rattle.protocol_words.proofs.Names.{cut_last}
use Rattle.lists.proofs.Cutting.{cut_first}

module _ {X : Type 0} where
  -- what stands in the front of a list stands there in the list
  pub in_front : (i : ℕ) (xs : List X) (m : ℕ) (x : X) → slice_get (take i xs) m ≡ Some x → (slice_get xs m ≡ Some x) × (m < i)
  in_front zero xs m x e = cc
  in_front (suc i) [] m x e = cc
  in_front (suc i) (y ∷ ys) zero x e = (e, omega arith)
  in_front (suc i) (y ∷ ys) (suc m) x e = let rest = in_front i ys m x e in (rest.0, omega (arith, rest.1))

  -- and back
  pub to_front : (i : ℕ) (xs : List X) (m : ℕ) (x : X) → m < i → slice_get xs m ≡ Some x → slice_get (take i xs) m ≡ Some x
  to_front zero xs m x h e = absurd (omega arith)
  to_front (suc i) [] m x h e = cc
  to_front (suc i) (y ∷ ys) zero x h e = e
  to_front (suc i) (y ∷ ys) (suc m) x h e = to_front i ys m x (omega arith) e

-- the first state and the event with a blank between them
abbrev pub key_of : NamedRow → List ℕ
key_of row = head_text row.from row.event

-- one key has one first state and one event
key_one : (row other : NamedRow) → AreNames row → AreNames other → key_of row ≡ key_of other → (row.from ≡ other.from) × (row.event ≡ other.event)
key_one row other p q e = cut_first 32 row.from row.event other.from other.event p.from.no_blank q.from.no_blank e

-- one text is one row
pub row_text_one : (row other : NamedRow) → AreNames row → AreNames other → row_text row ≡ row_text other → row ≡ other
row_text_one row other p q e =
    let parts = cut_last 32 (key_of row) row.to (key_of other) other.to p.to.no_blank q.to.no_blank e in
    let keys = key_one row other p q parts.0 in
    (λ i. record { from = keys.0 i; event = keys.1 i; to = parts.1 i })

-- the parts are these rows, which have these keys, and no two have one
pub record IsRead (parts : List (List ℕ)) (rows : List NamedRow) (keys : List (List ℕ)) : Type 0 where
  pub texts : parts ≡ map row_text rows
  pub names : (row : NamedRow) → Has rows row → AreNames row
  pub are_keys : keys ≡ map key_of rows
  pub apart : IsApart keys

pub read_none : IsRead [] [] []
read_none = record { texts = refl; names = λ row h. let there = h.1 in cc; are_keys = refl; apart = λ i j x p q. cc }

-- one row more
pub read_more : (parts : List (List ℕ)) (rows : List NamedRow) (keys new : List (List ℕ)) (part key : List ℕ) (row : NamedRow) → IsRead parts rows keys → IsRow part row
    → key ≡ key_of row → (Has keys key → ⊥) → Adds keys key new → IsApart new → IsRead (parts ++ part ∷ []) (rows ++ row ∷ []) new
read_more parts rows keys new part key row read is e none adds apart = record {
  texts = let front = read.texts in let last = is.is_text in rw (map-append row_text rows (row ∷ [])) (cc (front, last));
  names = λ other h. elim (slice_get-pushed rows row h.0 other h.1) [ inl old ↦ read.names other (h.0, old) | inr new ↦ subst AreNames (sym new.1) is.names ];
  are_keys = elim adds [
    | inl old ↦ absurd (none old.0)
    | inr new ↦ (let keys = read.are_keys in let all = new.1 in rw (map-append key_of rows (row ∷ [])) (cc (keys, all, e)))
  ];
  apart = apart;
}

-- what is read so far
pub are_rows : (parts : List (List ℕ)) (rows : List NamedRow) (keys : List (List ℕ)) → IsRead parts rows keys → AreRows parts rows
are_rows parts rows keys read = record {
  texts = read.texts;
  names = read.names;
  apart = λ i j row other p q from event.
      let one : slice_get keys i ≡ Some (key_of row) = rw read.are_keys (map_at key_of rows i row p) in
      let two : slice_get keys j ≡ Some (key_of other) = rw read.are_keys (map_at key_of rows j other q) in
      let same : key_of other ≡ key_of row = cc (from, event) in
      read.apart i j (key_of row) one (two ∙ ap Some same);
}

-- the parts of a word behind its first, of which the first i are rows
module _ (first : List ℕ) (parts : List (List ℕ)) (i : ℕ) (rows : List NamedRow) where
  -- where a row stands in the word
  row_at : AreRows (take i parts) rows → (m : ℕ) (row : NamedRow) → slice_get rows m ≡ Some row → IsRowAt (first ∷ parts) (suc m) row
  row_at are m row there = record {
    behind = omega arith;
    there = (in_front i parts m (row_text row) (rw are.texts (map_at row_text rows m row there))).0;
    names = are.names row (m, there);
  }

  -- the row that stands at a place
  at_row : AreRows (take i parts) rows → (m : ℕ) (part : List ℕ) → m < i → slice_get parts m ≡ Some part → (row : NamedRow) × (slice_get rows m ≡ Some row) × (part ≡ row_text row)
  at_row are m part below there = at_map row_text rows m part (rw (← are.texts) (to_front i parts m part below there))

  -- the same, where it is known that a row stands there
  same_row : AreRows (take i parts) rows → (m : ℕ) (row : NamedRow) → m < i → IsRowAt (first ∷ parts) (suc m) row → slice_get rows m ≡ Some row
  same_row are m row below is =
      let at = at_row are m (row_text row) below is.there in
      at.1 ∙ ap Some (sym (row_text_one row at.0 is.names (are.names at.0 (m, at.1)) at.2))

  -- none of them breaks the grammar
  pub unbroken : AreRows (take i parts) rows → (m : ℕ) → 0 < m → m < suc i → Breaks (first ∷ parts) m → ⊥
  unbroken are zero behind below breaks = absurd (omega arith)
  unbroken are (suc m) behind below (within, inl other) =
      let part = slice_get-there parts m (omega (arith, within)) in
      let at = at_row are m part.0 (omega arith) part.1 in
      other (at.0, row_at are m at.0 at.1)
  unbroken are (suc m) behind below (within, inr again) = repeats again.place again.before again.earlier_there
    where
      repeats : (place : ℕ) → place < suc m → IsRowAt (first ∷ parts) place again.earlier → ⊥
      repeats zero before there = absurd (omega (arith, there.behind))
      repeats (suc e) before there =
          let one = same_row are m again.row (omega arith) again.there in
          let two = same_row are e again.earlier (omega arith) there in
          let same = are.apart m e again.row again.earlier one two again.from again.event in
          absurd (omega (arith, same))

  -- a part of another form breaks it
  pub breaks_form : (part : List ℕ) → slice_get parts i ≡ Some part → ((row : NamedRow) → IsRow part row → ⊥) → Breaks (first ∷ parts) (suc i)
  breaks_form part there none = (
    omega (arith, slice_get-below parts i part there),
    inl (λ form. let text : part ≡ row_text form.0 = (let is = form.1.there in cc (is, there)) in none form.0 (record { is_text = text; names = form.1.names })),
  )

  -- so does a row with the key of an earlier one
  pub breaks_again : (keys : List (List ℕ)) (part : List ℕ) (row : NamedRow) → IsRead (take i parts) rows keys → slice_get parts i ≡ Some part → IsRow part row
      → Has keys (key_of row) → Breaks (first ∷ parts) (suc i)
  breaks_again keys part row read there is has =
      let earlier = at_map key_of rows has.0 (key_of row) (rw (← read.are_keys) has.1) in
      let are = are_rows (take i parts) rows keys read in
      let names = read.names earlier.0 (has.0, earlier.1) in
      let same = key_one row earlier.0 is.names names earlier.2 in
      let below = in_front i parts has.0 (row_text earlier.0) (rw are.texts (map_at row_text rows has.0 earlier.0 earlier.1)) in (
        omega (arith, slice_get-below parts i part there),
        inr (record {
          row = row;
          there = record { behind = omega arith; there = there ∙ ap Some is.is_text; names = is.names };
          earlier = earlier.0;
          place = suc has.0;
          before = omega (arith, below.1);
          earlier_there = row_at are has.0 earlier.0 earlier.1;
          from = same.0;
          event = same.1;
        }),
      )

-- the text of a part
pub text_at : (parts : List (Bor (List ℕ))) (i : ℕ) (d : Bor (List ℕ)) → i < length parts → slice_get (texts parts) i ≡ Some (get_or parts i d).now
text_at [] i d h = absurd (omega arith)
text_at (p ∷ ps) zero d h = refl
text_at (p ∷ ps) (suc i) d h = text_at ps i d (omega arith)

-- one part more is read
pub read_next : (parts : List (Bor (List ℕ))) (i : ℕ) (d : Bor (List ℕ)) (rows : List NamedRow) (keys new : List (List ℕ)) (key : List ℕ) (row : NamedRow) → i < length parts
    → IsRead (take i (texts parts)) rows keys → IsRow (get_or parts i d).now row → key ≡ key_of row → (Has keys key → ⊥) → Adds keys key new → IsApart new
    → IsRead (take (i + 1) (texts parts)) (rows ++ row ∷ []) new
read_next parts i d rows keys new key row below read is e none adds apart =
    rw (take-next (texts parts) i (get_or parts i d).now (text_at parts i d below))
    (read_more (take i (texts parts)) rows keys new (get_or parts i d).now key row read is e none adds apart)

-- there are as many texts as parts
pub length-texts : (parts : List (Bor (List ℕ))) → length (texts parts) ≡ length parts
length-texts [] = refl
length-texts (p ∷ ps) = ap suc (length-texts ps)

-- what a look-up tells of a key
pub key_found : (keys : List (List ℕ)) (key : List ℕ) (found : Option NameId) → IfSome found (λ id. slice_get keys id.0 ≡ Some key) → is_some found ≡ true → Has keys key
key_found keys key (Some id) some e = (id.0, some)
key_found keys key None some e = absurd (true≢false (sym e))

pub key_new : (keys : List (List ℕ)) (key : List ℕ) (found : Option NameId) → IfNone found (Has keys key → ⊥) → is_some found ≡ false → Has keys key → ⊥
key_new keys key (Some id) none e = absurd (true≢false e)
key_new keys key None none e = none
