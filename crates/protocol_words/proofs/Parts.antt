-- The parts of a word, and the texts of protocols by their names.
use Rattle.std.proofs.Common.{◌≡◌, ℕ, zero, suc, ◌<◌, ◌==◌, Bool, true, false, cond, List, [], ◌∷◌, ◌++◌, Some, length, map, flat_map, slice_get, refl, sym, ap, subst, ◌∙◌, inl, inr, arith, eq-eqb, true≢false}
use Rattle.std.specs.List.{join_with_byte, onto_first, slice_split}
use Rattle.std.proofs.lemmas.List.{append-nil}
use Rattle.std.proofs.lemmas.List.Splits.{join_with_byte-slice_split, length-slice_split}
use Rattle.lists.specs.Lists.{Has}
use Rattle.link_laws.proofs.Lists.{at_map}
use Rattle.track_rules.specs.Protocols.{AreParts, NamedProtocol, NamedRow, Spells, head_text, row_text, text}
use Rattle.lists.proofs.Cutting.{cut_first, has_between}
use Rattle.lists.proofs.Joined.{slice_get-appended}

-- whether the character is a semicolon
abbrev pub ends : ℕ → Bool
ends b = b == 59

-- no part that a word is cut into has a semicolon
uncut : (word part : List ℕ) → Has (slice_split ends word) part → Has part 59 → ⊥
uncut [] part (zero, here) has = let same : [] ≡ part = cc in let there = subst (λ l. slice_get l has.0 ≡ Some 59) (sym same) has.1 in cc
uncut [] part (suc n, here) has = cc
uncut (x ∷ xs) part here has = by (ends x) refl (slice_split ends xs) (λ p h. uncut xs p h) here
  where
    alone : ends x ≡ false → (xs : List ℕ) → (Has xs 59 → ⊥) → Has (x ∷ xs) 59 → ⊥
    alone e xs none (zero, h) = let same : x ≡ 59 = cc in true≢false (sym (eq-eqb x 59 same) ∙ e)
    alone e xs none (suc n, h) = none (n, h)

    onto : (rest : List (List ℕ)) → ends x ≡ false → ((p : List ℕ) → Has rest p → Has p 59 → ⊥) → Has (onto_first x rest) part → ⊥
    onto [] e none (zero, h) = let same : x ∷ [] ≡ part = cc in alone e [] (λ q. let there = q.1 in cc) (subst (λ l. Has l 59) (sym same) has)
    onto [] e none (suc n, h) = cc
    onto (r ∷ rest) e none (zero, h) = let same : x ∷ r ≡ part = cc in alone e r (none r (0, refl)) (subst (λ l. Has l 59) (sym same) has)
    onto (r ∷ rest) e none (suc n, h) = none part (suc n, h) has

    by : (b : Bool) → ends x ≡ b → (rest : List (List ℕ)) → ((p : List ℕ) → Has rest p → Has p 59 → ⊥) → Has (cond b ([] ∷ rest) (onto_first x rest)) part → ⊥
    by true e rest none (zero, h) = let same : [] ≡ part = cc in let there = subst (λ l. slice_get l has.0 ≡ Some 59) (sym same) has.1 in cc
    by true e rest none (suc n, h) = none part (n, h) has
    by false e rest none h = onto rest e none h

-- a word is cut into its parts
pub are_parts : (word : List ℕ) → AreParts word (slice_split ends word)
are_parts word = record {
  some = omega (arith, length-slice_split ends word);
  joined = join_with_byte-slice_split 59 word;
  cut = uncut word;
}

-- a word has its parts in one way
pub parts_one : (word : List ℕ) (a b : List (List ℕ)) → AreParts word a → AreParts word b → a ≡ b
parts_one word a b p q = by a b p.some q.some p.cut q.cut (p.joined ∙ sym q.joined)
  where
    by : (a b : List (List ℕ)) → 0 < length a → 0 < length b → ((part : List ℕ) → Has a part → Has part 59 → ⊥) → ((part : List ℕ) → Has b part → Has part 59 → ⊥)
        → join_with_byte 59 a ≡ join_with_byte 59 b → a ≡ b
    by [] b some other p q e = absurd (omega arith)
    by (x ∷ xs) [] some other p q e = absurd (omega arith)
    by (x ∷ []) (y ∷ []) some other p q e = ap (λ z. z ∷ []) e
    by (x ∷ []) (y ∷ z ∷ zs) some other p q e = absurd (p x (0, refl) (rw e (has_between y (join_with_byte 59 (z ∷ zs)) 59)))
    by (x ∷ w ∷ ws) (y ∷ []) some other p q e = absurd (q y (0, refl) (rw (← e) (has_between x (join_with_byte 59 (w ∷ ws)) 59)))
    by (x ∷ w ∷ ws) (y ∷ z ∷ zs) some other p q e =
        let parts = cut_first 59 x (join_with_byte 59 (w ∷ ws)) y (join_with_byte 59 (z ∷ zs)) (p x (0, refl)) (q y (0, refl)) e in
        let rest = by (w ∷ ws) (z ∷ zs) (omega arith) (omega arith) (λ part h. p part (suc h.0, h.1)) (λ part h. q part (suc h.0, h.1)) parts.1 in
        cc (parts.0, rest)

-- a row behind others
joined_rows : (first : List ℕ) (rows : List NamedRow) → join_with_byte 59 (first ∷ map row_text rows) ≡ first ++ flat_map (λ row. 59 ∷ row_text row) rows
joined_rows first [] = sym (append-nil first)
joined_rows first (row ∷ rows) = ap (λ l. first ++ (59 ∷ l)) (joined_rows (row_text row) rows)

-- two texts with a blank between them have no semicolon, where neither has one
no_semicolon : (xs ys : List ℕ) → (Has xs 59 → ⊥) → (Has ys 59 → ⊥) → Has (xs ++ 32 ∷ ys) 59 → ⊥
no_semicolon xs ys p q h = elim (slice_get-appended xs (32 ∷ ys) h.0 59 h.1) [
  | inl first ↦ p (h.0, first)
  | inr second ↦ behind second.0 second.2
]
  where
    behind : (j : ℕ) → slice_get (32 ∷ ys) j ≡ Some 59 → ⊥
    behind zero e = let same : ◌≡◌ {A = ℕ} 32 59 = cc in omega (arith, same)
    behind (suc j) e = q (j, e)

-- the parts of a protocol's text are that of its class and first state, and those of its rows
pub spelled_parts : (word : List ℕ) (k : NamedProtocol) → Spells word k → AreParts word (head_text k.class k.first ∷ map row_text k.rows)
spelled_parts word k spells = record {
  some = omega arith;
  joined = joined_rows (head_text k.class k.first) k.rows ∙ sym spells.is_text;
  cut = λ part here. by part here.0 here.1;
}
  where
    by : (part : List ℕ) (n : ℕ) → slice_get (head_text k.class k.first ∷ map row_text k.rows) n ≡ Some part → Has part 59 → ⊥
    by part zero e has =
        let same : head_text k.class k.first ≡ part = cc in
        no_semicolon k.class k.first spells.class.no_semicolon spells.first.no_semicolon (subst (λ l. Has l 59) (sym same) has)
    by part (suc n) e has =
        let row = at_map row_text k.rows n part e in
        let names = spells.rows row.0 (n, row.1) in
        no_semicolon (head_text row.0.from row.0.event) row.0.to (no_semicolon row.0.from row.0.event names.from.no_semicolon names.event.no_semicolon) names.to.no_semicolon
        (subst (λ l. Has l 59) row.2 has)

-- a protocol whose parts these are has this text
pub parts_text : (word : List ℕ) (k : NamedProtocol) → AreParts word (head_text k.class k.first ∷ map row_text k.rows) → word ≡ text k
parts_text word k parts = sym parts.joined ∙ joined_rows (head_text k.class k.first) k.rows
