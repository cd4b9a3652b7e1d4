-- Lines and the queries that they spell.
use Rattle.std.proofs.Common.{◌≡◌, ◌≢◌, ℕ, zero, suc, ◌<◌, ◌≤◌, ◌^◌, ◌==◌, List, [], ◌∷◌, ◌++◌, Option, Some, None, IfNone, IfSome, length, map, get_or, slice_get, lit<, refl, sym, ap, subst, ◌∙◌, arith, append-nil, append_assoc, length-append}
use Rattle.std.specs.Fmt.{decimal}
use Rattle.std.specs.List.{AllZip}
use Rattle.std.specs.Str.{IsUtf8}
use Rattle.std.specs.Str.Parse.{AllDigits}
use Rattle.std.proofs.lemmas.Fmt.{decimal_is_IsNumeral}
use Rattle.std.proofs.lemmas.List.{length-map}
use Rattle.std.proofs.lemmas.List.Splits.{length-slice_split}
use Rattle.std.proofs.lemmas.Str.{IsUtf8-from_ascii}
use Rattle.std.proofs.lemmas.Str.Parse.{digit_from_value}
use Rattle.lists.specs.Lists.{Has}
use Rattle.batch_lines.specs.Cuts.{lines_of}
use Rattle.batch_lines.specs.Queries.{AreQueries, IsFirstBad, QueryParts, SpellsQuery, lines_in, parts_of, without_empty_end}
use Rattle.batch_lines.specs.declared.queries.BatchQuery.{BatchQuery}
use Rattle.batch_lines.proofs.Lines.{cut_next, cut_none}
use Rattle.lists.proofs.Cutting.{cut_first}

-- digits are no blanks
digits_lack : (ds : List ℕ) → AllDigits 10 ds → Has ds 32 → ⊥
digits_lack [] d h = let there = h.1 in cc
digits_lack (c ∷ cs) d (zero, e) = let same : c ≡ 32 = cc in let k = digit_from_value c d.0 in omega (arith, k, same)
digits_lack (c ∷ cs) d (suc i, e) = digits_lack cs d.1 (i, e)

pub number_lacks : (n : ℕ) → n < 2 ^ 32 → Has (decimal n) 32 → ⊥
number_lacks n small = digits_lack (decimal n) (decimal_is_IsNumeral n (omega arith)).0.1

-- and text
digits_ascii : (ds : List ℕ) (i : ℕ) → AllDigits 10 ds → get_or ds i 0 < 128
digits_ascii [] i d = lit< tt
digits_ascii (c ∷ cs) zero d = let k = digit_from_value c d.0 in omega (arith, k)
digits_ascii (c ∷ cs) (suc i) d = digits_ascii cs i d.1

pub number_text : (word : List ℕ) (n : ℕ) → n < 2 ^ 32 → word ≡ decimal n → IsUtf8 word
number_text word n small e = subst IsUtf8 (sym e) (IsUtf8-from_ascii (decimal n) (λ i. digits_ascii (decimal n) i (decimal_is_IsNumeral n (omega arith)).0.1))

-- the end of a list of parts isn't looked at where another part stands before it
end_next : (part : List ℕ) (parts : List (List ℕ)) → 0 < length parts → without_empty_end (part ∷ parts) ≡ part ∷ without_empty_end parts
end_next part [] some = absurd (omega arith)
end_next [] (next ∷ parts) some = refl
end_next (byte ∷ part) (next ∷ parts) some = refl

end_last : (part : List ℕ) → 0 < length part → without_empty_end (part ∷ []) ≡ part ∷ []
end_last [] some = absurd (omega arith)
end_last (byte ∷ part) some = refl

pub lines_next : (text line behind : List ℕ) → text ≡ line ++ 10 ∷ behind → (Has line 10 → ⊥) → lines_in text ≡ line ∷ lines_in behind
lines_next text line behind e lacks =
    ap without_empty_end (cut_next 10 text line behind e lacks) ∙ end_next line (lines_of behind) (omega (arith, length-slice_split (λ b. b == 10) behind))

pub lines_last : (text : List ℕ) → 0 < length text → (Has text 10 → ⊥) → lines_in text ≡ text ∷ []
lines_last text some lacks = ap without_empty_end (cut_none 10 text lacks) ∙ end_last text some

-- a line that spells a query is cut at its first blank, and what stands behind at its first
module _ (line : List ℕ) (q : QueryParts) (is : SpellsQuery line q) where
  pub first_word : (word rest : List ℕ) → line ≡ word ++ 32 ∷ rest → (Has word 32 → ⊥) → (decimal q.index ≡ word) × (q.local ++ 32 ∷ q.method ≡ rest)
  first_word word rest e lacks = cut_first 32 (decimal q.index) (q.local ++ 32 ∷ q.method) word rest (number_lacks q.index is.small) lacks (sym is.in_order ∙ e)

  pub next_words : (word rest local method : List ℕ) → line ≡ word ++ 32 ∷ rest → (Has word 32 → ⊥) → rest ≡ local ++ 32 ∷ method → (Has local 32 → ⊥)
      → (q.local ≡ local) × (q.method ≡ method)
  next_words word rest local method e lacks f none =
      let first = first_word word rest e lacks in
      cut_first 32 q.local q.method local method is.no_blank none (first.1 ∙ f)

-- what holds where there is nothing
pub none_of : {X : Type 0} {P : Type 0} (r : Option X) → ((x : X) → r ≡ Some x → ⊥) → IfNone r P → P
none_of None none p = p
none_of (Some x) none p = absurd (none x refl)

-- and where there is something
pub some_of : {X : Type 0} (P : X → Type 0) (r : Option X) (x : X) → r ≡ Some x → IfSome r P → P x
some_of P (Some y) x e p = let same : y ≡ x = cc in subst P same p
some_of P None x e p = cc

-- two lists that go side by side, one longer
pub zip_more : {X Y : Type 0} (R : X → Y → Type 0) (xs : List X) (ys : List Y) (x : X) (y : Y) → AllZip R xs ys → R x y → AllZip R (xs ++ x ∷ []) (ys ++ y ∷ [])
zip_more R [] [] x y zip one = (one, tt)
zip_more R [] (b ∷ ys) x y zip one = absurd zip
zip_more R (a ∷ xs) [] x y zip one = absurd zip
zip_more R (a ∷ xs) (b ∷ ys) x y zip one = (zip.0, zip_more R xs ys x y zip.1 one)

pub zip_length : {X Y : Type 0} (R : X → Y → Type 0) (xs : List X) (ys : List Y) → AllZip R xs ys → length xs ≡ length ys
zip_length R [] [] zip = refl
zip_length R [] (b ∷ ys) zip = absurd zip
zip_length R (a ∷ xs) [] zip = absurd zip
zip_length R (a ∷ xs) (b ∷ ys) zip = ap suc (zip_length R xs ys zip.1)

-- what stands side by side at a place of the first part of a list
pub zip_at : {X Y : Type 0} (R : X → Y → Type 0) (xs more : List X) (ys : List Y) (i : ℕ) → AllZip R xs ys → i < length xs
    → (x : X) × (y : Y) × (slice_get (xs ++ more) i ≡ Some x) × R x y
zip_at R [] more ys i zip less = absurd (omega arith)
zip_at R (a ∷ xs) more [] i zip less = absurd zip
zip_at R (a ∷ xs) more (b ∷ ys) zero zip less = (a, b, refl, zip.0)
zip_at R (a ∷ xs) more (b ∷ ys) (suc i) zip less = zip_at R xs more ys i zip.1 (omega arith)

-- what stands behind the first part
at_end : {X : Type 0} (xs more : List X) (x y : X) → slice_get (xs ++ x ∷ more) (length xs) ≡ Some y → x ≡ y
at_end [] more x y e = cc
at_end (a ∷ xs) more x y e = at_end xs more x y e

map_more : (qs : List BatchQuery) (q : BatchQuery) → map parts_of (qs ++ q ∷ []) ≡ map parts_of qs ++ parts_of q ∷ []
map_more [] q = refl
map_more (x ∷ qs) q = ap (λ l. parts_of x ∷ l) (map_more qs q)

-- the lines that were read, and what is left
pub record IsRead (text left : List ℕ) (queries : List BatchQuery) : Type 0 where
  pub front : List (List ℕ)
  pub whole : lines_in text ≡ front ++ lines_in left
  pub spelled : AllZip SpellsQuery front (map parts_of queries)
  pub few : length queries ≤ 1000

pub none_read : (text : List ℕ) → IsRead text text []
none_read text = record { front = []; whole = refl; spelled = tt; few = omega arith }

module _ (text left : List ℕ) (queries : List BatchQuery) (is : IsRead text left queries) where
  pub all_read : left ≡ [] → AreQueries text (map parts_of queries)
  all_read end = record {
    spelled = subst (λ ls. AllZip SpellsQuery ls (map parts_of queries)) (sym (is.whole ∙ ap (λ l. is.front ++ lines_in l) end ∙ append-nil is.front)) is.spelled;
    few = let same = length-map queries parts_of in let most = is.few in omega (arith, same, most);
  }

  count : length is.front ≡ length queries
  count = zip_length SpellsQuery is.front (map parts_of queries) is.spelled ∙ length-map queries parts_of

  module _ (line behind : List ℕ) (next : lines_in left ≡ line ∷ lines_in behind) where
    lines : lines_in text ≡ is.front ++ line ∷ lines_in behind
    lines = is.whole ∙ ap (λ l. is.front ++ l) next

    pub one_read : (q : BatchQuery) (new : List BatchQuery) → new ≡ queries ++ q ∷ [] → SpellsQuery line (parts_of q) → length queries ≢ 1000 → IsRead text behind new
    one_read q new e spells room = record {
      front = is.front ++ line ∷ [];
      whole = lines ∙ sym (append_assoc is.front (line ∷ []) (lines_in behind));
      spelled = subst (AllZip SpellsQuery (is.front ++ line ∷ [])) (sym (ap (map parts_of) e ∙ map_more queries q)) (zip_more SpellsQuery is.front (map parts_of queries) line (parts_of q) is.spelled spells);
      few = let most = is.few in let longer = ap length e in omega (arith, most, room, longer, length-append queries (q ∷ []));
    }

    -- the next line is bad
    pub next_bad : (at : ℕ) → at ≡ length queries → (at < 1000 → (q : QueryParts) → SpellsQuery line q → ⊥) → IsFirstBad text at
    next_bad at e bad = record {
      within = let longer = ap length lines in omega (arith, longer, length-append is.front (line ∷ lines_in behind), count, e);
      before = λ number less.
          let most = is.few in
          let found = zip_at SpellsQuery is.front (line ∷ lines_in behind) (map parts_of queries) number is.spelled (omega (arith, less, count, e)) in
          (omega (arith, less, e, most), (found.0, found.1, ap (λ l. slice_get l number) lines ∙ found.2, found.3));
      bad = λ has.
          let here : slice_get (is.front ++ line ∷ lines_in behind) (length is.front) ≡ Some has.1.0 = ap (slice_get (is.front ++ line ∷ lines_in behind)) (count ∙ sym e) ∙ ap (λ l. slice_get l at) (sym lines) ∙ has.1.2 in
          bad has.0 has.1.1 (subst (λ l. SpellsQuery l has.1.1) (sym (at_end is.front (lines_in behind) line has.1.0 here)) has.1.3);
    }
