-- The words of lines.
use Rattle.std.proofs.Common.{◌≡◌, ◌↔◌, ℕ, ◌<◌, ◌≤◌, ◌==◌, ◌⊎◌, List, [], ◌∷◌, ◌++◌, Option, Some, None, Result, Ok, Err, IfOk, OnOk, All, Bor, false, codes, flat_map, get_or, length, map, refl, sym, ap, subst, ◌∙◌, inl, inr, arith, eq-eqb, true≢false, lit<, append_assoc}
use Rattle.std.specs.Fmt.{decimal}
use Rattle.std.specs.List.{join_with_byte, slice_split}
use Rattle.std.proofs.lemmas.Bool.{cases_lt}
use Rattle.std.proofs.lemmas.List.{append-nil, length-map}
use Rattle.std.proofs.lemmas.List.Elements.{All-head, All-tail}
use Rattle.std.proofs.lemmas.List.Splits.{join_with_byte-slice_split}
use Rattle.lists.specs.Lists.{Has}
use Rattle.link_sites.specs.declared.place.Place.{Place}
use Rattle.spds_rules.specs.declared.node.Node.{Node}
use Rattle.cert_rules.specs.declared.line.Line.{Line}
use Rattle.cert_rules.specs.declared.line.Line.TheVariants as line
use Rattle.cert_rules.specs.declared.line.Side.{Side}
use Rattle.cert_rules.specs.declared.line.Side.TheVariants.{Field, Call}
use Rattle.cert_rules.specs.Spelled.{FitsCall, FitsLine, FitsNode, IsRoomy, SpellsLine, SpellsTarget, call_text, line_text, line_words, node_text, numbers_text, side_text, string_text}
use Rattle.cert_text.specs.declared.heads.Head.{Head}
use Rattle.cert_text.specs.declared.heads.Head.TheVariants.{Start, Flow, Push, Link, Pop, Base}
use Rattle.cert_text.specs.Heads.{head_text, line_of_five, line_of_four}
use Rattle.cert_text.specs.Words.{AreWordsOf, SpellsNode, SpellsNumber, SpellsNumbers, SpellsString, texts}
use Rattle.cert_text.proofs.Marks.{AreAbove, IsAbove, above_append, above_join, above_lacks, above_lower, split_join, words_lack}
use Rattle.lists.proofs.Cutting.{cut_first, has_between}
use Rattle.cert_text.proofs.Numerals.{decimal_above}
use Rattle.cert_text.proofs.NodeWords.{call_above, differ, differ_length, node_above, none_iff, some_one}

-- the words of a line that goes on from one other: its head, its side, a number and a node
pub record IsFour (head side from node : List ℕ) (l : Line) : Type 0 where
  pub h : Head
  pub s : Side
  pub i : ℕ
  pub n : Node
  pub is_head : head ≡ head_text h
  pub is_side : side ≡ side_text s
  pub is_from : SpellsNumber from i
  pub is_node : SpellsNode node n
  pub is_line : line_of_four h s i n ≡ Some l

-- and of one that cites a second
pub record IsFive (head side from second node : List ℕ) (l : Line) : Type 0 where
  pub h : Head
  pub s : Side
  pub i : ℕ
  pub j : ℕ
  pub n : Node
  pub is_head : head ≡ head_text h
  pub is_side : side ≡ side_text s
  pub is_from : SpellsNumber from i
  pub is_second : SpellsNumber second j
  pub is_node : SpellsNode node n
  pub is_line : line_of_five h s i j n ≡ Some l

-- the words of `shared`
pub record IsShared (first second string : List ℕ) (l : Line) : Type 0 where
  pub is : List ℕ
  pub js : List ℕ
  pub w : List Place
  pub is_first : SpellsNumbers first is
  pub is_second : SpellsNumbers second js
  pub is_string : SpellsString string w
  pub is_line : line.Shared is js w ≡ l

module _ (head side from node : List ℕ) where
  -- four words are those of `shared` or of a line that goes on from one other
  pub four : (l : Line) → AreWordsOf (head ∷ side ∷ from ∷ node ∷ []) l → ((head ≡ codes "shared") × IsShared side from node l) ⊎ IsFour head side from node l
  four (line.Start s n) (e, fits) = cc
  four (line.Jump i n) (e, fits) = inr (record { h = Start; s = Call; i = i; n = n; is_head = cc; is_side = cc; is_from = (cc, fits.0); is_node = (cc, fits.1); is_line = refl })
  four (line.Put i j n) (e, fits) = cc
  four (line.Flow s i n) (e, fits) = inr (record { h = Flow; s = s; i = i; n = n; is_head = cc; is_side = cc; is_from = (cc, fits.0); is_node = (cc, fits.1); is_line = refl })
  four (line.PushField i j n) (e, fits) = cc
  four (line.PushCall i n) (e, fits) = inr (record { h = Push; s = Call; i = i; n = n; is_head = cc; is_side = cc; is_from = (cc, fits.0); is_node = (cc, fits.1); is_line = refl })
  four (line.LinkField i j n) (e, fits) = cc
  four (line.LinkCall i n) (e, fits) = inr (record { h = Link; s = Call; i = i; n = n; is_head = cc; is_side = cc; is_from = (cc, fits.0); is_node = (cc, fits.1); is_line = refl })
  four (line.Pop s i j n) (e, fits) = cc
  four (line.BasePop i n) (e, fits) = inr (record { h = Base; s = Call; i = i; n = n; is_head = cc; is_side = cc; is_from = (cc, fits.0); is_node = (cc, fits.1); is_line = refl })
  four (line.Shared is js w) (e, fits) = inl (cc, record { is = is; js = js; w = w; is_first = (cc, fits.0); is_second = (cc, fits.1); is_string = (cc, fits.2); is_line = refl })
  four (line.Meet i j) (e, fits) = cc
  four (line.Claim i j) (e, fits) = cc

  -- of the second, where the head is another
  pub four_step : (l : Line) → (head ≡ codes "shared" → ⊥) → AreWordsOf (head ∷ side ∷ from ∷ node ∷ []) l → IsFour head side from node l
  four_step l other is = elim (four l is) [ inl shared ↦ absurd (other shared.0) | inr step ↦ step ]

  -- and these are the words of what they make
  pub four_words : (h : Head) (s : Side) (i : ℕ) (n : Node) (l : Line) → head ≡ head_text h → side ≡ side_text s → SpellsNumber from i → SpellsNode node n
      → line_of_four h s i n ≡ Some l → AreWordsOf (head ∷ side ∷ from ∷ node ∷ []) l
  four_words Start Field i n l p q f g e = cc
  four_words Start Call i n l p q f g e = let a = f.0 in let b = g.0 in let same : line.Jump i n ≡ l = cc in subst (AreWordsOf (head ∷ side ∷ from ∷ node ∷ [])) same (cc, (f.1, g.1))
  four_words Flow s i n l p q f g e = let a = f.0 in let b = g.0 in let same : line.Flow s i n ≡ l = cc in subst (AreWordsOf (head ∷ side ∷ from ∷ node ∷ [])) same (cc, (f.1, g.1))
  four_words Push Field i n l p q f g e = cc
  four_words Push Call i n l p q f g e = let a = f.0 in let b = g.0 in let same : line.PushCall i n ≡ l = cc in subst (AreWordsOf (head ∷ side ∷ from ∷ node ∷ [])) same (cc, (f.1, g.1))
  four_words Link Field i n l p q f g e = cc
  four_words Link Call i n l p q f g e = let a = f.0 in let b = g.0 in let same : line.LinkCall i n ≡ l = cc in subst (AreWordsOf (head ∷ side ∷ from ∷ node ∷ [])) same (cc, (f.1, g.1))
  four_words Pop Field i n l p q f g e = cc
  four_words Pop Call i n l p q f g e = cc
  four_words Base Field i n l p q f g e = cc
  four_words Base Call i n l p q f g e = let a = f.0 in let b = g.0 in let same : line.BasePop i n ≡ l = cc in subst (AreWordsOf (head ∷ side ∷ from ∷ node ∷ [])) same (cc, (f.1, g.1))

module _ (head side from second node : List ℕ) where
  pub five : (l : Line) → AreWordsOf (head ∷ side ∷ from ∷ second ∷ node ∷ []) l → IsFive head side from second node l
  five (line.Start s n) (e, fits) = cc
  five (line.Jump i n) (e, fits) = cc
  five (line.Put i j n) (e, fits) = record { h = Start; s = Call; i = i; j = j; n = n; is_head = cc; is_side = cc; is_from = (cc, fits.0); is_second = (cc, fits.1); is_node = (cc, fits.2); is_line = refl }
  five (line.Flow s i n) (e, fits) = cc
  five (line.PushField i j n) (e, fits) = record { h = Push; s = Field; i = i; j = j; n = n; is_head = cc; is_side = cc; is_from = (cc, fits.0); is_second = (cc, fits.1); is_node = (cc, fits.2); is_line = refl }
  five (line.PushCall i n) (e, fits) = cc
  five (line.LinkField i j n) (e, fits) = record { h = Link; s = Field; i = i; j = j; n = n; is_head = cc; is_side = cc; is_from = (cc, fits.0); is_second = (cc, fits.1); is_node = (cc, fits.2); is_line = refl }
  five (line.LinkCall i n) (e, fits) = cc
  five (line.Pop s i j n) (e, fits) = record { h = Pop; s = s; i = i; j = j; n = n; is_head = cc; is_side = cc; is_from = (cc, fits.0); is_second = (cc, fits.1); is_node = (cc, fits.2); is_line = refl }
  five (line.BasePop i n) (e, fits) = cc
  five (line.Shared is js w) (e, fits) = cc
  five (line.Meet i j) (e, fits) = cc
  five (line.Claim i j) (e, fits) = cc

  pub five_words : (h : Head) (s : Side) (i j : ℕ) (n : Node) (l : Line) → head ≡ head_text h → side ≡ side_text s → SpellsNumber from i → SpellsNumber second j
      → SpellsNode node n → line_of_five h s i j n ≡ Some l → AreWordsOf (head ∷ side ∷ from ∷ second ∷ node ∷ []) l
  five_words Start Field i j n l p q f k g e = cc
  five_words Start Call i j n l p q f k g e = let a = f.0 in let b = g.0 in let c = k.0 in let same : line.Put i j n ≡ l = cc in subst (AreWordsOf (head ∷ side ∷ from ∷ second ∷ node ∷ [])) same (cc, (f.1, k.1, g.1))
  five_words Flow Field i j n l p q f k g e = cc
  five_words Flow Call i j n l p q f k g e = cc
  five_words Push Field i j n l p q f k g e = let a = f.0 in let b = g.0 in let c = k.0 in let same : line.PushField i j n ≡ l = cc in subst (AreWordsOf (head ∷ side ∷ from ∷ second ∷ node ∷ [])) same (cc, (f.1, k.1, g.1))
  five_words Push Call i j n l p q f k g e = cc
  five_words Link Field i j n l p q f k g e = let a = f.0 in let b = g.0 in let c = k.0 in let same : line.LinkField i j n ≡ l = cc in subst (AreWordsOf (head ∷ side ∷ from ∷ second ∷ node ∷ [])) same (cc, (f.1, k.1, g.1))
  five_words Link Call i j n l p q f k g e = cc
  five_words Pop s i j n l p q f k g e = let a = f.0 in let b = g.0 in let c = k.0 in let same : line.Pop s i j n ≡ l = cc in subst (AreWordsOf (head ∷ side ∷ from ∷ second ∷ node ∷ [])) same (cc, (f.1, k.1, g.1))
  five_words Base Field i j n l p q f k g e = cc
  five_words Base Call i j n l p q f k g e = cc

-- other numbers of words are no line's
pub too_few : (words : List (List ℕ)) (l : Line) → length words < 3 → AreWordsOf words l → ⊥
too_few words (line.Start s n) less (e, fits) = omega (arith, ap length e)
too_few words (line.Jump i n) less (e, fits) = omega (arith, ap length e)
too_few words (line.Put i j n) less (e, fits) = omega (arith, ap length e)
too_few words (line.Flow s i n) less (e, fits) = omega (arith, ap length e)
too_few words (line.PushField i j n) less (e, fits) = omega (arith, ap length e)
too_few words (line.PushCall i n) less (e, fits) = omega (arith, ap length e)
too_few words (line.LinkField i j n) less (e, fits) = omega (arith, ap length e)
too_few words (line.LinkCall i n) less (e, fits) = omega (arith, ap length e)
too_few words (line.Pop s i j n) less (e, fits) = omega (arith, ap length e)
too_few words (line.BasePop i n) less (e, fits) = omega (arith, ap length e)
too_few words (line.Shared is js w) less (e, fits) = omega (arith, ap length e)
too_few words (line.Meet i j) less (e, fits) = omega (arith, ap length e)
too_few words (line.Claim i j) less (e, fits) = omega (arith, ap length e)

pub too_many : (words : List (List ℕ)) (l : Line) → 5 < length words → AreWordsOf words l → ⊥
too_many words (line.Start s n) less (e, fits) = omega (arith, ap length e)
too_many words (line.Jump i n) less (e, fits) = omega (arith, ap length e)
too_many words (line.Put i j n) less (e, fits) = omega (arith, ap length e)
too_many words (line.Flow s i n) less (e, fits) = omega (arith, ap length e)
too_many words (line.PushField i j n) less (e, fits) = omega (arith, ap length e)
too_many words (line.PushCall i n) less (e, fits) = omega (arith, ap length e)
too_many words (line.LinkField i j n) less (e, fits) = omega (arith, ap length e)
too_many words (line.LinkCall i n) less (e, fits) = omega (arith, ap length e)
too_many words (line.Pop s i j n) less (e, fits) = omega (arith, ap length e)
too_many words (line.BasePop i n) less (e, fits) = omega (arith, ap length e)
too_many words (line.Shared is js w) less (e, fits) = omega (arith, ap length e)
too_many words (line.Meet i j) less (e, fits) = omega (arith, ap length e)
too_many words (line.Claim i j) less (e, fits) = omega (arith, ap length e)

numbers_are_above : (is : List ℕ) → All IsRoomy is → AreAbove 47 (map decimal is)
numbers_are_above [] fits = tt
numbers_are_above (i ∷ is) fits = (decimal_above i (All-head IsRoomy i is fits), numbers_are_above is (All-tail IsRoomy i is fits))

calls_are_above : (calls : List Place) → All FitsCall calls → AreAbove 45 (map call_text calls)
calls_are_above [] fits = tt
calls_are_above (c ∷ cs) fits = (call_above c (All-head FitsCall c cs fits), calls_are_above cs (All-tail FitsCall c cs fits))

are_lower : (low high : ℕ) (words : List (List ℕ)) → low ≤ high → AreAbove high words → AreAbove low words
are_lower low high [] less above = tt
are_lower low high (w ∷ ws) less above = (above_lower low high w less above.0, are_lower low high ws less above.1)

-- the commas of a list cut its word into its elements
pub numbers_cut : (word : List ℕ) (is : List ℕ) → SpellsNumbers word is → slice_split (λ b. b == 44) word ≡ map decimal is
numbers_cut word [] (e, fits) = absurd (omega (arith, fits.0))
numbers_cut word (i ∷ is) (e, fits) =
    ap (slice_split (λ b. b == 44)) e
    ∙ split_join 44 (map decimal (i ∷ is)) (omega arith) (words_lack 47 44 (map decimal (i ∷ is)) (numbers_are_above (i ∷ is) fits.1) (omega arith))

pub calls_cut : (word : List ℕ) (call : Place) (calls : List Place) → SpellsString word (call ∷ calls) → slice_split (λ b. b == 44) word ≡ map call_text (call ∷ calls)
calls_cut word call calls (e, fits) =
    ap (slice_split (λ b. b == 44)) e
    ∙ split_join 44 (map call_text (call ∷ calls)) (omega arith) (words_lack 45 44 (map call_text (call ∷ calls)) (calls_are_above (call ∷ calls) fits) (omega arith))

numbers_above : (is : List ℕ) → All IsRoomy is → IsAbove 32 (numbers_text is)
numbers_above is fits = above_join 32 44 (map decimal is) (lit< tt) (are_lower 32 47 (map decimal is) (omega arith) (numbers_are_above is fits))

string_above : (w : List Place) → All FitsCall w → IsAbove 32 (string_text w)
string_above [] fits = (lit< tt, tt)
string_above (c ∷ cs) fits = above_join 32 44 (map call_text (c ∷ cs)) (lit< tt) (are_lower 32 45 (map call_text (c ∷ cs)) (omega arith) (calls_are_above (c ∷ cs) fits))

number_above : (n : ℕ) → IsRoomy n → IsAbove 32 (decimal n)
number_above n fits = above_lower 32 47 (decimal n) (omega arith) (decimal_above n fits)

side_above : (s : Side) → IsAbove 32 (side_text s)
side_above Field = (lit< tt, tt)
side_above Call = (lit< tt, tt)

three_letters : {a b c : ℕ} → 32 < a → 32 < b → 32 < c → IsAbove 32 (a ∷ b ∷ c ∷ [])
three_letters a b c = (a, (b, (c, tt)))

four_letters : {a b c d : ℕ} → 32 < a → 32 < b → 32 < c → 32 < d → IsAbove 32 (a ∷ b ∷ c ∷ d ∷ [])
four_letters a b c d = (a, (b, (c, (d, tt))))

five_letters : {a b c d e : ℕ} → 32 < a → 32 < b → 32 < c → 32 < d → 32 < e → IsAbove 32 (a ∷ b ∷ c ∷ d ∷ e ∷ [])
five_letters a b c d e = (a, (b, (c, (d, (e, tt)))))

six_letters : {a b c d e f : ℕ} → 32 < a → 32 < b → 32 < c → 32 < d → 32 < e → 32 < f → IsAbove 32 (a ∷ b ∷ c ∷ d ∷ e ∷ f ∷ [])
six_letters a b c d e f = (a, (b, (c, (d, (e, (f, tt))))))

-- no byte of a line's words is a blank
words_above : (l : Line) → FitsLine l → AreAbove 32 (line_words l)
words_above (line.Start s n) fits = (five_letters (lit< tt) (lit< tt) (lit< tt) (lit< tt) (lit< tt), (side_above s, (node_above n fits, tt)))
words_above (line.Jump i n) fits = (five_letters (lit< tt) (lit< tt) (lit< tt) (lit< tt) (lit< tt), (side_above Call, (number_above i fits.0, (node_above n fits.1, tt))))
words_above (line.Put i j n) fits =
    (five_letters (lit< tt) (lit< tt) (lit< tt) (lit< tt) (lit< tt), (side_above Call, (number_above i fits.0, (number_above j fits.1, (node_above n fits.2, tt)))))
words_above (line.Flow s i n) fits = (four_letters (lit< tt) (lit< tt) (lit< tt) (lit< tt), (side_above s, (number_above i fits.0, (node_above n fits.1, tt))))
words_above (line.PushField i j n) fits =
    (four_letters (lit< tt) (lit< tt) (lit< tt) (lit< tt), (side_above Field, (number_above i fits.0, (number_above j fits.1, (node_above n fits.2, tt)))))
words_above (line.PushCall i n) fits = (four_letters (lit< tt) (lit< tt) (lit< tt) (lit< tt), (side_above Call, (number_above i fits.0, (node_above n fits.1, tt))))
words_above (line.LinkField i j n) fits =
    (four_letters (lit< tt) (lit< tt) (lit< tt) (lit< tt), (side_above Field, (number_above i fits.0, (number_above j fits.1, (node_above n fits.2, tt)))))
words_above (line.LinkCall i n) fits = (four_letters (lit< tt) (lit< tt) (lit< tt) (lit< tt), (side_above Call, (number_above i fits.0, (node_above n fits.1, tt))))
words_above (line.Pop s i j n) fits =
    (three_letters (lit< tt) (lit< tt) (lit< tt), (side_above s, (number_above i fits.0, (number_above j fits.1, (node_above n fits.2, tt)))))
words_above (line.BasePop i n) fits = (four_letters (lit< tt) (lit< tt) (lit< tt) (lit< tt), (side_above Call, (number_above i fits.0, (node_above n fits.1, tt))))
words_above (line.Shared is js w) fits =
    (six_letters (lit< tt) (lit< tt) (lit< tt) (lit< tt) (lit< tt) (lit< tt), (numbers_above is fits.0.1, (numbers_above js fits.1.1, (string_above w fits.2, tt))))
words_above (line.Meet i j) fits = (four_letters (lit< tt) (lit< tt) (lit< tt) (lit< tt), (number_above i fits.0, (number_above j fits.1, tt)))
words_above (line.Claim i j) fits = (five_letters (lit< tt) (lit< tt) (lit< tt) (lit< tt) (lit< tt), (number_above i fits.0, (number_above j fits.1, tt)))

some_words : (l : Line) → 0 < length (line_words l)
some_words (line.Start s n) = omega arith
some_words (line.Jump i n) = omega arith
some_words (line.Put i j n) = omega arith
some_words (line.Flow s i n) = omega arith
some_words (line.PushField i j n) = omega arith
some_words (line.PushCall i n) = omega arith
some_words (line.LinkField i j n) = omega arith
some_words (line.LinkCall i n) = omega arith
some_words (line.Pop s i j n) = omega arith
some_words (line.BasePop i n) = omega arith
some_words (line.Shared is js w) = omega arith
some_words (line.Meet i j) = omega arith
some_words (line.Claim i j) = omega arith

-- the blanks of a line cut it into its words
pub line_cut : (l : Line) → FitsLine l → slice_split (λ b. b == 32) (line_text l) ≡ line_words l
line_cut l fits = split_join 32 (line_words l) (some_words l) (words_lack 32 32 (line_words l) (words_above l fits) (omega arith))

-- no byte of a line is a line feed
pub line_above : (l : Line) → FitsLine l → IsAbove 31 (line_text l)
line_above l fits = above_join 31 32 (line_words l) (lit< tt) (are_lower 31 32 (line_words l) (omega arith) (words_above l fits))

-- the first line of a certificate has a blank, behind its head
pub target_has : (text : List ℕ) (n : Node) → SpellsTarget text n → Has text 32
target_has text n is = rw is.0 (has_between (codes "query") (node_text n) 32)

pub target_cut : (text head rest : List ℕ) (n : Node) → SpellsTarget text n → text ≡ head ++ 32 ∷ rest → (Has head 32 → ⊥) → head ≡ codes "query"
target_cut text head rest n is e lacks =
    let letters : IsAbove 32 (codes "query") = five_letters (lit< tt) (lit< tt) (lit< tt) (lit< tt) (lit< tt) in
    sym (cut_first 32 (codes "query") (node_text n) head rest (above_lacks 32 32 (codes "query") letters (omega arith)) lacks (sym is.0 ∙ e)).0

pub target_node : (text head rest : List ℕ) (n : Node) → SpellsTarget text n → text ≡ head ++ 32 ∷ rest → (Has head 32 → ⊥) → SpellsNode rest n
target_node text head rest n is e lacks =
    let letters : IsAbove 32 (codes "query") = five_letters (lit< tt) (lit< tt) (lit< tt) (lit< tt) (lit< tt) in
    (sym (cut_first 32 (codes "query") (node_text n) head rest (above_lacks 32 32 (codes "query") letters (omega arith)) lacks (sym is.0 ∙ e)).1, is.1)

-- no byte of the first line is a line feed
pub target_above : (n : Node) → FitsNode n → IsAbove 31 (codes "query " ++ node_text n)
target_above n fits =
    let letters : IsAbove 31 (codes "query ") = (lit< tt, (lit< tt, (lit< tt, (lit< tt, (lit< tt, (lit< tt, tt)))))) in
    above_append 31 (codes "query ") (node_text n) letters (above_lower 31 32 (node_text n) (omega arith) (node_above n fits))

-- a line has three to five words
pub words_count : (words : List (List ℕ)) (l : Line) → AreWordsOf words l → (3 ≤ length words) × (length words ≤ 5)
words_count words l is = elim (cases_lt (length words) 3) [
  | inl less ↦ absurd (too_few words l less is)
  | inr some ↦ elim (cases_lt 5 (length words)) [ inl more ↦ absurd (too_many words l more is) | inr few ↦ (some, few) ]
]

-- the words between the blanks of a text are those of a line that it spells
pub line_iff : (text : List ℕ) (words : List (List ℕ)) (l : Line) → words ≡ slice_split (λ b. b == 32) text → AreWordsOf words l ↔ SpellsLine text l
line_iff text words l cut = (
  λ are. (sym (join_with_byte-slice_split 32 text) ∙ ap (join_with_byte 32) (sym cut ∙ are.0), are.1),
  λ is. (cut ∙ ap (slice_split (λ b. b == 32)) is.0 ∙ line_cut l is.1, is.1),
)

pub line_read : {E : Type 0} (r : Result (Option Line) E) (text : List ℕ) (words : List (List ℕ)) → words ≡ slice_split (λ b. b == 32) text
    → IfOk r (λ found. (l : Line) → (found ≡ Some l) ↔ AreWordsOf words l) → IfOk r (λ found. (l : Line) → (found ≡ Some l) ↔ SpellsLine text l)
line_read (Ok found) text words cut reads = λ l. let same = line_iff text words l cut in ((λ e. same.0 ((reads l).0 e)), λ is. (reads l).1 (same.1 is))
line_read (Err e) text words cut reads = tt

second_of_three : (a b c x y z : List ℕ) → a ∷ b ∷ c ∷ [] ≡ x ∷ y ∷ z ∷ [] → b ≡ y
second_of_three a b c x y z e = ap (λ l. get_or l 1 []) e

third_of_three : (a b c x y z : List ℕ) → a ∷ b ∷ c ∷ [] ≡ x ∷ y ∷ z ∷ [] → c ≡ z
third_of_three a b c x y z e = ap (λ l. get_or l 2 []) e

-- heads with other first letters are no line's
other_head : (a b : ℕ) (xs ys : List ℕ) (us vs : List (List ℕ)) → (a == b) ≡ false → (a ∷ xs) ∷ us ≡ (b ∷ ys) ∷ vs → ⊥
other_head a b xs ys us vs apart e = differ a b xs ys apart (ap (λ l. get_or l 0 []) e)

other_count : (us vs : List (List ℕ)) → (length us == length vs) ≡ false → us ≡ vs → ⊥
other_count us vs apart e = true≢false (sym (eq-eqb (length us) (length vs) (ap length e)) ∙ apart)

-- the line `start` of a side and a node that were read
pub start_iff : (first second : List ℕ) (s : Side) (n : Node) → ((x : Side) → (Some s ≡ Some x) ↔ (first ≡ side_text x)) → ((x : Node) → (Some n ≡ Some x) ↔ SpellsNode second x)
    → (l : Line) → (Some (line.Start s n) ≡ Some l) ↔ AreWordsOf (codes "start" ∷ first ∷ second ∷ []) l
start_iff first second s n sides nodes l = (
  λ e. let same : line.Start s n ≡ l = cc in subst (AreWordsOf (codes "start" ∷ first ∷ second ∷ [])) same (spelled, ((nodes n).0 refl).1),
  λ is. by l is,
)
  where
    spelled : codes "start" ∷ first ∷ second ∷ [] ≡ codes "start" ∷ side_text s ∷ node_text n ∷ []
    spelled = λ j. codes "start" ∷ ((sides s).0 refl) j ∷ ((nodes n).0 refl).0 j ∷ []

    by : (l : Line) → AreWordsOf (codes "start" ∷ first ∷ second ∷ []) l → Some (line.Start s n) ≡ Some l
    by (line.Start x m) (e, fits) =
        let a = (sides x).1 (second_of_three (codes "start") first second (codes "start") (side_text x) (node_text m) e) in
        let b = (nodes m).1 (third_of_three (codes "start") first second (codes "start") (side_text x) (node_text m) e, fits) in
        let c : s ≡ x = some_one s x a in
        let d : n ≡ m = some_one n m b in
        λ j. Some (line.Start (c j) (d j))
    by (line.Jump i m) (e, fits) = absurd (other_count _ _ refl e)
    by (line.Put i j m) (e, fits) = absurd (other_count _ _ refl e)
    by (line.Flow x i m) (e, fits) = absurd (other_count _ _ refl e)
    by (line.PushField i j m) (e, fits) = absurd (other_count _ _ refl e)
    by (line.PushCall i m) (e, fits) = absurd (other_count _ _ refl e)
    by (line.LinkField i j m) (e, fits) = absurd (other_count _ _ refl e)
    by (line.LinkCall i m) (e, fits) = absurd (other_count _ _ refl e)
    by (line.Pop x i j m) (e, fits) = absurd (other_count _ _ refl e)
    by (line.BasePop i m) (e, fits) = absurd (other_count _ _ refl e)
    by (line.Shared is js w) (e, fits) = absurd (other_count _ _ refl e)
    by (line.Meet i j) (e, fits) = absurd (other_head 115 109 (codes "tart") (codes "eet") (first ∷ second ∷ []) (decimal i ∷ decimal j ∷ []) refl e)
    by (line.Claim i j) (e, fits) = absurd (other_head 115 99 (codes "tart") (codes "laim") (first ∷ second ∷ []) (decimal i ∷ decimal j ∷ []) refl e)

-- the line `claim` of two numbers that were read
pub claim_iff : (first second : List ℕ) (f k : ℕ) → ((x : ℕ) → (Some f ≡ Some x) ↔ SpellsNumber first x) → ((x : ℕ) → (Some k ≡ Some x) ↔ SpellsNumber second x)
    → (l : Line) → (Some (line.Claim f k) ≡ Some l) ↔ AreWordsOf (codes "claim" ∷ first ∷ second ∷ []) l
claim_iff first second f k fields calls l = (
  λ e. let same : line.Claim f k ≡ l = cc in subst (AreWordsOf (codes "claim" ∷ first ∷ second ∷ [])) same (spelled, (((fields f).0 refl).1, ((calls k).0 refl).1)),
  λ is. by l is,
)
  where
    spelled : codes "claim" ∷ first ∷ second ∷ [] ≡ codes "claim" ∷ decimal f ∷ decimal k ∷ []
    spelled = λ j. codes "claim" ∷ ((fields f).0 refl).0 j ∷ ((calls k).0 refl).0 j ∷ []

    by : (l : Line) → AreWordsOf (codes "claim" ∷ first ∷ second ∷ []) l → Some (line.Claim f k) ≡ Some l
    by (line.Start x m) (e, fits) = absurd (other_head 99 115 (codes "laim") (codes "tart") (first ∷ second ∷ []) (side_text x ∷ node_text m ∷ []) refl e)
    by (line.Jump i m) (e, fits) = absurd (other_count _ _ refl e)
    by (line.Put i j m) (e, fits) = absurd (other_count _ _ refl e)
    by (line.Flow x i m) (e, fits) = absurd (other_count _ _ refl e)
    by (line.PushField i j m) (e, fits) = absurd (other_count _ _ refl e)
    by (line.PushCall i m) (e, fits) = absurd (other_count _ _ refl e)
    by (line.LinkField i j m) (e, fits) = absurd (other_count _ _ refl e)
    by (line.LinkCall i m) (e, fits) = absurd (other_count _ _ refl e)
    by (line.Pop x i j m) (e, fits) = absurd (other_count _ _ refl e)
    by (line.BasePop i m) (e, fits) = absurd (other_count _ _ refl e)
    by (line.Shared is js w) (e, fits) = absurd (other_count _ _ refl e)
    by (line.Meet i j) (e, fits) = absurd (other_head 99 109 (codes "laim") (codes "eet") (first ∷ second ∷ []) (decimal i ∷ decimal j ∷ []) refl e)
    by (line.Claim i j) (e, fits) =
        let a = (fields i).1 (second_of_three (codes "claim") first second (codes "claim") (decimal i) (decimal j) e, fits.0) in
        let b = (calls j).1 (third_of_three (codes "claim") first second (codes "claim") (decimal i) (decimal j) e, fits.1) in
        let c : f ≡ i = some_one f i a in
        let d : k ≡ j = some_one k j b in
        λ m. Some (line.Claim (c m) (d m))

-- the line `shared` of lists that were read
pub shared_iff : (first second string : List ℕ) (is js : List ℕ) (w : List Place) → ((x : List ℕ) → (Some is ≡ Some x) ↔ SpellsNumbers first x) → ((x : List ℕ) → (Some js ≡ Some x) ↔ SpellsNumbers second x)
    → ((x : List Place) → (Some w ≡ Some x) ↔ SpellsString string x) → (l : Line) → (Some (line.Shared is js w) ≡ Some l) ↔ AreWordsOf (codes "shared" ∷ first ∷ second ∷ string ∷ []) l
shared_iff first second string is js w firsts seconds strings l = (
  λ e. let same : line.Shared is js w ≡ l = cc in subst (AreWordsOf (codes "shared" ∷ first ∷ second ∷ string ∷ [])) same (spelled, (((firsts is).0 refl).1, ((seconds js).0 refl).1, ((strings w).0 refl).1)),
  λ as_words. by (four (codes "shared") first second string l as_words),
)
  where
    spelled : codes "shared" ∷ first ∷ second ∷ string ∷ [] ≡ codes "shared" ∷ numbers_text is ∷ numbers_text js ∷ string_text w ∷ []
    spelled = λ j. codes "shared" ∷ ((firsts is).0 refl).0 j ∷ ((seconds js).0 refl).0 j ∷ ((strings w).0 refl).0 j ∷ []

    no_head : (h : Head) → codes "shared" ≡ head_text h → ⊥
    no_head Start e = differ_length (codes "shared") (codes "start") refl e
    no_head Flow e = differ_length (codes "shared") (codes "flow") refl e
    no_head Push e = differ_length (codes "shared") (codes "push") refl e
    no_head Link e = differ_length (codes "shared") (codes "link") refl e
    no_head Pop e = differ_length (codes "shared") (codes "pop") refl e
    no_head Base e = differ_length (codes "shared") (codes "base") refl e

    by : ((codes "shared" ≡ codes "shared") × IsShared first second string l) ⊎ IsFour (codes "shared") first second string l → Some (line.Shared is js w) ≡ Some l
    by (inr step) = absurd (no_head step.h step.is_head)
    by (inl shared) =
        let s = shared.1 in
        let a = some_one is s.is ((firsts s.is).1 s.is_first) in
        let b = some_one js s.js ((seconds s.js).1 s.is_second) in
        let c = some_one w s.w ((strings s.w).1 s.is_string) in
        (λ j. Some (line.Shared (a j) (b j) (c j))) ∙ ap Some s.is_line

-- lists with commas between their elements
pub numbers_joined : (first : ℕ) (others : List ℕ) → numbers_text (first ∷ others) ≡ decimal first ++ flat_map (λ number. 44 ∷ decimal number) others
numbers_joined first [] = sym (append-nil (decimal first))
numbers_joined first (next ∷ others) = ap (λ l. decimal first ++ 44 ∷ l) (numbers_joined next others)

pub calls_joined : (first : Place) (others : List Place) → string_text (first ∷ others) ≡ call_text first ++ flat_map (λ call. 44 ∷ call_text call) others
calls_joined first [] = sym (append-nil (call_text first))
calls_joined first (next ∷ others) = ap (λ l. call_text first ++ 44 ∷ l) (calls_joined next others)

-- five words are those of a list of five
pub five_iff : (words : List (Bor (List ℕ))) (d0 d1 d2 d3 d4 : Bor (List ℕ)) (r : Option Line) → length words ≡ 5
    → ((l : Line) → (r ≡ Some l) ↔ AreWordsOf ((get_or words 0 d0).now ∷ (get_or words 1 d1).now ∷ (get_or words 2 d2).now ∷ (get_or words 3 d3).now ∷ (get_or words 4 d4).now ∷ []) l)
    → (l : Line) → (r ≡ Some l) ↔ AreWordsOf (texts words) l
five_iff [] d0 d1 d2 d3 d4 r count reads = absurd (omega arith)
five_iff (a ∷ []) d0 d1 d2 d3 d4 r count reads = absurd (omega arith)
five_iff (a ∷ b ∷ []) d0 d1 d2 d3 d4 r count reads = absurd (omega arith)
five_iff (a ∷ b ∷ c ∷ []) d0 d1 d2 d3 d4 r count reads = absurd (omega arith)
five_iff (a ∷ b ∷ c ∷ d ∷ []) d0 d1 d2 d3 d4 r count reads = absurd (omega arith)
five_iff (a ∷ b ∷ c ∷ d ∷ e ∷ []) d0 d1 d2 d3 d4 r count reads = reads
five_iff (a ∷ b ∷ c ∷ d ∷ e ∷ f ∷ words) d0 d1 d2 d3 d4 r count reads = absurd (omega arith)

-- other numbers of words are no line's
pub no_line : (words : List (Bor (List ℕ))) → (length words < 3) ⊎ (5 < length words) → (l : Line) → (None ≡ Some l) ↔ AreWordsOf (texts words) l
no_line words other = none_iff {P = AreWordsOf (texts words)} (λ l is.
    let count = words_count (texts words) l is in
    let same = length-map words (λ w. w.now) in
    elim other [ inl few ↦ omega (arith, count, same, few) | inr many ↦ omega (arith, count, same, many) ])

pub on_ok : {A E : Type 0} {P Q : Type 0} (r : Result A E) → (P → Q) → OnOk r P → OnOk r Q
on_ok (Ok x) f p = f p
on_ok (Err e) f p = tt

-- a list that is written
pub numbers_pushed : (numbers : List ℕ) (first : ℕ) (others old mid new : List ℕ) → numbers ≡ first ∷ others → mid ≡ old ++ decimal first → new ≡ mid ++ flat_map (λ number. 44 ∷ decimal number) others
    → new ≡ old ++ numbers_text numbers
numbers_pushed numbers first others old mid new a b c =
    c ∙ ap (λ l. l ++ flat_map (λ number. 44 ∷ decimal number) others) b ∙ append_assoc old (decimal first) (flat_map (λ number. 44 ∷ decimal number) others)
    ∙ ap (λ l. old ++ l) (sym (numbers_joined first others) ∙ ap numbers_text (sym a))

pub calls_pushed : (calls : List Place) (first : Place) (others : List Place) (old mid new : List ℕ) → calls ≡ first ∷ others → mid ≡ old ++ call_text first → new ≡ mid ++ flat_map (λ call. 44 ∷ call_text call) others
    → new ≡ old ++ string_text calls
calls_pushed calls first others old mid new a b c =
    c ∙ ap (λ l. l ++ flat_map (λ call. 44 ∷ call_text call) others) b ∙ append_assoc old (call_text first) (flat_map (λ call. 44 ∷ call_text call) others)
    ∙ ap (λ l. old ++ l) (sym (calls_joined first others) ∙ ap string_text (sym a))
