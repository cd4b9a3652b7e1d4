-- Texts as lines.
use Rattle.std.proofs.Common.{◌≡◌, ℕ, zero, suc, ◌+◌, ◌-◌, ◌<◌, ◌==◌, ◌⊎◌, ◌↔◌, Bool, true, false, cond, List, [], ◌∷◌, ◌++◌, Option, Some, None, All, Bor, codes, drop, get_or, length, map, slice_get, take, refl, sym, ap, subst, ◌∙◌, inl, inr, arith, eq-eqb, true≢false, append_assoc, length-append}
use Rattle.std.specs.List.{join_with_byte, onto_first, slice_split}
use Rattle.std.proofs.lemmas.List.{append-nil, length-map, take_rest}
use Rattle.std.proofs.lemmas.List.Splits.{join_with_byte-slice_split, length-slice_split}
use Rattle.lists.specs.Lists.{Has, Each}
use Rattle.lists.proofs.Places.{slice_get-append_left, slice_get-below, slice_get-push, slice_get-pushed, slice_get-there, take-next}
use Rattle.lists.proofs.Joined.{last_one}
use Rattle.link_laws.proofs.Lists.{all_at, at_all, at_map, each_left, each_right, map_at}
use Rattle.spds_rules.specs.declared.node.Node.{Node}
use Rattle.cert_rules.specs.declared.certificate.Certificate.{Certificate}
use Rattle.cert_rules.specs.declared.line.Line.{Line}
use Rattle.cert_rules.specs.Spelled.{AreLines, FitsLine, FitsNode, HasLineForm, IsFirstBadLine, SpellsCertificate, SpellsLine, SpellsTarget, ended_lines, line_text, node_text}
use Rattle.cert_text.specs.Words.{IsFirstUnread, texts}
use Rattle.cert_text.specs.Written.{written_lines}
use Rattle.cert_text.proofs.LineWords.{line_above, target_above}
use Rattle.cert_text.proofs.NodeWords.{some_one}
use Rattle.cert_text.proofs.Marks.{above_lacks, split_join, texts_push}

-- no part that a text is cut into has the mark
pub uncut : (c : ℕ) (text part : List ℕ) → Has (slice_split (λ b. b == c) text) part → Has part c → ⊥
uncut c [] part (zero, here) has = let same : [] ≡ part = cc in let there = subst (λ l. slice_get l has.0 ≡ Some c) (sym same) has.1 in cc
uncut c [] part (suc n, here) has = cc
uncut c (x ∷ xs) part here has = by (x == c) refl (slice_split (λ b. b == c) xs) (λ p h. uncut c xs p h) here
  where
    alone : (x == c) ≡ false → (xs : List ℕ) → (Has xs c → ⊥) → Has (x ∷ xs) c → ⊥
    alone e xs none (zero, h) = let same : x ≡ c = cc in true≢false (sym (eq-eqb x c same) ∙ e)
    alone e xs none (suc n, h) = none (n, h)

    onto : (rest : List (List ℕ)) → (x == c) ≡ false → ((p : List ℕ) → Has rest p → Has p c → ⊥) → Has (onto_first x rest) part → ⊥
    onto [] e none (zero, h) = let same : x ∷ [] ≡ part = cc in alone e [] (λ q. let there = q.1 in cc) (subst (λ l. Has l c) (sym same) has)
    onto [] e none (suc n, h) = cc
    onto (r ∷ rest) e none (zero, h) = let same : x ∷ r ≡ part = cc in alone e r (none r (0, refl)) (subst (λ l. Has l c) (sym same) has)
    onto (r ∷ rest) e none (suc n, h) = none part (suc n, h) has

    by : (b : Bool) → (x == c) ≡ b → (rest : List (List ℕ)) → ((p : List ℕ) → Has rest p → Has p c → ⊥) → Has (cond b ([] ∷ rest) (onto_first x rest)) part → ⊥
    by true e rest none (zero, h) = let same : [] ≡ part = cc in let there = subst (λ l. slice_get l has.0 ≡ Some c) (sym same) has.1 in cc
    by true e rest none (suc n, h) = none part (n, h) has
    by false e rest none h = onto rest e none h

-- lines that end, and what stands behind them, as parts between line feeds
join_ended : (front : List (List ℕ)) (last : List ℕ) → join_with_byte 10 (front ++ last ∷ []) ≡ ended_lines front ++ last
join_ended [] last = refl
join_ended (x ∷ []) last = sym (append_assoc x (10 ∷ []) last)
join_ended (x ∷ y ∷ front) last = ap (λ l. x ++ 10 ∷ l) (join_ended (y ∷ front) last) ∙ sym (append_assoc x (10 ∷ ended_lines (y ∷ front)) last)

-- these are the parts of the text
split_ended : (front : List (List ℕ)) (last : List ℕ) → ((l : List ℕ) → Has (front ++ last ∷ []) l → Has l 10 → ⊥) → slice_split (λ b. b == 10) (ended_lines front ++ last) ≡ front ++ last ∷ []
split_ended front last lacks =
    ap (slice_split (λ b. b == 10)) (sym (join_ended front last))
    ∙ split_join 10 (front ++ last ∷ []) (let below = slice_get-below (front ++ last ∷ []) (length front) last (slice_get-push front last) in omega arith) lacks

-- a text has its lines in one way
pub lines_one : (bytes : List ℕ) (a b : List (List ℕ)) → AreLines bytes a → AreLines bytes b → a ≡ b
lines_one bytes a b p q = by p.ended q.ended
  where
    whole : (ls : List (List ℕ)) → AreLines bytes ls → bytes ≡ ended_lines ls → slice_split (λ b. b == 10) bytes ≡ ls ++ [] ∷ []
    whole ls are e =
        ap (slice_split (λ b. b == 10)) (e ∙ sym (append-nil (ended_lines ls)))
        ∙ split_ended ls [] (λ l h. elim (slice_get-pushed ls [] h.0 l h.1) [
          | inl there ↦ are.cut l (h.0, there)
          | inr last ↦ λ has. let none = subst (λ k. slice_get k has.0 ≡ Some 10) last.1 has.1 in cc
        ])

    open_ended : (ls front : List (List ℕ)) (byte : ℕ) (rest : List ℕ) → AreLines bytes ls → ls ≡ front ++ (byte ∷ rest) ∷ [] → bytes ≡ ended_lines front ++ byte ∷ rest → slice_split (λ b. b == 10) bytes ≡ ls
    open_ended ls front byte rest are e f =
        ap (slice_split (λ b. b == 10)) f
        ∙ split_ended front (byte ∷ rest) (λ l h. are.cut l (subst (λ k. Has k l) (sym e) h))
        ∙ sym e

    by : ((bytes ≡ ended_lines a) ⊎ ((front : List (List ℕ)) × (byte : ℕ) × (rest : List ℕ) × (a ≡ front ++ (byte ∷ rest) ∷ []) × (bytes ≡ ended_lines front ++ byte ∷ rest)))
        → ((bytes ≡ ended_lines b) ⊎ ((front : List (List ℕ)) × (byte : ℕ) × (rest : List ℕ) × (b ≡ front ++ (byte ∷ rest) ∷ []) × (bytes ≡ ended_lines front ++ byte ∷ rest)))
        → a ≡ b
    by (inl e) (inl f) = (last_one a b [] [] (sym (whole a p e) ∙ whole b q f)).0
    by (inl e) (inr f) =
        let same = last_one a f.0 [] (f.1 ∷ f.2) (sym (whole a p e) ∙ open_ended b f.0 f.1 f.2 q f.3 f.4 ∙ f.3) in
        let never : [] ≡ f.1 ∷ f.2 = same.1 in
        cc
    by (inr e) (inl f) =
        let same = last_one b e.0 [] (e.1 ∷ e.2) (sym (whole b q f) ∙ open_ended a e.0 e.1 e.2 p e.3 e.4 ∙ e.3) in
        let never : [] ≡ e.1 ∷ e.2 = same.1 in
        cc
    by (inr e) (inr f) = sym (open_ended a e.0 e.1 e.2 p e.3 e.4) ∙ open_ended b f.0 f.1 f.2 q f.3 f.4

-- the parts of a text are its lines, where the last isn't empty
pub parts_lines : (bytes : List ℕ) (front : List (List ℕ)) (byte : ℕ) (rest : List ℕ) → slice_split (λ b. b == 10) bytes ≡ front ++ (byte ∷ rest) ∷ [] → AreLines bytes (front ++ (byte ∷ rest) ∷ [])
parts_lines bytes front byte rest e = record {
  cut = λ l h. uncut 10 bytes l (subst (λ k. Has k l) (sym e) h);
  ended = inr (front, byte, rest, refl, sym (join_with_byte-slice_split 10 bytes) ∙ ap (join_with_byte 10) e ∙ join_ended front (byte ∷ rest));
}

-- and where it is, those before it
pub parts_ended : (bytes : List ℕ) (front : List (List ℕ)) → slice_split (λ b. b == 10) bytes ≡ front ++ [] ∷ [] → AreLines bytes front
parts_ended bytes front e = record {
  cut = λ l h. uncut 10 bytes l (subst (λ k. Has k l) (sym e) (h.0, slice_get-append_left front ([] ∷ []) h.0 l h.1));
  ended = inl (sym (join_with_byte-slice_split 10 bytes) ∙ ap (join_with_byte 10) e ∙ join_ended front [] ∙ append-nil (ended_lines front));
}

-- the first line that isn't one of a certificate, behind a first line that names a target
pub behind_first : (bytes : List ℕ) (texts : List (List ℕ)) (first : List ℕ) (others : List (List ℕ)) (target : Node) (at : ℕ) → AreLines bytes texts → texts ≡ first ∷ others → SpellsTarget first target
    → IsFirstUnread others at → IsFirstBadLine bytes at
behind_first bytes texts first others target at are e spells unread = record {
  texts = texts;
  in_lines = are;
  within = let below = slice_get-below others unread.number unread.text unread.there in inl (rw e (omega (arith, below, unread.is_behind)));
  before = λ number less. rw e (formed number (omega (arith, less, unread.is_behind)));
  bad = λ form. not_formed (subst (λ l. HasLineForm l at) e form);
}
  where
    formed : (number : ℕ) → number < unread.number + 1 → HasLineForm (first ∷ others) number
    formed zero less = (first, target, refl, spells)
    formed (suc number) less =
        let below = slice_get-below others unread.number unread.text unread.there in
        let text = slice_get-there others number (omega arith) in
        let l = unread.before number text.0 (omega arith) text.1 in
        (text.0, l.0, text.1, l.1)

    not_formed : HasLineForm (first ∷ others) at → ⊥
    not_formed form =
        let at_suc = subst (λ n. HasLineForm (first ∷ others) n) (unread.is_behind ∙ add_one unread.number) form in
        let there = unread.there in
        let here = at_suc.2 in
        let same : at_suc.0 ≡ unread.text = cc in
        unread.bad at_suc.1 (subst (λ t. SpellsLine t at_suc.1) same at_suc.3)
      where
        add_one : (n : ℕ) → n + 1 ≡ suc n
        add_one n = omega arith

-- lines that are spelled can be
pub spelled_fit : (texts : List (List ℕ)) (lines : List Line) → Each SpellsLine texts lines → All FitsLine lines
spelled_fit texts lines each = all_at FitsLine lines (λ i l there. (each_right SpellsLine texts lines i l each there).2.1)

-- what is left of the parts of a text, where the last of them was taken
module _ (bytes : List ℕ) (parts front : List (Bor (List ℕ))) (last : Bor (List ℕ)) (cut : texts parts ≡ slice_split (λ b. b == 10) bytes) (taken : parts ≡ front ++ last ∷ []) where
  left : slice_split (λ b. b == 10) bytes ≡ texts front ++ last.now ∷ []
  left = sym cut ∙ ap texts taken ∙ texts_push front last

  -- it is put back
  pub popped_lines : (last.now ≡ [] → ⊥) → AreLines bytes (texts (front ++ last ∷ []))
  popped_lines some = subst (AreLines bytes) (sym (texts_push front last)) (by last.now left some)
    where
      by : (text : List ℕ) → slice_split (λ b. b == 10) bytes ≡ texts front ++ text ∷ [] → (text ≡ [] → ⊥) → AreLines bytes (texts front ++ text ∷ [])
      by [] e none = absurd (none refl)
      by (byte ∷ rest) e none = parts_lines bytes (texts front) byte rest e

  -- it is empty
  pub popped_ended : last.now ≡ [] → AreLines bytes (texts front)
  popped_ended none = parts_ended bytes (texts front) (left ∙ ap (λ l. texts front ++ l ∷ []) none)

-- there is a part
pub some_parts : (bytes : List ℕ) (parts : List (Bor (List ℕ))) → texts parts ≡ slice_split (λ b. b == 10) bytes → length parts ≡ 0 → ⊥
some_parts bytes parts cut none =
    let count = length-slice_split (λ b. b == 10) bytes in
    let same = length-map parts (λ w. w.now) in
    omega (arith, count, same, ap length cut)

pub nil_of : (xs : List ℕ) → length xs ≡ 0 → xs ≡ []
nil_of [] e = refl
nil_of (x ∷ xs) e = absurd (omega arith)

-- one line more is written
pub ended_push : (ls : List (List ℕ)) (l : List ℕ) → ended_lines (ls ++ l ∷ []) ≡ ended_lines ls ++ (l ++ 10 ∷ [])
ended_push [] l = refl
ended_push (x ∷ ls) l = ap (λ k. x ++ 10 ∷ k) (ended_push ls l) ∙ sym (append_assoc x (10 ∷ ended_lines ls) (l ++ 10 ∷ []))

-- the lines of a list that are written, one more
pub lines_next : (lines : List Line) (i : ℕ) (l : Line) → slice_get lines i ≡ Some l → ended_lines (map line_text (take (i + 1) lines)) ≡ ended_lines (map line_text (take i lines)) ++ (line_text l ++ 10 ∷ [])
lines_next lines i l there = ap (λ k. ended_lines (map line_text k)) (take-next lines i l there) ∙ ap ended_lines (map_push (take i lines)) ∙ ended_push (map line_text (take i lines)) (line_text l)
  where
    map_push : (ls : List Line) → map line_text (ls ++ l ∷ []) ≡ map line_text ls ++ line_text l ∷ []
    map_push [] = refl
    map_push (x ∷ ls) = ap (λ k. line_text x ∷ k) (map_push ls)

-- the text that is written spells the certificate
pub written_spells : (bytes : List ℕ) (c : Certificate) → bytes ≡ ended_lines (written_lines c) → FitsNode c.target → All FitsLine c.lines → SpellsCertificate bytes c
written_spells bytes c is target lines = record {
  first = codes "query " ++ node_text c.target;
  others = map line_text c.lines;
  in_lines = record { cut = whole; ended = inl is };
  names = (refl, target);
  spelled = record {
    as_many = length-map c.lines line_text;
    each = λ i text l at there. (text_of i text l at there, at_all FitsLine c.lines i l lines there);
  };
}
  where
    text_of : (i : ℕ) (text : List ℕ) (l : Line) → slice_get (map line_text c.lines) i ≡ Some text → slice_get c.lines i ≡ Some l → text ≡ line_text l
    text_of i text l at there = let here = map_at line_text c.lines i l there in cc

    whole : (l : List ℕ) → Has ((codes "query " ++ node_text c.target) ∷ map line_text c.lines) l → Has l 10 → ⊥
    whole l (zero, e) =
        let same : codes "query " ++ node_text c.target ≡ l = cc in
        λ h. above_lacks 31 10 (codes "query " ++ node_text c.target) (target_above c.target target) (omega arith) (subst (λ k. Has k 10) (sym same) h)
    whole l (suc i, e) =
        let at = at_map line_text c.lines i l e in
        λ h. above_lacks 31 10 (line_text at.0) (line_above at.0 (at_all FitsLine c.lines i at.0 lines at.1)) (omega arith) (subst (λ k. Has k 10) at.2 h)

pub word_at : (words : List (Bor (List ℕ))) (i : ℕ) (d : Bor (List ℕ)) → i < length words → slice_get (texts words) i ≡ Some (get_or words i d).now
word_at [] i d less = absurd (omega arith)
word_at (w ∷ words) zero d less = refl
word_at (w ∷ words) (suc i) d less = word_at words i d (omega arith)

none_some : (l : Line) → None ≡ Some l → ⊥
none_some l e = cc

-- where a line isn't one of a certificate, the lines are none
pub lines_none : (others : List (Bor (List ℕ))) (i : ℕ) (d : Bor (List ℕ)) (found : Option Line) → i < length others → found ≡ None → ((l : Line) → (found ≡ Some l) ↔ SpellsLine (get_or others i d).now l)
    → (ls : List Line) → Each SpellsLine (texts others) ls → ⊥
lines_none others i d found less none reads ls each =
    let at = each_left SpellsLine (texts others) ls i (get_or others i d).now each (word_at others i d less) in
    none_some at.0 (sym none ∙ (reads at.0).1 at.2)

-- it is the first, where those before it are read
pub lines_unread : (others : List (Bor (List ℕ))) (i : ℕ) (d : Bor (List ℕ)) (found : Option Line) (read : List Line) → i < length others → found ≡ None
    → ((l : Line) → (found ≡ Some l) ↔ SpellsLine (get_or others i d).now l) → Each SpellsLine (take i (texts others)) read → IsFirstUnread (texts others) (i + 1)
lines_unread others i d found read less none reads each = record {
  number = i;
  is_behind = refl;
  text = (get_or others i d).now;
  there = word_at others i d less;
  before = λ k earlier below there.
      let at = each_left SpellsLine (take i (texts others)) read k earlier each (taken (texts others) i k earlier below there) in
      (at.0, at.2);
  bad = λ l is. none_some l (sym none ∙ (reads l).1 is);
}
  where
    taken : (xs : List (List ℕ)) (i k : ℕ) (x : List ℕ) → k < i → slice_get xs k ≡ Some x → slice_get (take i xs) k ≡ Some x
    taken xs zero k x below e = absurd (omega arith)
    taken [] (suc i) k x below e = cc
    taken (y ∷ xs) (suc i) zero x below e = e
    taken (y ∷ xs) (suc i) (suc k) x below e = taken xs i k x (omega arith) e

-- one line more is read
pub lines_more : (others : List (Bor (List ℕ))) (i : ℕ) (d : Bor (List ℕ)) (found : Option Line) (read new : List Line) (l : Line) → i < length others → new ≡ read ++ l ∷ [] → found ≡ Some l
    → ((x : Line) → (found ≡ Some x) ↔ SpellsLine (get_or others i d).now x) → Each SpellsLine (take i (texts others)) read → Each SpellsLine (take (i + 1) (texts others)) new
lines_more others i d found read new l less is some reads each =
    subst (λ ls. Each SpellsLine ls new) (sym (take-next (texts others) i (get_or others i d).now (word_at others i d less)))
    (subst (Each SpellsLine (take i (texts others) ++ (get_or others i d).now ∷ [])) (sym is) (pushed (take i (texts others)) read (get_or others i d).now ((reads l).0 some) each))
  where
    pushed : (xs : List (List ℕ)) (ys : List Line) (x : List ℕ) → SpellsLine x l → Each SpellsLine xs ys → Each SpellsLine (xs ++ x ∷ []) (ys ++ l ∷ [])
    pushed xs ys x spells each = record {
      as_many = omega (arith, length-append xs (x ∷ []), length-append ys (l ∷ []), each.as_many);
      each = λ k a b p q. elim (slice_get-pushed xs x k a p) [
        | inl there ↦ elim (slice_get-pushed ys l k b q) [
          | inl here ↦ each.each k a b there here
          | inr last ↦ let below = slice_get-below xs k a there in absurd (omega (arith, below, last.0, each.as_many))
        ]
        | inr end ↦ elim (slice_get-pushed ys l k b q) [
          | inl here ↦ let below = slice_get-below ys k b here in absurd (omega (arith, below, end.0, each.as_many))
          | inr last ↦ subst (λ t. SpellsLine t b) (sym end.1) (subst (SpellsLine x) (sym last.1) spells)
        ]
      ];
    }

-- each list that is spelled begins with what was read
pub lines_begin : (others : List (Bor (List ℕ))) (i : ℕ) (d : Bor (List ℕ)) (found : Option Line) (read new : List Line) (l : Line) → i < length others → new ≡ read ++ l ∷ [] → found ≡ Some l
    → ((x : Line) → (found ≡ Some x) ↔ SpellsLine (get_or others i d).now x) → ((ls : List Line) → Each SpellsLine (texts others) ls → take i ls ≡ read)
    → (ls : List Line) → Each SpellsLine (texts others) ls → take (i + 1) ls ≡ new
lines_begin others i d found read new l less is some reads before ls each =
    let at = each_left SpellsLine (texts others) ls i (get_or others i d).now each (word_at others i d less) in
    let same = some_one l at.0 (sym some ∙ (reads at.0).1 at.2) in
    take-next ls i at.0 at.1 ∙ ap (λ k. k ++ at.0 ∷ []) (before ls each) ∙ ap (λ x. read ++ x ∷ []) (sym same) ∙ sym is

module _ (bytes : List ℕ) (items : List (Bor (List ℕ))) (first : Bor (List ℕ)) (are : AreLines bytes (texts items)) (at : Some first ≡ slice_get items 0) where
  begins : (rest : List (Bor (List ℕ))) × (items ≡ first ∷ rest)
  begins = by items at
    where
      by : (xs : List (Bor (List ℕ))) → Some first ≡ slice_get xs 0 → (rest : List (Bor (List ℕ))) × (xs ≡ first ∷ rest)
      by [] e = cc
      by (x ∷ xs) e = let same : first ≡ x = cc in (xs, ap (λ z. z ∷ xs) (sym same))

  -- what stands behind the first line
  behind : (all : List (Bor (List ℕ))) → all ≡ items → take (length all - 1) (drop 1 all) ≡ begins.0
  behind all same = take_rest all 1 ∙ ap (drop 1) (same ∙ begins.1)

  -- a certificate names its target in the first line, and the others are its lines
  module _ (c : Certificate) (spells : SpellsCertificate bytes c) where
    same_lines : spells.first ∷ spells.others ≡ first.now ∷ texts begins.0
    same_lines = lines_one bytes (spells.first ∷ spells.others) (texts items) spells.in_lines are ∙ ap texts begins.1

    pub target_first : SpellsTarget first.now c.target
    target_first = subst (λ l. SpellsTarget l c.target) (ap (λ ls. get_or ls 0 []) same_lines) spells.names

    pub lines_behind : (all : List (Bor (List ℕ))) → all ≡ items → Each SpellsLine (texts (take (length all - 1) (drop 1 all))) c.lines
    lines_behind all same =
        let rest : spells.others ≡ texts begins.0 = ap (drop 1) same_lines in
        subst (λ l. Each SpellsLine (texts l) c.lines) (sym (behind all same)) (subst (λ l. Each SpellsLine l c.lines) rest spells.spelled)

  -- the first of them that isn't read is the first that isn't one of a certificate
  pub unread_bad : (all : List (Bor (List ℕ))) → all ≡ items → (n : Node) → SpellsTarget first.now n → (number : ℕ) → IsFirstUnread (texts (take (length all - 1) (drop 1 all))) number → IsFirstBadLine bytes number
  unread_bad all same n names number unread =
      behind_first bytes (texts items) first.now (texts begins.0) n number are (ap texts begins.1) names (subst (λ l. IsFirstUnread (texts l) number) (behind all same) unread)

-- one line more is written
pub written_next : (lines : List Line) (i : ℕ) (d : Line) (old before with_line new : List ℕ) → i < length lines → before ≡ old ++ ended_lines (map line_text (take i lines))
    → with_line ≡ before ++ line_text (get_or lines i d) → new ≡ with_line ++ 10 ∷ [] → new ≡ old ++ ended_lines (map line_text (take (i + 1) lines))
written_next lines i d old before with_line new less a b c =
    c ∙ ap (λ l. l ++ 10 ∷ []) (b ∙ ap (λ l. l ++ line_text (get_or lines i d)) a)
    ∙ append_assoc (old ++ ended_lines (map line_text (take i lines))) (line_text (get_or lines i d)) (10 ∷ [])
    ∙ append_assoc old (ended_lines (map line_text (take i lines))) (line_text (get_or lines i d) ++ 10 ∷ [])
    ∙ ap (λ l. old ++ l) (sym (lines_next lines i (get_or lines i d) (line_at lines i less)))
  where
    line_at : (ls : List Line) (k : ℕ) → k < length ls → slice_get ls k ≡ Some (get_or ls k d)
    line_at [] k below = absurd (omega arith)
    line_at (x ∷ ls) zero below = refl
    line_at (x ∷ ls) (suc k) below = line_at ls k (omega arith)

-- the whole text is added
pub written_all : (c : Certificate) (b0 b1 b2 b3 b4 : List ℕ) (lines : List Line) → b1 ≡ b0 ++ codes "query " → b2 ≡ b1 ++ node_text c.target → b3 ≡ b2 ++ 10 ∷ [] → lines ≡ c.lines
    → b4 ≡ b3 ++ ended_lines (map line_text lines) → b4 ≡ b0 ++ ended_lines (written_lines c)
written_all c b0 b1 b2 b3 b4 lines e1 e2 e3 same e4 =
    let first = codes "query " ++ node_text c.target in
    let head : b2 ≡ b0 ++ first = e2 ∙ ap (λ l. l ++ node_text c.target) e1 ∙ append_assoc b0 (codes "query ") (node_text c.target) in
    e4 ∙ ap (λ l. b3 ++ ended_lines (map line_text l)) same
    ∙ ap (λ l. l ++ ended_lines (map line_text c.lines)) (e3 ∙ ap (λ l. l ++ 10 ∷ []) head)
    ∙ append_assoc (b0 ++ first) (10 ∷ []) (ended_lines (map line_text c.lines))
    ∙ append_assoc b0 first (10 ∷ ended_lines (map line_text c.lines))
