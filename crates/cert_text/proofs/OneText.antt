-- A text spells one certificate.
use Rattle.std.proofs.Common.{◌≡◌, ◌↔◌, ◌⊎◌, ℕ, zero, suc, ◌<◌, ◌^◌, ◌==◌, Bool, true, false, cond, List, [], ◌∷◌, ◌++◌, Option, Some, All, codes, drop, length, get_or, slice_get, lit<, refl, sym, ap, subst, ◌∙◌, inl, inr, arith}
use Rattle.std.specs.Fmt.{decimal}
use Rattle.std.specs.List.{slice_split}
use Rattle.std.proofs.lemmas.Bool.{cases_lt}
use Rattle.lists.specs.Lists.{Has, Each}
use Rattle.lists.proofs.Places.{slice_get-there}
use Rattle.link_laws.proofs.Lists.{each_left}
use Rattle.link_sites.specs.declared.place.Place.{Place}
use Rattle.spds_rules.specs.declared.node.Node.{Node}
use Rattle.spds_rules.specs.declared.node.Var.{Var}
use Rattle.spds_rules.specs.declared.node.Var.TheVariants.{Local, This, Param, Caught, Thrown, Made, Nested, Raised, Text, Class}
use Rattle.cert_rules.specs.declared.certificate.Certificate.{Certificate}
use Rattle.cert_rules.specs.declared.line.Line.{Line}
use Rattle.cert_rules.specs.declared.line.Line.TheVariants as line
use Rattle.cert_rules.specs.declared.line.Side.{Side}
use Rattle.cert_rules.specs.declared.line.Side.TheVariants.{Field, Call}
use Rattle.cert_rules.specs.Spelled.{FitNumbers, FitsCall, FitsLine, FitsNode, FitsVar, HasLineForm, IsFirstBadLine, IsRoomy, SpellsCertificate, SpellsLine, SpellsTarget, call_text, flight_mark, line_words, node_text, numbers_text, side_text, string_text, var_text}
use Rattle.cert_text.specs.declared.heads.Head.{Head}
use Rattle.cert_text.specs.declared.heads.Head.TheVariants as head
use Rattle.cert_text.specs.Heads.{head_text, line_of_five, line_of_four}
use Rattle.cert_text.specs.Words.{AreWordsOf, IsNamed, IsNumbered, SpellsIndex, SpellsNode, SpellsNumber, SpellsNumbers, SpellsString}
use Rattle.cert_text.proofs.LineWords.{calls_cut, claim_iff, five, four, line_iff, numbers_cut, shared_iff, start_iff, target_node}
use Rattle.cert_text.proofs.ListWords.{dash_iff, roomy_one, texts_one}
use Rattle.cert_text.proofs.Marks.{IsAbove, above_lacks}
use Rattle.lists.proofs.Cutting.{has_more}
use Rattle.cert_text.proofs.NodeWords.{call_one, differ, differ_length, index_marked, marked_none, named_only, named_or_numbered, node_parts, plain_index, some_iff, some_one, unmarked}
use Rattle.cert_text.proofs.Numerals.{decimal_above, number_one}
use Rattle.cert_text.proofs.TextLines.{lines_one}

-- the variable with a letter and a number
abbrev made : ℕ → ℕ → Var
made letter n = cond (letter == 108) (Local n) (cond (letter == 112) (Param n) (cond (letter == 110) (Nested n) (cond (letter == 114) (Raised n) (cond (letter == 116) (Text n) (Class n)))))

is_made : (letter n : ℕ) (v : Var) → IsNumbered letter n v → v ≡ made letter n
is_made letter n (Local x) (e, f) = ap Local f ∙ sym (ap (λ l. made l n) e)
is_made letter n (Param x) (e, f) = ap Param f ∙ sym (ap (λ l. made l n) e)
is_made letter n (Nested x) (e, f, small) = ap Nested f ∙ sym (ap (λ l. made l n) e)
is_made letter n (Raised x) (e, f, small) = ap Raised f ∙ sym (ap (λ l. made l n) e)
is_made letter n (Text x) (e, f) = ap Text f ∙ sym (ap (λ l. made l n) e)
is_made letter n (Class x) (e, f) = ap Class f ∙ sym (ap (λ l. made l n) e)
is_made letter n _ is = absurd is

-- a variable is known by its text
numbered_one : (letter n : ℕ) (v w : Var) → IsNumbered letter n v → IsRoomy n → FitsVar v → FitsVar w → var_text v ≡ letter ∷ decimal n → var_text v ≡ var_text w → v ≡ w
numbered_one letter n v w is small fits other text e = elim (named_or_numbered letter (decimal n) w (sym text ∙ e, other)) [
  | inl named ↦ named_only w v named (sym e) fits
  | inr found ↦
      let same : n ≡ found.0 = number_one (decimal n) n found.0 (refl, small) found.1 in
      is_made letter n v is ∙ ap (made letter) same ∙ sym (is_made letter found.0 w found.2)
]

var_one : (v w : Var) → FitsVar v → FitsVar w → var_text v ≡ var_text w → v ≡ w
var_one (Local x) w p q e = numbered_one 108 x (Local x) w (refl, refl) p p q refl e
var_one (Param x) w p q e = numbered_one 112 x (Param x) w (refl, refl) p p q refl e
var_one (Nested x) w p q e = numbered_one 110 x (Nested x) w (refl, refl, p) (omega arith) p q refl e
var_one (Raised x) w p q e = numbered_one 114 x (Raised x) w (refl, refl, p) (omega arith) p q refl e
var_one (Text x) w p q e = numbered_one 116 x (Text x) w (refl, refl) p p q refl e
var_one (Class x) w p q e = numbered_one 107 x (Class x) w (refl, refl) p p q refl e
var_one This w p q e = sym (named_only This w tt e q)
var_one Caught w p q e = sym (named_only Caught w tt e q)
var_one Thrown w p q e = sym (named_only Thrown w tt e q)
var_one Made w p q e = sym (named_only Made w tt e q)

-- so is an index with its mark
index_one : (word : List ℕ) (i j : ℕ) (a b : Bool) → SpellsIndex word i a → SpellsIndex word j b → (i ≡ j) × (a ≡ b)
index_one word i j true b p q =
    let marked = index_marked word (decimal i) [] p.0 (above_lacks 47 33 (decimal i) (decimal_above i p.1) (omega arith)) j b q in
    (number_one (decimal i) i j (refl, p.1) marked.2, sym marked.0)
index_one word i j false true p q = absurd (unmarked word i p (marked_none word j q))
index_one word i j false false p q = (number_one word i j (plain_index word i p) (plain_index word j q), refl)

has_behind : (xs ys : List ℕ) (c : ℕ) → Has (xs ++ ys) c → Has xs c ⊎ Has ys c
has_behind [] ys c h = inr h
has_behind (x ∷ xs) ys c (zero, e) = inl (zero, e)
has_behind (x ∷ xs) ys c (suc i, e) = elim (has_behind xs ys c (i, e)) [ inl a ↦ inl (has_more x c xs a) | inr b ↦ inr b ]

no_dot : (i : ℕ) (raised : Bool) → IsRoomy i → Has (decimal i ++ flight_mark raised) 46 → ⊥
no_dot i raised small h = elim (has_behind (decimal i) (flight_mark raised) 46 h) [ inl a ↦ above_lacks 47 46 (decimal i) (decimal_above i small) (omega arith) a | inr b ↦ mark raised b ]
  where
    mark : (raised : Bool) → Has (flight_mark raised) 46 → ⊥
    mark true (zero, e) = let same : ◌≡◌ {A = ℕ} 33 46 = cc in omega (arith, same)
    mark true (suc k, e) = cc
    mark false (k, e) = cc

-- a node
node_one : (word : List ℕ) (n m : Node) → SpellsNode word n → SpellsNode word m → n ≡ m
node_one word n m p q =
    let parts = node_parts word (decimal n.place.method) ((decimal n.place.index ++ flight_mark n.place.raised) ++ 46 ∷ var_text n.var) (decimal n.place.index ++ flight_mark n.place.raised) (var_text n.var) m q
    p.0 (above_lacks 47 46 (decimal n.place.method) (decimal_above n.place.method p.1.0) (omega arith)) refl (no_dot n.place.index n.place.raised p.1.1) in
    let method = number_one (decimal n.place.method) n.place.method m.place.method (refl, p.1.0) parts.is_method in
    let index = index_one (decimal n.place.index ++ flight_mark n.place.raised) n.place.index m.place.index n.place.raised m.place.raised (refl, p.1.1) parts.is_index in
    let var = var_one n.var m.var p.1.2 parts.is_var.1 parts.is_var.0 in
    λ j. record { place = record { method = method j; index = index.0 j; raised = index.1 j }; var = var j }

-- a side and a head by their first letters
side_one : (a b : Side) → side_text a ≡ side_text b → a ≡ b
side_one a b e = sym (read a) ∙ ap (λ w. cond (get_or w 0 0 == 70) Field Call) e ∙ read b
  where
    read : (s : Side) → cond (get_or (side_text s) 0 0 == 70) Field Call ≡ s
    read Field = refl
    read Call = refl

abbrev by_letters : List ℕ → Head
by_letters w = cond (get_or w 0 0 == 115) head.Start (cond (get_or w 0 0 == 102) head.Flow (cond (get_or w 0 0 == 108) head.Link (cond (get_or w 0 0 == 98) head.Base (cond (get_or w 1 0 == 117) head.Push head.Pop))))

head_one : (a b : Head) → head_text a ≡ head_text b → a ≡ b
head_one a b e = sym (read a) ∙ ap by_letters e ∙ read b
  where
    read : (h : Head) → by_letters (head_text h) ≡ h
    read head.Start = refl
    read head.Flow = refl
    read head.Push = refl
    read head.Link = refl
    read head.Pop = refl
    read head.Base = refl

-- a line that goes on from one other, and one that cites a second
module _ (h : Head) (s : Side) (i : ℕ) (n : Node) (l m : Line) where
  four_one : (head_text h ≡ codes "shared" → ⊥) → IsRoomy i → FitsNode n → line_of_four h s i n ≡ Some l → AreWordsOf (head_text h ∷ side_text s ∷ decimal i ∷ node_text n ∷ []) m → l ≡ m
  four_one other small fits is words = elim (four (head_text h) (side_text s) (decimal i) (node_text n) m words) [
    | inl shared ↦ absurd (other shared.0)
    | inr f ↦
        let heads = head_one h f.h f.is_head in
        let sides = side_one s f.s f.is_side in
        let numbers = number_one (decimal i) i f.i (refl, small) f.is_from in
        let nodes = node_one (node_text n) n f.n (refl, fits) f.is_node in
        some_one l m (sym is ∙ (λ j. line_of_four (heads j) (sides j) (numbers j) (nodes j)) ∙ f.is_line)
  ]

  five_one : (k : ℕ) → IsRoomy i → IsRoomy k → FitsNode n → line_of_five h s i k n ≡ Some l
      → AreWordsOf (head_text h ∷ side_text s ∷ decimal i ∷ decimal k ∷ node_text n ∷ []) m → l ≡ m
  five_one k small few fits is words =
      let f = five (head_text h) (side_text s) (decimal i) (decimal k) (node_text n) m words in
      let heads = head_one h f.h f.is_head in
      let sides = side_one s f.s f.is_side in
      let numbers = number_one (decimal i) i f.i (refl, small) f.is_from in
      let seconds = number_one (decimal k) k f.j (refl, few) f.is_second in
      let nodes = node_one (node_text n) n f.n (refl, fits) f.is_node in
      some_one l m (sym is ∙ (λ j. line_of_five (heads j) (sides j) (numbers j) (seconds j) (nodes j)) ∙ f.is_line)

no_start : head_text head.Start ≡ codes "shared" → ⊥
no_start e = differ_length (codes "start") (codes "shared") refl e

no_flow : head_text head.Flow ≡ codes "shared" → ⊥
no_flow e = differ_length (codes "flow") (codes "shared") refl e

no_push : head_text head.Push ≡ codes "shared" → ⊥
no_push e = differ_length (codes "push") (codes "shared") refl e

no_link : head_text head.Link ≡ codes "shared" → ⊥
no_link e = differ_length (codes "link") (codes "shared") refl e

no_base : head_text head.Base ≡ codes "shared" → ⊥
no_base e = differ_length (codes "base") (codes "shared") refl e

-- a number, a list and a string are those that are read of their words
number_read : (i : ℕ) → IsRoomy i → (x : ℕ) → (Some i ≡ Some x) ↔ SpellsNumber (decimal i) x
number_read i small = some_iff i (refl, small) (λ y q. sym (number_one (decimal i) i y (refl, small) q))

node_read : (n : Node) → FitsNode n → (x : Node) → (Some n ≡ Some x) ↔ SpellsNode (node_text n) x
node_read n fits = some_iff n (refl, fits) (λ y q. sym (node_one (node_text n) n y (refl, fits) q))

side_read : (s x : Side) → (Some s ≡ Some x) ↔ (side_text s ≡ side_text x)
side_read s = some_iff s refl (λ y e. sym (side_one s y e))

numbers_one : (word : List ℕ) (xs ys : List ℕ) → SpellsNumbers word xs → SpellsNumbers word ys → xs ≡ ys
numbers_one word xs ys p q =
    texts_one decimal IsRoomy roomy_one (slice_split (λ b. b == 44) word) xs ys (numbers_cut word xs p, p.1.1) (numbers_cut word ys q, q.1.1)

numbers_read : (xs : List ℕ) → FitNumbers xs → (ys : List ℕ) → (Some xs ≡ Some ys) ↔ SpellsNumbers (numbers_text xs) ys
numbers_read xs fits = some_iff xs (refl, fits) (λ ys q. sym (numbers_one (numbers_text xs) xs ys (refl, fits) q))

string_one : (word : List ℕ) (xs ys : List Place) → SpellsString word xs → SpellsString word ys → xs ≡ ys
string_one word [] ys p q = some_one [] ys ((dash_iff word [] p.0 refl ys).1 q)
string_one word (x ∷ xs) [] p q = sym (some_one [] (x ∷ xs) ((dash_iff word [] q.0 refl (x ∷ xs)).1 p))
string_one word (x ∷ xs) (y ∷ ys) p q =
    texts_one call_text FitsCall call_one (slice_split (λ b. b == 44) word) (x ∷ xs) (y ∷ ys) (calls_cut word x xs p, p.1) (calls_cut word y ys q, q.1)

string_read : (xs : List Place) → All FitsCall xs → (ys : List Place) → (Some xs ≡ Some ys) ↔ SpellsString (string_text xs) ys
string_read xs fits = some_iff xs (refl, fits) (λ ys q. sym (string_one (string_text xs) xs ys (refl, fits) q))

-- the words of `meet` are those of no other line
meet_one : (i k : ℕ) (m : Line) → IsRoomy i → IsRoomy k → AreWordsOf (codes "meet" ∷ decimal i ∷ decimal k ∷ []) m → line.Meet i k ≡ m
meet_one i k (line.Start s n) p q (e, fits) = absurd (differ 109 115 (codes "eet") (codes "tart") refl (ap (λ l. get_or l 0 []) e))
meet_one i k (line.Jump a n) p q (e, fits) = absurd (omega (arith, ap length e))
meet_one i k (line.Put a b n) p q (e, fits) = absurd (omega (arith, ap length e))
meet_one i k (line.Flow s a n) p q (e, fits) = absurd (omega (arith, ap length e))
meet_one i k (line.PushField a b n) p q (e, fits) = absurd (omega (arith, ap length e))
meet_one i k (line.PushCall a n) p q (e, fits) = absurd (omega (arith, ap length e))
meet_one i k (line.LinkField a b n) p q (e, fits) = absurd (omega (arith, ap length e))
meet_one i k (line.LinkCall a n) p q (e, fits) = absurd (omega (arith, ap length e))
meet_one i k (line.Pop s a b n) p q (e, fits) = absurd (omega (arith, ap length e))
meet_one i k (line.BasePop a n) p q (e, fits) = absurd (omega (arith, ap length e))
meet_one i k (line.Shared xs ys w) p q (e, fits) = absurd (omega (arith, ap length e))
meet_one i k (line.Claim a b) p q (e, fits) = absurd (differ 109 99 (codes "eet") (codes "laim") refl (ap (λ l. get_or l 0 []) e))
meet_one i k (line.Meet a b) p q (e, fits) =
    let first = roomy_one i a p fits.0 (ap (λ l. get_or l 1 []) e) in
    let second = roomy_one k b q fits.1 (ap (λ l. get_or l 2 []) e) in
    λ j. line.Meet (first j) (second j)

-- words are those of one line
words_one : (l m : Line) → FitsLine l → AreWordsOf (line_words l) m → l ≡ m
words_one (line.Start s n) m fits are = some_one _ m ((start_iff (side_text s) (node_text n) s n (side_read s) (node_read n fits) m).1 are)
words_one (line.Jump i n) m fits are = four_one head.Start Call i n (line.Jump i n) m no_start fits.0 fits.1 refl are
words_one (line.Put i k n) m fits are = five_one head.Start Call i n (line.Put i k n) m k fits.0 fits.1 fits.2 refl are
words_one (line.Flow s i n) m fits are = four_one head.Flow s i n (line.Flow s i n) m no_flow fits.0 fits.1 refl are
words_one (line.PushField i k n) m fits are = five_one head.Push Field i n (line.PushField i k n) m k fits.0 fits.1 fits.2 refl are
words_one (line.PushCall i n) m fits are = four_one head.Push Call i n (line.PushCall i n) m no_push fits.0 fits.1 refl are
words_one (line.LinkField i k n) m fits are = five_one head.Link Field i n (line.LinkField i k n) m k fits.0 fits.1 fits.2 refl are
words_one (line.LinkCall i n) m fits are = four_one head.Link Call i n (line.LinkCall i n) m no_link fits.0 fits.1 refl are
words_one (line.Pop s i k n) m fits are = five_one head.Pop s i n (line.Pop s i k n) m k fits.0 fits.1 fits.2 refl are
words_one (line.BasePop i n) m fits are = four_one head.Base Call i n (line.BasePop i n) m no_base fits.0 fits.1 refl are
words_one (line.Shared xs ys w) m fits are =
    some_one _ m ((shared_iff (numbers_text xs) (numbers_text ys) (string_text w) xs ys w (numbers_read xs fits.0) (numbers_read ys fits.1) (string_read w fits.2) m).1 are)
words_one (line.Meet i k) m fits are = meet_one i k m fits.0 fits.1 are
words_one (line.Claim i k) m fits are = some_one _ m ((claim_iff (decimal i) (decimal k) i k (number_read i fits.0) (number_read k fits.1) m).1 are)

-- and a text is one line
pub line_one : (text : List ℕ) (l m : Line) → SpellsLine text l → SpellsLine text m → l ≡ m
line_one text l m p q =
    let words = slice_split (λ b. b == 32) text in
    let first = (line_iff text words l refl).1 p in
    let second = (line_iff text words m refl).1 q in
    words_one l m first.1 (subst (λ (w : List (List ℕ)). AreWordsOf w m) first.0 second)

each_rest : {X Y : Type 0} (R : X → Y → Type 0) (x : X) (xs : List X) (y : Y) (ys : List Y) → Each R (x ∷ xs) (y ∷ ys) → Each R xs ys
each_rest R x xs y ys e = record { as_many = omega (arith, e.as_many); each = λ i a b p q. e.each (suc i) a b p q }

lines_read : (texts : List (List ℕ)) (ls ms : List Line) → Each SpellsLine texts ls → Each SpellsLine texts ms → ls ≡ ms
lines_read [] [] [] p q = refl
lines_read [] [] (m ∷ ms) p q = absurd (omega (arith, q.as_many))
lines_read [] (l ∷ ls) ms p q = absurd (omega (arith, p.as_many))
lines_read (t ∷ texts) [] ms p q = absurd (omega (arith, p.as_many))
lines_read (t ∷ texts) (l ∷ ls) [] p q = absurd (omega (arith, q.as_many))
lines_read (t ∷ texts) (l ∷ ls) (m ∷ ms) p q =
    let first = line_one t l m (p.each 0 t l refl refl) (q.each 0 t m refl refl) in
    let others = lines_read texts ls ms (each_rest SpellsLine t texts l ls p) (each_rest SpellsLine t texts m ms q) in
    λ j. first j ∷ others j

target_one : (text : List ℕ) (n m : Node) → SpellsTarget text n → SpellsTarget text m → n ≡ m
target_one text n m p q =
    let letters : IsAbove 32 (codes "query") = (lit< tt, (lit< tt, (lit< tt, (lit< tt, (lit< tt, tt))))) in
    node_one (node_text n) n m (refl, p.1) (target_node text (codes "query") (node_text n) m q p.0 (above_lacks 32 32 (codes "query") letters (omega arith)))

module _ (bytes : List ℕ) where
  -- a text is one certificate
  pub certificate_one : (c d : Certificate) → SpellsCertificate bytes c → SpellsCertificate bytes d → c ≡ d
  certificate_one c d p q =
      let same = lines_one bytes (p.first ∷ p.others) (q.first ∷ q.others) p.in_lines q.in_lines in
      let first : p.first ≡ q.first = ap (λ l. get_or l 0 []) same in
      let others : p.others ≡ q.others = ap (drop 1) same in
      let target = target_one q.first c.target d.target (subst (λ l. SpellsTarget l c.target) first p.names) q.names in
      let lines = lines_read q.others c.lines d.lines (subst (λ l. Each SpellsLine l c.lines) others p.spelled) q.spelled in
      λ j. record { target = target j; lines = lines j }

  -- or it has one first line that isn't one of a certificate
  pub bad_one : (a b : ℕ) → IsFirstBadLine bytes a → IsFirstBadLine bytes b → a ≡ b
  bad_one a b p q =
      let same = lines_one bytes p.texts q.texts p.in_lines q.in_lines in
      elim (cases_lt a b) [
        | inl less ↦ absurd (p.bad (subst (λ l. HasLineForm l a) (sym same) (q.before a less)))
        | inr more ↦ elim (cases_lt b a) [
          | inl less ↦ absurd (q.bad (subst (λ l. HasLineForm l b) same (p.before b less)))
          | inr least ↦ omega (arith, more, least)
        ]
      ]

  pub spelled_bad : (c : Certificate) (at : ℕ) → SpellsCertificate bytes c → IsFirstBadLine bytes at → ⊥
  spelled_bad c at p bad =
      let same = lines_one bytes bad.texts (p.first ∷ p.others) bad.in_lines p.in_lines in
      elim bad.within [
        | inl below ↦ bad.bad (subst (λ l. HasLineForm l at) (sym same) (formed at (subst (λ l. at < length l) same below)))
        | inr none ↦ let never : [] ≡ p.first ∷ p.others = sym none.1 ∙ same in cc
      ]
    where
      formed : (number : ℕ) → number < length (p.first ∷ p.others) → HasLineForm (p.first ∷ p.others) number
      formed zero below = (p.first, c.target, refl, p.names)
      formed (suc number) below =
          let text = slice_get-there p.others number (omega arith) in
          let l = each_left SpellsLine p.others c.lines number text.0 p.spelled text.1 in
          (text.0, l.0, text.1, l.2)
