-- Words that are variables, nodes and calls.
use Rattle.std.proofs.Common.{◌≡◌, ◌↔◌, ◌⊎◌, ℕ, zero, suc, ◌<◌, ◌^◌, ◌==◌, Bool, true, false, List, [], ◌∷◌, ◌++◌, Option, Some, None, codes, length, get_or, drop, refl, sym, ap, subst, ◌∙◌, inl, inr, arith, eq-eqb, true≢false, lit<}
use Rattle.std.specs.Fmt.{decimal}
use Rattle.std.specs.Str.Parse.{AllDigits}
use Rattle.std.proofs.lemmas.Fmt.{decimal_is_IsNumeral}
use Rattle.std.proofs.lemmas.Str.Parse.{digit_from_value}
use Rattle.std.proofs.lemmas.List.{append-nil}
use Rattle.lists.specs.Lists.{Has}
use Rattle.link_sites.specs.declared.place.Place.{Place}
use Rattle.spds_rules.specs.declared.node.Node.{Node}
use Rattle.spds_rules.specs.declared.node.Var.{Var}
use Rattle.spds_rules.specs.declared.node.Var.TheVariants.{Local, This, Param, Caught, Thrown, Made, Nested, Raised, Text, Class}
use Rattle.cert_rules.specs.Spelled.{FitsCall, FitsNode, FitsVar, call_text, flight_mark, node_text, var_text}
use Rattle.cert_text.specs.Words.{IsNamed, IsNumbered, SpellsCall, SpellsIndex, SpellsNode, SpellsNumber, SpellsVar}
use Rattle.cert_text.proofs.Marks.{IsAbove, above_append, above_lacks, above_lower}
use Rattle.lists.proofs.Cutting.{cut_first, has_between}
use Rattle.cert_text.proofs.Numerals.{decimal_above, number_one}

-- nothing is read where nothing is spelled
pub none_iff : {X : Type 0} {P : X → Type 0} → ((x : X) → P x → ⊥) → (x : X) → (None ≡ Some x) ↔ P x
none_iff none x = ((λ e. cc), λ p. absurd (none x p))

-- and the one that is spelled, where one is
pub some_iff : {X : Type 0} {P : X → Type 0} (x : X) → P x → ((y : X) → P y → y ≡ x) → (y : X) → (Some x ≡ Some y) ↔ P y
some_iff {X} {P} x p one y = ((λ e. let same : x ≡ y = cc in subst P same p), λ q. ap Some (sym (one y q)))

cons_same : {a b : ℕ} {xs ys : List ℕ} → a ≡ b → xs ≡ ys → a ∷ xs ≡ b ∷ ys
cons_same p q = λ j. p j ∷ q j

-- a variable is named, or has a letter and a number
pub named_or_numbered : (letter : ℕ) (digits : List ℕ) (v : Var) → SpellsVar (letter ∷ digits) v → IsNamed v ⊎ ((n : ℕ) × SpellsNumber digits n × IsNumbered letter n v)
named_or_numbered letter digits (Local x) (e, fits) = inr (x, (cc, fits), (cc, refl))
named_or_numbered letter digits This (e, fits) = inl tt
named_or_numbered letter digits (Param x) (e, fits) = inr (x, (cc, fits), (cc, refl))
named_or_numbered letter digits Caught (e, fits) = inl tt
named_or_numbered letter digits Thrown (e, fits) = inl tt
named_or_numbered letter digits Made (e, fits) = inl tt
named_or_numbered letter digits (Nested x) (e, fits) = inr (x, (cc, omega arith), (cc, refl, fits))
named_or_numbered letter digits (Raised x) (e, fits) = inr (x, (cc, omega arith), (cc, refl, fits))
named_or_numbered letter digits (Text x) (e, fits) = inr (x, (cc, fits), (cc, refl))
named_or_numbered letter digits (Class x) (e, fits) = inr (x, (cc, fits), (cc, refl))

-- a letter and a number spell the variable
pub numbered_spells : (letter : ℕ) (digits : List ℕ) (n : ℕ) (v : Var) → SpellsNumber digits n → IsNumbered letter n v → SpellsVar (letter ∷ digits) v
numbered_spells letter digits n (Local x) (e, fits) is = (cons_same is.0 (e ∙ ap decimal (sym is.1)), omega (arith, is.1))
numbered_spells letter digits n This (e, fits) is = absurd is
numbered_spells letter digits n (Param x) (e, fits) is = (cons_same is.0 (e ∙ ap decimal (sym is.1)), omega (arith, is.1))
numbered_spells letter digits n Caught (e, fits) is = absurd is
numbered_spells letter digits n Thrown (e, fits) is = absurd is
numbered_spells letter digits n Made (e, fits) is = absurd is
numbered_spells letter digits n (Nested x) (e, fits) is = (cons_same is.0 (e ∙ ap decimal (sym is.1)), omega (arith, is.1, is.2))
numbered_spells letter digits n (Raised x) (e, fits) is = (cons_same is.0 (e ∙ ap decimal (sym is.1)), omega (arith, is.1, is.2))
numbered_spells letter digits n (Text x) (e, fits) is = (cons_same is.0 (e ∙ ap decimal (sym is.1)), omega (arith, is.1))
numbered_spells letter digits n (Class x) (e, fits) is = (cons_same is.0 (e ∙ ap decimal (sym is.1)), omega (arith, is.1))

-- a named variable can be spelled
pub named_fits : (v : Var) → IsNamed v → FitsVar v
named_fits (Local x) named = absurd named
named_fits This named = tt
named_fits (Param x) named = absurd named
named_fits Caught named = tt
named_fits Thrown named = tt
named_fits Made named = tt
named_fits (Nested x) named = absurd named
named_fits (Raised x) named = absurd named
named_fits (Text x) named = absurd named
named_fits (Class x) named = absurd named

-- a variable is no empty word
pub var_some : (v : Var) → [] ≡ var_text v → ⊥
var_some (Local x) e = cc
var_some This e = cc
var_some (Param x) e = cc
var_some Caught e = cc
var_some Thrown e = cc
var_some Made e = cc
var_some (Nested x) e = cc
var_some (Raised x) e = cc
var_some (Text x) e = cc
var_some (Class x) e = cc

-- its bytes stand above the marks
pub var_above : (v : Var) → FitsVar v → IsAbove 47 (var_text v)
var_above (Local x) fits = (lit< tt, decimal_above x fits)
var_above This fits = (lit< tt, (lit< tt, (lit< tt, (lit< tt, tt))))
var_above (Param x) fits = (lit< tt, decimal_above x fits)
var_above Caught fits = (lit< tt, (lit< tt, (lit< tt, (lit< tt, (lit< tt, (lit< tt, tt))))))
var_above Thrown fits = (lit< tt, (lit< tt, (lit< tt, (lit< tt, (lit< tt, (lit< tt, tt))))))
var_above Made fits = (lit< tt, (lit< tt, (lit< tt, tt)))
var_above (Nested x) fits = (lit< tt, decimal_above x (omega arith))
var_above (Raised x) fits = (lit< tt, decimal_above x (omega arith))
var_above (Text x) fits = (lit< tt, decimal_above x fits)
var_above (Class x) fits = (lit< tt, decimal_above x fits)

-- an index with its mark, and a dot in neither
index_above : (i : ℕ) (raised : Bool) → i < 2 ^ 32 → IsAbove 32 (decimal i ++ flight_mark raised)
index_above i true fits = above_append 32 (decimal i) (33 ∷ []) (above_lower 32 47 (decimal i) (omega arith) (decimal_above i fits)) (lit< tt, tt)
index_above i false fits = above_append 32 (decimal i) [] (above_lower 32 47 (decimal i) (omega arith) (decimal_above i fits)) tt

index_no_dot : (i : ℕ) (raised : Bool) → i < 2 ^ 32 → Has (decimal i ++ flight_mark raised) 46 → ⊥
index_no_dot i false fits = λ h. above_lacks 47 46 (decimal i) (decimal_above i fits) (omega arith) (subst (λ l. Has l 46) (append-nil (decimal i)) h)
index_no_dot i true fits = λ h. behind (decimal i) (decimal_above i fits) h
  where
    behind : (ds : List ℕ) → IsAbove 47 ds → Has (ds ++ 33 ∷ []) 46 → ⊥
    behind [] above (zero, e) = let same : ◌≡◌ {A = ℕ} 33 46 = cc in omega (arith, same)
    behind [] above (suc j, e) = cc
    behind (d ∷ ds) above (zero, e) = let same : d ≡ 46 = cc in omega (arith, same, above.0)
    behind (d ∷ ds) above (suc j, e) = behind ds above.1 (j, e)

-- a number with a mark behind it
pub raised_index : (word digits rest : List ℕ) (i : ℕ) → word ≡ digits ++ 33 ∷ rest → (Has digits 33 → ⊥) → SpellsIndex word i true → (rest ≡ []) × SpellsNumber digits i
raised_index word digits rest i e lacks is =
    let cut = cut_first 33 (decimal i) [] digits rest (above_lacks 47 33 (decimal i) (decimal_above i is.1) (omega arith)) lacks (sym is.0 ∙ e) in
    (sym cut.1, (sym cut.0, is.1))

pub plain_index : (word : List ℕ) (i : ℕ) → SpellsIndex word i false → SpellsNumber word i
plain_index word i is = (is.0 ∙ append-nil (decimal i), is.1)

pub marked_none : (word : List ℕ) (i : ℕ) → SpellsIndex word i true → Has word 33
marked_none word i is = rw is.0 (has_between (decimal i) [] 33)

pub unmarked : (word : List ℕ) (i : ℕ) → SpellsIndex word i false → Has word 33 → ⊥
unmarked word i is h = above_lacks 47 33 word (subst (IsAbove 47) (sym (plain_index word i is).0) (decimal_above i is.1)) (omega arith) h

-- a node's word has its three parts, in one way
pub record AreNodeParts (m i v : List ℕ) (n : Node) : Type 0 where
  pub is_method : SpellsNumber m n.place.method
  pub is_index : SpellsIndex i n.place.index n.place.raised
  pub is_var : SpellsVar v n.var

node_first : (n : Node) → FitsNode n → Has (decimal n.place.method) 46 → ⊥
node_first n fits = above_lacks 47 46 (decimal n.place.method) (decimal_above n.place.method fits.0) (omega arith)

pub node_cut : (word : List ℕ) (n : Node) → SpellsNode word n → Has word 46
node_cut word n is = rw is.0 (has_between (decimal n.place.method) ((decimal n.place.index ++ flight_mark n.place.raised) ++ 46 ∷ var_text n.var) 46)

pub node_rest : (word method rest : List ℕ) (n : Node) → SpellsNode word n → word ≡ method ++ 46 ∷ rest → (Has method 46 → ⊥)
    → SpellsNumber method n.place.method × (rest ≡ (decimal n.place.index ++ flight_mark n.place.raised) ++ 46 ∷ var_text n.var)
node_rest word method rest n is e lacks =
    let cut = cut_first 46 (decimal n.place.method) ((decimal n.place.index ++ flight_mark n.place.raised) ++ 46 ∷ var_text n.var) method rest (node_first n is.1) lacks (sym is.0 ∙ e) in
    ((sym cut.0, is.1.0), sym cut.1)

pub node_second : (rest : List ℕ) (n : Node) → rest ≡ (decimal n.place.index ++ flight_mark n.place.raised) ++ 46 ∷ var_text n.var → Has rest 46
node_second rest n e = rw e (has_between (decimal n.place.index ++ flight_mark n.place.raised) (var_text n.var) 46)

pub node_parts : (word method rest index var : List ℕ) (n : Node) → SpellsNode word n → word ≡ method ++ 46 ∷ rest → (Has method 46 → ⊥) → rest ≡ index ++ 46 ∷ var → (Has index 46 → ⊥)
    → AreNodeParts method index var n
node_parts word method rest index var n is e lacks f lacks_too =
    let first = node_rest word method rest n is e lacks in
    let cut = cut_first 46 (decimal n.place.index ++ flight_mark n.place.raised) (var_text n.var) index var (index_no_dot n.place.index n.place.raised is.1.1) lacks_too (sym first.1 ∙ f) in
    record { is_method = first.0; is_index = (sym cut.0, is.1.1); is_var = (sym cut.1, is.1.2) }

pub parts_node : (word method rest index var : List ℕ) (n : Node) → word ≡ method ++ 46 ∷ rest → rest ≡ index ++ 46 ∷ var → AreNodeParts method index var n → SpellsNode word n
parts_node word method rest index var n e f parts = (
  e ∙ (λ j. parts.is_method.0 j ++ 46 ∷ (f ∙ (λ k. parts.is_index.0 k ++ 46 ∷ parts.is_var.0 k)) j),
  (parts.is_method.1, parts.is_index.1, parts.is_var.1),
)

-- its bytes stand above the blank
pub node_above : (n : Node) → FitsNode n → IsAbove 32 (node_text n)
node_above n fits =
    above_append 32 (decimal n.place.method) (46 ∷ (decimal n.place.index ++ flight_mark n.place.raised) ++ 46 ∷ var_text n.var)
    (above_lower 32 47 (decimal n.place.method) (omega arith) (decimal_above n.place.method fits.0)) (
      lit< tt,
      above_append 32 (decimal n.place.index ++ flight_mark n.place.raised) (46 ∷ var_text n.var) (index_above n.place.index n.place.raised fits.1)
          (lit< tt, above_lower 32 47 (var_text n.var) (omega arith) (var_above n.var fits.2)),
    )

-- a call's word has its two parts, in one way
pub call_cut : (word : List ℕ) (place : Place) → SpellsCall word place → Has word 46
call_cut word place is = rw is.0 (has_between (decimal place.method) (decimal place.index) 46)

pub call_parts : (word method index : List ℕ) (place : Place) → SpellsCall word place → word ≡ method ++ 46 ∷ index → (Has method 46 → ⊥)
    → SpellsNumber method place.method × SpellsNumber index place.index
call_parts word method index place is e lacks =
    let cut = cut_first 46 (decimal place.method) (decimal place.index) method index (above_lacks 47 46 (decimal place.method) (decimal_above place.method is.1.0) (omega arith)) lacks (sym is.0 ∙ e) in
    ((sym cut.0, is.1.0), (sym cut.1, is.1.1))

-- its bytes stand above the comma
pub call_above : (place : Place) → FitsCall place → IsAbove 45 (call_text place)
call_above place fits =
    above_append 45 (decimal place.method) (46 ∷ decimal place.index) (above_lower 45 47 (decimal place.method) (omega arith) (decimal_above place.method fits.0))
    (lit< tt, above_lower 45 47 (decimal place.index) (omega arith) (decimal_above place.index fits.1))

-- the same of two things that are read together
pub none_iff_both : {X Y : Type 0} {P : X → Y → Type 0} → ((x : X) (y : Y) → P x y → ⊥) → (x : X) (y : Y) → (◌≡◌ {A = Option (X × Y)} None (Some (x, y))) ↔ P x y
none_iff_both none x y = ((λ e. cc), λ p. absurd (none x y p))

pub some_iff_both : {X Y : Type 0} {P : X → Y → Type 0} (a : X) (b : Y) → P a b → ((x : X) (y : Y) → P x y → (a ≡ x) × (b ≡ y)) → (x : X) (y : Y) → (◌≡◌ {A = Option (X × Y)} (Some (a, b)) (Some (x, y))) ↔ P x y
some_iff_both {X} {Y} {P} a b p one x y = (
  (λ e. let same : ◌≡◌ {A = X × Y} (a, b) (x, y) = cc in subst (λ (z : X × Y). P z.0 z.1) same p),
  λ q. let same = one x y q in λ j. Some (same.0 j, same.1 j),
)

pub some_one : {X : Type 0} (a b : X) → Some a ≡ Some b → a ≡ b
some_one a b e = cc

pub some_both : {X Y : Type 0} (a x : X) (b y : Y) → ◌≡◌ {A = Option (X × Y)} (Some (a, b)) (Some (x, y)) → (a ≡ x) × (b ≡ y)
some_both {X} {Y} a x b y e = let same : ◌≡◌ {A = X × Y} (a, b) (x, y) = cc in (ap (λ z. z.0) same, ap (λ z. z.1) same)

-- an index with the mark behind it
pub index_marked : (word digits rest : List ℕ) → word ≡ digits ++ 33 ∷ rest → (Has digits 33 → ⊥) → (i : ℕ) (raised : Bool) → SpellsIndex word i raised
    → (raised ≡ true) × (rest ≡ []) × SpellsNumber digits i
index_marked word digits rest e lacks i true is = let cut = raised_index word digits rest i e lacks is in (refl, cut.0, cut.1)
index_marked word digits rest e lacks i false is = absurd (unmarked word i is (rw e (has_between digits rest 33)))

pub marked_index : (word digits rest : List ℕ) (n : ℕ) → word ≡ digits ++ 33 ∷ rest → length rest ≡ 0 → SpellsNumber digits n → SpellsIndex word n true
marked_index word digits [] n e none is = (e ∙ ap (λ l. l ++ 33 ∷ []) is.0, is.1)
marked_index word digits (x ∷ rest) n e none is = absurd (omega arith)

-- a word is one call
pub call_one : (p q : Place) → FitsCall p → FitsCall q → call_text p ≡ call_text q → p ≡ q
call_one p q fits other e =
    let lacks = above_lacks 47 46 (decimal q.method) (decimal_above q.method other.0) (omega arith) in
    let parts = call_parts (call_text p) (decimal q.method) (decimal q.index) p (refl, fits) e lacks in
    let method = number_one (decimal q.method) p.method q.method parts.0 (refl, other.0) in
    let index = number_one (decimal q.index) p.index q.index parts.1 (refl, other.1) in
    let raised = fits.2 ∙ sym other.2 in
    λ j. record { method = method j; index = index j; raised = raised j }

-- two numbers with a dot between them are a call
pub parts_call : (word method index : List ℕ) (m i : ℕ) → word ≡ method ++ 46 ∷ index → SpellsNumber method m → SpellsNumber index i → SpellsCall word (record { method = m; index = i; raised = false })
parts_call word method index m i e p q = (e ∙ (λ j. p.0 j ++ 46 ∷ q.0 j), (p.1, q.1, refl))

-- two bytes that differ begin different lists
pub differ : (a b : ℕ) (xs ys : List ℕ) → (a == b) ≡ false → a ∷ xs ≡ b ∷ ys → ⊥
differ a b xs ys apart e = true≢false (sym (eq-eqb a b (ap (λ l. get_or l 0 0) e)) ∙ apart)

pub differ_length : (xs ys : List ℕ) → (length xs == length ys) ≡ false → xs ≡ ys → ⊥
differ_length xs ys apart e = true≢false (sym (eq-eqb (length xs) (length ys) (ap length e)) ∙ apart)

-- digits are no letters
no_letter : (n c : ℕ) (rest : List ℕ) → n < 2 ^ 32 → 57 < c → c ∷ rest ≡ decimal n → ⊥
no_letter n c rest small high e = let digit = digit_from_value c (subst (AllDigits 10) (sym e) (decimal_is_IsNumeral n (omega arith)).0.1).0 in omega (arith, digit)

-- the word of a variable without a number is that of no other
pub named_only : (v w : Var) → IsNamed v → var_text v ≡ var_text w → FitsVar w → w ≡ v
named_only (Local a) w named e fits = absurd named
named_only This (Local x) named e fits = absurd (differ 116 108 (codes "his") (decimal x) refl e)
named_only This This named e fits = refl
named_only This (Param x) named e fits = absurd (differ 116 112 (codes "his") (decimal x) refl e)
named_only This Caught named e fits = absurd (differ 116 99 (codes "his") (codes "aught") refl e)
named_only This Thrown named e fits = absurd (differ_length (codes "this") (codes "thrown") refl e)
named_only This Made named e fits = absurd (differ 116 110 (codes "his") (codes "ew") refl e)
named_only This (Nested x) named e fits = absurd (differ 116 110 (codes "his") (decimal x) refl e)
named_only This (Raised x) named e fits = absurd (differ 116 114 (codes "his") (decimal x) refl e)
named_only This (Text x) named e fits = absurd (no_letter x 104 (codes "is") fits (lit< tt) (ap (drop 1) e))
named_only This (Class x) named e fits = absurd (differ 116 107 (codes "his") (decimal x) refl e)
named_only (Param a) w named e fits = absurd named
named_only Caught (Local x) named e fits = absurd (differ 99 108 (codes "aught") (decimal x) refl e)
named_only Caught This named e fits = absurd (differ 99 116 (codes "aught") (codes "his") refl e)
named_only Caught (Param x) named e fits = absurd (differ 99 112 (codes "aught") (decimal x) refl e)
named_only Caught Caught named e fits = refl
named_only Caught Thrown named e fits = absurd (differ 99 116 (codes "aught") (codes "hrown") refl e)
named_only Caught Made named e fits = absurd (differ 99 110 (codes "aught") (codes "ew") refl e)
named_only Caught (Nested x) named e fits = absurd (differ 99 110 (codes "aught") (decimal x) refl e)
named_only Caught (Raised x) named e fits = absurd (differ 99 114 (codes "aught") (decimal x) refl e)
named_only Caught (Text x) named e fits = absurd (differ 99 116 (codes "aught") (decimal x) refl e)
named_only Caught (Class x) named e fits = absurd (differ 99 107 (codes "aught") (decimal x) refl e)
named_only Thrown (Local x) named e fits = absurd (differ 116 108 (codes "hrown") (decimal x) refl e)
named_only Thrown This named e fits = absurd (differ_length (codes "thrown") (codes "this") refl e)
named_only Thrown (Param x) named e fits = absurd (differ 116 112 (codes "hrown") (decimal x) refl e)
named_only Thrown Caught named e fits = absurd (differ 116 99 (codes "hrown") (codes "aught") refl e)
named_only Thrown Thrown named e fits = refl
named_only Thrown Made named e fits = absurd (differ 116 110 (codes "hrown") (codes "ew") refl e)
named_only Thrown (Nested x) named e fits = absurd (differ 116 110 (codes "hrown") (decimal x) refl e)
named_only Thrown (Raised x) named e fits = absurd (differ 116 114 (codes "hrown") (decimal x) refl e)
named_only Thrown (Text x) named e fits = absurd (no_letter x 104 (codes "rown") fits (lit< tt) (ap (drop 1) e))
named_only Thrown (Class x) named e fits = absurd (differ 116 107 (codes "hrown") (decimal x) refl e)
named_only Made (Local x) named e fits = absurd (differ 110 108 (codes "ew") (decimal x) refl e)
named_only Made This named e fits = absurd (differ 110 116 (codes "ew") (codes "his") refl e)
named_only Made (Param x) named e fits = absurd (differ 110 112 (codes "ew") (decimal x) refl e)
named_only Made Caught named e fits = absurd (differ 110 99 (codes "ew") (codes "aught") refl e)
named_only Made Thrown named e fits = absurd (differ 110 116 (codes "ew") (codes "hrown") refl e)
named_only Made Made named e fits = refl
named_only Made (Nested x) named e fits = absurd (no_letter x 101 (codes "w") (omega arith) (lit< tt) (ap (drop 1) e))
named_only Made (Raised x) named e fits = absurd (differ 110 114 (codes "ew") (decimal x) refl e)
named_only Made (Text x) named e fits = absurd (differ 110 116 (codes "ew") (decimal x) refl e)
named_only Made (Class x) named e fits = absurd (differ 110 107 (codes "ew") (decimal x) refl e)
named_only (Nested a) w named e fits = absurd named
named_only (Raised a) w named e fits = absurd named
named_only (Text a) w named e fits = absurd named
named_only (Class a) w named e fits = absurd named

-- a variable whose word isn't that of one without a number
pub numbered_iff : (word digits : List ℕ) (letter n : ℕ) (r : Option Var) → word ≡ letter ∷ digits → ((v : Var) → (None ≡ Some v) ↔ (IsNamed v × (word ≡ var_text v))) → SpellsNumber digits n
    → ((v : Var) → (r ≡ Some v) ↔ IsNumbered letter n v) → (v : Var) → (r ≡ Some v) ↔ SpellsVar word v
numbered_iff word digits letter n r e other number reads v = (
  λ f. rw e (numbered_spells letter digits n v number ((reads v).0 f)),
  λ is. elim (named_or_numbered letter digits v (subst (λ l. SpellsVar l v) e is)) [
    | inl named ↦ absurd (none_some v ((other v).1 (named, is.0)))
    | inr found ↦ (reads v).1 (subst (λ m. IsNumbered letter m v) (number_one digits found.0 n found.1 number) found.2)
  ],
)
  where
    none_some : (v : Var) → None ≡ Some v → ⊥
    none_some v e = cc
