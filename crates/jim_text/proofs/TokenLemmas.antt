-- Which token begins at a place.
use Rattle.std.proofs.Common.{◌≡◌, ℕ, ◌+◌, ◌<◌, ◌≤◌, ◌⊎◌, Bool, true, false, ◌||◌, ◌==◌, not, List, [], ◌∷◌, length, get_or, refl, sym, ap, ◌∙◌, subst, inl, inr, arith, true≢false, codes, MatchOption, IfSome, slice_range}
use Rattle.std.specs.Prelude.{Option, None, Some}
use Rattle.jim_text.specs.declared.Kind.{Kind}
use Rattle.jim_text.specs.declared.Kind.TheVariants.{Word, Name, Number, Text, At, Mark}
use Rattle.jim_text.specs.declared.Token.{Token}
use Rattle.jim_text.specs.Spelling.{is_blank, is_digit, is_bare, IsName, IsNumber, IsText, IsAt, IsMark, Comment, Spells}
use Rattle.jim_text.specs.Spelling.IsAt.{this, caught, parameter}
use Rattle.jim_text.specs.Spelling.IsMark.{single, double, triple}
use Rattle.jim_text.specs.Ends.{IsEnd, IsMade, IsNameToken, is_lead, is_number_lead}
use Rattle.jim_text.specs.Lexes.{Begins, NoTokenAt, TokenAt, IsLead, IsClassed}
use Rattle.jim_text.specs.declared.lead.Lead.{Lead}
use Rattle.jim_text.specs.Words.{marks}
use Rattle.jim_text.proofs.DigitLemmas.{either, has_first}
use Rattle.jim_text.proofs.MarkLemmas.{triple_bytes}
use Rattle.jim_text.proofs.TableLemmas.{any_entry}
use Rattle.jim_text.proofs.NumberLemmas.{number_first}
use Rattle.jim_text.proofs.NameLemmas.{name_lead}
use Rattle.jim_text.proofs.WordLemmas.{word_name}
use Rattle.jim_text.proofs.CommentLemmas.{comment_first, comment_second}

-- a byte with which only a mark begins, or a name with a sign
abbrev is_mark_lead : ℕ → Bool
is_mark_lead b = not (is_digit b || (b == 35) || is_lead b || is_blank b || (b == 34) || (b == 64))

-- a mark begins with a byte of marks
mark_lead : {bytes : List ℕ} {from to : ℕ} → IsMark bytes from to → is_mark_lead (get_or bytes from 0) ≡ true
unfolding marks
mark_lead {bytes} {from} (single e h bare) = any_entry (λ t. is_mark_lead (get_or t 0 0)) (get_or bytes from 0 ∷ []) marks refl h
mark_lead {bytes} {from} (double e h) = any_entry (λ t. is_mark_lead (get_or t 0 0)) (get_or bytes from 0 ∷ get_or bytes (from + 1) 0 ∷ []) marks refl h
mark_lead {bytes} {from} (triple e h) = ap is_mark_lead (triple_bytes (get_or bytes from 0) (get_or bytes (from + 1) 0) (get_or bytes (from + 2) 0) h).0

-- a mark has three bytes at most
mark_short : {bytes : List ℕ} {from to : ℕ} → IsMark bytes from to → to ≤ from + 3
mark_short (single e h bare) = omega (arith, e)
mark_short (double e h) = omega (arith, e)
mark_short (triple e h) = omega (arith, e)

-- no mark begins where a comment could
mark_bare : {bytes : List ℕ} {from to : ℕ} → IsMark bytes from to → get_or bytes from 0 ≡ 47
    → ¬ ((get_or bytes (from + 1) 0 ≡ 47) ⊎ (get_or bytes (from + 1) 0 ≡ 42))
unfolding marks
mark_bare {bytes} {from} (single e h bare) slash next = elim next [
  | inl s ↦ true≢false (sym bare ∙ (λ i. is_bare (slash i) (s i)))
  | inr s ↦ true≢false (sym bare ∙ (λ i. is_bare (slash i) (s i)))
]
mark_bare {bytes} {from} (double e h) slash next =
    true≢false (sym (any_entry (λ t. (length t == 1) || not (get_or t 0 0 == 47)) (get_or bytes from 0 ∷ get_or bytes (from + 1) 0 ∷ []) marks refl h) ∙ ap (λ b. not (b == 47)) slash)
mark_bare {bytes} {from} (triple e h) slash next = omega (arith, slash, (triple_bytes (get_or bytes from 0) (get_or bytes (from + 1) 0) (get_or bytes (from + 2) 0) h).0)

-- a word with an at sign begins with it
at_first : {bytes : List ℕ} {from to : ℕ} → IsAt bytes from to → get_or bytes from 0 ≡ 64
at_first {bytes} {from} (this h e) = has_first bytes from (codes "@this") h (omega arith)
at_first {bytes} {from} (caught h e) = has_first bytes from (codes "@caughtexception") h (omega arith)
at_first {bytes} {from} (parameter h digits) = has_first bytes from (codes "@parameter") h (omega arith)

-- a number begins with a digit or a number sign
number_lead : {bytes : List ℕ} {from to : ℕ} → IsNumber bytes from to → is_number_lead (get_or bytes from 0) ≡ true
number_lead {bytes} {from} h = elim (number_first h) [ inl d ↦ rw d refl | inr e ↦ ap is_number_lead e ]

-- what no byte of one class and another has in common
number_no_lead : (b : ℕ) → is_number_lead b ≡ true → is_lead b ≡ false
number_no_lead b h = elim (either (is_digit b) (b == 35) h) [ inl d ↦ digit b d | inr e ↦ (let same : b ≡ 35 = grind (arith, e) in ap is_lead same) ]
  where
    digit : (b : ℕ) → is_digit b ≡ true → is_lead b ≡ false
    digit b d = grind arith

-- no number begins as a mark does
number_no_mark : (b : ℕ) → is_number_lead b ≡ true → is_mark_lead b ≡ false
number_no_mark b h = ap (λ t. not (t || is_lead b || is_blank b || (b == 34) || (b == 64))) h

-- no mark begins as a component does
mark_no_lead : (b : ℕ) → is_mark_lead b ≡ true → is_lead b ≡ false
mark_no_lead b h = by (is_number_lead b) (is_lead b) h
  where
    by : (x l : Bool) → not (x || l || is_blank b || (b == 34) || (b == 64)) ≡ true → l ≡ false
    by x false e = refl
    by true true e = absurd (true≢false (sym e))
    by false true e = absurd (true≢false (sym e))

-- no name begins with such a byte
name_not : {bytes : List ℕ} {at k : ℕ} (b : ℕ) → IsName bytes at k → get_or bytes at 0 ≡ b → is_lead b ≡ false → ¬ (b ≡ 60) → ⊥
name_not b n e no_lead other = elim (name_lead n) [ inl sign ↦ other (sym e ∙ sign.0) | inr lead ↦ true≢false (sym lead ∙ ap is_lead e ∙ no_lead) ]

-- no name begins as a number does
name_number : {bytes : List ℕ} {at j : ℕ} → IsName bytes at j → ¬ (is_number_lead (get_or bytes at 0) ≡ true)
name_number {bytes} {at} n h = elim (name_lead n) [
  | inl sign ↦ true≢false (sym h ∙ ap is_number_lead sign.0)
  | inr lead ↦ true≢false (sym lead ∙ number_no_lead (get_or bytes at 0) h)
]

-- a name that begins as a mark does has six bytes at least
name_mark : {bytes : List ℕ} {at j k : ℕ} → IsName bytes at j → IsMark bytes at k → at + 6 ≤ j
name_mark {bytes} {at} n m = elim (name_lead n) [
  | inl sign ↦ sign.1
  | inr lead ↦ absurd (true≢false (sym lead ∙ mark_no_lead (get_or bytes at 0) (mark_lead m)))
]

-- what no blank passes
no_blank : (q : ℕ → Bool) (b : ℕ) → q 32 ≡ false → q 9 ≡ false → q 10 ≡ false → q 13 ≡ false → q 12 ≡ false → is_blank b ≡ true → q b ≡ false
no_blank q b space tab line return form h = elim (either ((b == 32) || (b == 9) || (b == 10) || (b == 13)) (b == 12) h) [
  | inr e ↦ known 12 e form
  | inl h2 ↦ elim (either ((b == 32) || (b == 9) || (b == 10)) (b == 13) h2) [
    | inr e ↦ known 13 e return
    | inl h3 ↦ elim (either ((b == 32) || (b == 9)) (b == 10) h3) [
      | inr e ↦ known 10 e line
      | inl h4 ↦ elim (either (b == 32) (b == 9) h4) [ inl e ↦ known 32 e space | inr e ↦ known 9 e tab ]
    ]
  ]
]
  where
    known : (v : ℕ) → (b == v) ≡ true → q v ≡ false → q b ≡ false
    known v e f = let same : b ≡ v = grind (arith, e) in ap q same ∙ f

-- no component begins with a blank
blank_no_lead : (b : ℕ) → is_blank b ≡ true → is_lead b ≡ false
blank_no_lead b h = no_blank is_lead b refl refl refl refl refl h

-- no number does
blank_no_number : (b : ℕ) → is_blank b ≡ true → is_number_lead b ≡ false
blank_no_number b h = no_blank is_number_lead b refl refl refl refl refl h

-- no mark does
blank_no_mark : (b : ℕ) → is_blank b ≡ true → is_mark_lead b ≡ false
blank_no_mark b h = no_blank is_mark_lead b refl refl refl refl refl h

-- no name does
name_blank : {bytes : List ℕ} {at k : ℕ} → IsName bytes at k → ¬ (is_blank (get_or bytes at 0) ≡ true)
name_blank {bytes} {at} n blank = name_not (get_or bytes at 0) n refl (blank_no_lead (get_or bytes at 0) blank) (λ e. true≢false (sym blank ∙ ap is_blank e))

-- no mark begins with such a byte
mark_not : {bytes : List ℕ} {at k : ℕ} (b : ℕ) → IsMark bytes at k → get_or bytes at 0 ≡ b → is_mark_lead b ≡ false → ⊥
mark_not b m e no_mark = true≢false (sym (mark_lead m) ∙ ap is_mark_lead e ∙ no_mark)

-- no number begins with such a byte
number_not : {bytes : List ℕ} {at k : ℕ} (b : ℕ) → IsNumber bytes at k → get_or bytes at 0 ≡ b → is_number_lead b ≡ false → ⊥
number_not b m e no_number = true≢false (sym (number_lead m) ∙ ap is_number_lead e ∙ no_number)

-- a token's text is spelled as a name where its kind is that of names
begun_word : {bytes : List ℕ} {at k : ℕ} → Begins bytes Word at k → IsName bytes at k
begun_word {bytes} {at} {k} h = word_name bytes at k h.some h.within h.spelled

-- two kinds aren't spelled alike
pub kinds_same : {bytes : List ℕ} {at k : ℕ} (one two : Kind) → Begins bytes one at k → Begins bytes two at k → one ≡ two
kinds_same Word Word a b = refl
kinds_same Word Name a b = absurd (true≢false (sym a.spelled ∙ b.spelled.1))
kinds_same Word Number a b = absurd (name_number (begun_word a) (number_lead b.spelled))
kinds_same Word Text a b = absurd (name_not 34 (begun_word a) b.spelled.opened refl (λ e. omega (arith, e)))
kinds_same Word At a b = absurd (name_not 64 (begun_word a) (at_first b.spelled) refl (λ e. omega (arith, e)))
kinds_same Word Mark a b = absurd (omega (arith, name_mark (begun_word a) b.spelled, mark_short b.spelled))
kinds_same Name Word a b = absurd (true≢false (sym b.spelled ∙ a.spelled.1))
kinds_same Name Name a b = refl
kinds_same Name Number a b = absurd (name_number a.spelled.0 (number_lead b.spelled))
kinds_same Name Text a b = absurd (name_not 34 a.spelled.0 b.spelled.opened refl (λ e. omega (arith, e)))
kinds_same Name At a b = absurd (name_not 64 a.spelled.0 (at_first b.spelled) refl (λ e. omega (arith, e)))
kinds_same Name Mark a b = absurd (omega (arith, name_mark a.spelled.0 b.spelled, mark_short b.spelled))
kinds_same Number Word a b = absurd (name_number (begun_word b) (number_lead a.spelled))
kinds_same Number Name a b = absurd (name_number b.spelled.0 (number_lead a.spelled))
kinds_same Number Number a b = refl
kinds_same Number Text a b = absurd (number_not 34 a.spelled b.spelled.opened refl)
kinds_same Number At a b = absurd (number_not 64 a.spelled (at_first b.spelled) refl)
kinds_same {bytes} {at} Number Mark a b = absurd (true≢false (sym (mark_lead b.spelled) ∙ number_no_mark (get_or bytes at 0) (number_lead a.spelled)))
kinds_same Text Word a b = absurd (name_not 34 (begun_word b) a.spelled.opened refl (λ e. omega (arith, e)))
kinds_same Text Name a b = absurd (name_not 34 b.spelled.0 a.spelled.opened refl (λ e. omega (arith, e)))
kinds_same Text Number a b = absurd (number_not 34 b.spelled a.spelled.opened refl)
kinds_same Text Text a b = refl
kinds_same Text At a b = absurd (omega (arith, a.spelled.opened, at_first b.spelled))
kinds_same Text Mark a b = absurd (mark_not 34 b.spelled a.spelled.opened refl)
kinds_same At Word a b = absurd (name_not 64 (begun_word b) (at_first a.spelled) refl (λ e. omega (arith, e)))
kinds_same At Name a b = absurd (name_not 64 b.spelled.0 (at_first a.spelled) refl (λ e. omega (arith, e)))
kinds_same At Number a b = absurd (number_not 64 b.spelled (at_first a.spelled) refl)
kinds_same At Text a b = absurd (omega (arith, b.spelled.opened, at_first a.spelled))
kinds_same At At a b = refl
kinds_same At Mark a b = absurd (mark_not 64 b.spelled (at_first a.spelled) refl)
kinds_same Mark Word a b = absurd (omega (arith, name_mark (begun_word b) a.spelled, mark_short a.spelled))
kinds_same Mark Name a b = absurd (omega (arith, name_mark b.spelled.0 a.spelled, mark_short a.spelled))
kinds_same {bytes} {at} Mark Number a b = absurd (true≢false (sym (mark_lead a.spelled) ∙ number_no_mark (get_or bytes at 0) (number_lead b.spelled)))
kinds_same Mark Text a b = absurd (mark_not 34 a.spelled b.spelled.opened refl)
kinds_same Mark At a b = absurd (mark_not 64 a.spelled (at_first b.spelled) refl)
kinds_same Mark Mark a b = refl

-- each branch of the code, in which no other token is longer
module _ {bytes : List ℕ} {at to : ℕ} where
  -- a text, where no other token begins
  pub text_longest : get_or bytes at 0 ≡ 34 → IsEnd (IsText bytes at) at (length bytes) to → (kind : Kind) (k : ℕ) → Begins bytes kind at k → k ≤ to
  text_longest e found Word k h = absurd (name_not 34 (begun_word h) e refl (λ z. omega (arith, z)))
  text_longest e found Name k h = absurd (name_not 34 h.spelled.0 e refl (λ z. omega (arith, z)))
  text_longest e found Number k h = absurd (number_not 34 h.spelled e refl)
  text_longest e found Text k h = found.longest k h.spelled
  text_longest e found At k h = absurd (omega (arith, e, at_first h.spelled))
  text_longest e found Mark k h = absurd (mark_not 34 h.spelled e refl)

  -- a word with an at sign, likewise
  pub at_longest : get_or bytes at 0 ≡ 64 → IsEnd (IsAt bytes at) at (length bytes) to → (kind : Kind) (k : ℕ) → Begins bytes kind at k → k ≤ to
  at_longest e found Word k h = absurd (name_not 64 (begun_word h) e refl (λ z. omega (arith, z)))
  at_longest e found Name k h = absurd (name_not 64 h.spelled.0 e refl (λ z. omega (arith, z)))
  at_longest e found Number k h = absurd (number_not 64 h.spelled e refl)
  at_longest e found Text k h = absurd (omega (arith, e, h.spelled.opened))
  at_longest e found At k h = found.longest k h.spelled
  at_longest e found Mark k h = absurd (mark_not 64 h.spelled e refl)

  -- a number, likewise
  pub number_longest : is_number_lead (get_or bytes at 0) ≡ true → IsEnd (IsNumber bytes at) at (length bytes) to → (kind : Kind) (k : ℕ) → Begins bytes kind at k → k ≤ to
  number_longest e found Word k h = absurd (name_number (begun_word h) e)
  number_longest e found Name k h = absurd (name_number h.spelled.0 e)
  number_longest e found Number k h = found.longest k h.spelled
  number_longest e found Text k h = absurd (true≢false (sym e ∙ ap is_number_lead h.spelled.opened))
  number_longest e found At k h = absurd (true≢false (sym e ∙ ap is_number_lead (at_first h.spelled)))
  number_longest e found Mark k h = absurd (true≢false (sym (mark_lead h.spelled) ∙ number_no_mark (get_or bytes at 0) e))

  -- a mark, where no other token begins
  pub mark_longest : is_lead (get_or bytes at 0) ≡ false → ¬ (get_or bytes at 0 ≡ 60) → ¬ (get_or bytes at 0 ≡ 34) → ¬ (get_or bytes at 0 ≡ 64)
      → is_number_lead (get_or bytes at 0) ≡ false → IsEnd (IsMark bytes at) at (length bytes) to → (kind : Kind) (k : ℕ) → Begins bytes kind at k → k ≤ to
  mark_longest lead less quote sign digit found Word k h = absurd (name_not (get_or bytes at 0) (begun_word h) refl lead less)
  mark_longest lead less quote sign digit found Name k h = absurd (name_not (get_or bytes at 0) h.spelled.0 refl lead less)
  mark_longest lead less quote sign digit found Number k h = absurd (true≢false (sym (number_lead h.spelled) ∙ digit))
  mark_longest lead less quote sign digit found Text k h = absurd (quote h.spelled.opened)
  mark_longest lead less quote sign digit found At k h = absurd (sign (at_first h.spelled))
  mark_longest lead less quote sign digit found Mark k h = found.longest k h.spelled

  -- a mark that begins as a name with a sign does, where there is no such name
  pub less_longest : get_or bytes at 0 ≡ 60 → ((k : ℕ) → ¬ (IsName bytes at k)) → IsEnd (IsMark bytes at) at (length bytes) to → (kind : Kind) (k : ℕ) → Begins bytes kind at k → k ≤ to
  less_longest e none found Word k h = absurd (none k (begun_word h))
  less_longest e none found Name k h = absurd (none k h.spelled.0)
  less_longest e none found Number k h = absurd (number_not 60 h.spelled e refl)
  less_longest e none found Text k h = absurd (omega (arith, e, h.spelled.opened))
  less_longest e none found At k h = absurd (omega (arith, e, at_first h.spelled))
  less_longest e none found Mark k h = found.longest k h.spelled

-- a token is one by its parts
begins_along : {bytes : List ℕ} {one two : Kind} {from from2 to to2 : ℕ} → one ≡ two → from ≡ from2 → to ≡ to2 → Begins bytes one from to → Begins bytes two from2 to2
begins_along {bytes} {one} {two} {from} {from2} {to} {to2} p q r h =
    subst (λ kind. Begins bytes kind from2 to2) p (subst (λ m. Begins bytes one m to2) q (subst (λ m. Begins bytes one from m) r h))

-- a token that is made of the longest spelling is the longest token
pub token_made : {bytes : List ℕ} {at to : ℕ} (kind : Kind) (r : Option Token) → MatchOption r (at ≡ to) (IsMade kind at to) → at ≤ to → to ≤ length bytes
    → (at < to → Spells kind bytes at to) → ((other : Kind) (k : ℕ) → Begins bytes other at k → k ≤ to) → MatchOption r (NoTokenAt bytes at) (TokenAt bytes at)
token_made kind None e low within spelled longest = λ other k h. omega (arith, e, h.some, longest other k h)
token_made {bytes} {at} {to} kind (Some token) made low within spelled longest = (made.the_from, record { begins = begins; longest = all })
  where
    here : Begins bytes kind at to
    here = let some : at < to = omega (arith, low, made.some) in record { some = some; within = within; spelled = spelled some }

    begins : Begins bytes token.kind token.from token.to
    begins = begins_along (sym made.the_kind) (sym made.the_from) (sym made.the_to) here

    all : (other : Kind) (k : ℕ) → Begins bytes other token.from k → k ≤ token.to
    all other k h = omega (arith, made.the_to, longest other k (subst (λ m. Begins bytes other m k) made.the_from h))

module _ {bytes : List ℕ} {at : ℕ} {token : Token} (found : IsNameToken bytes at token) where
  -- a name, reserved or not, that no token is longer than
  pub name_token : ((kind : Kind) (k : ℕ) → Begins bytes kind at k → k ≤ token.to) → TokenAt bytes at token
  name_token longest = (
    found.the_from,
    record {
      begins = subst (λ m. Begins bytes token.kind m token.to) (sym found.the_from) (record { some = found.some; within = found.within; spelled = found.spelled });
      longest = λ kind k h. longest kind k (subst (λ m. Begins bytes kind m k) found.the_from h);
    },
  )

  -- a name with a sign is longer than a mark
  pub less_name : get_or bytes at 0 ≡ 60 → (kind : Kind) (k : ℕ) → Begins bytes kind at k → k ≤ token.to
  less_name e Word k h = found.longest k (begun_word h)
  less_name e Name k h = found.longest k h.spelled.0
  less_name e Number k h = absurd (number_not 60 h.spelled e refl)
  less_name e Text k h = absurd (omega (arith, e, h.spelled.opened))
  less_name e At k h = absurd (omega (arith, e, at_first h.spelled))
  less_name e Mark k h = omega (arith, name_mark found.name h.spelled, mark_short h.spelled)

module _ (bytes : List ℕ) (at : ℕ) (lead : is_lead (get_or bytes at 0) ≡ true) where
  -- what begins as a component does is a name
  lead_name : (kind : Kind) (k : ℕ) → Begins bytes kind at k → IsName bytes at k
  lead_name Word k h = begun_word h
  lead_name Name k h = h.spelled.0
  lead_name Number k h = absurd (true≢false (sym lead ∙ number_no_lead (get_or bytes at 0) (number_lead h.spelled)))
  lead_name Text k h = absurd (true≢false (sym lead ∙ ap is_lead h.spelled.opened))
  lead_name At k h = absurd (true≢false (sym lead ∙ ap is_lead (at_first h.spelled)))
  lead_name Mark k h = absurd (true≢false (sym lead ∙ mark_no_lead (get_or bytes at 0) (mark_lead h.spelled)))

  -- so the longest name there is the longest token
  pub lead_token : (r : Option Token) → MatchOption r ((to : ℕ) → ¬ (IsName bytes at to)) (IsNameToken bytes at) → MatchOption r (NoTokenAt bytes at) (TokenAt bytes at)
  lead_token None nameless = λ kind k h. nameless k (lead_name kind k h)
  lead_token (Some token) found = name_token found (λ kind k h. found.longest k (lead_name kind k h))

-- a token that is made has the class of its kind and its bytes
pub made_class : (bytes : List ℕ) (at to : ℕ) (kind : Kind) (l : Lead) (r : Option Token) → MatchOption r (at ≡ to) (IsMade kind at to) → at ≤ to
    → (at < to → IsLead kind (slice_range bytes at to) l) → IfSome r (IsClassed bytes l)
made_class bytes at to kind l None made low is = tt
made_class bytes at to kind l (Some token) made low is =
    let here : IsLead kind (slice_range bytes at to) l = is (omega (arith, low, made.some)) in
    subst (λ k. IsLead k (slice_range bytes token.from token.to) l) (sym made.the_kind)
    (subst (λ n. IsLead kind (slice_range bytes n token.to) l) (sym made.the_from) (subst (λ n. IsLead kind (slice_range bytes at n) l) (sym made.the_to) here))

-- the longest name, made as a token of its kind
pub named : {bytes : List ℕ} {at to : ℕ} (kind : Kind) (r : Option Token) → MatchOption r (at ≡ to) (IsMade kind at to) → IsEnd (IsName bytes at) at (length bytes) to
    → ((k : ℕ) → IsName bytes at k → at < k) → (IsName bytes at to → Spells kind bytes at to) → MatchOption r ((k : ℕ) → ¬ (IsName bytes at k)) (IsNameToken bytes at)
named kind None e found low spells = λ k name. omega (arith, e, found.longest k name, low k name)
named {bytes} {at} {to} kind (Some token) made found low spells =
    let some : at < to = omega (arith, found.low, made.some) in
    let name = found.spelled some in
    record {
      the_from = made.the_from;
      some = omega (arith, some, made.the_to);
      within = omega (arith, found.within, made.the_to);
      name = subst (λ m. IsName bytes at m) (sym made.the_to) name;
      spelled = subst (λ k. Spells k bytes at token.to) (sym made.the_kind) (subst (λ m. Spells kind bytes at m) (sym made.the_to) (spells name));
      longest = λ k h. omega (arith, made.the_to, found.longest k h);
    }

-- a token begins with no blank and where no comment does
pub token_blank : {bytes : List ℕ} {at k : ℕ} (kind : Kind) → Begins bytes kind at k → ¬ (is_blank (get_or bytes at 0) ≡ true)
token_blank {bytes} {at} Word h blank = name_blank (begun_word h) blank
token_blank {bytes} {at} Name h blank = name_blank h.spelled.0 blank
token_blank {bytes} {at} Number h blank = true≢false (sym (number_lead h.spelled) ∙ blank_no_number (get_or bytes at 0) blank)
token_blank {bytes} {at} Text h blank = true≢false (sym blank ∙ ap is_blank h.spelled.opened)
token_blank {bytes} {at} At h blank = true≢false (sym blank ∙ ap is_blank (at_first h.spelled))
token_blank {bytes} {at} Mark h blank = true≢false (sym (mark_lead h.spelled) ∙ blank_no_mark (get_or bytes at 0) blank)

-- no token begins where a comment does
pub token_comment : {bytes : List ℕ} {at k to : ℕ} (kind : Kind) → Begins bytes kind at k → ¬ (Comment bytes at to)
token_comment Word h comment = name_not 47 (begun_word h) (comment_first comment) refl (λ z. omega (arith, z))
token_comment Name h comment = name_not 47 h.spelled.0 (comment_first comment) refl (λ z. omega (arith, z))
token_comment Number h comment = number_not 47 h.spelled (comment_first comment) refl
token_comment Text h comment = omega (arith, h.spelled.opened, comment_first comment)
token_comment At h comment = omega (arith, at_first h.spelled, comment_first comment)
token_comment Mark h comment = mark_bare h.spelled (comment_first comment) (comment_second comment)
