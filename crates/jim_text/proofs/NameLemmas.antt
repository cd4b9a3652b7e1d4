-- The longest name at a place.
use Rattle.std.proofs.Common.{◌≡◌, ℕ, ◌+◌, ◌<◌, ◌≤◌, ◌⊎◌, Bool, true, false, nat_le, ◌||◌, ◌==◌, List, length, get_or, refl, sym, ap, ◌∙◌, subst, inl, inr, arith, true≢false, codes}
use Rattle.std.specs.Char.{is_ascii_alphabetic}
use Rattle.unicode_ident.proofs.IdentLemmas.{is_xid_start-ascii, is_xid_continue-ascii}
use Rattle.jim_text.specs.Chars.{CharAt, NoCharAt, Run, Stops, Has}
use Rattle.jim_text.specs.Spelling.{is_start, is_continue, is_in_quotes, Component, Joined, IsName}
use Rattle.jim_text.specs.Spelling.Component.{plain, quoted}
use Rattle.jim_text.specs.Spelling.Joined.{last, more}
use Rattle.jim_text.specs.Spelling.IsName.{init, clinit, joined}
use Rattle.jim_text.specs.Ends.{IsEnd, is_lead}
use Rattle.jim_text.proofs.CharLemmas.{char_low, char_within, char_same, byte_char, byte_before, byte_stops, run_low, run_on, run_same}
use Rattle.jim_text.proofs.DigitLemmas.{order, has_byte, has_first, has_within}

-- an ASCII character that begins a component is a byte that may
start_lead : (b : ℕ) → b < 128 → is_start b ≡ true → is_lead b ≡ true
start_lead b small h =
    let ascii : is_ascii_alphabetic b || (b == 36) || (b == 95) ≡ true = ap (λ t. t || (b == 36) || (b == 95)) (sym (is_xid_start-ascii b small)) ∙ h in
    by (is_ascii_alphabetic b || (b == 36) || (b == 95)) ascii
  where
    by : (t : Bool) → t ≡ true → t || (b == 39) || nat_le 128 b ≡ true
    by t e = rw e refl

-- so is the first byte of any other character
wide_lead : (b : ℕ) → 128 ≤ b → is_lead b ≡ true
wide_lead b h = let wide : nat_le 128 b ≡ true = grind arith in by (is_ascii_alphabetic b || (b == 36) || (b == 95) || (b == 39)) wide
  where
    by : (t : Bool) → nat_le 128 b ≡ true → t || nat_le 128 b ≡ true
    by true e = refl
    by false e = e

-- a component begins with a byte that may begin one
pub component_first : {bytes : List ℕ} {from to : ℕ} → Component bytes from to → is_lead (get_or bytes from 0) ≡ true
component_first {bytes} {from} (plain here start run) = elim (order (get_or bytes from 0) 128) [
  | inl small ↦ start_lead (get_or bytes from 0) small (ap is_start (sym (byte_char here small)) ∙ start)
  | inr wide ↦ wide_lead (get_or bytes from 0) wide
]
component_first {bytes} {from} (quoted quote some run close e) = ap is_lead quote

-- a component has a byte at least
pub component_low : {bytes : List ℕ} {from to : ℕ} → Component bytes from to → from < to
component_low (plain here start run) = omega (arith, char_low here, run_low run)
component_low (quoted quote some run close e) = omega (arith, e, some)

-- no dot goes on a plain component
dot_continue : is_continue 46 ≡ false
dot_continue = ap (λ t. t || (46 == 36) || (46 == 35) || (46 == 45)) (is_xid_continue-ascii 46 (omega arith))

-- a plain component stops at a dot
dot_stops : {bytes : List ℕ} {at : ℕ} → get_or bytes at 0 ≡ 46 → Stops is_continue bytes at
dot_stops {bytes} {at} e = byte_stops is_continue bytes at 46 e (omega arith) dot_continue

-- what stands in quotes stops at a quote
quote_stops : {bytes : List ℕ} {at : ℕ} → get_or bytes at 0 ≡ 39 → Stops is_in_quotes bytes at
quote_stops {bytes} {at} e = byte_stops is_in_quotes bytes at 39 e (omega arith) refl

-- where nothing is spelled, the end is the place itself
pub no_end : (P : ℕ → Type 0) (at len : ℕ) → at ≤ len → ((k : ℕ) → ¬ (P k)) → IsEnd P at len at
no_end P at len within none = record { low = omega arith; within = within; spelled = λ l. absurd (omega (arith, l)); longest = λ k h. absurd (none k h) }

module _ {bytes : List ℕ} {at c next : ℕ} (other : ¬ (get_or bytes at 0 ≡ 39)) (here : CharAt bytes at c next) where
  -- a plain component that cannot go on is the longest
  pub plain_whole : {end : ℕ} → is_start c ≡ true → Run is_continue bytes next end → Stops is_continue bytes end → end ≤ length bytes → IsEnd (Component bytes at) at (length bytes) end
  plain_whole {end} start run stops within = record {
    low = omega (arith, char_low here, run_low run);
    within = within;
    spelled = λ l. plain here start run;
    longest = longest;
  }
    where
      longest : (k : ℕ) → Component bytes at k → k ≤ end
      longest k (plain there start2 run2) = run_low (run_on (subst (λ m. Run is_continue bytes m k) (char_same there here).1 run2) run stops)
      longest k (quoted quote some run2 close e) = absurd (other quote)

  -- and the only one before a dot
  pub plain_dotted : {end : ℕ} → Run is_continue bytes next end → Stops is_continue bytes end → (to : ℕ) → Component bytes at to → get_or bytes to 0 ≡ 46 → to ≡ end
  plain_dotted run stops to (plain there start2 run2) dot = run_same (subst (λ m. Run is_continue bytes m to) (char_same there here).1 run2) (dot_stops dot) run stops
  plain_dotted run stops to (quoted quote some run2 close e) dot = absurd (other quote)

  -- a character that begins no component
  pub no_plain_start : is_start c ≡ false → (to : ℕ) → ¬ (Component bytes at to)
  no_plain_start fails to (plain there start run) = true≢false (sym start ∙ ap is_start (char_same there here).0 ∙ fails)
  no_plain_start fails to (quoted quote some run close e) = other quote

-- a malformed character begins no component
pub no_plain_char : {bytes : List ℕ} {at : ℕ} → ¬ (get_or bytes at 0 ≡ 39) → NoCharAt bytes at → (to : ℕ) → ¬ (Component bytes at to)
no_plain_char other none to (plain {c = c} {next = next} there start run) = none c next there
no_plain_char other none to (quoted quote some run close e) = other quote

-- where there is no component, nothing is the longest
pub no_component : {bytes : List ℕ} {at : ℕ} → at ≤ length bytes → ((to : ℕ) → ¬ (Component bytes at to)) → IsEnd (Component bytes at) at (length bytes) at
no_component {bytes} {at} within none = no_end (Component bytes at) at (length bytes) within none

-- a quote begins no plain component
no_quoted_char : {bytes : List ℕ} {at c to : ℕ} → get_or bytes at 0 ≡ 39 → CharAt bytes at c to → ¬ (is_start c ≡ true)
no_quoted_char {bytes} {at} quote here start =
    true≢false (sym start ∙ ap is_start (byte_char here (omega (arith, quote)) ∙ quote) ∙ ap (λ t. t || (39 == 36) || (39 == 95)) (is_xid_start-ascii 39 (omega arith)))

module _ {bytes : List ℕ} {at close : ℕ} (quote : get_or bytes at 0 ≡ 39) (run : Run is_in_quotes bytes (at + 1) close) (stops : Stops is_in_quotes bytes close) where
  -- a quoted component ends behind the first quote
  pub quoted_close : (to : ℕ) → Component bytes at to → (get_or bytes close 0 ≡ 39) × (at + 1 < close) × (to ≡ close + 1)
  quoted_close to (plain here start run2) = absurd (no_quoted_char quote here start)
  quoted_close to (quoted {close = other} quote2 some run2 closed e) =
      let same : other ≡ close = run_same run2 (quote_stops closed) run stops in
      (ap (λ k. get_or bytes k 0) (sym same) ∙ closed, omega (arith, same, some), omega (arith, same, e))

  -- it is the longest
  pub quoted_whole : get_or bytes close 0 ≡ 39 → ¬ (close ≡ at + 1) → IsEnd (Component bytes at) at (length bytes) (close + 1)
  quoted_whole closed some = record {
    low = omega (arith, run_low run);
    within = omega (arith, byte_before bytes close 39 closed (omega arith));
    spelled = λ l. quoted quote (omega (arith, run_low run, some)) run closed refl;
    longest = λ k h. omega (arith, (quoted_close k h).2);
  }

-- no component begins at the end
pub end_component : {bytes : List ℕ} {at : ℕ} → at ≡ length bytes → (to : ℕ) → ¬ (Component bytes at to)
end_component e to (plain here start run) = omega (arith, e, char_low here, char_within here)
end_component {bytes} {at} e to (quoted quote some run close z) = omega (arith, e, byte_before bytes at 39 quote (omega arith))

-- joined components begin as a component does
pub joined_first : {bytes : List ℕ} {from to : ℕ} → Joined bytes from to → is_lead (get_or bytes from 0) ≡ true
joined_first (last component) = component_first component
joined_first (more component dot rest) = component_first component

-- they have a byte at least
pub joined_low : {bytes : List ℕ} {from to : ℕ} → Joined bytes from to → from < to
joined_low (last component) = component_low component
joined_low (more component dot rest) = omega (arith, component_low component, joined_low rest)

-- they go on by a dot and a component
pub joined_snoc : {bytes : List ℕ} {from dot to : ℕ} → Joined bytes from dot → get_or bytes dot 0 ≡ 46 → Component bytes (dot + 1) to → Joined bytes from to
joined_snoc (last component) point next = more component point (last next)
joined_snoc (more component point rest) point2 next = more component point (joined_snoc rest point2 next)

-- the longest component, and what may follow it
pub joined_step : {bytes : List ℕ} {from end : ℕ} → IsEnd (Component bytes from) from (length bytes) end
    → ((to : ℕ) → Component bytes from to → get_or bytes to 0 ≡ 46 → to ≡ end)
    → (to : ℕ) → Joined bytes from to → (to ≤ end) ⊎ ((get_or bytes end 0 ≡ 46) × Joined bytes (end + 1) to)
joined_step {bytes} {from} {end} found dotted to (last component) = inl (found.longest to component)
joined_step {bytes} {from} {end} found dotted to (more {dot = dot} component point rest) =
    let same : dot ≡ end = dotted dot component point in
    inr (ap (λ k. get_or bytes k 0) (sym same) ∙ point, subst (λ m. Joined bytes (m + 1) to) same rest)

-- without a first component there are none
pub no_joined : {bytes : List ℕ} {from end to : ℕ} → IsEnd (Component bytes from) from (length bytes) end → end ≡ from → ¬ (Joined bytes from to)
no_joined {bytes} {from} {end} {to} found e (last component) = omega (arith, e, found.longest to component, component_low component)
no_joined {bytes} {from} {end} {to} found e (more {dot = dot} component point rest) = omega (arith, e, found.longest dot component, component_low component)

-- the byte of `<` begins no component
lead_no_less : {bytes : List ℕ} {at to : ℕ} → get_or bytes at 0 ≡ 60 → ¬ (Joined bytes at to)
lead_no_less e h = true≢false (sym (joined_first h) ∙ ap is_lead e)

module _ {bytes : List ℕ} {at : ℕ} (within : at < length bytes) where
  -- a name that begins with no `<` is components
  pub name_joined : {end : ℕ} → ¬ (get_or bytes at 0 ≡ 60) → IsEnd (Joined bytes at) at (length bytes) end → IsEnd (IsName bytes at) at (length bytes) end
  name_joined {end} other found = record { low = found.low; within = found.within; spelled = λ l. joined (found.spelled l); longest = longest }
    where
      longest : (k : ℕ) → IsName bytes at k → k ≤ end
      longest k (init h e) = absurd (other (has_first bytes at (codes "<init>") h (omega arith)))
      longest k (clinit h e) = absurd (other (has_first bytes at (codes "<clinit>") h (omega arith)))
      longest k (joined h) = found.longest k h

  -- the longest name is `<init>`
  pub name_init : Has bytes at (codes "<init>") → IsEnd (IsName bytes at) at (length bytes) (at + 6)
  name_init here = record { low = omega arith; within = has_within bytes at (codes "<init>") (omega arith) here; spelled = λ l. init here refl; longest = longest }
    where
      longest : (k : ℕ) → IsName bytes at k → k ≤ at + 6
      longest k (init h e) = omega (arith, e)
      longest k (clinit h e) = absurd (omega (arith, has_byte bytes at (codes "<init>") here 1 (omega arith), has_byte bytes at (codes "<clinit>") h 1 (omega arith)))
      longest k (joined h) = absurd (lead_no_less (has_first bytes at (codes "<init>") here (omega arith)) h)

  -- the longest name is `<clinit>`
  pub name_clinit : Has bytes at (codes "<clinit>") → IsEnd (IsName bytes at) at (length bytes) (at + 8)
  name_clinit here = record { low = omega arith; within = has_within bytes at (codes "<clinit>") (omega arith) here; spelled = λ l. clinit here refl; longest = longest }
    where
      longest : (k : ℕ) → IsName bytes at k → k ≤ at + 8
      longest k (init h e) = omega (arith, e)
      longest k (clinit h e) = omega (arith, e)
      longest k (joined h) = absurd (lead_no_less (has_first bytes at (codes "<clinit>") here (omega arith)) h)

  -- there is no name with a sign
  pub name_none : get_or bytes at 0 ≡ 60 → ¬ (Has bytes at (codes "<init>")) → ¬ (Has bytes at (codes "<clinit>")) → IsEnd (IsName bytes at) at (length bytes) at
  name_none e a b = no_end (IsName bytes at) at (length bytes) (omega arith) none
    where
      none : (k : ℕ) → ¬ (IsName bytes at k)
      none k (init h z) = a h
      none k (clinit h z) = b h
      none k (joined h) = lead_no_less e h

-- a name begins with a sign or with a component, and the names with a sign are longer than a mark
pub name_lead : {bytes : List ℕ} {from to : ℕ} → IsName bytes from to → ((get_or bytes from 0 ≡ 60) × (from + 6 ≤ to)) ⊎ (is_lead (get_or bytes from 0) ≡ true)
name_lead {bytes} {from} (init h e) = inl (has_first bytes from (codes "<init>") h (omega arith), omega (arith, e))
name_lead {bytes} {from} (clinit h e) = inl (has_first bytes from (codes "<clinit>") h (omega arith), omega (arith, e))
name_lead {bytes} {from} (joined h) = inr (joined_first h)

-- a longer front of the name
pub joined_preserved : {bytes : List ℕ} {at end next : ℕ} → IsEnd (Component bytes (end + 1)) (end + 1) (length bytes) next
    → ((to : ℕ) → Component bytes (end + 1) to → get_or bytes to 0 ≡ 46 → to ≡ next)
    → ((to : ℕ) → Joined bytes at to → (to ≤ end) ⊎ ((get_or bytes end 0 ≡ 46) × Joined bytes (end + 1) to))
    → (to : ℕ) → Joined bytes at to → (to ≤ next) ⊎ ((get_or bytes next 0 ≡ 46) × Joined bytes (next + 1) to)
joined_preserved {bytes} {at} {end} {next} found dotted rest to h = elim (rest to h) [
  | inl low ↦ inl (omega (arith, low, found.low))
  | inr more_of ↦ joined_step found dotted to more_of.1
]

-- no component follows
pub joined_last : {bytes : List ℕ} {at end : ℕ} → at < end → end ≤ length bytes → Joined bytes at end → ((to : ℕ) → get_or bytes end 0 ≡ 46 → ¬ (Joined bytes (end + 1) to))
    → ((to : ℕ) → Joined bytes at to → (to ≤ end) ⊎ ((get_or bytes end 0 ≡ 46) × Joined bytes (end + 1) to)) → IsEnd (Joined bytes at) at (length bytes) end
joined_last {bytes} {at} {end} low within whole none rest = record { low = omega (arith, low); within = within; spelled = λ l. whole; longest = longest }
  where
    longest : (k : ℕ) → Joined bytes at k → k ≤ end
    longest k h = elim (rest k h) [ inl fine ↦ fine | inr more_of ↦ absurd (none k more_of.0 more_of.1) ]

-- a name has a byte at least
pub name_low : {bytes : List ℕ} {from to : ℕ} → IsName bytes from to → from < to
name_low (init h e) = omega (arith, e)
name_low (clinit h e) = omega (arith, e)
name_low (joined h) = joined_low h
