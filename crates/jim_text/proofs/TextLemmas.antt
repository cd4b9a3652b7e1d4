-- Texts, each of which has one end, and the words with an at sign.
use Rattle.std.proofs.Common.{◌≡◌, ℕ, ◌+◌, ◌<◌, ◌≤◌, true, false, List, length, get_or, refl, sym, ap, ◌∙◌, subst, arith, true≢false, IsTrue, codes}
use Rattle.jim_text.specs.Chars.{CharAt, Has}
use Rattle.jim_text.specs.Spelling.{is_item, is_escaped, is_digit, Item, Items, IsText, IsAt}
use Rattle.jim_text.specs.Spelling.Item.{plain, escape}
use Rattle.jim_text.specs.Spelling.Items.{ends, goes}
use Rattle.jim_text.specs.Spelling.IsAt.{this, caught, parameter}
use Rattle.jim_text.specs.Ends.{DigitsEnd, IsEnd}
use Rattle.jim_text.proofs.CharLemmas.{char_low, char_same, byte_char, byte_before}
use Rattle.jim_text.proofs.DigitLemmas.{has_byte, has_within, found_digits, digits_le, no_digits}

-- a plain item isn't one of the bytes that end or escape
plain_byte : {bytes : List ℕ} {from c to : ℕ} (b : ℕ) → CharAt bytes from c to → IsTrue (is_item c) → b < 128 → is_item b ≡ false → ¬ (get_or bytes from 0 ≡ b)
plain_byte b here passes small fails e = true≢false (sym passes ∙ ap is_item (byte_char here (omega (arith, e)) ∙ e) ∙ fails)

-- a backslash without a character that may follow it is no item
pub no_escape : {bytes : List ℕ} {at : ℕ} → get_or bytes at 0 ≡ 92 → ((c to : ℕ) → CharAt bytes (at + 1) c to → ¬ (is_escaped c ≡ true)) → (to : ℕ) → ¬ (Item bytes at to)
no_escape slash none to (plain here passes) = plain_byte 92 here passes (omega arith) refl slash
no_escape slash none to (escape {c = c} slash2 here passes) = none c to here passes

-- nor is another byte without a character that stands for itself
pub no_plain : {bytes : List ℕ} {at : ℕ} → ¬ (get_or bytes at 0 ≡ 92) → ((c to : ℕ) → CharAt bytes at c to → ¬ (is_item c ≡ true)) → (to : ℕ) → ¬ (Item bytes at to)
no_plain other none to (plain {c = c} here passes) = none c to here passes
no_plain other none to (escape slash here passes) = other slash

-- an item has one end
pub item_same : {bytes : List ℕ} {from one two : ℕ} → Item bytes from one → Item bytes from two → one ≡ two
item_same (plain here passes) (plain there also) = (char_same here there).1
item_same (plain here passes) (escape slash there also) = absurd (plain_byte 92 here passes (omega arith) refl slash)
item_same (escape slash here passes) (plain there also) = absurd (plain_byte 92 there also (omega arith) refl slash)
item_same (escape slash here passes) (escape slash2 there also) = (char_same here there).1

-- an item has a byte at least
pub item_low : {bytes : List ℕ} {from to : ℕ} → Item bytes from to → from < to
item_low (plain here passes) = char_low here
item_low (escape slash here passes) = omega (arith, char_low here)

-- no item begins with a quote
pub item_quote : {bytes : List ℕ} {from to : ℕ} → Item bytes from to → ¬ (get_or bytes from 0 ≡ 34)
item_quote (plain here passes) e = plain_byte 34 here passes (omega arith) refl e
item_quote (escape slash here passes) e = omega (arith, slash, e)

-- items end where they begin, or later
pub items_low : {bytes : List ℕ} {from to : ℕ} → Items bytes from to → from ≤ to
items_low (ends e) = omega (arith, e)
items_low (goes item more) = omega (arith, item_low item, items_low more)

-- items go on by one more
pub items_snoc : {bytes : List ℕ} {from middle to : ℕ} → Items bytes from middle → Item bytes middle to → Items bytes from to
items_snoc {bytes} {from} {middle} {to} (ends e) item = goes (subst (λ x. Item bytes x to) (sym e) item) (ends refl)
items_snoc (goes first more) item = goes first (items_snoc more item)

-- items lead past each place of others that reach a quote
pub items_on : {bytes : List ℕ} {from middle close : ℕ} → Items bytes from middle → Items bytes from close → get_or bytes close 0 ≡ 34 → Items bytes middle close
items_on {bytes} {from} {middle} {close} (ends e) whole quote = subst (λ x. Items bytes x close) e whole
items_on {bytes} (goes item more) (ends e) quote = absurd (item_quote item (ap (λ x. get_or bytes x 0) e ∙ quote))
items_on {bytes} {from} {middle} {close} (goes item more) (goes other whole) quote =
    items_on more (subst (λ x. Items bytes x close) (sym (item_same item other)) whole) quote

-- the first quote behind items is one
pub items_same : {bytes : List ℕ} {from one two : ℕ} → Items bytes from one → get_or bytes one 0 ≡ 34 → Items bytes from two → get_or bytes two 0 ≡ 34 → one ≡ two
items_same a x b y = omega (arith, items_low (items_on a b y), items_low (items_on b a x))

-- a text that reaches a quote is the longest
pub text_closed : {bytes : List ℕ} {at end : ℕ} → get_or bytes at 0 ≡ 34 → Items bytes (at + 1) end → get_or bytes end 0 ≡ 34 → IsEnd (IsText bytes at) at (length bytes) (end + 1)
text_closed {bytes} {at} {end} quote items closed = record {
  low = omega (arith, items_low items);
  within = omega (arith, byte_before bytes end 34 closed (omega arith));
  spelled = λ _. record { close = end; opened = quote; items = items; closed = closed; ends = refl };
  longest = λ k text. omega (arith, text.ends, items_same items closed text.items text.closed);
}

-- a text that reaches no quote is none
no_text : {bytes : List ℕ} {at : ℕ} → at < length bytes → ((k : ℕ) → ¬ (IsText bytes at k)) → IsEnd (IsText bytes at) at (length bytes) at
no_text within none = record { low = omega arith; within = omega arith; spelled = λ l. absurd (omega (arith, l)); longest = λ k text. absurd (none k text) }

-- no text goes on where no item begins
pub text_stuck : {bytes : List ℕ} {at end : ℕ} → at < length bytes → Items bytes (at + 1) end → ¬ (get_or bytes end 0 ≡ 34) → ((to : ℕ) → ¬ (Item bytes end to))
    → IsEnd (IsText bytes at) at (length bytes) at
text_stuck {bytes} {at} {end} within items other none = no_text within (λ k text. at_once text.close text.closed (items_on items text.items text.closed))
  where
    at_once : (close : ℕ) → get_or bytes close 0 ≡ 34 → ¬ (Items bytes end close)
    at_once close closed (ends e) = other (ap (λ x. get_or bytes x 0) e ∙ closed)
    at_once close closed (goes {next = next} item more) = none next item

-- no text reaches the end of the bytes without a quote
pub text_unclosed : {bytes : List ℕ} {at end : ℕ} → at < length bytes → Items bytes (at + 1) end → length bytes ≤ end → IsEnd (IsText bytes at) at (length bytes) at
text_unclosed {bytes} {at} {end} within items past = no_text within (λ k text.
    omega (arith, items_low (items_on items text.items text.closed), byte_before bytes text.close 34 text.closed (omega arith)))

module _ (bytes : List ℕ) (at : ℕ) (within : at < length bytes) where
  -- the second byte of bytes that stand at a place
  letter : (text : List ℕ) → 1 < length text → Has bytes at text → get_or bytes (at + 1) 0 ≡ get_or text 1 0
  letter text long h = has_byte bytes at text h 1 long

  -- the word is `@this`
  pub at_this : Has bytes at (codes "@this") → IsEnd (IsAt bytes at) at (length bytes) (at + 5)
  at_this h = record { low = omega arith; within = has_within bytes at (codes "@this") (omega arith) h; spelled = λ _. this h refl; longest = longest }
    where
      longest : (k : ℕ) → IsAt bytes at k → k ≤ at + 5
      longest k (this g e) = omega (arith, e)
      longest k (caught g e) = absurd (omega (arith, letter (codes "@this") (omega arith) h, letter (codes "@caughtexception") (omega arith) g))
      longest k (parameter g digits) = absurd (omega (arith, letter (codes "@this") (omega arith) h, letter (codes "@parameter") (omega arith) g))

  -- the word is `@caughtexception`
  pub at_caught : Has bytes at (codes "@caughtexception") → IsEnd (IsAt bytes at) at (length bytes) (at + 16)
  at_caught h = record { low = omega arith; within = has_within bytes at (codes "@caughtexception") (omega arith) h; spelled = λ _. caught h refl; longest = longest }
    where
      longest : (k : ℕ) → IsAt bytes at k → k ≤ at + 16
      longest k (this g e) = omega (arith, e)
      longest k (caught g e) = omega (arith, e)
      longest k (parameter g digits) = absurd (omega (arith, letter (codes "@caughtexception") (omega arith) h, letter (codes "@parameter") (omega arith) g))

  -- the word with the digits found is the longest
  parameter_longest : {end : ℕ} → Has bytes at (codes "@parameter") → DigitsEnd is_digit 5 bytes (at + 10) end → (k : ℕ) → IsAt bytes at k → k ≤ end
  parameter_longest h found k (this g e) = absurd (omega (arith, letter (codes "@parameter") (omega arith) h, letter (codes "@this") (omega arith) g))
  parameter_longest h found k (caught g e) = absurd (omega (arith, letter (codes "@parameter") (omega arith) h, letter (codes "@caughtexception") (omega arith) g))
  parameter_longest h found k (parameter g digits) = digits_le found digits

  -- the word is `@parameter` with its digits
  pub at_parameter : {end : ℕ} → Has bytes at (codes "@parameter") → DigitsEnd is_digit 5 bytes (at + 10) end → end ≤ length bytes → ¬ (end ≡ at + 10) → IsEnd (IsAt bytes at) at (length bytes) end
  at_parameter h found fits some = record {
    low = omega (arith, found.low);
    within = fits;
    spelled = λ _. parameter h (found_digits found (omega (arith, found.low, some)));
    longest = parameter_longest h found;
  }

  -- `@parameter` without digits is no word
  pub at_bare : {end : ℕ} → Has bytes at (codes "@parameter") → DigitsEnd is_digit 5 bytes (at + 10) end → end ≡ at + 10 → IsEnd (IsAt bytes at) at (length bytes) at
  at_bare {end} h found none = record { low = omega arith; within = omega arith; spelled = λ l. absurd (omega (arith, l)); longest = longest }
    where
      longest : (k : ℕ) → IsAt bytes at k → k ≤ at
      longest k (this g e) = absurd (omega (arith, letter (codes "@parameter") (omega arith) h, letter (codes "@this") (omega arith) g))
      longest k (caught g e) = absurd (omega (arith, letter (codes "@parameter") (omega arith) h, letter (codes "@caughtexception") (omega arith) g))
      longest k (parameter g digits) = absurd (no_digits found none digits)

  -- there is no such word
  pub at_none : ¬ (Has bytes at (codes "@this")) → ¬ (Has bytes at (codes "@caughtexception")) → ¬ (Has bytes at (codes "@parameter")) → IsEnd (IsAt bytes at) at (length bytes) at
  at_none a b c = record { low = omega arith; within = omega arith; spelled = λ l. absurd (omega (arith, l)); longest = longest }
    where
      longest : (k : ℕ) → IsAt bytes at k → k ≤ at
      longest k (this g e) = absurd (a g)
      longest k (caught g e) = absurd (b g)
      longest k (parameter g digits) = absurd (c g)
