-- Comments, each of which has one end.
use Rattle.std.proofs.Common.{◌≡◌, ℕ, ◌+◌, ◌<◌, ◌≤◌, ◌⊎◌, List, length, get_or, refl, sym, ap, ◌∙◌, subst, inl, inr, arith}
use Rattle.jim_text.specs.Chars.{CharAt, NoCharAt, Run, Stops}
use Rattle.jim_text.specs.Spelling.{is_in_line, ClosesAt, Unclosed, Comment}
use Rattle.jim_text.specs.Spelling.Unclosed.{ends, goes}
use Rattle.jim_text.specs.Spelling.Comment.{line, block}
use Rattle.jim_text.proofs.CharLemmas.{char_low, char_same, run_low, run_within, run_same, end_stops, byte_stops, byte_before}

-- characters without an end of a comment go on by one more
pub unclosed_snoc : {bytes : List ℕ} {from middle c to : ℕ} → Unclosed bytes from middle → ¬ (ClosesAt bytes middle) → CharAt bytes middle c to → Unclosed bytes from to
unclosed_snoc {bytes} {from} {middle} {c} {to} (ends e) unclosed here =
    goes (λ closes. unclosed (subst (ClosesAt bytes) e closes)) (subst (λ x. CharAt bytes x c to) (sym e) here) (ends refl)
unclosed_snoc (goes before first more) unclosed here = goes before first (unclosed_snoc more unclosed here)

-- they end where they begin, or later
pub unclosed_low : {bytes : List ℕ} {from to : ℕ} → Unclosed bytes from to → from ≤ to
unclosed_low (ends e) = omega (arith, e)
unclosed_low (goes unclosed here more) = omega (arith, char_low here, unclosed_low more)

-- they lead past each place of others that reach an end of a comment
pub unclosed_on : {bytes : List ℕ} {from middle close : ℕ} → Unclosed bytes from middle → Unclosed bytes from close → ClosesAt bytes close → Unclosed bytes middle close
unclosed_on {bytes} {from} {middle} {close} (ends e) whole closes = subst (λ x. Unclosed bytes x close) e whole
unclosed_on {bytes} (goes unclosed here more) (ends e) closes = absurd (unclosed (subst (ClosesAt bytes) (sym e) closes))
unclosed_on {bytes} {from} {middle} {close} (goes unclosed here more) (goes opens there whole) closes =
    unclosed_on more (subst (λ x. Unclosed bytes x close) (sym (char_same here there).1) whole) closes

-- the first end of a comment is one
pub unclosed_same : {bytes : List ℕ} {from one two : ℕ} → Unclosed bytes from one → ClosesAt bytes one → Unclosed bytes from two → ClosesAt bytes two → one ≡ two
unclosed_same a x b y = omega (arith, unclosed_low (unclosed_on a b y), unclosed_low (unclosed_on b a x))

-- no line goes on at its end
pub line_stops : {bytes : List ℕ} {to : ℕ} → (to ≡ length bytes) ⊎ (get_or bytes to 0 ≡ 10) → Stops is_in_line bytes to
line_stops {bytes} {to} (inl e) = end_stops is_in_line bytes to (omega (arith, e))
line_stops {bytes} {to} (inr e) = byte_stops is_in_line bytes to 10 e (omega arith) refl

-- a comment begins with a slash
pub comment_first : {bytes : List ℕ} {from to : ℕ} → Comment bytes from to → get_or bytes from 0 ≡ 47
comment_first (line slash slashes run ended) = slash
comment_first (block slash star inside closes e) = slash

-- and with a slash or a star behind it
pub comment_second : {bytes : List ℕ} {from to : ℕ} → Comment bytes from to → (get_or bytes (from + 1) 0 ≡ 47) ⊎ (get_or bytes (from + 1) 0 ≡ 42)
comment_second (line slash slashes run ended) = inl slashes
comment_second (block slash star inside closes e) = inr star

-- a comment has a byte at least
pub comment_low : {bytes : List ℕ} {from to : ℕ} → Comment bytes from to → from < to
comment_low (line slash slashes run ended) = omega (arith, run_low run)
comment_low (block slash star inside closes e) = omega (arith, unclosed_low inside)

-- a comment ends in the bytes
pub comment_within : {bytes : List ℕ} {from to : ℕ} → Comment bytes from to → to ≤ length bytes
comment_within {bytes} {from} (line slash slashes run ended) = run_within run (omega (arith, byte_before bytes (from + 1) 47 slashes (omega arith)))
comment_within {bytes} {from} (block {close = close} slash star inside closes e) = omega (arith, byte_before bytes (close + 1) 47 closes.1 (omega arith))

-- a comment has one end
pub comment_same : {bytes : List ℕ} {from one two : ℕ} → Comment bytes from one → Comment bytes from two → one ≡ two
comment_same (line slash slashes run ended) (line slash2 slashes2 run2 ended2) = run_same run (line_stops ended) run2 (line_stops ended2)
comment_same (line slash slashes run ended) (block slash2 star2 inside2 closes2 e2) = absurd (omega (arith, slashes, star2))
comment_same (block slash star inside closes e) (line slash2 slashes2 run2 ended2) = absurd (omega (arith, star, slashes2))
comment_same (block slash star inside closes e) (block slash2 star2 inside2 closes2 e2) = omega (arith, e, e2, unclosed_same inside closes inside2 closes2)

-- a line that stops at a malformed character is no comment
pub no_line : {bytes : List ℕ} {at end : ℕ} → get_or bytes (at + 1) 0 ≡ 47 → Run is_in_line bytes (at + 2) end → Stops is_in_line bytes end
    → ¬ (end ≡ length bytes) → ¬ (get_or bytes end 0 ≡ 10) → (to : ℕ) → ¬ (Comment bytes at to)
no_line {bytes} slashes run stops inside other to (line slash slashes2 run2 (inl e)) = inside (run_same run stops run2 (line_stops (inl e)) ∙ e)
no_line {bytes} slashes run stops inside other to (line slash slashes2 run2 (inr e)) =
    other (ap (λ k. get_or bytes k 0) (run_same run stops run2 (line_stops (inr e))) ∙ e)
no_line slashes run stops inside other to (block slash star within closes e) = omega (arith, slashes, star)

-- a comment that is never closed is none
pub no_block : {bytes : List ℕ} {at : ℕ} → get_or bytes (at + 1) 0 ≡ 42 → ((close : ℕ) → Unclosed bytes (at + 2) close → ¬ (ClosesAt bytes close)) → (to : ℕ) → ¬ (Comment bytes at to)
no_block star none to (line slash slashes run ended) = omega (arith, star, slashes)
no_block star none to (block {close = close} slash star2 inside closes e) = none close inside closes

-- no character stands at a place where the comment is still open
pub stuck_open : {bytes : List ℕ} {from middle : ℕ} → Unclosed bytes from middle → ¬ (ClosesAt bytes middle) → NoCharAt bytes middle
    → (close : ℕ) → Unclosed bytes from close → ¬ (ClosesAt bytes close)
stuck_open {bytes} {from} {middle} inside unclosed none close whole closes = at_once (unclosed_on inside whole closes)
  where
    at_once : Unclosed bytes middle close → ⊥
    at_once (ends e) = unclosed (subst (ClosesAt bytes) (sym e) closes)
    at_once (goes {c = c} {next = next} before here more) = none c next here

-- the comment is open at the end
pub end_open : {bytes : List ℕ} {from middle : ℕ} → Unclosed bytes from middle → length bytes ≤ middle → (close : ℕ) → Unclosed bytes from close → ¬ (ClosesAt bytes close)
end_open {bytes} {from} {middle} inside past close whole closes =
    omega (arith, unclosed_low (unclosed_on inside whole closes), byte_before bytes close 42 closes.0 (omega arith))
