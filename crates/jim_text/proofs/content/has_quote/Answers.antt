use Rattle.std.proofs.Common.{◌≡◌, ◌==◌, ◌||◌, Bool, true, false, cond, not, ℕ, List, [], ◌∷◌, refl, sym, ap, ◌∙◌, true≢false}
use Rattle.std.specs.List.{list_any}
use Rattle.std.proofs.lemmas.List.{take_all}
use Rattle.jim_text.specs.Contents.{is_quote, has_quote, contents}
use Rattle.jim_text.proofs.content.has_quote.Goals as goal

-- a text without quotes has nothing that its contents drop
contents_plain : (text : List ℕ) → has_quote text ≡ false → contents text ≡ text
contents_plain [] h = refl
contents_plain (b ∷ text) h = step (b == 39) h (contents_plain text)
  where
    step : (t : Bool) → t || has_quote text ≡ false → (has_quote text ≡ false → contents text ≡ text) → cond (not t) (b ∷ contents text) (contents text) ≡ b ∷ text
    step true e rest = absurd (true≢false e)
    step false e rest = ap (λ s. b ∷ s) (rest e)

pub returns-clause-plain : goal.returns-clause-plain
returns-clause-plain c none = contents_plain c.args.text.now (ap (list_any is_quote) (sym (take_all c.loop-byte.byte-index c.args.text.now c.loop-byte-test.false)) ∙ c.loop-byte.invariant)
