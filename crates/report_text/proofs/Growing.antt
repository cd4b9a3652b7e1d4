-- Texts that grow by lines.
use Rattle.std.proofs.Common.{◌≡◌, ℕ, ◌+◌, ◌<◌, List, [], ◌∷◌, ◌++◌, length, take, get_or, refl, sym, ap, ◌∙◌, append_assoc, append-nil}
use Rattle.std.proofs.lemmas.List.{take_more}
use Rattle.lists.specs.Lists.{Each}
use Rattle.lists.proofs.SideBySide.{Each-push}
use Rattle.report_text.specs.Lines.{AddsLine, AddsLines, text_of}
use Rattle.report_text.specs.Texts.{AddsText}

-- the text of lines and more lines
pub text_of-append : (xs ys : List (List ℕ)) → text_of (xs ++ ys) ≡ text_of xs ++ text_of ys
text_of-append [] ys = refl
text_of-append (x ∷ xs) ys = ap (λ t. x ++ 10 ∷ t) (text_of-append xs ys) ∙ sym (append_assoc x (10 ∷ text_of xs) (text_of ys))

module _ {X : Type 0} (R : X → List ℕ → Type 0) where
  -- no element, no line
  pub AddsLines-none : (old : List ℕ) → AddsLines (Each R []) old old
  AddsLines-none old = record { lines = []; are_so = record { as_many = refl; each = λ i x y p q. cc }; grown = sym (append-nil old) }

  -- the line of the next element
  pub AddsLines-next : (xs : List X) (i : ℕ) (d : X) (old mid new : List ℕ) → i < length xs → AddsLines (Each R (take i xs)) old mid
      → AddsLine (R (get_or xs i d)) mid new → AddsLines (Each R (take (i + 1) xs)) old new
  AddsLines-next xs i d old mid new below before last =
      rw (take_more xs i d below) (record {
        lines = before.lines ++ last.line ∷ [];
        are_so = Each-push R (take i xs) before.lines (get_or xs i d) last.line before.are_so last.is_so;
        grown = last.grown ∙ ap (λ t. t ++ text_of (last.line ∷ [])) before.grown ∙ append_assoc old (text_of before.lines) (text_of (last.line ∷ []))
            ∙ ap (λ t. old ++ t) (sym (text_of-append before.lines (last.line ∷ [])));
      })

-- lines, more lines and the last ones behind nothing
pub text_of-three : (first lines last : List (List ℕ)) (a b c : List ℕ) → a ≡ text_of first → b ≡ a ++ text_of lines → c ≡ b ++ text_of last
    → c ≡ text_of (first ++ (lines ++ last))
text_of-three first lines last a b c p q r =
    r ∙ ap (λ t. t ++ text_of last) (q ∙ ap (λ t. t ++ text_of lines) p) ∙ append_assoc (text_of first) (text_of lines) (text_of last)
    ∙ ap (λ t. text_of first ++ t) (sym (text_of-append lines last)) ∙ sym (text_of-append first (lines ++ last))

-- a text that has another fact too
pub AddsText-weaker : (P Q : List ℕ → Type 0) (old new : List ℕ) → ((text : List ℕ) → P text → Q text) → AddsText P old new → AddsText Q old new
AddsText-weaker P Q old new then adds = record { added = adds.added; is_so = then adds.added adds.is_so; grown = adds.grown }
