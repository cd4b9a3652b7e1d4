-- A text that is looked at line by line, up to its mark.
use Rattle.std.proofs.Common.{◌≡◌, ℕ, ◌+◌, ◌<◌, ◌≤◌, ◌==◌, Bool, true, false, cond, List, [], ◌∷◌, ◌++◌, length, take, refl, sym, ap, ◌∙◌, arith, append_assoc, append-nil, length-append}
use Rattle.std.specs.List.{join_with_byte}
use Rattle.std.specs.Str.{bytes_eq}
use Rattle.std.proofs.Math.Seq.{take-append_seam}
use Rattle.std.proofs.lemmas.List.Splits.{join_with_byte-slice_split, length-slice_split}
use Rattle.lists.specs.Lists.{Has}
use Rattle.batch_lines.proofs.Lines.{cut_next, cut_none}
use Rattle.batch_lines.specs.Cuts.{before_mark, behind_mark, lines_of}

module _ (mark : List ℕ) where
  -- the lines before and behind one that is the mark, or that isn't
  found_before : (line : List ℕ) (lines : List (List ℕ)) → bytes_eq line mark ≡ true → before_mark mark (line ∷ lines) ≡ []
  found_before line [] marks = ap (λ b. cond b [] line) marks
  found_before line (next ∷ lines) marks = ap (λ b. cond b [] (line ++ 10 ∷ before_mark mark (next ∷ lines))) marks

  found_behind : (line : List ℕ) (lines : List (List ℕ)) → bytes_eq line mark ≡ true → behind_mark mark (line ∷ lines) ≡ join_with_byte 10 lines
  found_behind line lines marks = ap (λ b. cond b (join_with_byte 10 lines) (behind_mark mark lines)) marks

  next_before : (line : List ℕ) (lines : List (List ℕ)) → 0 < length lines → bytes_eq line mark ≡ false → before_mark mark (line ∷ lines) ≡ line ++ 10 ∷ before_mark mark lines
  next_before line [] some other = absurd (omega arith)
  next_before line (next ∷ lines) some other = ap (λ b. cond b [] (line ++ 10 ∷ before_mark mark (next ∷ lines))) other

  next_behind : (line : List ℕ) (lines : List (List ℕ)) → bytes_eq line mark ≡ false → behind_mark mark (line ∷ lines) ≡ behind_mark mark lines
  next_behind line lines other = ap (λ b. cond b (join_with_byte 10 lines) (behind_mark mark lines)) other

  -- so far none of the lines is the mark
  pub record IsLeft (text left : List ℕ) (at : ℕ) : Type 0 where
    pub done : List ℕ
    pub whole : text ≡ done ++ left
    pub count : length done ≡ at
    pub before : before_mark mark (lines_of text) ≡ done ++ before_mark mark (lines_of left)
    pub behind : behind_mark mark (lines_of text) ≡ behind_mark mark (lines_of left)

  pub none_done : (text : List ℕ) → IsLeft text text 0
  none_done text = record { done = []; whole = refl; count = refl; before = refl; behind = refl }

  module _ (text left : List ℕ) (at : ℕ) (is : IsLeft text left at) where
    -- what was looked at
    taken : take at text ≡ is.done
    taken = ap (λ n. take n text) (sym is.count) ∙ ap (take (length is.done)) is.whole ∙ take-append_seam is.done left

    pub within : at ≤ length text
    within = let whole = ap length is.whole in omega (arith, whole, length-append is.done left, is.count)

    module _ (line behind : List ℕ) (cut : left ≡ line ++ 10 ∷ behind) (lacks : Has line 10 → ⊥) where
      lines : lines_of left ≡ line ∷ lines_of behind
      lines = cut_next 10 left line behind cut lacks

      -- one line more
      pub one_more : bytes_eq line mark ≡ false → (next : ℕ) → next ≡ at + (length line + 1) → IsLeft text behind next
      one_more other next e = record {
        done = is.done ++ (line ++ 10 ∷ []);
        whole = is.whole ∙ ap (λ l. is.done ++ l) (cut ∙ sym (append_assoc line (10 ∷ []) behind)) ∙ sym (append_assoc is.done (line ++ 10 ∷ []) behind);
        count = omega (arith, length-append is.done (line ++ 10 ∷ []), length-append line (10 ∷ []), is.count, e);
        before = is.before
            ∙ ap (λ l. is.done ++ l)
            (ap (before_mark mark) lines ∙ next_before line (lines_of behind) (omega (arith, length-slice_split (λ b. b == 10) behind)) other
            ∙ sym (append_assoc line (10 ∷ []) (before_mark mark (lines_of behind))))
            ∙ sym (append_assoc is.done (line ++ 10 ∷ []) (before_mark mark (lines_of behind)));
        behind = is.behind ∙ ap (behind_mark mark) lines ∙ next_behind line (lines_of behind) other;
      }

      -- the line is the mark
      pub marked_before : bytes_eq line mark ≡ true → take at text ≡ before_mark mark (lines_of text)
      marked_before marks =
          taken ∙ sym (append-nil is.done) ∙ ap (λ l. is.done ++ l) (sym (ap (before_mark mark) lines ∙ found_before line (lines_of behind) marks)) ∙ sym is.before

      pub marked_behind : bytes_eq line mark ≡ true → behind ≡ behind_mark mark (lines_of text)
      marked_behind marks =
          sym (join_with_byte-slice_split 10 behind) ∙ sym (found_behind line (lines_of behind) marks) ∙ sym (ap (behind_mark mark) lines) ∙ sym is.behind

    -- no line feed is left
    module _ (lacks : Has left 10 → ⊥) where
      last : lines_of left ≡ left ∷ []
      last = cut_none 10 left lacks

      pub last_before : bytes_eq left mark ≡ true → take at text ≡ before_mark mark (lines_of text)
      last_before marks = taken ∙ sym (append-nil is.done) ∙ ap (λ l. is.done ++ l) (sym (ap (before_mark mark) last ∙ found_before left [] marks)) ∙ sym is.before

      pub none_before : bytes_eq left mark ≡ false → text ≡ before_mark mark (lines_of text)
      none_before other = is.whole ∙ ap (λ l. is.done ++ l) (sym (ap (before_mark mark) last ∙ ap (λ b. cond b [] left) other)) ∙ sym is.before

      pub last_behind : behind_mark mark (lines_of text) ≡ []
      last_behind = is.behind ∙ ap (behind_mark mark) last ∙ either (bytes_eq left mark)
        where
          either : (b : Bool) → cond b (join_with_byte 10 []) (behind_mark mark []) ≡ []
          either true = refl
          either false = refl
