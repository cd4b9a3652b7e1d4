-- A text is found in a table only beside the texts of its own length, and passes what each text of the table passes.
use Rattle.std.proofs.Common.{◌≡◌, ◌≢◌, ℕ, ◌<◌, ◌≤◌, ◌⊎◌, Bool, true, false, cond, ◌==◌, nat_lt, List, [], ◌∷◌, length, get_or, filter, refl, sym, ap, ◌∙◌, inl, inr, arith, eq-eqb, true≢false}
use Rattle.std.specs.List.{list_all}
use Rattle.std.proofs.lemmas.Bool.Decides.{nat_tests}
use Rattle.std.specs.Str.{bytes_eq}
use Rattle.std.proofs.lemmas.Slice.Eq.{bytes_eq-Decides}
use Rattle.jim_text.specs.declared.lead.Lead.{Lead}
use Rattle.jim_text.specs.declared.lead.Lead.TheVariants.{Other}
use Rattle.jim_text.specs.Words.{look_up, is_known, is_in, words, marks}

-- texts of two lengths are two
bytes_eq-length : (a b : List ℕ) (n : ℕ) → length a ≡ n → (length b == n) ≡ false → bytes_eq a b ≡ false
bytes_eq-length a b n e other = by (bytes_eq a b) refl
  where
    by : (t : Bool) → bytes_eq a b ≡ t → t ≡ false
    by true same = absurd (true≢false (sym (eq-eqb (length b) n (ap length (sym ((bytes_eq-Decides a b).0 same)) ∙ e)) ∙ other))
    by false same = refl

-- entries whose texts have another length may be left out
pub look_up-filter : (table : List (List ℕ × Lead)) (text : List ℕ) (n : ℕ) → length text ≡ n → look_up table text ≡ look_up (filter (λ e. length e.0 == n) table) text
look_up-filter [] text n e = refl
look_up-filter (entry ∷ table) text n e = by (length entry.0 == n) refl (look_up-filter table text n e)
  where
    by : (t : Bool) → (length entry.0 == n) ≡ t → look_up table text ≡ look_up (filter (λ e. length e.0 == n) table) text
        → look_up (entry ∷ table) text ≡ look_up (cond t (entry ∷ filter (λ e. length e.0 == n) table) (filter (λ e. length e.0 == n) table)) text
    by true same rest = ap (λ l. cond (bytes_eq text entry.0) entry.1 l) rest
    by false same rest = ap (λ t. cond t entry.1 (look_up table text)) (bytes_eq-length text entry.0 n e same) ∙ rest

-- where no text of the table has a length, none of that length is found
pub look_up-absent : (table : List (List ℕ × Lead)) (text : List ℕ) (n : ℕ) → length text ≡ n → filter (λ e. length e.0 == n) table ≡ [] → look_up table text ≡ Other
look_up-absent table text n e none = look_up-filter table text n e ∙ ap (λ t. look_up t text) none

shorter : (n k : ℕ) → k < n → (k == n) ≡ false
shorter n k short = grind (arith, nat_tests)

below : (k limit : ℕ) → nat_lt k limit ≡ true → k < limit
below k limit h = grind (arith, nat_tests)

-- a table whose texts are all shorter
filter-long : (table : List (List ℕ × Lead)) (limit n : ℕ) → limit ≤ n → list_all (λ e. nat_lt (length e.0) limit) table ≡ true → filter (λ e. length e.0 == n) table ≡ []
filter-long [] limit n long short = refl
filter-long (entry ∷ table) limit n long short =
    let first : nat_lt (length entry.0) limit ≡ true = grind arith in
    let rest : list_all (λ e. nat_lt (length e.0) limit) table ≡ true = grind arith in
    let less : length entry.0 < limit = below (length entry.0) limit first in
    ap (λ t. cond t (entry ∷ filter (λ e. length e.0 == n) table) (filter (λ e. length e.0 == n) table)) (shorter n (length entry.0) (omega arith))
    ∙ filter-long table limit n long rest

order : (a b : ℕ) → (a < b) ⊎ (b ≤ a)
order a b = grind arith

-- no reserved word has another length
pub words-length : (n : ℕ) → ¬ (n ≡ 2) → ¬ (n ≡ 3) → ¬ (n ≡ 4) → ¬ (n ≡ 5) → ¬ (n ≡ 6) → ¬ (n ≡ 7) → ¬ (n ≡ 8) → ¬ (n ≡ 9) → ¬ (n ≡ 10) → ¬ (n ≡ 11) → ¬ (n ≡ 12) → ¬ (n ≡ 13) → ¬ (n ≡ 15)
    → filter (λ e. length e.0 == n) words ≡ []
unfolding words
words-length n a2 a3 a4 a5 a6 a7 a8 a9 a10 a11 a12 a13 a15 =
    elim (order n 1) [
      | inl none ↦ at 0 (omega arith) refl
      | inr some ↦ elim (order n 14) [
        | inl few ↦ at 1 (omega arith) refl
        | inr many ↦ elim (order n 16) [
          | inl fourteen ↦ at 14 (omega arith) refl
          | inr long ↦ filter-long words 16 n long refl
        ]
      ]
    ]
  where
    at : (k : ℕ) → n ≡ k → filter (λ e. length e.0 == k) words ≡ [] → filter (λ e. length e.0 == n) words ≡ []
    at k e h = ap (λ m. filter (λ (e : List ℕ × Lead). length e.0 == m) words) e ∙ h

-- nor a mark
pub marks-length : (n : ℕ) → ¬ (n ≡ 1) → ¬ (n ≡ 2) → ¬ (n ≡ 3) → filter (λ e. length e.0 == n) marks ≡ []
unfolding marks
marks-length n a1 a2 a3 = elim (order n 1) [ inl none ↦ at 0 (omega arith) refl | inr some ↦ filter-long marks 4 n (omega arith) refl ]
  where
    at : (k : ℕ) → n ≡ k → filter (λ e. length e.0 == k) marks ≡ [] → filter (λ e. length e.0 == n) marks ≡ []
    at k e h = ap (λ m. filter (λ (e : List ℕ × Lead). length e.0 == m) marks) e ∙ h

-- a text of one byte
pub one_byte : (text : List ℕ) → length text ≡ 1 → get_or text 0 0 ∷ [] ≡ text
one_byte [] e = absurd (omega (arith, e))
one_byte (b ∷ []) e = refl
one_byte (b ∷ c ∷ text) e = absurd (omega (arith, e))

-- of two
pub two_bytes : (text : List ℕ) → length text ≡ 2 → get_or text 0 0 ∷ get_or text 1 0 ∷ [] ≡ text
two_bytes [] e = absurd (omega (arith, e))
two_bytes (b ∷ text) e = ap (λ t. b ∷ t) (one_byte text (omega (arith, e)))

-- and of three
pub three_bytes : (text : List ℕ) → length text ≡ 3 → get_or text 0 0 ∷ get_or text 1 0 ∷ get_or text 2 0 ∷ [] ≡ text
three_bytes [] e = absurd (omega (arith, e))
three_bytes (b ∷ text) e = ap (λ t. b ∷ t) (two_bytes text (omega (arith, e)))

-- what a table gives passes each test that its classes and `Other` pass
pub look_up-passes : (p : Lead → Bool) (table : List (List ℕ × Lead)) (text : List ℕ) → p Other ≡ true → list_all (λ e. p e.1) table ≡ true → p (look_up table text) ≡ true
look_up-passes p [] text other all = other
look_up-passes p (entry ∷ table) text other all = by (bytes_eq text entry.0) (look_up-passes p table text other)
  where
    first : p entry.1 ≡ true
    first = grind arith

    by : (t : Bool) → (list_all (λ e. p e.1) table ≡ true → p (look_up table text) ≡ true) → p (cond t entry.1 (look_up table text)) ≡ true
    by true rest = first
    by false rest = let all_rest : list_all (λ e. p e.1) table ≡ true = grind arith in rest all_rest

-- what each text of a table passes, a text that the table has passes
pub any_entry : (q : List ℕ → Bool) (text : List ℕ) (table : List (List ℕ × Lead)) → list_all (λ e. q e.0) table ≡ true → is_in table text ≡ true → q text ≡ true
any_entry q text [] all h = absurd (true≢false (sym h))
any_entry q text (entry ∷ table) all h = by (bytes_eq text entry.0) refl (any_entry q text table)
  where
    first : q entry.0 ≡ true
    first = grind arith

    rest : list_all (λ e. q e.0) table ≡ true
    rest = grind arith

    by : (t : Bool) → bytes_eq text entry.0 ≡ t → (list_all (λ e. q e.0) table ≡ true → is_in table text ≡ true → q text ≡ true) → q text ≡ true
    by true same later = ap q ((bytes_eq-Decides text entry.0).0 same) ∙ first
    by false same later = later rest (sym (ap (λ t. is_known (cond t entry.1 (look_up table text))) same) ∙ h)

-- a class that isn't `Other`
pub class_known : (lead : Lead) → is_known lead ≡ true → lead ≢ Other
class_known lead h e = true≢false (sym h ∙ ap is_known e)
