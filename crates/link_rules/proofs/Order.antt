-- The order of refusals.
use Rattle.std.proofs.Common.{◌≡◌, ℕ, ◌<◌, List, [], ◌∷◌, get_or, refl, sym, ap, ◌∙◌, inl, inr}
use Rattle.std.proofs.lemmas.Bool.{cases_order}
use Rattle.link_rules.specs.declared.refusal.LinkKind.{LinkKind}
use Rattle.link_rules.specs.declared.refusal.LinkKind.TheVariants as rule
use Rattle.link_rules.specs.Laws.{HasOneFirst}
use Rattle.link_rules.specs.Refusals.{IsBefore, IsLexBelow, Refusal, number_of, whole, within}

-- the rules by their numbers
abbrev rules : List LinkKind
rules = rule.DuplicateClass
    ∷ rule.DuplicateClass
    ∷ rule.UnknownParent
    ∷ rule.CyclicClass
    ∷ rule.NoEntry
    ∷ rule.NoEntry
    ∷ rule.DuplicateLocal
    ∷ rule.DuplicateLabel
    ∷ rule.UnknownLabel
    ∷ rule.FallsOff
    ∷ rule.UnknownLocal
    ∷ rule.BadIdentity
    ∷ rule.DynamicInvoke
    ∷ rule.Reflection
    ∷ rule.Threads
    ∷ rule.RetStatement
    ∷ rule.NestedArray
    ∷ rule.UnknownClass
    ∷ rule.UnknownField
    ∷ rule.AbstractNew
    ∷ rule.UndeclaredCallee
    ∷ rule.BadArguments
    ∷ rule.NativeCallee
    ∷ rule.AmbiguousDefault
    ∷ []

-- the rule that has a rule's number is it
rule_of_number : (k : LinkKind) → get_or rules (number_of k) rule.NoEntry ≡ k
rule_of_number rule.DuplicateClass = refl
rule_of_number rule.UnknownParent = refl
rule_of_number rule.CyclicClass = refl
rule_of_number rule.NoEntry = refl
rule_of_number rule.DuplicateLocal = refl
rule_of_number rule.DuplicateLabel = refl
rule_of_number rule.UnknownLabel = refl
rule_of_number rule.FallsOff = refl
rule_of_number rule.UnknownLocal = refl
rule_of_number rule.BadIdentity = refl
rule_of_number rule.DynamicInvoke = refl
rule_of_number rule.Reflection = refl
rule_of_number rule.Threads = refl
rule_of_number rule.RetStatement = refl
rule_of_number rule.NestedArray = refl
rule_of_number rule.UnknownClass = refl
rule_of_number rule.UnknownField = refl
rule_of_number rule.AbstractNew = refl
rule_of_number rule.UndeclaredCallee = refl
rule_of_number rule.BadArguments = refl
rule_of_number rule.NativeCallee = refl
rule_of_number rule.AmbiguousDefault = refl

number_of-one : (j k : LinkKind) → number_of j ≡ number_of k → j ≡ k
number_of-one j k e = sym (rule_of_number j) ∙ ap (λ n. get_or rules n rule.NoEntry) e ∙ rule_of_number k

-- of two that aren't one before the other in either way the first numbers are the same, and the second too
lex_same : (a b : ℕ) (P Q : Type 0) → (IsLexBelow a P b → ⊥) → (IsLexBelow b Q a → ⊥) → (a ≡ b) × (P → ⊥) × (Q → ⊥)
lex_same a b P Q one two = elim (cases_order a b) [
  | inl same ↦ (same, λ p. one (inr (same, p)), λ q. two (inr (sym same, q)))
  | inr apart ↦ elim apart [ inl below ↦ absurd (one (inl below)) | inr above ↦ absurd (two (inl above)) ]
]

number_same : (a b : ℕ) → (a < b → ⊥) → (b < a → ⊥) → a ≡ b
number_same a b one two = elim (cases_order a b) [ inl same ↦ same | inr apart ↦ elim apart [ inl below ↦ absurd (one below) | inr above ↦ absurd (two above) ] ]

-- two refusals of which none comes before the other are one
not_before_same : (x y : Refusal) → (IsBefore x y → ⊥) → (IsBefore y x → ⊥) → x ≡ y
not_before_same (whole j m) (whole k n) one two =
    let p = lex_same (number_of j) (number_of k) (m < n) (n < m) one two in
    let rules_same = number_of-one j k p.0 in
    let numbers_same = number_same m n p.1 p.2 in
    ap (λ r. whole r m) rules_same ∙ ap (whole k) numbers_same
not_before_same (whole j m) (within n i k) one two = absurd (one tt)
not_before_same (within m h j) (whole k n) one two = absurd (two tt)
not_before_same (within m h j) (within n i k) one two =
    let p = lex_same m n (IsLexBelow h (number_of j < number_of k) i) (IsLexBelow i (number_of k < number_of j) h) one two in
    let q = lex_same h i (number_of j < number_of k) (number_of k < number_of j) p.1 p.2 in
    let rules_same = number_of-one j k (number_same (number_of j) (number_of k) q.1 q.2) in
    ap (λ r. within m h r) rules_same ∙ ap (λ a. within m a k) q.0 ∙ ap (λ a. within a i k) p.0

pub first_one : HasOneFirst
first_one w x y one two = not_before_same x y (two.first x one.refuses) (one.first y two.refuses)
