-- Which refusal is the first.
use Rattle.std.proofs.Common.{ℕ, ◌<◌, ◌⊎◌, Option, None, Some, sym, subst, inl, inr, arith}
use Rattle.std.proofs.lemmas.Bool.{cases_order}
use Rattle.link_rules.specs.declared.refusal.LinkKind.{LinkKind}
use Rattle.link_rules.specs.Refusals.{IsLexBelow, number_of}
use Rattle.link_faults.specs.declared.examined.Fault.{Fault}
use Rattle.link_faults.specs.Order.{IsEarlier, IsFirstIn}

-- pairs of numbers in order, said of three pairs
lex_trans : (a m b n c k : ℕ) → IsLexBelow a (m < n) b → IsLexBelow b (n < k) c → IsLexBelow a (m < k) c
lex_trans a m b n c k (inl p) (inl q) = inl (omega arith)
lex_trans a m b n c k (inl p) (inr q) = inl (omega arith)
lex_trans a m b n c k (inr p) (inl q) = inl (omega arith)
lex_trans a m b n c k (inr p) (inr q) = inr (omega arith, omega arith)

-- what comes before the third, but not before the second, has the second before the third
lex_between : (a m b n c k : ℕ) → IsLexBelow a (m < k) c → (IsLexBelow a (m < n) b → ⊥) → IsLexBelow b (n < k) c
lex_between a m b n c k before not_before = elim (cases_order a b) [
  | inr apart ↦ elim apart [
    | inl below ↦ absurd (not_before (inl below))
    | inr above ↦ elim before [ inl p ↦ inl (omega arith) | inr p ↦ inl (omega arith) ]
  ]
  | inl same ↦ elim before [
    | inl p ↦ inl (omega arith)
    | inr p ↦ elim (cases_order m n) [
      | inl one ↦ inr (omega arith, omega arith)
      | inr apart ↦ elim apart [ inl below ↦ absurd (not_before (inr (same, below))) | inr above ↦ inr (omega arith, omega arith) ]
    ]
  ]
]

module _ (R S : ℕ → LinkKind → Type 0) where
  -- refusals of one kind or another
  abbrev pub Either : ℕ → LinkKind → Type 0
  Either index kind = R index kind ⊎ S index kind

  -- the first of all is the earlier of the first ones
  pub earlier_first : (a b o : Option Fault) → IsFirstIn R a → IsFirstIn S b → IsEarlier a b o → IsFirstIn Either o
  earlier_first (Some a) (Some b) o p q e = elim e [
    | inl (is, before) ↦ subst (IsFirstIn Either) (sym is) (record {
      refuses = inr q.refuses;
      first = λ i k h lower. elim h [
        | inl r ↦ p.first i k r (lex_trans i (number_of k) b.index (number_of b.kind) a.index (number_of a.kind) lower before)
        | inr s ↦ q.first i k s lower
      ];
    })
    | inr (is, not_before) ↦ subst (IsFirstIn Either) (sym is) (record {
      refuses = inl p.refuses;
      first = λ i k h lower. elim h [
        | inl r ↦ p.first i k r lower
        | inr s ↦ not_before (lex_between i (number_of k) b.index (number_of b.kind) a.index (number_of a.kind) lower (q.first i k s))
      ];
    })
  ]
  earlier_first (Some a) None o p none is = subst (IsFirstIn Either) (sym is) (record {
    refuses = inl p.refuses;
    first = λ i k h lower. elim h [ inl r ↦ p.first i k r lower | inr s ↦ none i k s ];
  })
  earlier_first None (Some b) o none q is = subst (IsFirstIn Either) (sym is) (record {
    refuses = inr q.refuses;
    first = λ i k h lower. elim h [ inl r ↦ none i k r | inr s ↦ q.first i k s lower ];
  })
  earlier_first None None o none also is = subst (IsFirstIn Either) (sym is) (λ i k h. elim h [ inl r ↦ none i k r | inr s ↦ also i k s ])

  -- the same refusals have the same first one
  pub same_first : (o : Option Fault) → ((i : ℕ) (k : LinkKind) → R i k → S i k) → ((i : ℕ) (k : LinkKind) → S i k → R i k) → IsFirstIn R o → IsFirstIn S o
  same_first (Some f) to from p = record { refuses = to f.index f.kind p.refuses; first = λ i k h. p.first i k (from i k h) }
  same_first None to from none = λ i k h. none i k (from i k h)
