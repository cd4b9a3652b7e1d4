-- Hops, one after the other.
use Rattle.std.proofs.Common.{◌≡◌, ℕ, ◌+◌, ◌<◌, List, [], ◌∷◌, ◌++◌, length, set, sym, subst, ◌∙◌, inl, inr, arith}
use Rattle.std.proofs.lemmas.Bool.{cases_eq}
use Rattle.std.proofs.lemmas.List.{get_or_append_left, get_or_push, get_or-set_other, get_or-set_same, length-set}
use Rattle.class_rules.specs.Rows.{Rows}
use Rattle.default_turns.specs.declared.holders.Holder.{Holder}
use Rattle.default_turns.specs.declared.hops.Hop.{Hop}
use Rattle.default_turns.specs.Hops.{AreHops, IsHop, hop_at}
use Rattle.default_turns.proofs.Covered.{below_or}

abbrev none : Hop
none = record { next = 0; jump = 0; rank = 0 }

module _ (rows : Rows) (holders : List Holder) (hops : List Hop) (at : ℕ) (hop : Hop) (is : IsHop rows holders at hop) where
  pub hops_pushed : length hops ≡ at → ((k : ℕ) → k < at → IsHop rows holders k (hop_at hops k)) → (k : ℕ) → k < at + 1 → IsHop rows holders k (hop_at (hops ++ hop ∷ []) k)
  hops_pushed len each k lt = elim (below_or k at) [
    | inl early ↦ subst (IsHop rows holders k) (sym (get_or_append_left hops (hop ∷ []) none k (omega (arith, len, early)))) (each k early)
    | inr late ↦
        let same : at ≡ k = omega (arith, lt, late) in
        subst (λ j. IsHop rows holders j (hop_at (hops ++ hop ∷ []) j)) same (subst (IsHop rows holders at) (sym (get_or_push hops hop none at len)) is)
  ]

  pub hops_set : at < length holders → AreHops rows holders hops → AreHops rows holders (set hops at hop)
  hops_set lt are = record {
    len = length-set hops at hop ∙ are.len;
    each = λ k within. elim (cases_eq k at) [
      | inl same ↦ subst (λ j. IsHop rows holders j (hop_at (set hops at hop) j)) (sym same)
          (subst (IsHop rows holders at) (sym (get_or-set_same hops at hop none (omega (arith, lt, are.len)))) is)
      | inr other ↦ subst (IsHop rows holders k) (sym (get_or-set_other hops at k hop none other)) (are.each k within)
    ];
  }
