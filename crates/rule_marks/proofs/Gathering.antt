-- Shared rules are joined one by one.
use Rattle.std.proofs.Common.{◌≡◌, ◌⊎◌, ◌+◌, inl, inr, ℕ, Bool, true, false, List, [], ◌∷◌, ◌++◌, get_or, refl, sym, ap, ◌∙◌, subst}
use Rattle.auto_table.specs.declared.rule.Rule.{Rule}
use Rattle.auto_table.specs.declared.rule.Rule.TheVariants.{Flow}
use Rattle.lists.specs.Lists.{Has}
use Rattle.lists.proofs.Joined.{Has-left}
use Rattle.post_star.proofs.Scopes.{has_last}
use Rattle.weight_laws.specs.Law.{Domain}
use Rattle.rule_marks.specs.Joined.{source}
use Rattle.rule_marks.specs.Sharing.{IsAdded, IsAddedIf, IsJoining, IsOfJoined, at_node, enters, leaves, other}
use Rattle.rule_marks.proofs.Writing.{has_put}

module _ {X : Type 0} where
  pub added : (old : List X) (a : X) → IsAdded old a (old ++ a ∷ [])
  added old a x = (
    (λ has. has_put old a x has),
    (λ p. elim p [ inl o ↦ Has-left old (a ∷ []) x o | inr e ↦ subst (λ (y : X). Has (old ++ a ∷ []) y) (sym e) (has_last old a) ]),
  )

  pub there_already : (old : List X) (a : X) → Has old a → IsAdded old a old
  there_already old a has x = ((λ h. inl h), (λ p. elim p [ inl o ↦ o | inr e ↦ subst (λ (y : X). Has old y) (sym e) has ]))

  pub added_if : (old : List X) (a : X) (test : Bool) → test ≡ true → IsAddedIf test old a (old ++ a ∷ [])
  added_if old a test holds x = (
    (λ has. elim (has_put old a x has) [ inl o ↦ inl o | inr e ↦ inr (holds, e) ]),
    (λ p. elim p [ inl o ↦ Has-left old (a ∷ []) x o | inr e ↦ subst (λ (y : X). Has (old ++ a ∷ []) y) (sym e.1) (has_last old a) ]),
  )

  pub added_not : (old : List X) (a : X) (test : Bool) → test ≡ false → IsAddedIf test old a old
  added_not old a test fails x = ((λ h. inl h), (λ p. elim p [ inl o ↦ o | inr e ↦ absurd (let holds = e.0 in let both : false ≡ true = cc in cc) ]))

module _ {W : Type 0} (d : Domain W) (count : ℕ) (leader : ℕ → ℕ) (others : List (Rule W)) where
  more_shared : (shared : List (Rule W)) (q r : Rule W) → IsOfJoined d count leader others shared r → IsOfJoined d count leader others (shared ++ q ∷ []) r
  more_shared shared q r (other has) = other has
  more_shared shared q r (enters p has e) = enters p (Has-left shared (q ∷ []) p has) e
  more_shared shared q r (leaves p has own e) = leaves p (Has-left shared (q ∷ []) p has) own e

  -- a rule more gives its flow and, where its node leads, itself
  less_shared : (shared : List (Rule W)) (q r : Rule W) → IsOfJoined d count leader others (shared ++ q ∷ []) r
      → IsOfJoined d count leader others shared r
      ⊎ ((r ≡ Flow (source q) (count + leader (source q)) d.one) ⊎ ((leader (source q) ≡ source q) × (r ≡ at_node (count + source q) q)))
  less_shared shared q r (other has) = inl (other has)
  less_shared shared q r (enters p has e) = elim (has_put shared q p has) [
    | inl o ↦ inl (enters p o e)
    | inr same ↦ inr (inl (e ∙ ap (λ (x : Rule W). Flow (source x) (count + leader (source x)) d.one) same))
  ]
  less_shared shared q r (leaves p has own e) = elim (has_put shared q p has) [
    | inl o ↦ inl (leaves p o own e)
    | inr same ↦ inr (inr (subst (λ (x : Rule W). leader (source x) ≡ source x) same own, e ∙ ap (λ (x : Rule W). at_node (count + source x) x) same))
  ]

  pub joins : (shared : List (Rule W)) (q : Rule W) (test : Bool) (old mid new : List (Rule W)) (flags more : List Bool)
      → (test ≡ true → leader (source q) ≡ source q) → (leader (source q) ≡ source q → test ≡ true)
      → ((get_or flags (source q) false ≡ true → Has old (Flow (source q) (count + leader (source q)) d.one)) → IsAdded old (Flow (source q) (count + leader (source q)) d.one) mid)
      → ((n : ℕ) → get_or more n false ≡ true → (get_or flags n false ≡ true) ⊎ (n ≡ source q)) → IsAddedIf test mid (at_node (count + source q) q) new
      → IsJoining d count leader others shared old flags → IsJoining d count leader others (shared ++ q ∷ []) new more
  joins shared q test old mid new flags more leads tests adds flagged adds_if was = record {
    joined_are = λ r. (
      (λ has. elim ((adds_if r).0 has) [
        | inl m ↦ elim ((first r).0 m) [
          | inl o ↦ more_shared shared q r ((was.joined_are r).0 o)
          | inr e ↦ enters q (has_last shared q) e
        ]
        | inr e ↦ leaves q (has_last shared q) (leads e.0) e.1
      ]),
      (λ is. elim (less_shared shared q r is) [
        | inl o ↦ (adds_if r).1 (inl ((first r).1 (inl ((was.joined_are r).1 o))))
        | inr p ↦ elim p [
          | inl e ↦ (adds_if r).1 (inl ((first r).1 (inr e)))
          | inr e ↦ (adds_if r).1 (inr (tests e.0, e.1))
        ]
      ]),
    );
    entered = λ n flag. elim (flagged n flag) [
      | inl o ↦ (adds_if _).1 (inl ((first _).1 (inl (was.entered n o))))
      | inr same ↦ subst (λ (k : ℕ). Has new (Flow k (count + leader k) d.one)) (sym same) ((adds_if _).1 (inl ((first _).1 (inr refl))))
    ];
  }
    where
      first : IsAdded old (Flow (source q) (count + leader (source q)) d.one) mid
      first = adds (λ flag. was.entered (source q) flag)

  -- by what the rules and the test were told to be
  pub joins_by : (shared : List (Rule W)) (q : Rule W) (test : Bool) (old mid new : List (Rule W)) (flags more : List Bool) (from lead : ℕ) (weight : W) (own : Rule W)
      → from ≡ source q → lead ≡ leader from → weight ≡ d.one → own ≡ at_node (count + from) q → (test ≡ true → lead ≡ from) → (lead ≡ from → test ≡ true)
      → ((get_or flags from false ≡ true → Has old (Flow from (count + lead) weight)) → IsAdded old (Flow from (count + lead) weight) mid)
      → ((n : ℕ) → get_or more n false ≡ true → (get_or flags n false ≡ true) ⊎ (n ≡ from)) → IsAddedIf test mid own new
      → IsJoining d count leader others shared old flags → IsJoining d count leader others (shared ++ q ∷ []) new more
  joins_by shared q test old mid new flags more from lead weight own from_is lead_is weighs own_is leads tests adds flagged adds_if was =
      joins shared q test old mid new flags more (λ t. sym whole ∙ leads t ∙ from_is) (λ o. tests (whole ∙ o ∙ sym from_is))
      (subst (λ (f : Rule W). (get_or flags (source q) false ≡ true → Has old f) → IsAdded old f mid) flow_is
      (subst (λ (k : ℕ). (get_or flags k false ≡ true → Has old (Flow from (count + lead) weight)) → IsAdded old (Flow from (count + lead) weight) mid) from_is adds))
      (subst (λ (k : ℕ). (n : ℕ) → get_or more n false ≡ true → (get_or flags n false ≡ true) ⊎ (n ≡ k)) from_is flagged)
      (subst (λ (f : Rule W). IsAddedIf test mid f new) (own_is ∙ ap (λ (k : ℕ). at_node (count + k) q) from_is) adds_if) was
    where
      whole : lead ≡ leader (source q)
      whole = lead_is ∙ ap leader from_is

      flow_is : Flow from (count + lead) weight ≡ Flow (source q) (count + leader (source q)) d.one
      flow_is =
          ap (λ (k : ℕ). Flow k (count + lead) weight) from_is ∙ ap (λ (k : ℕ). Flow (source q) (count + k) weight) whole
          ∙ ap (λ (w : W). Flow (source q) (count + leader (source q)) w) weighs

  pub joining_none : (flags : List Bool) → ((n : ℕ) → get_or flags n false ≡ false) → IsJoining d count leader others [] others flags
  joining_none flags none = record {
    joined_are = λ r. ((λ has. other has), (λ is. by r is));
    entered = λ n flag. absurd (let no = none n in let both : false ≡ true = cc in cc);
  }
    where
      by : (r : Rule W) → IsOfJoined d count leader others [] r → Has others r
      by r (other has) = has
      by r (enters p has e) = absurd (cc has.1)
      by r (leaves p has own e) = absurd (cc has.1)
