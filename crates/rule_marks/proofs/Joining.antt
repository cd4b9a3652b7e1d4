-- The law of joining nodes.
use Rattle.std.proofs.Common.{◌≡◌, ◌<◌, ◌≤◌, inl, inr, ℕ, List, ◌∷◌, refl, sym, ap, ◌∙◌, subst, arith}
use Rattle.std.proofs.lemmas.Bool.{cases_lt}
use Rattle.auto_table.specs.declared.rule.Rule.{Rule}
use Rattle.auto_table.specs.declared.rule.Rule.TheVariants.{Flow, Push, Pop}
use Rattle.lists.specs.Lists.{Has}
use Rattle.post_star.specs.declared.bases.Start.{Start}
use Rattle.post_star.specs.declared.bases.BaseStep.{BaseStep}
use Rattle.post_star.specs.Derivations.{Derives, starts_at, flows, pushes, pops, DerivesAny, any_word}
use Rattle.post_star.specs.Works.{weight_of}
use Rattle.post_star.proofs.Joins.{derives_meant}
use Rattle.post_star.proofs.Sums.{sum_same}
use Rattle.weight_laws.specs.Law.{Domain, IsLawful}
use Rattle.rule_marks.specs.Joined.{IsJoined, IsOver, led, over, past, source, target}
use Rattle.rule_marks.specs.JoinedLaws.{AnyDerivationsAreJoined, AnyValuesAreJoined, DerivationsAreJoined, IsJoinedFrom, JoiningNodesHaveAll, ValuesAreJoined}

module _ {W : Type 0} {d : Domain W} (l : IsLawful W d) (count : ℕ) (starts : List (Start W)) (rules joined : List (Rule W))
    (is : IsJoined d count starts rules joined) (steps : List BaseStep) (last : ℕ) where
  abbrev Joined : ℕ → List ℕ → W → Type 0
  Joined = Derives d joined starts steps last

  abbrev Plain : ℕ → List ℕ → W → Type 0
  Plain = Derives d rules starts steps last

  -- a weight over a joining node, in two steps
  in_two : {n before : ℕ} {word before_word : List ℕ} {x : W} (first : W) (q : Rule W) (join : ℕ) → Has joined (Flow before join first) → Has joined q
      → Joined before before_word x → Joined n word (d.extend (d.extend x first) (weight_of q)) → Joined n word (d.extend x (d.extend first (weight_of q)))
  in_two {n} {word = word} {x = x} first q join flow has derived given =
      subst (λ (t : W). Joined n word t)
      (l.extend_assoc x first (weight_of q) (derives_meant l steps is.told derived) (is.told.rule _ flow) (is.told.rule q has)) given

  over_flow : (from to : ℕ) (weight : W) (word : List ℕ) (x : W) → IsOver d count joined (Flow from to weight) → Joined from word x → Joined to word (d.extend x weight)
  over_flow from to weight word x (past has low high) derived = flows has derived
  over_flow from to weight word x (over {before} {join} {first} q flow low high has leads below same) derived = by q has leads same
    where
      by : (q : Rule W) → Has joined q → source q ≡ join → Flow from to weight ≡ led d before first q → Joined to word (d.extend x weight)
      by (Flow f t w) has leads same =
          let source_is : before ≡ from = cc in
          let target_is : t ≡ to = cc in
          let weighs : d.extend first w ≡ weight = cc in
          let step = flows flow (subst (λ (k : ℕ). Joined k word x) (sym source_is) derived) in
          let all = in_two first (Flow f t w) join flow has (subst (λ (k : ℕ). Joined k word x) (sym source_is) derived)
          (flows has (subst (λ (k : ℕ). Joined k word (d.extend x first)) (sym leads) step)) in
          subst (λ (k : ℕ). Joined k word (d.extend x weight)) target_is (subst (λ (v : W). Joined t word (d.extend x v)) weighs all)
      by (Push f t k w) has leads same = cc
      by (Pop f k t w) has leads same = cc

  over_push : (from to mark : ℕ) (weight : W) (word : List ℕ) (x : W) → IsOver d count joined (Push from to mark weight) → Joined from word x
      → Joined to (mark ∷ word) (d.extend x weight)
  over_push from to mark weight word x (past has low high) derived = pushes has derived
  over_push from to mark weight word x (over {before} {join} {first} q flow low high has leads below same) derived = by q has leads same
    where
      by : (q : Rule W) → Has joined q → source q ≡ join → Push from to mark weight ≡ led d before first q → Joined to (mark ∷ word) (d.extend x weight)
      by (Flow f t w) has leads same = cc
      by (Push f t k w) has leads same =
          let source_is : before ≡ from = cc in
          let target_is : t ≡ to = cc in
          let marks : k ≡ mark = cc in
          let weighs : d.extend first w ≡ weight = cc in
          let start = subst (λ (m : ℕ). Joined m word x) (sym source_is) derived in
          let all = in_two first (Push f t k w) join flow has start (pushes has (subst (λ (m : ℕ). Joined m word (d.extend x first)) (sym leads) (flows flow start))) in
          subst (λ (m : ℕ). Joined m (mark ∷ word) (d.extend x weight)) target_is
          (subst (λ (m : ℕ). Joined t (m ∷ word) (d.extend x weight)) marks (subst (λ (v : W). Joined t (k ∷ word) (d.extend x v)) weighs all))
      by (Pop f k t w) has leads same = cc

  over_pop : (from mark to : ℕ) (weight : W) (word : List ℕ) (x : W) → IsOver d count joined (Pop from mark to weight) → Joined from (mark ∷ word) x
      → Joined to word (d.extend x weight)
  over_pop from mark to weight word x (past has low high) derived = pops has derived
  over_pop from mark to weight word x (over {before} {join} {first} q flow low high has leads below same) derived = by q has leads same
    where
      by : (q : Rule W) → Has joined q → source q ≡ join → Pop from mark to weight ≡ led d before first q → Joined to word (d.extend x weight)
      by (Flow f t w) has leads same = cc
      by (Push f t k w) has leads same = cc
      by (Pop f k t w) has leads same =
          let source_is : before ≡ from = cc in
          let target_is : t ≡ to = cc in
          let marks : mark ≡ k = cc in
          let weighs : d.extend first w ≡ weight = cc in
          let start = subst (λ (m : ℕ). Joined before (m ∷ word) x) marks (subst (λ (m : ℕ). Joined m (mark ∷ word) x) (sym source_is) derived) in
          let all = in_two first (Pop f k t w) join flow has start (pops has (subst (λ (m : ℕ). Joined m (k ∷ word) (d.extend x first)) (sym leads) (flows flow start))) in
          subst (λ (m : ℕ). Joined m word (d.extend x weight)) target_is (subst (λ (v : W). Joined t word (d.extend x v)) weighs all)

  -- what the system derives, the joined one does
  pub forth : {n : ℕ} {word : List ℕ} {x : W} → Plain n word x → Joined n word x
  forth (starts_at has leads) = starts_at has leads
  forth (flows {from} {to} {word} {x} {weight} has derived) = over_flow from to weight word x ((is.rules_are _).0 has) (forth derived)
  forth (pushes {from} {to} {mark} {word} {x} {weight} has derived) = over_push from to mark weight word x ((is.rules_are _).0 has) (forth derived)
  forth (pops {from} {mark} {to} {word} {x} {weight} has derived) = over_pop from mark to weight word x ((is.rules_are _).0 has) (forth derived)

  -- a node has the derivations of the system, or is a joining node
  pub data Given (n : ℕ) (word : List ℕ) (x : W) : Type 0 where
    as_plain : n < count → Plain n word x → Given n word x
    at_join : count ≤ n → IsJoinedFrom d rules joined starts steps last n word x → Given n word x

  plain_meant : {n : ℕ} {word : List ℕ} {x : W} → Plain n word x → d.IsMeant x
  plain_meant derived = derives_meant l steps is.told (forth derived)

  -- a rule over a joining node is there
  led_there : (q : Rule W) (g_word : List ℕ) (y : W) → Has joined q → count ≤ source q → target q < count → (g : IsJoinedFrom d rules joined starts steps last (source q) g_word y)
      → Has rules (led d g.before g.weight q)
  led_there q g_word y has from below g =
      (is.rules_are (led d g.before g.weight q)).1 (over q g.flow (elim (cases_lt g.before count) [
        | inl low ↦ low
        | inr high ↦ (is.flows_alone (Flow g.before (source q) g.weight) g.flow from).0
      ]) from has refl below refl)

  regroup : (n : ℕ) (word g_word : List ℕ) (x y : W) (q : Rule W) → Has joined q → (join : ℕ) → (g : IsJoinedFrom d rules joined starts steps last join g_word x)
      → y ≡ d.extend x (weight_of q) → Plain n word (d.extend g.first (d.extend g.weight (weight_of q))) → Plain n word y
  regroup n word g_word x y q has join g is_y given =
      subst (λ (t : W). Plain n word t)
      (sym (l.extend_assoc g.first g.weight (weight_of q) (plain_meant g.derived) (is.told.rule _ g.flow) (is.told.rule q has))
      ∙ ap (λ (t : W). d.extend t (weight_of q)) (sym g.is) ∙ sym is_y) given

  -- to a joining node only a flow leads
  to_join : (r : Rule W) (n : ℕ) (word : List ℕ) (x : W) → Has joined r → count ≤ target r → Given (source r) word x → IsJoinedFrom d rules joined starts steps last (target r) word (d.extend x (weight_of r))
  to_join r n word x has high (as_plain low derived) = record {
    before = source r;
    first = x;
    weight = weight_of r;
    flow = subst (λ (q : Rule W). Has joined q) (is.flows_alone r has high).1 has;
    derived = derived;
    is = refl;
  }
  to_join r n word x has high (at_join from g) = absurd (let low = (is.flows_alone r has high).0 in omega (arith, low, from))

  flow_back : (from to : ℕ) (weight : W) (word : List ℕ) (x : W) → Has joined (Flow from to weight) → Given from word x → Given to word (d.extend x weight)
  flow_back from to weight word x has given = elim (cases_lt to count) [
    | inl low ↦ as_plain low (by low given)
    | inr high ↦ at_join high (to_join (Flow from to weight) to word x has high given)
  ]
    where
      by : to < count → Given from word x → Plain to word (d.extend x weight)
      by low (as_plain before derived) = flows ((is.rules_are _).1 (past has before low)) derived
      by low (at_join before g) = regroup to word word x _ (Flow from to weight) has from g refl (flows (led_there (Flow from to weight) word x has before low g) g.derived)

  push_back : (from to mark : ℕ) (weight : W) (word : List ℕ) (x : W) → Has joined (Push from to mark weight) → Given from word x → Given to (mark ∷ word) (d.extend x weight)
  push_back from to mark weight word x has given = elim (cases_lt to count) [
    | inl low ↦ as_plain low (by low given)
    | inr high ↦ absurd (let is_flow = (is.flows_alone _ has high).1 in cc)
  ]
    where
      by : to < count → Given from word x → Plain to (mark ∷ word) (d.extend x weight)
      by low (as_plain before derived) = pushes ((is.rules_are _).1 (past has before low)) derived
      by low (at_join before g) =
          regroup to (mark ∷ word) word x _ (Push from to mark weight) has from g refl (pushes (led_there (Push from to mark weight) word x has before low g) g.derived)

  pop_back : (from mark to : ℕ) (weight : W) (word : List ℕ) (x : W) → Has joined (Pop from mark to weight) → Given from (mark ∷ word) x → Given to word (d.extend x weight)
  pop_back from mark to weight word x has given = elim (cases_lt to count) [
    | inl low ↦ as_plain low (by low given)
    | inr high ↦ absurd (let is_flow = (is.flows_alone _ has high).1 in cc)
  ]
    where
      by : to < count → Given from (mark ∷ word) x → Plain to word (d.extend x weight)
      by low (as_plain before derived) = pops ((is.rules_are _).1 (past has before low)) derived
      by low (at_join before g) =
          regroup to word (mark ∷ word) x _ (Pop from mark to weight) has from g refl (pops (led_there (Pop from mark to weight) (mark ∷ word) x has before low g) g.derived)

  -- what the joined system derives
  pub back : {n : ℕ} {word : List ℕ} {x : W} → Joined n word x → Given n word x
  back (starts_at {s} has leads) = as_plain (is.starts_below s has) (starts_at has leads)
  back (flows {from} {to} {word} {x} {weight} has derived) = flow_back from to weight word x has (back derived)
  back (pushes {from} {to} {mark} {word} {x} {weight} has derived) = push_back from to mark weight word x has (back derived)
  back (pops {from} {mark} {to} {word} {x} {weight} has derived) = pop_back from mark to weight word x has (back derived)

  pub joined_plain : {n : ℕ} {word : List ℕ} {x : W} → n < count → Joined n word x → Plain n word x
  joined_plain {n} {word} {x} low derived = by (back derived)
    where
      by : Given n word x → Plain n word x
      by (as_plain below given) = given
      by (at_join high g) = absurd (omega (arith, low, high))

  pub joined_join : {n : ℕ} {word : List ℕ} {x : W} → count ≤ n → Joined n word x → IsJoinedFrom d rules joined starts steps last n word x
  joined_join {n} {word} {x} high derived = by (back derived)
    where
      by : Given n word x → IsJoinedFrom d rules joined starts steps last n word x
      by (as_plain low given) = absurd (omega (arith, low, high))
      by (at_join above g) = g

  pub join_joined : {n : ℕ} {word : List ℕ} {x : W} → IsJoinedFrom d rules joined starts steps last n word x → Joined n word x
  join_joined {n} {word} g = subst (λ (t : W). Joined n word t) (sym g.is) (flows g.flow (forth g.derived))

  pub any_forth : {n : ℕ} {x : W} → DerivesAny d rules starts steps last n x → DerivesAny d joined starts steps last n x
  any_forth (any_word derived) = any_word (forth derived)

  pub any_back : {n : ℕ} {x : W} → n < count → DerivesAny d joined starts steps last n x → DerivesAny d rules starts steps last n x
  any_back low (any_word derived) = any_word (joined_plain low derived)

module _ {W : Type 0} {d : Domain W} (l : IsLawful W d) where
  pub derivations_joined : DerivationsAreJoined d
  derivations_joined count starts rules joined is steps last n word x low =
      ((λ p. forth l count starts rules joined is steps last p), (λ p. joined_plain l count starts rules joined is steps last low p))

  pub joining_nodes : JoiningNodesHaveAll d
  joining_nodes count starts rules joined is steps last join word x high =
      ((λ p. joined_join l count starts rules joined is steps last high p), (λ p. join_joined l count starts rules joined is steps last p))

  pub any_derivations_joined : AnyDerivationsAreJoined d
  any_derivations_joined count starts rules joined is steps last n x low =
      ((λ p. any_forth l count starts rules joined is steps last p), (λ p. any_back l count starts rules joined is steps last low p))

  pub values_joined : ValuesAreJoined d
  values_joined count starts rules joined is steps last n word v low = (
    sum_same l (Derives d rules starts steps last n word) (Derives d joined starts steps last n word)
        (λ x p. forth l count starts rules joined is steps last p) (λ x p. joined_plain l count starts rules joined is steps last low p) v,
    sum_same l (Derives d joined starts steps last n word) (Derives d rules starts steps last n word)
        (λ x p. joined_plain l count starts rules joined is steps last low p) (λ x p. forth l count starts rules joined is steps last p) v,
  )

  pub any_values_joined : AnyValuesAreJoined d
  any_values_joined count starts rules joined is steps last n v low = (
    sum_same l (DerivesAny d rules starts steps last n) (DerivesAny d joined starts steps last n)
        (λ x p. any_forth l count starts rules joined is steps last p) (λ x p. any_back l count starts rules joined is steps last low p) v,
    sum_same l (DerivesAny d joined starts steps last n) (DerivesAny d rules starts steps last n)
        (λ x p. any_back l count starts rules joined is steps last low p) (λ x p. any_forth l count starts rules joined is steps last p) v,
  )
