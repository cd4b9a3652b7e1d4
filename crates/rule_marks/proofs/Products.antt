-- Shared rules behind joining nodes are those of the nodes.
use Rattle.std.proofs.Common.{◌≡◌, ◌<◌, ◌≤◌, ◌+◌, ◌++◌, inl, inr, ℕ, List, refl, sym, ap, ◌∙◌, subst, arith}
use Rattle.auto_table.specs.declared.rule.Rule.{Rule}
use Rattle.auto_table.specs.declared.rule.Rule.TheVariants.{Flow, Push, Pop}
use Rattle.lists.specs.Lists.{Has}
use Rattle.lists.proofs.Joined.{Has-either, Has-left, Has-right}
use Rattle.post_star.specs.declared.bases.Start.{Start}
use Rattle.post_star.specs.Works.{weight_of}
use Rattle.weight_laws.specs.Law.{Domain, IsLawful}
use Rattle.rule_marks.specs.Joined.{IsJoined, IsOver, led, over, past, source, target}
use Rattle.rule_marks.specs.Sharing.{IsOfJoined, IsSharing, SharedRulesAreJoined, at_node, enters, leaves, other}

at_source : {W : Type 0} (n : ℕ) (q : Rule W) → source (at_node n q) ≡ n
at_source n (Flow from to weight) = refl
at_source n (Push from to mark weight) = refl
at_source n (Pop from mark to weight) = refl

at_target : {W : Type 0} (n : ℕ) (q : Rule W) → target (at_node n q) ≡ target q
at_target n (Flow from to weight) = refl
at_target n (Push from to mark weight) = refl
at_target n (Pop from mark to weight) = refl

at_weight : {W : Type 0} (n : ℕ) (q : Rule W) → weight_of (at_node n q) ≡ weight_of q
at_weight n (Flow from to weight) = refl
at_weight n (Push from to mark weight) = refl
at_weight n (Pop from mark to weight) = refl

at_twice : {W : Type 0} (m n : ℕ) (q : Rule W) → at_node m (at_node n q) ≡ at_node m q
at_twice m n (Flow from to weight) = refl
at_twice m n (Push from to mark weight) = refl
at_twice m n (Pop from mark to weight) = refl

at_own : {W : Type 0} (q : Rule W) → at_node (source q) q ≡ q
at_own (Flow from to weight) = refl
at_own (Push from to mark weight) = refl
at_own (Pop from mark to weight) = refl

-- a flow of weight one before a rule changes nothing but where it begins
led_by_one : {W : Type 0} {d : Domain W} → IsLawful W d → (n : ℕ) (q : Rule W) → d.IsMeant (weight_of q) → led d n d.one q ≡ at_node n q
led_by_one l n (Flow from to weight) meant = ap (λ w. Flow n to w) (l.one_extend weight meant)
led_by_one l n (Push from to mark weight) meant = ap (λ w. Push n to mark w) (l.one_extend weight meant)
led_by_one l n (Pop from mark to weight) meant = ap (λ w. Pop n mark to w) (l.one_extend weight meant)

module _ {W : Type 0} {d : Domain W} (l : IsLawful W d) (count : ℕ) (leader : ℕ → ℕ) (starts : List (Start W)) (others shared joined : List (Rule W))
    (is : IsSharing d count leader starts others shared joined) where
  shared_meant : (q : Rule W) → Has shared q → d.IsMeant (weight_of q)
  shared_meant q has = is.told.rule q (Has-right others shared q has)

  -- a rule that leads to a joining node, and one that leads from there
  to_join : (r : Rule W) → IsOfJoined d count leader others shared r → count ≤ target r
      → (q : Rule W) × Has shared q × (r ≡ Flow (source q) (count + leader (source q)) d.one)
  to_join r (other has) high = absurd (let low = (is.others_below r has).1 in omega (arith, low, high))
  to_join r (enters q has e) high = (q, has, e)
  to_join r (leaves q has own e) high =
      absurd (let low = (is.shared_below q has).1 in let same : target r ≡ target q = ap target e ∙ at_target (count + source q) q in omega (arith, low, same, high))

  from_join : (r : Rule W) → IsOfJoined d count leader others shared r → count ≤ source r
      → (q : Rule W) × Has shared q × (leader (source q) ≡ source q) × (r ≡ at_node (count + source q) q)
  from_join r (other has) high = absurd (let low = (is.others_below r has).0 in omega (arith, low, high))
  from_join r (enters q has e) high = absurd (let low = (is.shared_below q has).0 in let same : source r ≡ source q = ap source e in omega (arith, low, same, high))
  from_join r (leaves q has own e) high = (q, has, own, e)

  told_rule : (r : Rule W) → IsOfJoined d count leader others shared r → d.IsMeant (weight_of r)
  told_rule r (other has) = is.told.rule r (Has-left others shared r has)
  told_rule r (enters q has e) = subst (λ (w : W). d.IsMeant w) (sym (ap weight_of e)) l.one_meant
  told_rule r (leaves q has own e) = subst (λ (w : W). d.IsMeant w) (sym (ap weight_of e ∙ at_weight (count + source q) q)) (shared_meant q has)

  -- a shared rule goes over the joining node of its leader
  goes_over : (q : Rule W) → Has shared q → IsOver d count joined q
  goes_over q has =
      let n = source q in
      let low = is.shared_below q has in
      let first = at_node (leader n) q in
      let first_has = is.are_shared.led q has in
      let own : leader (source first) ≡ source first = ap leader (at_source (leader n) q) ∙ is.are_shared.leads_itself q has ∙ sym (at_source (leader n) q) in
      let join : source (at_node (count + source first) first) ≡ count + leader n =
      at_source (count + source first) first ∙ ap (λ (k : ℕ). count + k) (at_source (leader n) q) in
      let ends : target (at_node (count + source first) first) ≡ target q = at_target (count + source first) first ∙ at_target (leader n) q in
      let whole : q ≡ led d n d.one (at_node (count + source first) first) =
      sym (led_by_one l n (at_node (count + source first) first) (subst (λ (w : W). d.IsMeant w) (sym (at_weight (count + source first) first)) (shared_meant first first_has))
      ∙ at_twice n (count + source first) first ∙ at_twice n (leader n) q ∙ at_own q) in
      over (at_node (count + source first) first) ((is.joined_are _).1 (enters q has refl)) low.0 (omega arith) ((is.joined_are _).1 (leaves first first_has own refl)) join
      (let below = low.1 in omega (arith, ends, below)) whole

  rules_forth : (r : Rule W) → Has (others ++ shared) r → IsOver d count joined r
  rules_forth r has = elim (Has-either others shared r has) [
    | inl a ↦ past ((is.joined_are r).1 (other a)) (is.others_below r a).0 (is.others_below r a).1
    | inr b ↦ goes_over r b
  ]

  past_back : (r : Rule W) → IsOfJoined d count leader others shared r → source r < count → target r < count → Has (others ++ shared) r
  past_back r (other has) low below = Has-left others shared r has
  past_back r (enters q has e) low below = absurd (let to : target r ≡ count + leader (source q) = ap target e in omega (arith, to, below))
  past_back r (leaves q has own e) low below =
      absurd (let from : source r ≡ count + source q = ap source e ∙ at_source (count + source q) q in omega (arith, from, low))

  over_back : (r q : Rule W) (before join : ℕ) (first : W) → IsOfJoined d count leader others shared (Flow before join first) → count ≤ join
      → IsOfJoined d count leader others shared q → source q ≡ join → r ≡ led d before first q → Has (others ++ shared) r
  over_back r q before join first flow high leaving at_join led_is =
      let a = to_join (Flow before join first) flow high in
      let b = from_join q leaving (omega (arith, at_join, high)) in
      let from : before ≡ source a.0 = ap source a.2 in
      let to : join ≡ count + leader (source a.0) = ap target a.2 in
      let weighs : first ≡ d.one = ap weight_of a.2 in
      let begins : source q ≡ count + source b.0 = ap source b.3 ∙ at_source (count + source b.0) b.0 in
      let leads : source b.0 ≡ leader (source a.0) = omega (arith, begins, at_join, to) in
      let there = is.are_shared.same b.0 a.0 b.1 a.1 (b.2 ∙ leads) in
      let meant : d.IsMeant (weight_of q) = subst (λ (w : W). d.IsMeant w) (sym (ap weight_of b.3 ∙ at_weight (count + source b.0) b.0)) (shared_meant b.0 b.1) in
      let rule : r ≡ at_node (source a.0) b.0 =
      led_is ∙ ap (λ (w : W). led d before w q) weighs ∙ led_by_one l before q meant ∙ ap (at_node before) b.3 ∙ at_twice before (count + source b.0) b.0
      ∙ ap (λ (k : ℕ). at_node k b.0) from in
      subst (λ (x : Rule W). Has (others ++ shared) x) (sym rule) (Has-right others shared (at_node (source a.0) b.0) there)

  rules_back : (r : Rule W) → IsOver d count joined r → Has (others ++ shared) r
  rules_back r (past has low below) = past_back r ((is.joined_are r).0 has) low below
  rules_back r (over {before} {join} {first} q flow low high has leads below same) =
      over_back r q before join first ((is.joined_are _).0 flow) high ((is.joined_are q).0 has) leads same

  pub shared_joined : IsJoined d count starts (others ++ shared) joined
  shared_joined = record {
    told = record { rule = λ r has. told_rule r ((is.joined_are r).0 has); start = is.told.start };
    flows_alone = λ r has high.
        let a = to_join r ((is.joined_are r).0 has) high in
        let low = (is.shared_below a.0 a.1).0 in
        let from : source r ≡ source a.0 = ap source a.2 in
        (omega (arith, low, from), cc (a.2, ap target a.2, ap weight_of a.2));
    rules_are = λ r. ((λ has. rules_forth r has), (λ o. rules_back r o));
    starts_below = is.starts_below;
  }

pub shared_rules_joined : {W : Type 0} {d : Domain W} → IsLawful W d → SharedRulesAreJoined d
shared_rules_joined l count leader starts others shared joined is = shared_joined l count leader starts others shared joined is
