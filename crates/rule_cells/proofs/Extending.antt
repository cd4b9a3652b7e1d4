-- The law of contraction: derivations of nodes from those of heads, and back.
use Rattle.std.proofs.Common.{◌≡◌, ◌↔◌, inl, inr, ℕ, List, ◌∷◌, ◌++◌, refl, sym, ap, ◌∙◌, subst}
use Rattle.auto_table.specs.declared.rule.Rule.{Rule}
use Rattle.auto_table.specs.declared.rule.Rule.TheVariants.{Flow, Push, Pop}
use Rattle.lists.specs.Lists.{Has}
use Rattle.lists.proofs.Joined.{Has-either, Has-left, Has-right}
use Rattle.post_star.specs.declared.bases.Start.{Start}
use Rattle.post_star.specs.declared.bases.BaseStep.{BaseStep}
use Rattle.post_star.specs.Derivations.{Derives, starts_at, flows, pushes, pops, DerivesAny, any_word, IsSumOf}
use Rattle.post_star.specs.Index.{from_of}
use Rattle.post_star.specs.Measures.{to_of}
use Rattle.post_star.specs.Works.{IsTold, weight_of}
use Rattle.post_star.proofs.Combinations.{combines_leq, combines_meant}
use Rattle.post_star.proofs.Joins.{derives_meant}
use Rattle.post_star.proofs.Sums.{IsTimes, sum_same, sum_times}
use Rattle.weight_laws.specs.Law.{Domain, IsLawful}
use Rattle.weight_laws.proofs.Orders.{leq_both}
use Rattle.rule_cells.specs.Cells.{AreCells, AreContracted, IsCarriedFrom, moved}
use Rattle.rule_cells.specs.Laws.{AnyDerivationsAreExtended, AnyValuesAreExtended, DerivationsAreExtended, OnesHaveNoOffset, ValuesAreExtended}
use Rattle.rule_cells.proofs.Carrying.{IsLast, carried_from_more, carried_meant, carried_one, carry, kept_head, last_flow}

-- a moved rule leads where the rule did, with the offset before its weight
pub moved_to : {W : Type 0} (d : Domain W) (head : ℕ → ℕ) (offset : ℕ → W) (r : Rule W) → to_of (moved d head offset r) ≡ to_of r
moved_to d head offset (Flow from to weight) = refl
moved_to d head offset (Push from to mark weight) = refl
moved_to d head offset (Pop from mark to weight) = refl

pub moved_weight : {W : Type 0} (d : Domain W) (head : ℕ → ℕ) (offset : ℕ → W) (r : Rule W)
    → weight_of (moved d head offset r) ≡ d.extend (offset (from_of r)) (weight_of r)
moved_weight d head offset (Flow from to weight) = refl
moved_weight d head offset (Push from to mark weight) = refl
moved_weight d head offset (Pop from mark to weight) = refl

-- what two lists are contracted to, together
pub contracted_both : {W : Type 0} (d : Domain W) (head : ℕ → ℕ) (offset : ℕ → W) (rules few own own_few : List (Rule W)) → AreContracted d head offset rules few
    → AreContracted d head offset own own_few → AreContracted d head offset (rules ++ own) (few ++ own_few)
contracted_both d head offset rules few own own_few a b r = (
  (λ has. elim (Has-either few own_few r has) [
    | inl h ↦ let q = (a r).0 h in (q.0, Has-left rules own q.0 q.1, q.2, q.3)
    | inr h ↦ let q = (b r).0 h in (q.0, Has-right rules own q.0 q.1, q.2, q.3)
  ]),
  (λ q. elim (Has-either rules own q.0 q.1) [
    | inl h ↦ Has-left few own_few r ((a r).1 (q.0, h, q.2, q.3))
    | inr h ↦ Has-right few own_few r ((b r).1 (q.0, h, q.2, q.3))
  ]),
)

-- a system whose cells are of all its rules
module _ {W : Type 0} {d : Domain W} (l : IsLawful W d) (rules few : List (Rule W)) (kept : List ℕ) (head : ℕ → ℕ) (offset : ℕ → W) (starts : List (Start W))
    (steps : List BaseStep) (last : ℕ) (told : IsTold d rules starts) (cells : AreCells d rules kept head offset)
    (are : AreContracted d head offset rules few) (begin : (s : Start W) → Has starts s → Has kept s.node) where
  offset_meant : (n : ℕ) → d.IsMeant (offset n)
  offset_meant n = carried_meant d rules kept l {starts = starts} steps told (cells.each n)

  few_told : IsTold d few starts
  few_told = record {
    rule = λ r has. let q = (are r).0 has in
        subst (λ (t : W). d.IsMeant t) (sym (ap weight_of q.3 ∙ moved_weight d head offset q.0))
        (l.extend_meant _ _ (offset_meant (from_of q.0)) (told.rule q.0 q.1));
    start = told.start;
  }

  moved_has : (r : Rule W) → Has rules r → head (to_of r) ≡ to_of r → Has few (moved d head offset r)
  moved_has r has own = (are (moved d head offset r)).1 (r, has, own, refl)

  -- the head gives the word, and what it gives is extended to the weight
  abbrev pub Given : ℕ → List ℕ → W → W → Type 0
  Given h word w x = (y : W) × Derives d few starts steps last h word y × (x ≡ d.extend y w)

  -- each head from which all comes to the node gives it
  abbrev GivenTo : ℕ → List ℕ → W → Type 0
  GivenTo n word x = (h : ℕ) (w : W) → IsCarriedFrom d rules kept h n w → head h ≡ h → Given h word w x

  -- the offset of the source goes before the weight
  product : (x y o weight w : W) → d.IsMeant y → d.IsMeant o → d.IsMeant weight → x ≡ d.extend y o → w ≡ d.one
      → d.extend x weight ≡ d.extend (d.extend y (d.extend o weight)) w
  product x y o weight w my mo mw e one =
      ap (λ (t : W). d.extend t weight) e ∙ l.extend_assoc y o weight my mo mw
      ∙ sym (l.extend_one (d.extend y (d.extend o weight)) (l.extend_meant _ _ my (l.extend_meant _ _ mo mw)))
      ∙ ap (d.extend (d.extend y (d.extend o weight))) (sym one)

  -- over a rule that leads to a head
  rule_over : (rule : Rule W) (before word : List ℕ) (x : W) → Has rules rule → GivenTo (from_of rule) before x
      → ((y : W) → Has few (moved d head offset rule) → Derives d few starts steps last (head (from_of rule)) before y
      → Derives d few starts steps last (to_of rule) word (d.extend y (d.extend (offset (from_of rule)) (weight_of rule))))
      → (h : ℕ) (w : W) → h ≡ to_of rule → w ≡ d.one → head h ≡ h → Given h word w (d.extend x (weight_of rule))
  rule_over rule before word x has given step h w at one own =
      let from = from_of rule in
      let g = given (head from) (offset from) (cells.each from) (cells.own from) in
      let to_own : head (to_of rule) ≡ to_of rule = subst (λ (k : ℕ). head k ≡ k) at own in
      let weight = d.extend (offset from) (weight_of rule) in (
        d.extend g.0 weight,
        subst (λ (k : ℕ). Derives d few starts steps last k word (d.extend g.0 weight)) (sym at) (step g.0 (moved_has rule has to_own) g.1),
        product x g.0 (offset from) (weight_of rule) w (derives_meant l steps few_told g.1) (offset_meant from) (told.rule rule has) g.2 one,
      )

  -- over a rule that leads to a carried node, which is the flow
  flow_over : (from to : ℕ) (weight x : W) (word : List ℕ) → Has rules (Flow from to weight) → GivenTo from word x
      → (h : ℕ) (w : W) → IsLast d rules kept h to w → head h ≡ h → Given h word w (d.extend x weight)
  flow_over from to weight x word has given h w c own =
      let same = c.last.only (Flow from to weight) has refl in
      let source : from ≡ c.before = cc in
      let weighs : weight ≡ c.weight = cc in
      let g = given h c.product (subst (λ (k : ℕ). IsCarriedFrom d rules kept h k c.product) (sym source) c.first) own in (
        g.0,
        g.1,
        ap (λ (t : W). d.extend t weight) g.2
            ∙ l.extend_assoc g.0 c.product weight (derives_meant l steps few_told g.1) (carried_meant d rules kept l {starts = starts} steps told c.first) (told.rule _ has)
            ∙ ap (λ (t : W). d.extend g.0 (d.extend c.product t)) weighs ∙ ap (d.extend g.0) (sym c.is),
      )

  -- the derivations of a node come from those of each head from which all comes to it
  pub forth : {n : ℕ} {word : List ℕ} {x : W} → Derives d rules starts steps last n word x → GivenTo n word x
  forth (starts_at {s} {word} has leads) h w c own =
      let k = kept_head d rules kept (begin s has) c in (
        s.weight,
        subst (λ (m : ℕ). Derives d few starts steps last m word s.weight) (sym k.0) (starts_at has leads),
        sym (l.extend_one s.weight (told.start s has)) ∙ ap (d.extend s.weight) (sym k.1),
      )
  forth (flows {from} {to} {word} {x} {weight} has derived) h w c own = elim (last_flow d rules kept c) [
    | inl head_is ↦ rule_over (Flow from to weight) word word x has (forth derived) (λ y there given. flows there given) h w head_is.0 head_is.1 own
    | inr carried ↦ flow_over from to weight x word has (forth derived) h w carried own
  ]
  forth (pushes {from} {to} {mark} {word} {x} {weight} has derived) h w c own = elim (last_flow d rules kept c) [
    | inl head_is ↦ rule_over (Push from to mark weight) word (mark ∷ word) x has (forth derived) (λ y there given. pushes there given) h w head_is.0 head_is.1 own
    | inr carried ↦ let other = carried.last.only (Push from to mark weight) has refl in cc
  ]
  forth (pops {from} {mark} {to} {word} {x} {weight} has derived) h w c own = elim (last_flow d rules kept c) [
    | inl head_is ↦ rule_over (Pop from mark to weight) (mark ∷ word) word x has (forth derived) (λ y there given. pops there given) h w head_is.0 head_is.1 own
    | inr carried ↦ let other = carried.last.only (Pop from mark to weight) has refl in cc
  ]

  abbrev Whole : ℕ → List ℕ → W → Type 0
  Whole = Derives d rules starts steps last

  -- to the source of a moved rule
  to_source : (from f : ℕ) (word : List ℕ) (x : W) → f ≡ head from → Whole f word x → Whole from word (d.extend x (offset from))
  to_source from f word x e given = carry d rules kept l steps told (cells.each from) (subst (λ (k : ℕ). Whole k word x) e given)

  -- over its weight
  regrouped : (from n : ℕ) (word : List ℕ) (x weight v : W) → d.IsMeant x → d.IsMeant weight → v ≡ d.extend (offset from) weight
      → Whole n word (d.extend (d.extend x (offset from)) weight) → Whole n word (d.extend x v)
  regrouped from n word x weight v mx mw e given =
      subst (λ (t : W). Whole n word t) (l.extend_assoc x (offset from) weight mx (offset_meant from) mw ∙ ap (d.extend x) (sym e)) given

  back_flow : (q : Rule W) → Has rules q → (f t : ℕ) (v : W) → Flow f t v ≡ moved d head offset q → (word : List ℕ) (x : W) → Whole f word x
      → Whole t word (d.extend x v)
  back_flow (Flow from to weight) has f t v e word x given =
      let source : f ≡ head from = cc in
      let target : t ≡ to = cc in
      let weighs : v ≡ d.extend (offset from) weight = cc in
      subst (λ (k : ℕ). Whole k word (d.extend x v)) (sym target)
      (regrouped from to word x weight v (derives_meant l steps told given) (told.rule _ has) weighs (flows has (to_source from f word x source given)))
  back_flow (Push from to mark weight) has f t v e word x given = cc
  back_flow (Pop from mark to weight) has f t v e word x given = cc

  back_push : (q : Rule W) → Has rules q → (f t k : ℕ) (v : W) → Push f t k v ≡ moved d head offset q → (word : List ℕ) (x : W) → Whole f word x
      → Whole t (k ∷ word) (d.extend x v)
  back_push (Flow from to weight) has f t k v e word x given = cc
  back_push (Push from to mark weight) has f t k v e word x given =
      let source : f ≡ head from = cc in
      let target : t ≡ to = cc in
      let marks : k ≡ mark = cc in
      let weighs : v ≡ d.extend (offset from) weight = cc in
      subst (λ (m : ℕ). Whole m (k ∷ word) (d.extend x v)) (sym target) (subst (λ (m : ℕ). Whole to (m ∷ word) (d.extend x v)) (sym marks)
      (regrouped from to (mark ∷ word) x weight v (derives_meant l steps told given) (told.rule _ has) weighs (pushes has (to_source from f word x source given))))
  back_push (Pop from mark to weight) has f t k v e word x given = cc

  back_pop : (q : Rule W) → Has rules q → (f k t : ℕ) (v : W) → Pop f k t v ≡ moved d head offset q → (word : List ℕ) (x : W) → Whole f (k ∷ word) x
      → Whole t word (d.extend x v)
  back_pop (Flow from to weight) has f k t v e word x given = cc
  back_pop (Push from to mark weight) has f k t v e word x given = cc
  back_pop (Pop from mark to weight) has f k t v e word x given =
      let source : f ≡ head from = cc in
      let target : t ≡ to = cc in
      let marks : k ≡ mark = cc in
      let weighs : v ≡ d.extend (offset from) weight = cc in
      let popped = subst (λ (m : ℕ). Whole from (m ∷ word) (d.extend x (offset from))) marks (to_source from f (k ∷ word) x source given) in
      subst (λ (m : ℕ). Whole m word (d.extend x v)) (sym target)
      (regrouped from to word x weight v (derives_meant l steps told given) (told.rule _ has) weighs (pops has popped))

  -- what the contracted system derives, the whole one does
  pub back : {n : ℕ} {word : List ℕ} {x : W} → Derives d few starts steps last n word x → Whole n word x
  back (starts_at has leads) = starts_at has leads
  back (flows {from} {to} {word} {x} {weight} has derived) =
      let q = (are (Flow from to weight)).0 has in back_flow q.0 q.1 from to weight q.3 word x (back derived)
  back (pushes {from} {to} {mark} {word} {x} {weight} has derived) =
      let q = (are (Push from to mark weight)).0 has in back_push q.0 q.1 from to mark weight q.3 word x (back derived)
  back (pops {from} {mark} {to} {word} {x} {weight} has derived) =
      let q = (are (Pop from mark to weight)).0 has in back_pop q.0 q.1 from mark to weight q.3 word x (back derived)

  pub extended : (n : ℕ) (word : List ℕ) (x : W) → Whole n word x ↔ Given (head n) word (offset n) x
  extended n word x = (
    (λ derived. forth derived (head n) (offset n) (cells.each n) (cells.own n)),
    (λ g. subst (λ (t : W). Whole n word t) (sym g.2) (carry d rules kept l steps told (cells.each n) (back g.1))),
  )

  -- of any word
  pub any_extended : (n : ℕ) (x : W) → DerivesAny d rules starts steps last n x ↔ ((y : W) × DerivesAny d few starts steps last (head n) y × (x ≡ d.extend y (offset n)))
  any_extended n x = (any_forth, any_back)
    where
      any_forth : DerivesAny d rules starts steps last n x → (y : W) × DerivesAny d few starts steps last (head n) y × (x ≡ d.extend y (offset n))
      any_forth (any_word {word} derived) = let g = (extended n word x).0 derived in (g.0, any_word g.1, g.2)

      over : (y : W) → x ≡ d.extend y (offset n) → DerivesAny d few starts steps last (head n) y → DerivesAny d rules starts steps last n x
      over y e (any_word {word} derived) = any_word ((extended n word x).1 (y, derived, e))

      any_back : ((y : W) × DerivesAny d few starts steps last (head n) y × (x ≡ d.extend y (offset n))) → DerivesAny d rules starts steps last n x
      any_back g = over g.0 g.2 g.1

  -- the sum of a kind that is another one extended
  pub sum_extended : (kind more : W → Type 0) (w : W) → ((x : W) → kind x → d.IsMeant x) → ((x : W) → more x → d.IsMeant x) → d.IsMeant w
      → ((x : W) → more x ↔ ((y : W) × kind y × (x ≡ d.extend y w))) → (v : W) → IsSumOf d kind v → (x : W) → IsSumOf d more x ↔ (x ≡ d.extend v w)
  sum_extended kind more w mk mm mw same v sum x = (one_sum, (λ e. subst (λ (t : W). IsSumOf d more t) (sym e) there))
    where
      there : IsSumOf d more (d.extend v w)
      there = sum_same l (IsTimes d kind w) more (λ z t. (same z).1 (t.first, t.is, t.product))
          (λ z m. let g = (same z).0 m in record { first = g.0; is = g.1; product = g.2 }) (d.extend v w) (sum_times l kind mk w v mw sum)

      meant : d.IsMeant (d.extend v w)
      meant = combines_meant l mm there.finite

      one_sum : IsSumOf d more x → x ≡ d.extend v w
      one_sum s = leq_both l x (d.extend v w) (combines_meant l mm s.finite) meant (combines_leq l mm (d.extend v w) meant there.above s.finite)
          (combines_leq l mm x (combines_meant l mm s.finite) s.above there.finite)

  any_meant : (l' : IsLawful W d) (some : List (Rule W)) → IsTold d some starts → (n : ℕ) (x : W) → DerivesAny d some starts steps last n x → d.IsMeant x
  any_meant l' some t n x (any_word derived) = derives_meant l' steps t derived

  pub value_extended : (n : ℕ) (word : List ℕ) (v : W) → IsSumOf d (Derives d few starts steps last (head n) word) v → (x : W)
      → IsSumOf d (Whole n word) x ↔ (x ≡ d.extend v (offset n))
  value_extended n word = sum_extended (Derives d few starts steps last (head n) word) (Whole n word) (offset n) (λ x p. derives_meant l steps few_told p)
      (λ x p. derives_meant l steps told p) (offset_meant n) (extended n word)

  pub any_value_extended : (n : ℕ) (v : W) → IsSumOf d (DerivesAny d few starts steps last (head n)) v → (x : W)
      → IsSumOf d (DerivesAny d rules starts steps last n) x ↔ (x ≡ d.extend v (offset n))
  any_value_extended n = sum_extended (DerivesAny d few starts steps last (head n)) (DerivesAny d rules starts steps last n) (offset n)
      (any_meant l few few_told (head n)) (any_meant l rules told n) (offset_meant n) (any_extended n)

-- cells of the common rules are cells of all
pub cells_more : {W : Type 0} (d : Domain W) (kept : List ℕ) (rules own : List (Rule W)) (head : ℕ → ℕ) (offset : ℕ → W)
    → ((r : Rule W) → Has own r → Has kept (to_of r)) → AreCells d rules kept head offset → AreCells d (rules ++ own) kept head offset
cells_more d kept rules own head offset leads cells = record {
  each = λ n. carried_from_more d rules kept own leads (cells.each n);
  own = cells.own;
  at_head = cells.at_head;
}

module _ {W : Type 0} {d : Domain W} (l : IsLawful W d) where
  pub derivations_extended : DerivationsAreExtended d
  derivations_extended kept starts c is steps last =
      extended l (c.rules ++ c.own) (c.few ++ c.own_few) kept c.head c.offset starts steps last is.told
      (cells_more d kept c.rules c.own c.head c.offset is.own_kept is.cells)
      (contracted_both d c.head c.offset c.rules c.few c.own c.own_few is.few_are is.own_few_are) is.starts_kept

  pub any_derivations_extended : AnyDerivationsAreExtended d
  any_derivations_extended kept starts c is steps last =
      any_extended l (c.rules ++ c.own) (c.few ++ c.own_few) kept c.head c.offset starts steps last is.told
      (cells_more d kept c.rules c.own c.head c.offset is.own_kept is.cells)
      (contracted_both d c.head c.offset c.rules c.few c.own c.own_few is.few_are is.own_few_are) is.starts_kept

  pub values_extended : ValuesAreExtended d
  values_extended kept starts c is steps last =
      value_extended l (c.rules ++ c.own) (c.few ++ c.own_few) kept c.head c.offset starts steps last is.told
      (cells_more d kept c.rules c.own c.head c.offset is.own_kept is.cells)
      (contracted_both d c.head c.offset c.rules c.few c.own c.own_few is.few_are is.own_few_are) is.starts_kept

  pub any_values_extended : AnyValuesAreExtended d
  any_values_extended kept starts c is steps last =
      any_value_extended l (c.rules ++ c.own) (c.few ++ c.own_few) kept c.head c.offset starts steps last is.told
      (cells_more d kept c.rules c.own c.head c.offset is.own_kept is.cells)
      (contracted_both d c.head c.offset c.rules c.few c.own c.own_few is.few_are is.own_few_are) is.starts_kept

  pub ones_without_offset : OnesHaveNoOffset d
  ones_without_offset rules kept head offset cells ones n = carried_one d rules kept l ones (cells.each n)
