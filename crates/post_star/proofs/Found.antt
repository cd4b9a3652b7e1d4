-- An index finds what was put into it.
use Rattle.std.proofs.Common.{◌≡◌, inl, inr, ℕ, List, [], ◌∷◌, ◌++◌, slice_get, Some, refl, sym, subst}
use Rattle.auto_table.specs.declared.rule.Rule.{Rule}
use Rattle.auto_table.specs.declared.rule.Rule.TheVariants.{Flow, Push, Pop}
use Rattle.lists.specs.Lists.{Has}
use Rattle.lists.proofs.Places.{slice_get-pushed}
use Rattle.lists.proofs.Joined.{Has-left}
use Rattle.post_star.specs.declared.bases.BaseStep.{BaseStep}
use Rattle.post_star.specs.declared.index.Index.{Index}
use Rattle.post_star.specs.declared.key.Key.{Key}
use Rattle.post_star.specs.declared.key.Key.TheVariants.{Node, Mark, Marked}
use Rattle.post_star.specs.Groups.{Groups, found_at, IsAdded}
use Rattle.post_star.specs.Index.{AreUnder, Stays, Pops, PopsMark, PopsAnywhere, StepsFrom, IsIndex}
use Rattle.post_star.proofs.Groups.{one_key}
use Rattle.post_star.proofs.Scopes.{has_last}

module _ {X : Type 0} (IsKey : X → Key → Type 0) where
  none_has : (xs : List X) (x : X) → xs ≡ [] → Has xs x → ⊥
  none_has xs x e h = let p : slice_get [] h.0 ≡ Some x = subst (λ (ys : List X). slice_get ys h.0 ≡ Some x) e h.1 in cc

  pub under_none : (g : Groups X) → ((key : Key) → found_at g key ≡ []) → AreUnder [] IsKey g
  under_none g e = record { each = λ key x h. absurd (none_has (found_at g key) x (e key) h); all = λ key x h. absurd (none_has [] x refl h) }

  -- an element that goes under no key leaves the groups
  pub under_without : (xs : List X) (g : Groups X) (x : X) → ((key : Key) → IsKey x key → ⊥) → AreUnder xs IsKey g → AreUnder (xs ++ x ∷ []) IsKey g
  under_without xs g x never u = record {
    each = λ key y h. Has-left xs _ y (u.each key y h);
    all = λ key y h k. elim (slice_get-pushed xs x h.0 y h.1) [
      | inl q ↦ u.all key y (h.0, q) k
      | inr q ↦ absurd (never key (subst (λ (z : X). IsKey z key) q.1 k))
    ];
  }

  -- an element came under its only key
  pub under_more : (xs : List X) (old new : Groups X) (key : Key) (x : X) → ((k : Key) → IsKey x k → key ≡ k) → IsAdded old new key x → AreUnder xs IsKey old → AreUnder (xs ++ x ∷ []) IsKey new
  under_more xs old new key x only a u = record { each = each; all = all }
    where
      each : (k : Key) (y : X) → Has (found_at new k) y → Has (xs ++ x ∷ []) y
      each k y h = elim (one_key key k) [
        | inl e ↦
            let here : Has (found_at old key ++ x ∷ []) y = subst (λ (ys : List X). Has ys y) a.here (subst (λ (m : Key). Has (found_at new m) y) (sym e.0) h) in
            elim (slice_get-pushed (found_at old key) x here.0 y here.1) [
              | inl q ↦ Has-left xs _ y (u.each key y (here.0, q))
              | inr q ↦ subst (λ (z : X). Has (xs ++ x ∷ []) z) (sym q.1) (has_last xs x)
            ]
        | inr n ↦ Has-left xs _ y (u.each k y (subst (λ (ys : List X). Has ys y) (a.others k (λ o. n.0 (sym o))) h))
      ]

      old_in : (k : Key) (y : X) → Has (found_at old k) y → Has (found_at new k) y
      old_in k y h = elim (one_key key k) [
        | inl e ↦ subst (λ (m : Key). Has (found_at new m) y) e.0 (subst (λ (ys : List X). Has ys y) (sym a.here) (Has-left (found_at old key) _ y (subst (λ (m : Key). Has (found_at old m) y) (sym e.0) h)))
        | inr n ↦ subst (λ (ys : List X). Has ys y) (sym (a.others k (λ o. n.0 (sym o)))) h
      ]

      all : (k : Key) (y : X) → Has (xs ++ x ∷ []) y → IsKey y k → Has (found_at new k) y
      all k y h is = elim (slice_get-pushed xs x h.0 y h.1) [
        | inl q ↦ old_in k y (u.all k y (h.0, q) is)
        | inr q ↦
            let key_is : key ≡ k = only k (subst (λ (z : X). IsKey z k) q.1 is) in
            subst (λ (m : Key). Has (found_at new m) y) key_is (subst (λ (z : X). Has (found_at new key) z) (sym q.1) (subst (λ (ys : List X). Has ys x) (sym a.here) (has_last (found_at old key) x)))
      ]

module _ {W : Type 0} (x : Index W) where
  -- a base step came into the index
  pub index_step : (below : Groups BaseStep) (step : BaseStep) → IsAdded x.below below (Marked step.base step.mark) step → (rules : List (Rule W)) (steps : List BaseStep) → IsIndex rules steps x → IsIndex rules (steps ++ step ∷ []) (record x { below = below })
  index_step below step a rules steps i = record {
    stays = i.stays;
    pops = i.pops;
    marked = i.marked;
    by_mark = i.by_mark;
    below = under_more StepsFrom steps x.below below (Marked step.base step.mark) step (λ k h. h) a i.below;
  }

  -- a rule came into the index
  pub index_flow : (stays : Groups (Rule W)) (from to : ℕ) (v : W) (rule : Rule W) → rule ≡ Flow from to v → IsAdded x.stays stays (Node from) (Flow from to v) → (rules : List (Rule W)) (steps : List BaseStep) → IsIndex rules steps x
      → IsIndex (rules ++ rule ∷ []) steps (record x { stays = stays })
  index_flow stays from to v rule q a rules steps i = record {
    stays = under_more Stays rules x.stays stays (Node from) rule (λ k h. subst (λ (z : Rule W). Stays z k) q h) (subst (λ (z : Rule W). IsAdded x.stays stays (Node from) z) (sym q) a) i.stays;
    pops = under_without Pops rules x.pops rule (λ k h. subst (λ (z : Rule W). Pops z k) q h) i.pops;
    marked = under_without PopsMark rules x.marked rule (λ k h. subst (λ (z : Rule W). PopsMark z k) q h) i.marked;
    by_mark = under_without PopsAnywhere rules x.by_mark rule (λ k h. subst (λ (z : Rule W). PopsAnywhere z k) q h) i.by_mark;
    below = i.below;
  }

  pub index_push : (stays : Groups (Rule W)) (from to mark : ℕ) (v : W) (rule : Rule W) → rule ≡ Push from to mark v → IsAdded x.stays stays (Node from) (Push from to mark v) → (rules : List (Rule W)) (steps : List BaseStep) → IsIndex rules steps x
      → IsIndex (rules ++ rule ∷ []) steps (record x { stays = stays })
  index_push stays from to mark v rule q a rules steps i = record {
    stays = under_more Stays rules x.stays stays (Node from) rule (λ k h. subst (λ (z : Rule W). Stays z k) q h) (subst (λ (z : Rule W). IsAdded x.stays stays (Node from) z) (sym q) a) i.stays;
    pops = under_without Pops rules x.pops rule (λ k h. subst (λ (z : Rule W). Pops z k) q h) i.pops;
    marked = under_without PopsMark rules x.marked rule (λ k h. subst (λ (z : Rule W). PopsMark z k) q h) i.marked;
    by_mark = under_without PopsAnywhere rules x.by_mark rule (λ k h. subst (λ (z : Rule W). PopsAnywhere z k) q h) i.by_mark;
    below = i.below;
  }

  pub index_pop : (pops marked by_mark : Groups (Rule W)) (from mark to : ℕ) (v : W) (rule : Rule W) → rule ≡ Pop from mark to v → IsAdded x.pops pops (Node from) (Pop from mark to v) → IsAdded x.marked marked (Marked from mark) (Pop from mark to v)
      → IsAdded x.by_mark by_mark (Mark mark) (Pop from mark to v) → (rules : List (Rule W)) (steps : List BaseStep) → IsIndex rules steps x → IsIndex (rules ++ rule ∷ []) steps (record x { pops = pops; marked = marked; by_mark = by_mark })
  index_pop pops marked by_mark from mark to v rule q a b o rules steps i = record {
    stays = under_without Stays rules x.stays rule (λ k h. subst (λ (z : Rule W). Stays z k) q h) i.stays;
    pops = under_more Pops rules x.pops pops (Node from) rule (λ k h. subst (λ (z : Rule W). Pops z k) q h) (subst (λ (z : Rule W). IsAdded x.pops pops (Node from) z) (sym q) a) i.pops;
    marked = under_more PopsMark rules x.marked marked (Marked from mark) rule (λ k h. subst (λ (z : Rule W). PopsMark z k) q h) (subst (λ (z : Rule W). IsAdded x.marked marked (Marked from mark) z) (sym q) b) i.marked;
    by_mark = under_more PopsAnywhere rules x.by_mark by_mark (Mark mark) rule (λ k h. subst (λ (z : Rule W). PopsAnywhere z k) q h) (subst (λ (z : Rule W). IsAdded x.by_mark by_mark (Mark mark) z) (sym q) o) i.by_mark;
    below = i.below;
  }
