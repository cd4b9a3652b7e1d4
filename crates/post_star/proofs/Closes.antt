-- In a closed table each derivation lies below a reading.
use Rattle.std.proofs.Common.{◌≡◌, ◌⊎◌, inl, inr, ℕ, List, ◌∷◌, refl, sym, ap, ◌∙◌, subst}
use Rattle.auto_table.specs.declared.rule.Rule.{Rule}
use Rattle.auto_table.specs.declared.rule.Rule.TheVariants.{Flow, Push, Pop}
use Rattle.auto_table.specs.declared.entry.Entry.{Entry}
use Rattle.auto_table.specs.declared.entry.Entry.TheVariants.{Base, Pushed}
use Rattle.lists.specs.Lists.{Has}
use Rattle.auto_table.specs.Cells.{Cells, weight_at, link_at}
use Rattle.post_star.specs.declared.bases.Start.{Start}
use Rattle.post_star.specs.declared.bases.BaseStep.{BaseStep}
use Rattle.post_star.specs.Derivations.{Derives, starts_at, flows, pushes, pops}
use Rattle.post_star.specs.Readings.{Reads, at_base, at_link}
use Rattle.post_star.specs.Works.{IsTold, IsClosed}
use Rattle.post_star.proofs.Joins.{derives_meant}
use Rattle.weight_laws.specs.Law.{Domain, IsLawful, Leq}
use Rattle.weight_laws.proofs.Orders.{leq_trans, extend_leq_left, extend_leq_right}

-- the weight lies below that of a reading
pub record IsCovered {W : Type 0} (d : Domain W) (steps : List BaseStep) (last : ℕ) (t : Cells W) (node : ℕ) (word : List ℕ) (x : W) : Type 0 where
  pub entry : Entry
  pub product : W
  pub reads : Reads d steps last t entry word product
  pub below : Leq d x (d.extend product (weight_at d t entry node))

module _ {W : Type 0} {d : Domain W} {rules : List (Rule W)} {starts : List (Start W)} (l : IsLawful W d) (steps : List BaseStep) (told : IsTold d rules starts) (last : ℕ) (t : Cells W)
    (wm : (e : Entry) (n : ℕ) → d.IsMeant (weight_at d t e n)) (lm : (c p : Entry) → d.IsMeant (link_at d t c p)) where
  pub reads_meant : {e : Entry} {w : List ℕ} {y : W} → Reads d steps last t e w y → d.IsMeant y
  reads_meant (at_base p) = l.one_meant
  reads_meant (at_link r) = l.extend_meant _ _ (reads_meant r) (lm _ _)

  -- y extended by a, and then by v, where a extended by v lies below b
  two_below : (x y a v b : W) → d.IsMeant x → d.IsMeant y → d.IsMeant a → d.IsMeant v → d.IsMeant b → Leq d x (d.extend y a) → Leq d (d.extend a v) b → Leq d (d.extend x v) (d.extend y b)
  two_below x y a v b mx my ma mv mb h k =
      leq_trans l (d.extend x v) (d.extend (d.extend y a) v) (d.extend y b) (l.extend_meant _ _ mx mv) (l.extend_meant _ _ (l.extend_meant _ _ my ma) mv) (l.extend_meant _ _ my mb)
      (extend_leq_left l x (d.extend y a) v mx (l.extend_meant _ _ my ma) mv h)
      (subst (λ (z : W). Leq d z (d.extend y b)) (sym (l.extend_assoc y a v my ma mv)) (extend_leq_right l y (d.extend a v) b my (l.extend_meant _ _ ma mv) mb k))

  zero_more : (x v : W) → d.IsMeant v → x ≡ d.zero → d.extend x v ≡ d.zero
  zero_more x v mv e = ap (λ (z : W). d.extend z v) e ∙ l.zero_extend v mv

  module _ (closed : IsClosed d rules starts steps t) where
    pop_covered : (m k n : ℕ) (v x : W) (word : List ℕ) → Has rules (Pop m k n v) → d.IsMeant x → {e : Entry} {y : W} → Reads d steps last t e (k ∷ word) y → Leq d x (d.extend y (weight_at d t e m)) → IsCovered d steps last t n word (d.extend x v)
    pop_covered m k n v x word h mx (at_base {b} p) below = record {
      entry = Base p.0;
      product = d.one;
      reads = at_base p.2;
      below = two_below x d.one (weight_at d t (Base b) m) v (weight_at d t (Base p.0) n) mx l.one_meant (wm _ _) (told.rule _ h) (wm _ _) below (closed.0 (Pop m k n v) h (Base b) (Base p.0) p.0 refl p.1);
    }
    pop_covered m k n v x word h mx (at_link {node} {mark} {parent} {x = y} r) below = record {
      entry = parent;
      product = y;
      reads = r;
      below = two_below x y (d.extend (link_at d t (Pushed node k) parent) (weight_at d t (Pushed node k) m)) v (weight_at d t parent n) mx (reads_meant r)
          (l.extend_meant _ _ (lm _ _) (wm _ _)) (told.rule _ h) (wm _ _)
          (subst (λ (z : W). Leq d x z) (l.extend_assoc y (link_at d t (Pushed node k) parent) (weight_at d t (Pushed node k) m) (reads_meant r) (lm _ _) (wm _ _)) below)
          (closed.0 (Pop m k n v) h (Pushed node k) parent refl);
    }

    push_covered : (m n k : ℕ) (v x : W) (word : List ℕ) → Has rules (Push m n k v) → d.IsMeant x → IsCovered d steps last t m word x → (d.extend x v ≡ d.zero) ⊎ IsCovered d steps last t n (k ∷ word) (d.extend x v)
    push_covered m n k v x word h mx c = by (closed.0 (Push m n k v) h c.entry c.entry).0
      where
        by : (weight_at d t c.entry m ≡ d.zero) ⊎ Leq d d.one (weight_at d t (Pushed n k) n) → (d.extend x v ≡ d.zero) ⊎ IsCovered d steps last t n (k ∷ word) (d.extend x v)
        by (inl z) = inl (zero_more x v (told.rule _ h) (zero_below (subst (λ (a : W). Leq d x (d.extend c.product a)) z c.below)))
          where
            zero_below : Leq d x (d.extend c.product d.zero) → x ≡ d.zero
            zero_below q = sym (l.combine_zero x mx) ∙ subst (λ (a : W). Leq d x a) (l.extend_zero c.product (reads_meant c.reads)) q
        by (inr o) = inr (record {
          entry = Pushed n k;
          product = d.extend c.product (link_at d t (Pushed n k) c.entry);
          reads = at_link c.reads;
          below = leq_trans l (d.extend x v) (d.extend c.product (link_at d t (Pushed n k) c.entry)) _ (l.extend_meant _ _ mx (told.rule _ h)) pm (l.extend_meant _ _ pm (wm _ _))
              (two_below x c.product (weight_at d t c.entry m) v (link_at d t (Pushed n k) c.entry) mx (reads_meant c.reads) (wm _ _) (told.rule _ h) (lm _ _) c.below (closed.0 (Push m n k v) h c.entry c.entry).1)
              (subst (λ (z : W). Leq d z (d.extend (d.extend c.product (link_at d t (Pushed n k) c.entry)) (weight_at d t (Pushed n k) n))) (l.extend_one _ pm)
              (extend_leq_right l (d.extend c.product (link_at d t (Pushed n k) c.entry)) d.one (weight_at d t (Pushed n k) n) pm l.one_meant (wm _ _) o));
        })
          where
            pm : d.IsMeant (d.extend c.product (link_at d t (Pushed n k) c.entry))
            pm = l.extend_meant _ _ (reads_meant c.reads) (lm _ _)

    pub covered : {n : ℕ} {word : List ℕ} {x : W} → Derives d rules starts steps last n word x → (x ≡ d.zero) ⊎ IsCovered d steps last t n word x
    covered (starts_at {s} h p) = inr (record {
      entry = Base s.base;
      product = d.one;
      reads = at_base p;
      below = subst (λ (z : W). Leq d s.weight z) (sym (l.one_extend _ (wm _ _))) (closed.1 s h);
    })
    covered (flows {from} {to} {word} {x} {weight} h q) = by (covered q)
      where
        by : (x ≡ d.zero) ⊎ IsCovered d steps last t from word x → (d.extend x weight ≡ d.zero) ⊎ IsCovered d steps last t to word (d.extend x weight)
        by (inl z) = inl (zero_more x weight (told.rule _ h) z)
        by (inr c) = inr (record {
          entry = c.entry;
          product = c.product;
          reads = c.reads;
          below = two_below x c.product (weight_at d t c.entry from) weight (weight_at d t c.entry to) (derives_meant l steps told q) (reads_meant c.reads) (wm _ _) (told.rule _ h) (wm _ _) c.below
              (closed.0 (Flow from to weight) h c.entry c.entry);
        })
    covered (pushes {from} {to} {mark} {word} {x} {weight} h q) = by (covered q)
      where
        by : (x ≡ d.zero) ⊎ IsCovered d steps last t from word x → (d.extend x weight ≡ d.zero) ⊎ IsCovered d steps last t to (mark ∷ word) (d.extend x weight)
        by (inl z) = inl (zero_more x weight (told.rule _ h) z)
        by (inr c) = push_covered from to mark weight x word h (derives_meant l steps told q) c
    covered (pops {from} {mark} {to} {word} {x} {weight} h q) = by (covered q)
      where
        by : (x ≡ d.zero) ⊎ IsCovered d steps last t from (mark ∷ word) x → (d.extend x weight ≡ d.zero) ⊎ IsCovered d steps last t to word (d.extend x weight)
        by (inl z) = inl (zero_more x weight (told.rule _ h) z)
        by (inr c) = inr (pop_covered from mark to weight x word h (derives_meant l steps told q) c.reads c.below)
