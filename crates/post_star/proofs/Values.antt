-- A closed and sound table has the values of the system.
use Rattle.std.proofs.Common.{◌≡◌, ◌⊎◌, inl, inr, ◌↔◌, ℕ, List, sym, subst}
use Rattle.auto_table.specs.declared.rule.Rule.{Rule}
use Rattle.auto_table.specs.declared.entry.Entry.{Entry}
use Rattle.auto_table.specs.Cells.{Cells, weight_at, link_at}
use Rattle.post_star.specs.declared.bases.Start.{Start}
use Rattle.post_star.specs.declared.bases.BaseStep.{BaseStep}
use Rattle.post_star.specs.Derivations.{IsLed, DerivesAny, any_word, Combines, none, one, both, IsSumOf}
use Rattle.post_star.specs.Readings.{Reads, at_base, at_link, ReadsAt, from_entry, ReadsAny, any_base, any_link, ReadsAnyAt, any_entry, IsSaturated}
use Rattle.post_star.specs.Works.{IsTold, IsSound, IsClosed}
use Rattle.post_star.proofs.Combinations.{combines_meant, combines_bind, combines_leq}
use Rattle.post_star.proofs.Joins.{derives_meant}
use Rattle.post_star.proofs.Sounds.{weight_meant, link_meant_at}
use Rattle.post_star.proofs.Closes.{IsCovered, covered}
use Rattle.post_star.proofs.Readings.{reading_combines, reading_any_combines, base_named}
use Rattle.weight_laws.specs.Law.{Domain, IsLawful, Leq}
use Rattle.weight_laws.proofs.Orders.{leq_trans, leq_both, leq_self, leq_left, leq_right, combine_leq, zero_leq}

module _ {W : Type 0} {d : Domain W} (l : IsLawful W d) {D E : W → Type 0} (dm : (x : W) → D x → d.IsMeant x) (em : (x : W) → E x → d.IsMeant x)
    (down : (x : W) → E x → Combines d D x) (up : (x : W) → D x → (x ≡ d.zero) ⊎ ((r : W) × E r × Leq d x r)) where
  -- a sum of the second kind that lies above
  record IsUnder (v : W) : Type 0 where
    pub sum : W
    pub finite : Combines d E sum
    pub below : Leq d v sum

  under_one : (x : W) → d.IsMeant x → (x ≡ d.zero) ⊎ ((r : W) × E r × Leq d x r) → IsUnder x
  under_one x m (inl z) = record { sum = d.zero; finite = none; below = subst (λ (a : W). Leq d a d.zero) (sym z) (leq_self l d.zero l.zero_meant) }
  under_one x m (inr p) = record { sum = p.0; finite = one p.1; below = p.2 }

  under : {v : W} → Combines d D v → IsUnder v
  under none = record { sum = d.zero; finite = none; below = leq_self l d.zero l.zero_meant }
  under (one {x} p) = under_one x (dm x p) (up x p)
  under (both {x} {y} p q) = by (under p) (under q)
    where
      by : IsUnder x → IsUnder y → IsUnder (d.combine x y)
      by a b =
          let ma = combines_meant l em a.finite in
          let mb = combines_meant l em b.finite in
          let mx = combines_meant l dm p in
          let my = combines_meant l dm q in
          let ms = l.combine_meant _ _ ma mb in
          record {
            sum = d.combine a.sum b.sum;
            finite = both a.finite b.finite;
            below = combine_leq l x y (d.combine a.sum b.sum) mx my ms
                (leq_trans l x a.sum (d.combine a.sum b.sum) mx ma ms a.below (leq_left l a.sum b.sum ma mb))
                (leq_trans l y b.sum (d.combine a.sum b.sum) my mb ms b.below (leq_right l a.sum b.sum ma mb));
          }

  pub same_sum : (v : W) → IsSumOf d E v ↔ IsSumOf d D v
  same_sum v = (there, back)
    where
      there : IsSumOf d E v → IsSumOf d D v
      there s = record { finite = combines_bind l down s.finite; above = λ x p. by x p (up x p) }
        where
          by : (x : W) → D x → (x ≡ d.zero) ⊎ ((r : W) × E r × Leq d x r) → Leq d x v
          by x p (inl z) = subst (λ (a : W). Leq d a v) (sym z) (zero_leq l v (combines_meant l em s.finite))
          by x p (inr r) = leq_trans l x r.0 v (dm x p) (em r.0 r.1) (combines_meant l em s.finite) r.2 (s.above r.0 r.1)

      back : IsSumOf d D v → IsSumOf d E v
      back s = record { finite = subst (λ (a : W). Combines d E a) (sym same) u.finite; above = all }
        where
          mv : d.IsMeant v
          mv = combines_meant l dm s.finite

          all : (x : W) → E x → Leq d x v
          all x e = combines_leq l dm v mv s.above (down x e)

          u : IsUnder v
          u = under s.finite

          same : v ≡ u.sum
          same = leq_both l v u.sum mv (combines_meant l em u.finite) u.below (combines_leq l em v mv all u.finite)

module _ {W : Type 0} {d : Domain W} {rules : List (Rule W)} {starts : List (Start W)} (l : IsLawful W d) (steps : List BaseStep) (told : IsTold d rules starts) (last : ℕ) (led : IsLed starts steps last)
    (t : Cells W) (sound : IsSound d rules starts steps t) (closed : IsClosed d rules starts steps t) where
  wm : (e : Entry) (n : ℕ) → d.IsMeant (weight_at d t e n)
  wm e n = weight_meant l steps told sound e n

  lm : (c p : Entry) → d.IsMeant (link_at d t c p)
  lm c p = link_meant_at l steps told sound c p

  read_meant : (n : ℕ) (word : List ℕ) (x : W) → ReadsAt d steps last t n word x → d.IsMeant x
  read_meant n word x r = combines_meant l (λ y p. derives_meant l steps told p) (reading_combines l steps told last sound r)

  read_any_meant : (n : ℕ) (x : W) → ReadsAnyAt d t n x → d.IsMeant x
  read_any_meant n x r = combines_meant l (any_meant n) (reading_any_combines l steps told last sound led r)
    where
      any_meant : (n : ℕ) (y : W) → DerivesAny d rules starts steps last n y → d.IsMeant y
      any_meant n y (any_word p) = derives_meant l steps told p

  any_derives_meant : (n : ℕ) (y : W) → DerivesAny d rules starts steps last n y → d.IsMeant y
  any_derives_meant n y (any_word p) = derives_meant l steps told p

  forget : {e : Entry} {word : List ℕ} {y : W} → Reads d steps last t e word y → ReadsAny d t e y
  forget (at_base p) = any_base
  forget (at_link r) = any_link (forget r)

  cover : (n : ℕ) (word : List ℕ) (x : W) → (x ≡ d.zero) ⊎ IsCovered d steps last t n word x → (x ≡ d.zero) ⊎ ((r : W) × ReadsAt d steps last t n word r × Leq d x r)
  cover n word x (inl z) = inl z
  cover n word x (inr c) = inr (d.extend c.product (weight_at d t c.entry n), from_entry c.reads, c.below)

  cover_any : (n : ℕ) (word : List ℕ) (x : W) → (x ≡ d.zero) ⊎ IsCovered d steps last t n word x → (x ≡ d.zero) ⊎ ((r : W) × ReadsAnyAt d t n r × Leq d x r)
  cover_any n word x (inl z) = inl z
  cover_any n word x (inr c) = inr (d.extend c.product (weight_at d t c.entry n), any_entry (forget c.reads), c.below)

  any_up : (n : ℕ) (x : W) → DerivesAny d rules starts steps last n x → (x ≡ d.zero) ⊎ ((r : W) × ReadsAnyAt d t n r × Leq d x r)
  any_up n x (any_word {word} p) = cover_any n word x (covered l steps told last t wm lm closed p)

  pub saturated : IsSaturated d rules starts steps last t
  saturated = record {
    value = λ n word v. same_sum l (λ x p. derives_meant l steps told p) (read_meant n word) (λ x r. reading_combines l steps told last sound r)
        (λ x p. cover n word x (covered l steps told last t wm lm closed p)) v;
    any_value = λ n v. same_sum l (any_derives_meant n) (read_any_meant n) (λ x r. reading_any_combines l steps told last sound led r) (any_up n) v;
    named = λ b u. base_named l steps told last sound b u;
  }
