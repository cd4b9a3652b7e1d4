-- The order of a lawful domain.
use Rattle.std.proofs.Common.{◌≡◌, ◌≢◌, sym, ap, ◌∙◌, subst}
use Rattle.weight_laws.specs.Law.{Domain, IsLawful, Leq}

module _ {W : Type 0} {d : Domain W} (l : IsLawful W d) where
  pub zero_combine : (x : W) → d.IsMeant x → d.combine d.zero x ≡ x
  zero_combine x m = l.combine_comm d.zero x l.zero_meant m ∙ l.combine_zero x m

  pub leq_self : (x : W) → d.IsMeant x → Leq d x x
  leq_self x m = l.combine_self x m

  pub leq_trans : (x y z : W) → d.IsMeant x → d.IsMeant y → d.IsMeant z → Leq d x y → Leq d y z → Leq d x z
  leq_trans x y z mx my mz h k =
      ap (d.combine x) (sym k) ∙ sym (l.combine_assoc x y z mx my mz) ∙ ap (λ (t : W). d.combine t z) h ∙ k

  pub leq_both : (x y : W) → d.IsMeant x → d.IsMeant y → Leq d x y → Leq d y x → x ≡ y
  leq_both x y mx my h k = sym k ∙ l.combine_comm y x my mx ∙ h

  pub leq_left : (x y : W) → d.IsMeant x → d.IsMeant y → Leq d x (d.combine x y)
  leq_left x y mx my = sym (l.combine_assoc x x y mx mx my) ∙ ap (λ (t : W). d.combine t y) (l.combine_self x mx)

  pub leq_right : (x y : W) → d.IsMeant x → d.IsMeant y → Leq d y (d.combine x y)
  leq_right x y mx my = ap (d.combine y) (l.combine_comm x y mx my) ∙ leq_left y x my mx ∙ l.combine_comm y x my mx

  pub combine_leq : (x y z : W) → d.IsMeant x → d.IsMeant y → d.IsMeant z → Leq d x z → Leq d y z → Leq d (d.combine x y) z
  combine_leq x y z mx my mz h k = l.combine_assoc x y z mx my mz ∙ ap (d.combine x) k ∙ h

  pub zero_leq : (x : W) → d.IsMeant x → Leq d d.zero x
  zero_leq x m = zero_combine x m

  pub leq_zero : (x : W) → d.IsMeant x → Leq d x d.zero → x ≡ d.zero
  leq_zero x m h = sym (l.combine_zero x m) ∙ h

  -- a sum that is zero has zero parts
  pub zero_right : (x y : W) → d.IsMeant x → d.IsMeant y → d.combine x y ≡ d.zero → y ≡ d.zero
  zero_right x y mx my h = leq_zero y my (subst (λ (t : W). Leq d y t) h (leq_right x y mx my))

  pub zero_left : (x y : W) → d.IsMeant x → d.IsMeant y → d.combine x y ≡ d.zero → x ≡ d.zero
  zero_left x y mx my h = leq_zero x mx (subst (λ (t : W). Leq d x t) h (leq_left x y mx my))

  pub extend_leq_left : (x y z : W) → d.IsMeant x → d.IsMeant y → d.IsMeant z → Leq d x y → Leq d (d.extend x z) (d.extend y z)
  extend_leq_left x y z mx my mz h = sym (l.combine_extend x y z mx my mz) ∙ ap (λ (t : W). d.extend t z) h

  pub extend_leq_right : (x y z : W) → d.IsMeant x → d.IsMeant y → d.IsMeant z → Leq d y z → Leq d (d.extend x y) (d.extend x z)
  extend_leq_right x y z mx my mz h = sym (l.extend_combine x y z mx my mz) ∙ ap (d.extend x) h

  -- a weight that isn't above leaves the sum other than zero
  pub raised_nonzero : (x w : W) → d.IsMeant x → d.IsMeant w → (d.combine w x ≡ x → ⊥) → d.combine x w ≢ d.zero
  raised_nonzero x w mx mw n h =
      let z : w ≡ d.zero = zero_right x w mx mw h in
      n (ap (λ (t : W). d.combine t x) z ∙ zero_combine x mx)

  -- a weight that lies above is other than zero where the one below is
  pub above_nonzero : (x w : W) → d.IsMeant x → d.IsMeant w → x ≢ d.zero → d.combine x w ≢ d.zero
  above_nonzero x w mx mw n h = n (zero_left x w mx mw h)
