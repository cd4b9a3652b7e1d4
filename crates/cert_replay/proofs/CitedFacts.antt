-- What is found of cited facts.
use Rattle.std.proofs.Common.{◌≡◌, ℕ, zero, suc, ◌+◌, ◌<◌, Option, Some, None, slice_get, refl, sym, ap, subst, ◌∙◌, arith}
use Rattle.link_sites.specs.declared.site.Site.{Site}
use Rattle.spds_rules.specs.declared.node.Node.{Node}
use Rattle.spds_rules.specs.declared.store.StoreAt.{StoreAt}
use Rattle.cert_rules.specs.declared.fact.Entry.{Entry}
use Rattle.cert_rules.specs.declared.fact.Fact.{Fact}
use Rattle.cert_rules.specs.declared.fact.Fact.TheVariants.{At, Link, Shared, Met}
use Rattle.cert_rules.specs.declared.line.Side.{Side}
use Rattle.cert_rules.specs.Given.{Cites, Facts}
use Rattle.cert_text.proofs.NodeWords.{none_iff, some_iff, some_one}
use Rattle.cert_replay.specs.Cited.{AnyHeld, IsHeldBy, IsPairBy, IsStoredBy}
use Rattle.cert_replay.proofs.From.{Finds}

module _ (given : Facts) where
  -- the number 0 cites nothing
  pub cites_zero : (number : ℕ) → number < 1 → Finds (Cites given number) None
  cites_zero zero less = none_iff (λ f c. c)
  cites_zero (suc k) less = absurd (omega arith)

  -- another what stands at its place
  pub cites_at : (number i : ℕ) → number ≡ i + 1 → (r : Option Fact) → slice_get given i ≡ Some r → Finds (Cites given number) r
  cites_at zero i e r there f = absurd (omega arith)
  cites_at (suc k) i e r there f =
      let same : k ≡ i = omega arith in
      let at : slice_get given k ≡ Some r = ap (slice_get given) same ∙ there in
      ((λ is. at ∙ ap Some is), λ c. some_one r (Some f) (sym at ∙ c))

  -- and nothing behind the last
  pub cites_beyond : (number i : ℕ) → number ≡ i + 1 → slice_get given i ≡ None → Finds (Cites given number) None
  cites_beyond zero i e there = absurd (omega arith)
  cites_beyond (suc k) i e there =
      let same : k ≡ i = omega arith in
      let at : slice_get given k ≡ None = ap (slice_get given) same ∙ there in
      none_iff (λ f c. cc)

module _ (given : Facts) (number : ℕ) where
  -- a place of the side
  pub held_at : (side of : Side) (o : Site) (e : Entry) (n : Node) → of ≡ side → Finds (Cites given number) (Some (At of o e n))
      → Finds (IsHeldBy given side number) (Some (record { site = o; entry = e; node = n }))
  held_at side of o e n same finds =
      some_iff (record { site = o; entry = e; node = n }) (subst (λ (s : Side). Cites given number (At s o e n)) same ((finds (At of o e n)).0 refl)) (λ h c.
      let f = some_one _ _ ((finds (At side h.site h.entry h.node)).1 c) in
      let site : h.site ≡ o = cc in
      let entry : h.entry ≡ e = cc in
      let node : h.node ≡ n = cc in
      λ j. record { site = site j; entry = entry j; node = node j })

  pub held_not : (side of : Side) (o : Site) (e : Entry) (n : Node) → (of ≡ side → ⊥) → Finds (Cites given number) (Some (At of o e n)) → Finds (IsHeldBy given side number) None
  held_not side of o e n not finds = none_iff (λ h c.
      let f = some_one _ _ ((finds (At side h.site h.entry h.node)).1 c) in
      let same : of ≡ side = cc in
      not same)

  -- another fact is none
  pub held_other : (side : Side) (f : Fact) → ((of : Side) (o : Site) (e : Entry) (n : Node) → f ≡ At of o e n → ⊥) → Finds (Cites given number) (Some f) → Finds (IsHeldBy given side number) None
  held_other side f not finds = none_iff (λ h c. not side h.site h.entry h.node (some_one _ _ ((finds (At side h.site h.entry h.node)).1 c)))

  pub held_none : (side : Side) → Finds (Cites given number) None → Finds (IsHeldBy given side number) None
  held_none side finds = none_iff (λ h c. let e = (finds (At side h.site h.entry h.node)).1 c in cc)

  -- a link of the entry
  pub link_at : (side of : Side) (o linked : Site) (e above below : Entry) → of ≡ side → linked ≡ o → above ≡ e → Finds (Cites given number) (Some (Link of linked above below))
      → Finds (λ (x : Entry). Cites given number (Link side o e x)) (Some below)
  link_at side of o linked e above below side_same site_same entry_same finds = some_iff below
      (subst (λ (s : Side). Cites given number (Link s o e below)) side_same
      (subst (λ (s : Site). Cites given number (Link of s e below)) site_same
      (subst (λ (s : Entry). Cites given number (Link of linked s below)) entry_same ((finds (Link of linked above below)).0 refl))))
      (λ x c. let f = some_one _ _ ((finds (Link side o e x)).1 c) in let same : x ≡ below = cc in same)

  pub link_not : (side of : Side) (o linked : Site) (e above below : Entry) → (of ≡ side → linked ≡ o → above ≡ e → ⊥) → Finds (Cites given number) (Some (Link of linked above below))
      → Finds (λ (x : Entry). Cites given number (Link side o e x)) None
  link_not side of o linked e above below not finds = none_iff (λ x c.
      let f = some_one _ _ ((finds (Link side o e x)).1 c) in
      let a : of ≡ side = cc in
      let b : linked ≡ o = cc in
      let d : above ≡ e = cc in
      not a b d)

  pub link_other : (side : Side) (o : Site) (e : Entry) (f : Fact) → ((of : Side) (linked : Site) (above x : Entry) → f ≡ Link of linked above x → ⊥) → Finds (Cites given number) (Some f)
      → Finds (λ (x : Entry). Cites given number (Link side o e x)) None
  link_other side o e f not finds = none_iff (λ x c. not side o e x (some_one _ _ ((finds (Link side o e x)).1 c)))

  pub link_none : (side : Side) (o : Site) (e : Entry) → Finds (Cites given number) None → Finds (λ (x : Entry). Cites given number (Link side o e x)) None
  link_none side o e finds = none_iff (λ x c. let f = (finds (Link side o e x)).1 c in cc)

  -- a pair
  pub pair_at : (o : Site) (a : Node) (b : Site) (n : Node) → Finds (Cites given number) (Some (Shared o a b n)) → Finds (IsPairBy given number) (Some (record { object = o; arg = a; base = b; at = n }))
  pair_at o a b n finds = some_iff (record { object = o; arg = a; base = b; at = n }) ((finds (Shared o a b n)).0 refl) (λ s c.
      let f = some_one _ _ ((finds (Shared s.object s.arg s.base s.at)).1 c) in
      let object : s.object ≡ o = cc in
      let arg : s.arg ≡ a = cc in
      let base : s.base ≡ b = cc in
      let at : s.at ≡ n = cc in
      λ j. record { object = object j; arg = arg j; base = base j; at = at j })

  pub pair_other : (f : Fact) → ((o : Site) (a : Node) (b : Site) (n : Node) → f ≡ Shared o a b n → ⊥) → Finds (Cites given number) (Some f) → Finds (IsPairBy given number) None
  pair_other f not finds = none_iff (λ s c. not s.object s.arg s.base s.at (some_one _ _ ((finds (Shared s.object s.arg s.base s.at)).1 c)))

  pub pair_none : Finds (Cites given number) None → Finds (IsPairBy given number) None
  pair_none finds = none_iff (λ s c. let e = (finds (Shared s.object s.arg s.base s.at)).1 c in cc)

  -- what is stored
  pub stored_at : (o b : Site) (x : StoreAt) → Finds (Cites given number) (Some (Met o b x)) → Finds (IsStoredBy given number) (Some (record { object = o; base = b; store = x }))
  stored_at o b x finds = some_iff (record { object = o; base = b; store = x }) ((finds (Met o b x)).0 refl) (λ s c.
      let f = some_one _ _ ((finds (Met s.object s.base s.store)).1 c) in
      let object : s.object ≡ o = cc in
      let base : s.base ≡ b = cc in
      let store : s.store ≡ x = cc in
      λ j. record { object = object j; base = base j; store = store j })

  pub stored_other : (f : Fact) → ((o b : Site) (x : StoreAt) → f ≡ Met o b x → ⊥) → Finds (Cites given number) (Some f) → Finds (IsStoredBy given number) None
  stored_other f not finds = none_iff (λ s c. not s.object s.base s.store (some_one _ _ ((finds (Met s.object s.base s.store)).1 c)))

  pub stored_none : Finds (Cites given number) None → Finds (IsStoredBy given number) None
  stored_none finds = none_iff (λ s c. let e = (finds (Met s.object s.base s.store)).1 c in cc)

  -- the entry of an object at one node
  pub entry_at_is : (side : Side) (o : Site) (n : Node) (h : AnyHeld) → h.site ≡ o → h.node ≡ n → Finds (IsHeldBy given side number) (Some h)
      → Finds (λ (e : Entry). Cites given number (At side o e n)) (Some h.entry)
  entry_at_is side o n h site node finds = some_iff h.entry
      (subst (λ (x : Site). Cites given number (At side x h.entry n)) site (subst (λ (x : Node). Cites given number (At side h.site h.entry x)) node ((finds h).0 refl)))
      (λ e c. let f = some_one _ _ ((finds (record { site = o; entry = e; node = n })).1 c) in sym (ap (λ (x : AnyHeld). x.entry) f))

  pub entry_at_not : (side : Side) (o : Site) (n : Node) (h : AnyHeld) → (h.site ≡ o → h.node ≡ n → ⊥) → Finds (IsHeldBy given side number) (Some h)
      → Finds (λ (e : Entry). Cites given number (At side o e n)) None
  entry_at_not side o n h not finds = none_iff (λ e c.
      let f = some_one _ _ ((finds (record { site = o; entry = e; node = n })).1 c) in
      not (ap (λ (x : AnyHeld). x.site) f) (ap (λ (x : AnyHeld). x.node) f))

  pub entry_at_none : (side : Side) (o : Site) (n : Node) → Finds (IsHeldBy given side number) None → Finds (λ (e : Entry). Cites given number (At side o e n)) None
  entry_at_none side o n finds = none_iff (λ e c. let f = (finds (record { site = o; entry = e; node = n })).1 c in cc)
