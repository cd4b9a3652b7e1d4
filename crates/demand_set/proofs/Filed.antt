-- The numbers of start nodes, list by list.
use Rattle.std.proofs.Common.{◌≡◌, ◌∙◌, ℕ, zero, suc, ◌+◌, ◌<◌, ◌≤◌, ◌⊎◌, ◌↔◌, Bool, true, false, List, [], ◌∷◌, ◌++◌, length, slice_get, get_or, replicate, set, map, take, Some, None, refl, sym, ap, subst, inl, inr, arith, length-set}
use Rattle.std.proofs.lemmas.List.{length-map, length-replicate, map-set}
use Rattle.std.proofs.lemmas.Option.{slice_get-get_or, slice_get-map}
use Rattle.std.specs.Global.{Vec}
use Rattle.std.specs.Option.{option_map}
use Rattle.std.specs.declared.option.Option.{Option}
use Rattle.lists.specs.Lists.{Has, IsApart, AreAll}
use Rattle.lists.proofs.Places.{slice_get-below, slice_get-set_other, slice_get-set_same, slice_get-there}
use Rattle.link_sites.specs.declared.site.Site.{Site}
use Rattle.link_sites.specs.contracts.site.SitePartialEq.TheImpl as site
use Rattle.spds_rules.specs.declared.node.Node.{Node}
use Rattle.spds_rules.specs.Nodes.{site_of}
use Rattle.demand_set.proofs.Appended.{AreAll-same, AreAll-append, Has-one, IsApart-one, Has-take_kept, Has-take_last, Has-take_more}
use Rattle.demand_set.specs.Demands.{StartsAt}
use Rattle.demand_set.specs.Starts.{AreStarts, HasStart, IsFiled}
use Rattle.demand_set.proofs.SameSite.{same_site, self_site}

-- ---- one node

-- whether something has the site
has_site : (has : Option Site) (s : Site) → (has ≡ Some s) ⊎ (has ≡ Some s → ⊥)
has_site None s = inr (λ e. cc)
has_site (Some t) s = by (site.eq-value.it t s) refl
  where
    by : (b : Bool) → site.eq-value.it t s ≡ b → (Some t ≡ Some s) ⊎ (Some t ≡ Some s → ⊥)
    by true e = inl (ap Some (same_site t s e))
    by false e = inr (λ same. let is : t ≡ s = cc in let whole : site.eq-value.it t s ≡ true = rw is (self_site s) in cc)

-- a node that is a start node of none of the sites
pub IsFiled-none : (sites : List Site) (node : Node) (number : ℕ) (lists : List (List ℕ)) → ((s : Site) → Has sites s → site_of node ≡ Some s → ⊥) → IsFiled sites node number lists lists
IsFiled-none sites node number lists none = record {
  as_many = refl;
  own = λ i s numbers at is there. absurd (none s (i, at) is);
  other = λ i s numbers at not there. there;
}

-- a node that is a start node of the site at an index
pub IsFiled-put : (sites : List Site) (node : Node) (number : ℕ) (lists : List (Vec ℕ)) (at : ℕ) (s : Site) (v new : Vec ℕ) → length lists ≡ length sites → IsApart sites
    → slice_get sites at ≡ Some s → site_of node ≡ Some s → v ≡ get_or lists at v → new.items ≡ v.items ++ number ∷ []
    → IsFiled sites node number (map (λ (x : Vec ℕ). x.items) lists) (map (λ (x : Vec ℕ). x.items) (set lists at new))
IsFiled-put sites node number lists at s v new many apart here is was put = record {
  as_many = length-map (set lists at new) items ∙ length-set lists at new ∙ sym (length-map lists items);
  own = λ i t numbers there has old.
      let one : t ≡ s = cc in
      let index : i ≡ at = apart i at s (subst (λ x. slice_get sites i ≡ Some x) one there) here in
      let same : numbers ≡ v.items = let a = rw index at old in let b = old_at in cc in
      rw (index, same, map-set items lists at new, put) (slice_get-set_same (map items lists) at (v.items ++ number ∷ []) within);
  other = λ i t numbers there not old.
      let differs : i ≡ at → ⊥ = λ e. not (is ∙ (let a = rw e at there in let same : s ≡ t = cc in ap Some same)) in
      rw (map-set items lists at new) (slice_get-set_other (map items lists) at i new.items differs ∙ old);
}
  where
    items : Vec ℕ → List ℕ
    items x = x.items

    below : at < length lists
    below = omega (arith, slice_get-below sites at s here, many)

    within : at < length (map items lists)
    within = omega (arith, below, length-map lists items)

    old_at : slice_get (map items lists) at ≡ Some v.items
    old_at = slice_get-map items lists at ∙ ap (option_map items) (slice_get-get_or lists at v below ∙ ap Some (sym was))

-- ---- the first nodes

-- for each site the numbers of its start nodes among the first k
pub record AreFiled (k : ℕ) (nodes : List Node) (sites : List Site) (lists : List (List ℕ)) : Type 0 where
  pub as_many : length lists ≡ length sites
  pub each : (i : ℕ) (s : Site) (numbers : List ℕ) → slice_get sites i ≡ Some s → slice_get lists i ≡ Some numbers → AreAll (λ n. (n < k) × StartsAt nodes s n) numbers

-- none yet
pub AreFiled-none : (nodes : List Node) (sites : List Site) (lists : List (List ℕ)) → lists ≡ replicate (length sites) [] → AreFiled 0 nodes sites lists
AreFiled-none nodes sites lists e = record {
  as_many = rw e (length-replicate (length sites) []);
  each = λ i s numbers at there. rw (empty (length sites) i numbers (rw e at there)) (record {
    each = λ n h. absurd (nothing n h);
    all = λ n h. absurd (omega (arith, h.0));
    apart = λ a b n p q. absurd (nothing n (a, p));
  });
}
  where
    nothing : (n : ℕ) → Has [] n → ⊥
    nothing n h = cc (h.1)

    empty : (count i : ℕ) (numbers : List ℕ) → slice_get (replicate count []) i ≡ Some numbers → numbers ≡ []
    empty zero i numbers h = cc
    empty (suc count) zero numbers h = cc
    empty (suc count) (suc i) numbers h = empty count i numbers h

-- one more node
pub AreFiled-more : (k : ℕ) (nodes : List Node) (d : Node) (sites : List Site) (old new : List (List ℕ)) → k < length nodes → AreFiled k nodes sites old
    → IsFiled sites (get_or nodes k d) k old new → AreFiled (k + 1) nodes sites new
AreFiled-more k nodes d sites old new h s filed = record {
  as_many = filed.as_many ∙ s.as_many;
  each = λ i t numbers at there.
      let before = slice_get-there old i (omega (arith, slice_get-below new i numbers there, filed.as_many)) in
      elim (has_site (site_of (get_or nodes k d)) t) [
        | inl is ↦
            let now = filed.own i t before.0 at is before.1 in
            let same : numbers ≡ before.0 ++ k ∷ [] = cc in
            rw same (put t before.0 is (s.each i t before.0 at before.1))
        | inr not ↦
            let now = filed.other i t before.0 at not before.1 in
            let same : numbers ≡ before.0 = cc in
            rw same (kept t before.0 not (s.each i t before.0 at before.1))
      ];
}
  where
    here : slice_get nodes k ≡ Some (get_or nodes k d)
    here = slice_get-get_or nodes k d h

    split : (n : ℕ) → n < k + 1 → (n < k) ⊎ (n ≡ k)
    split n lt = grind arith

    put : (t : Site) (numbers : List ℕ) → site_of (get_or nodes k d) ≡ Some t → AreAll (λ n. (n < k) × StartsAt nodes t n) numbers
        → AreAll (λ n. (n < k + 1) × StartsAt nodes t n) (numbers ++ k ∷ [])
    put t numbers is are = AreAll-same (numbers ++ k ∷ [])
        (AreAll-append {Q = λ n. n ≡ k} numbers (k ∷ []) are (record { each = λ n has. Has-one k n has; all = λ n e. (0, ap Some (sym e)); apart = IsApart-one k })
        (λ n a b. omega (arith, a.0, b)))
        (λ n has. elim has [ inl a ↦ (omega (arith, a.0), a.1) | inr b ↦ (omega (arith, b), (get_or nodes k d, rw b here, is)) ])
        (λ n has. elim (split n has.0) [ inl lt ↦ inl (lt, has.1) | inr e ↦ inr e ])

    kept : (t : Site) (numbers : List ℕ) → (site_of (get_or nodes k d) ≡ Some t → ⊥) → AreAll (λ n. (n < k) × StartsAt nodes t n) numbers
        → AreAll (λ n. (n < k + 1) × StartsAt nodes t n) numbers
    kept t numbers not are = AreAll-same numbers are
        (λ n has. (omega (arith, has.0), has.1))
        (λ n has. elim (split n has.0) [
          | inl lt ↦ (lt, has.1)
          | inr e ↦ let at = rw e at (has.1.1) in let same : has.1.0 ≡ get_or nodes k d = cc (here, at) in absurd (not (rw (← same) (has.1.2)))
        ])

-- all nodes
pub AreStarts-whole : (k : ℕ) (nodes : List Node) (sites : List Site) (lists : List (List ℕ)) → length nodes ≤ k → AreFiled k nodes sites lists → AreStarts nodes sites lists
AreStarts-whole k nodes sites lists h s = record {
  as_many = s.as_many;
  each = λ i t numbers at there. AreAll-same numbers (s.each i t numbers at there) (λ n has. has.1) (λ n has. (omega (arith, h, slice_get-below nodes n has.0 has.1), has));
}

-- ---- the sites

-- one more node is looked at, which has no site
pub HasStart-plain : (nodes : List Node) (i : ℕ) (d : Node) (keys : List Site) → i < length nodes → site_of (get_or nodes i d) ≡ None
    → ((s : Site) → Has keys s ↔ HasStart (take i nodes) s) → (s : Site) → Has keys s ↔ HasStart (take (i + 1) nodes) s
HasStart-plain nodes i d keys h none found s = (
  λ has. let p = (found s).0 has in (p.0, Has-take_kept nodes i d p.0 h p.1, p.2),
  λ (n, has, is). elim (Has-take_more nodes i d n h has) [ inl a ↦ (found s).1 (n, a, is) | inr b ↦ let e : site_of (get_or nodes i d) ≡ Some s = rw (← b) is in cc ],
)

-- one more node is looked at, which has a site
pub HasStart-more : (nodes : List Node) (i : ℕ) (d : Node) (old new : List Site) (site : Site) → i < length nodes → site_of (get_or nodes i d) ≡ Some site
    → ((s : Site) → Has new s ↔ (Has old s ⊎ (s ≡ site))) → ((s : Site) → Has old s ↔ HasStart (take i nodes) s) → (s : Site) → Has new s ↔ HasStart (take (i + 1) nodes) s
HasStart-more nodes i d old new site h is adds found s = (
  λ has. elim ((adds s).0 has) [
    | inl a ↦ let p = (found s).0 a in (p.0, Has-take_kept nodes i d p.0 h p.1, p.2)
    | inr b ↦ (get_or nodes i d, Has-take_last nodes i d h, is ∙ ap Some (sym b))
  ],
  λ (n, has, at). (adds s).1 (elim (Has-take_more nodes i d n h has) [
    | inl a ↦ inl ((found s).1 (n, a, at))
    | inr b ↦ let e : site_of (get_or nodes i d) ≡ Some s = rw (← b) at in inr cc
  ]),
)
