-- The lists of the keys of some members.
use Rattle.std.proofs.Common.{◌≡◌, ℕ, ◌+◌, ◌<◌, ◌↔◌, ◌==◌, true≢false, Option, Some, None, List, [], ◌∷◌, ◌++◌, length, map, get_or, set, take, refl, sym, ap, subst, ◌∙◌, inl, inr, arith, eqb-true, eq-eqb, get_or-set_same, get_or-set_other, replicate}
use Rattle.std.specs.List.{Contains, All, position}
use Rattle.std.specs.Option.{is_some}
use Rattle.std.proofs.lemmas.Bool.{cases_eq}
use Rattle.std.proofs.lemmas.Iterator.Adapters.{position_from-zero}
use Rattle.std.proofs.lemmas.List.Elements.{All-contains}
use Rattle.std.proofs.lemmas.List.Quantifiers.{position-Some}
use Rattle.std.proofs.lemmas.Option.{slice_get-get_or}
use Rattle.class_tree.specs.declared.first_rows.Member.{Member}
use Rattle.class_order.specs.declared.spans.Span.{Span}
use Rattle.class_order.specs.Groups.{group}
use Rattle.class_tree.specs.KeySpans.{AreClassesByKey, HoldsKey, list_at}
use Rattle.class_order.specs.Spans.{AreApart, Holds, HoldsAny}
use Rattle.class_order.proofs.Listed.{Under-push, Under-kept, Under-pushed, group-replicate}
use Rattle.lists.proofs.Elements.{Contains-nil, Contains-take_more, Contains-take_kept, Contains-take_last}
use Rattle.class_order.proofs.Positions.{found_from}
use Rattle.class_tree.proofs.Building.{Contains-mapped}
use Rattle.class_order.proofs.Spanned.{apart_none, holds_none}

-- ---- the keys

-- the keys of members are known where the set has these
pub keys_known : (members : List Member) (keys : List ℕ) → ((n : ℕ) → Contains keys n ↔ Contains (map (λ (m : Member). m.key) members) n) → All (λ (m : Member). Contains keys m.key) members
keys_known members keys same k d h = (same _).1 (Contains-mapped (λ (m : Member). m.key) members k (get_or members k d) (slice_get-get_or members k d h))

-- a key that stands there has an index
pub key_found : (keys : List ℕ) (k : ℕ) → Contains keys k → position (λ x. k == x) keys ≡ None → ⊥
key_found keys k m none =
    let some = found_from (λ x. k == x) 0 keys m.0 k (slice_get-get_or keys m.0 k m.1 ∙ ap Some m.2) (eq-eqb k k refl) in
    let e = ap is_some (sym (position_from-zero (λ x. k == x) keys) ∙ none) in
    true≢false (sym some ∙ e)

pub key_index : (keys : List ℕ) (k : ℕ) → Contains keys k → (i : ℕ) × (position (λ x. k == x) keys ≡ Some i)
key_index keys k m = by (position (λ x. k == x) keys) refl
  where
    by : (o : Option ℕ) → position (λ x. k == x) keys ≡ o → (i : ℕ) × (position (λ x. k == x) keys ≡ Some i)
    by None e = absurd (key_found keys k m e)
    by (Some i) e = (i, e)

-- keys with one index are one key
pub key_same : (keys : List ℕ) (k q i : ℕ) → position (λ x. k == x) keys ≡ Some i → position (λ x. q == x) keys ≡ Some i → k ≡ q
key_same keys k q i e f =
    let a = position-Some (λ x. k == x) keys i 0 e in
    let b = position-Some (λ x. q == x) keys i 0 f in
    eqb-true k _ a.1 ∙ sym (eqb-true q _ b.1)

-- ---- the classes of each key

pub classes_none : (keys : List ℕ) (n : ℕ) → AreClassesByKey [] keys (replicate n [])
classes_none keys n = record {
  some = λ i c m. absurd (Contains-nil c (subst (λ xs. Contains xs c) (group-replicate n i) m));
  all = λ m i c e. absurd (Contains-nil m c);
}

pub classes_more : (members : List Member) (keys : List ℕ) (classes : List (List ℕ)) (i at : ℕ) (d : Member) → i < length members → at < length classes
    → position (λ x. (get_or members i d).key == x) keys ≡ Some at → AreClassesByKey (take i members) keys classes
    → AreClassesByKey (take (i + 1) members) keys (set classes at (group classes at ++ (get_or members i d).class ∷ []))
classes_more members keys classes i at d h within here s = record {
  some = λ j c u. elim (Under-push classes at (get_or members i d).class c j within u) [
    | inl old ↦ let p = s.some j c old in (p.0, Contains-take_kept members i d p.0 h p.1, p.2, p.3)
    | inr new ↦ (get_or members i d, Contains-take_last members i d h, here ∙ ap Some (sym new.0), sym new.1)
  ];
  all = λ m j u e. elim (Contains-take_more members i d m h u) [
    | inl old ↦ Under-kept classes at (get_or members i d).class m.class j within (s.all m j old e)
    | inr is ↦
        let same : at ≡ j = cc (here, e, is) in
        subst (λ k. Contains (group (set classes at (group classes at ++ (get_or members i d).class ∷ [])) k) m.class) same
        (subst (λ (q : Member). Contains (group (set classes at (group classes at ++ (get_or members i d).class ∷ [])) at) q.class) is (Under-pushed classes at (get_or members i d).class within))
  ];
}

-- ---- the spans of each key

module _ (members : List Member) (keys : List ℕ) (classes : List (List ℕ)) (table spans : List (List Span))
    (known : All (λ (m : Member). Contains keys m.key) members) (s : AreClassesByKey members keys classes)
    (apart : (i : ℕ) → AreApart (group spans i)) (same : (i p : ℕ) → i < length keys → Holds (group spans i) p ↔ HoldsAny table (group classes i) p) where
  pub keyed_apart : (k : ℕ) → AreApart (list_at spans (position (λ x. k == x) keys))
  keyed_apart k = by (position (λ x. k == x) keys)
    where
      by : (o : Option ℕ) → AreApart (list_at spans o)
      by None = apart_none
      by (Some i) = apart i

  pub keyed_exact : (k p : ℕ) → Holds (list_at spans (position (λ x. k == x) keys)) p ↔ HoldsKey members table k p
  keyed_exact k p = by (position (λ x. k == x) keys) refl
    where
      by : (o : Option ℕ) → position (λ x. k == x) keys ≡ o → Holds (list_at spans o) p ↔ HoldsKey members table k p
      by None none = (
        λ h. absurd (holds_none p h),
        λ (m, u, e, h). absurd (key_found keys k (subst (Contains keys) e (All-contains (λ (m : Member). Contains keys m.key) members m known u)) none),
      )
      by (Some i) at =
          let within = (position-Some (λ x. k == x) keys i 0 at).0 in (
            λ h. let a = (same i p within).0 h in let m = s.some i a.0 a.1 in (m.0, m.1, key_same keys m.0.key k i m.2 at, subst (λ c. Holds (group table c) p) (sym m.3) a.2),
            λ (m, u, e, h). (same i p within).1 (m.class, s.all m i u (ap (λ q. position (λ x. q == x) keys) e ∙ at), h),
          )

-- the spans of one more key
pub united_more : (classes : List (List ℕ)) (table spans : List (List Span)) (at : ℕ) (united : List Span) → at < length spans → ((i p : ℕ) → i < at → Holds (group spans i) p ↔ HoldsAny table (group classes i) p)
    → ((p : ℕ) → Holds united p ↔ HoldsAny table (group classes at) p) → (i p : ℕ) → i < at + 1 → Holds (group (set spans at united) i) p ↔ HoldsAny table (group classes i) p
united_more classes table spans at united h before here i p lt = elim (cases_eq i at) [
  | inl e ↦ subst (λ k. Holds (group (set spans at united) k) p ↔ HoldsAny table (group classes k) p) (sym e)
      (subst (λ xs. Holds xs p ↔ HoldsAny table (group classes at) p) (sym (get_or-set_same spans at united [] h)) (here p))
  | inr ne ↦ subst (λ xs. Holds xs p ↔ HoldsAny table (group classes i) p) (sym (get_or-set_other spans at i united [] ne)) (before i p (omega (arith, lt, ne)))
]

pub apart_more : (spans : List (List Span)) (at : ℕ) (united : List Span) → at < length spans → ((i : ℕ) → AreApart (group spans i)) → AreApart united → (i : ℕ) → AreApart (group (set spans at united) i)
apart_more spans at united h before here i = elim (cases_eq i at) [
  | inl e ↦ subst (λ k. AreApart (group (set spans at united) k)) (sym e) (subst AreApart (sym (get_or-set_same spans at united [] h)) here)
  | inr ne ↦ subst AreApart (sym (get_or-set_other spans at i united [] ne)) (before i)
]
