-- Meets that others give are put in one by one, and the places of meets are filed.
use Rattle.std.proofs.Common.{◌≡◌, ℕ, ◌+◌, ◌<◌, ◌≤◌, List, [], ◌∷◌, ◌++◌, length, take, Some, slice_get, sym, ap, ◌∙◌, subst, ◌⊎◌, inl, inr, append_assoc, length-append, arith}
use Rattle.std.proofs.lemmas.Bool.{cases_eq, cases_order}
use Rattle.std.proofs.lemmas.List.{append-nil}
use Rattle.lists.proofs.Elements.{slice_get-append_below}
use Rattle.lists.specs.Lists.{Has}
use Rattle.lists.proofs.Places.{slice_get-append_left, slice_get-below, slice_get-pushed, Has-push}
use Rattle.link_sites.specs.declared.place.Place.{Place}
use Rattle.post_star.specs.declared.key.Key.{Key}
use Rattle.post_star.specs.declared.key.Key.TheVariants.{Node}
use Rattle.post_star.specs.Groups.{Groups, IsAdded, found_at}
use Rattle.spds_solve.specs.declared.compose.Ways.{Ways}
use Rattle.spds_solve.specs.declared.met.Met.{Met}
use Rattle.spds_solve.specs.Composing.{AreComposed, AreFiled, AreJoined, IsNext, IsReady, IsThere, joined}
use Rattle.spds_solve.specs.Mets.{numbers, numbers_of}
use Rattle.spds_solve.proofs.Numbering.{numbered_within}
use Rattle.spds_solve.proofs.Resting.{slice_get-front}
use Rattle.spds_solve.proofs.Scanning.{below_more}
use Rattle.spds_tables.specs.declared.numbered.Met.{Met as Numbers}

-- a list that grew at its end
abbrev pub IsLonger : List Met → List Met → Type 0
IsLonger old new = (behind : List Met) × (new ≡ old ++ behind)

pub joined_longer : (old : List Met) {new : List Met} → AreJoined old new → IsLonger old new
joined_longer old AreJoined.none = ([], sym (append-nil old))
joined_longer old (AreJoined.more {mid} {new} a b rest ready e) =
    let first = joined_longer old rest in
    let last = joined ready.first ready.next ∷ [] in
    (first.0 ++ last, e ∙ ap (λ (xs : List Met). xs ++ last) first.1 ∙ append_assoc old first.0 last)

pub joined_more : {old mid new : List Met} → AreJoined old mid → AreJoined mid new → AreJoined old new
joined_more first AreJoined.none = first
joined_more first (AreJoined.more a b rest ready e) = AreJoined.more a b (joined_more first rest) ready e

module _ (old new : List Met) (longer : IsLonger old new) where
  pub at_longer : (i : ℕ) (x : Met) → slice_get old i ≡ Some x → slice_get new i ≡ Some x
  at_longer i x there = subst (λ (xs : List Met). slice_get xs i ≡ Some x) (sym longer.1) (slice_get-append_left old longer.0 i x there)

  pub at_shorter : (i : ℕ) (x : Met) → i < length old → slice_get new i ≡ Some x → slice_get old i ≡ Some x
  at_shorter i x low there =
      sym (slice_get-append_below old longer.0 i low) ∙ subst (λ (xs : List Met). slice_get xs i ≡ Some x) longer.1 there

  pub has_longer : (m : Numbers) → Has (numbers_of old) m → Has (numbers_of new) m
  has_longer = numbered_within old new (λ met has. (has.0, at_longer has.0 met has.1))

  pub length_longer : length old ≤ length new
  length_longer = let e = ap length longer.1 in omega (arith, e, length-append old longer.0)

  next_longer : (base place : ℕ) → IsNext old base place → IsNext new base place
  next_longer base place n = record { met = n.met; met_is = at_longer place n.met n.met_is; object_is = n.object_is }

  next_shorter : (base place : ℕ) → place < length old → IsNext new base place → IsNext old base place
  next_shorter base place low n = record { met = n.met; met_is = at_shorter place n.met low n.met_is; object_is = n.object_is }

  -- what was ready is ready
  pub ready_longer : (a b : ℕ) → IsReady old a b → IsReady new a b
  ready_longer a b r = record {
    first = r.first;
    first_is = at_longer a r.first r.first_is;
    next = r.next;
    next_is = at_longer b r.next r.next_is;
    joins = r.joins;
    before = λ at x low there is.
        let below = slice_get-below old b r.next r.next_is in
        has_longer (numbers (joined r.first x)) (r.before at x low (at_shorter at x (omega arith) there) is);
  }

-- what was there is there
pub there_longer : (old mid new : List Met) → IsLonger mid new → (a b : ℕ) → IsThere old mid a b → IsThere old new a b
there_longer old mid new longer a b there x y p q = has_longer mid new longer (numbers (joined x y)) (there x y p q)

same_joined : (met first next : Met) → met.object ≡ first.object → met.base ≡ next.base → met.store ≡ next.store → met.string ≡ next.string → met ≡ joined first next
same_joined met first next a b c s =
    ap (λ (n : ℕ). record { object = n; base = met.base; store = met.store; string = met.string }) a
    ∙ ap (λ (n : ℕ). record { object = first.object; base = n; store = met.store; string = met.string }) b
    ∙ ap (λ (n : ℕ). record { object = first.object; base = next.base; store = n; string = met.string }) c
    ∙ ap (λ (t : List Place). record { object = first.object; base = next.base; store = next.store; string = t }) s

-- the numbers of what two meets give, as they are read
pub read_joined : (x y first next : Met) → x ≡ first → y ≡ next → record { object = x.object; base = y.base; store = y.store } ≡ numbers (joined first next)
read_joined x y first next p q =
    ap (λ (z : Met). record { object = z.object; base = y.base; store = y.store }) p
    ∙ ap (λ (z : Met). record { object = first.object; base = z.base; store = z.store }) q

module _ (old new : List Met) (a b : ℕ) (ready : IsReady old a b) where
  -- what the two give is there
  pub joined_there : (m : Numbers) → m ≡ numbers (joined ready.first ready.next) → Has (numbers_of new) m → IsThere old new a b
  joined_there m e has x y p q =
      let one : ready.first ≡ x = cc (ready.first_is, p) in
      let two : ready.next ≡ y = cc (ready.next_is, q) in
      subst (λ (z : Met). Has (numbers_of new) (numbers (joined x z))) two
      (subst (λ (z : Met). Has (numbers_of new) (numbers (joined z ready.next))) one (subst (Has (numbers_of new)) e has))

  -- it was put last
  pub joined_last : (met : Met) → numbers met ≡ numbers (joined ready.first ready.next) → met.string ≡ ready.next.string → new ≡ old ++ met ∷ []
      → AreJoined old new
  joined_last met same string e =
      let object = ap (λ (m : Numbers). m.object) same in
      let base = ap (λ (m : Numbers). m.base) same in
      let store = ap (λ (m : Numbers). m.store) same in
      AreJoined.more a b AreJoined.none ready (e ∙ ap (λ (x : Met). old ++ x ∷ []) (same_joined met ready.first ready.next object base store string))

-- what is there since a later list is there since an earlier one
pub there_since : (old mid new : List Met) → IsLonger old mid → (a b : ℕ) → IsThere mid new a b → IsThere old new a b
there_since old mid new longer a b there x y p q = there x y (at_longer old mid longer a x p) (at_longer old mid longer b y q)

-- the next of the places of the meets of a base is ready
pub lead_ready : (old mid : List Met) → IsLonger old mid → (first done : ℕ) (met : Met) → slice_get old first ≡ Some met → (nexts : List ℕ)
    → AreFiled old done met.base nexts → (i b : ℕ) → slice_get nexts i ≡ Some b → ((next : ℕ) → Has (take i nexts) next → IsThere old mid first next)
    → IsReady mid first b
lead_ready old mid longer first done met there nexts filed i b here was =
    let at = filed.each b (i, here) in
    let next = at.1 in
    let below = slice_get-below old b next.met next.met_is in
    record {
      first = met;
      first_is = at_longer old mid longer first met there;
      next = next.met;
      next_is = at_longer old mid longer b next.met next.met_is;
      joins = next.object_is;
      before = λ k x low stands is.
          let x_is = at_shorter old mid longer k x (omega arith) stands in
          let before = at.0 in
          let has = filed.all k (omega arith) (record { met = x; met_is = x_is; object_is = is }) in
          let less : has.0 < i = elim (cases_order has.0 i) [
            | inl same ↦ (let twice : slice_get nexts i ≡ Some k = subst (λ (n : ℕ). slice_get nexts n ≡ Some k) same has.1 in let e : k ≡ b = cc (twice, here) in absurd (omega arith))
            | inr apart ↦ elim apart [ inl below ↦ below | inr above ↦ absurd (let h = filed.up i has.0 b k above here has.1 in omega arith) ]
          ] in
          was k (has.0, slice_get-front i nexts has.0 k less has.1) met x there x_is;
    }

-- places that are filed stay so where the list grows
filed_longer : (old new : List Met) → IsLonger old new → (done object : ℕ) (places : List ℕ) → done ≤ length old → AreFiled old done object places
    → AreFiled new done object places
filed_longer old new longer done object places within f = record {
  each = λ place has. let h = f.each place has in (h.0, next_longer old new longer object place h.1);
  all = λ place low next. f.all place low (next_shorter old new longer object place (omega arith) next);
  up = f.up;
}

module _ (mets : List Met) (done : ℕ) (met : Met) (there : slice_get mets done ≡ Some met) where
  -- one more meet is filed under its object
  filed_here : (object : ℕ) (places : List ℕ) → met.object ≡ object → AreFiled mets done object places → AreFiled mets (done + 1) object (places ++ done ∷ [])
  filed_here object places is f = record {
    each = λ place has. elim ((Has-push places done place).0 has) [
      | inl old ↦ (let h = f.each place old in ((let low = h.0 in omega arith), h.1))
      | inr last ↦ (omega arith, record { met = met; met_is = subst (λ (n : ℕ). slice_get mets n ≡ Some met) (sym last) there; object_is = is })
    ];
    all = λ place low next. (Has-push places done place).1 (below_more done place low (λ less. inl (f.all place less next)) (λ last. inr last));
    up = λ i j a b less p q. elim (slice_get-pushed places done j b q) [
      | inl two ↦ elim (slice_get-pushed places done i a p) [
        | inl one ↦ f.up i j a b less one two
        | inr one ↦ absurd (let below = slice_get-below places j b two in let e = one.0 in omega arith)
      ]
      | inr two ↦ elim (slice_get-pushed places done i a p) [
        | inl one ↦ (let low = (f.each a (i, one)).0 in let e = two.1 in omega arith)
        | inr one ↦ absurd (let d = one.0 in let e = two.0 in omega arith)
      ]
    ];
  }

  -- and not under another
  filed_other : (object : ℕ) (places : List ℕ) → (met.object ≡ object → ⊥) → AreFiled mets done object places → AreFiled mets (done + 1) object places
  filed_other object places not f = record {
    each = λ place has. let h = f.each place has in ((let low = h.0 in omega arith), h.1);
    all = λ place low next. below_more done place low (λ less. f.all place less next) (λ last.
        let here : slice_get mets done ≡ Some next.met = subst (λ (n : ℕ). slice_get mets n ≡ Some next.met) last next.met_is in
        let same : met ≡ next.met = cc (there, here) in
        absurd (not (ap (λ (x : Met). x.object) same ∙ next.object_is)));
    up = f.up;
  }

  filed_more : (old new : Groups ℕ) → IsAdded old new (Node met.object) done → (object : ℕ) → AreFiled mets done object (found_at old (Node object))
      → AreFiled mets (done + 1) object (found_at new (Node object))
  filed_more old new added object f = elim (cases_eq met.object object) [
    | inl same ↦
        let here : found_at new (Node object) ≡ found_at old (Node object) ++ done ∷ [] =
        subst (λ (n : ℕ). found_at new (Node n) ≡ found_at old (Node n) ++ done ∷ []) same added.here in
        subst (AreFiled mets (done + 1) object) (sym here) (filed_here object (found_at old (Node object)) same f)
    | inr apart ↦
        let other = added.others (Node object) (λ e. let same : met.object ≡ object = cc in apart same) in
        subst (AreFiled mets (done + 1) object) (sym other) (filed_other object (found_at old (Node object)) apart f)
  ]

-- nothing was gone through
pub composed_none : (w : Ways) → w.done ≡ 0 → ((key : Key) → found_at w.by_object key ≡ []) → ((key : Key) → found_at w.by_base key ≡ []) → AreComposed [] w
composed_none w done objects bases = record {
  within = omega arith;
  filed = λ object. record {
    each = λ place has. absurd (nothing (found_at w.by_object (Node object)) place (objects (Node object)) has);
    all = λ place low next. absurd (omega arith);
    up = λ i j a b less p q. absurd (nothing (found_at w.by_object (Node object)) a (objects (Node object)) (i, p));
  };
  bases = λ base place has. absurd (nothing (found_at w.by_base (Node base)) place (bases (Node base)) has);
  there = λ base place at has low next. absurd (omega arith);
}
  where
    nothing : (xs : List ℕ) (x : ℕ) → xs ≡ [] → Has xs x → ⊥
    nothing xs x e has = let there : slice_get [] has.0 ≡ Some x = subst (λ (ys : List ℕ). slice_get ys has.0 ≡ Some x) e has.1 in cc

-- the meet that is gone through next is ready behind each that was found by looking
pub follow_ready : (mets : List Met) (w : Ways) → AreComposed mets w → (met : Met) → slice_get mets w.done ≡ Some met → (first : ℕ)
    → Has (found_at w.by_base (Node met.object)) first → IsReady mets first w.done
follow_ready mets w was met there first has =
    let base = was.bases met.object first has in
    record {
      first = base.0;
      first_is = base.1;
      next = met;
      next_is = there;
      joins = sym base.2;
      before = λ at x low stands is.
          was.there met.object first at has low (record { met = x; met_is = stands; object_is = is ∙ base.2 }) base.0 x base.1 stands;
    }

module _ (old new : List Met) (longer : IsLonger old new) (w : Ways) (was : AreComposed old w) where
  -- what was composed stays so where the list grows
  pub composed_longer : AreComposed new w
  composed_longer = record {
    within = let a = was.within in let b = length_longer old new longer in omega arith;
    filed = λ object. filed_longer old new longer w.done object (found_at w.by_object (Node object)) was.within (was.filed object);
    bases = λ base place has. let h = was.bases base place has in (h.0, at_longer old new longer place h.0 h.1, h.2);
    there = λ base place at has low next x y p q.
        let first = was.bases base place has in
        let within = was.within in
        let next_old = next_shorter old new longer base at (omega arith) next in
        let below = slice_get-below old place first.0 first.1 in
        has_longer old new longer (numbers (joined x y))
        (was.there base place at has low next_old x y (at_shorter old new longer place x below p) (at_shorter old new longer at y (omega arith) q));
  }

  -- it was gone through
  pub composed_passed : (met : Met) → slice_get old w.done ≡ Some met → (by_object : Groups ℕ) → IsAdded w.by_object by_object (Node met.object) w.done
      → ((first : ℕ) → Has (found_at w.by_base (Node met.object)) first → IsThere old new first w.done)
      → AreComposed new (record { by_object = by_object; by_base = w.by_base; done = w.done + 1 })
  composed_passed met there by_object added all =
      let now = composed_longer in
      let here = at_longer old new longer w.done met there in
      record {
        within = (let below = slice_get-below new w.done met here in omega arith);
        filed = λ object. filed_more new w.done met here w.by_object by_object added object (now.filed object);
        bases = now.bases;
        there = λ base place at has low next x y p q. below_more w.done at low (λ less. now.there base place at has less next x y p q) (λ last.
            let next_is : slice_get new w.done ≡ Some next.met = subst (λ (n : ℕ). slice_get new n ≡ Some next.met) last next.met_is in
            let same : met ≡ next.met = cc (here, next_is) in
            let object : base ≡ met.object = sym (ap (λ (z : Met). z.object) same ∙ next.object_is) in
            let first = was.bases base place has in
            let below = slice_get-below old place first.0 first.1 in
            let y_is : slice_get new w.done ≡ Some y = subst (λ (n : ℕ). slice_get new n ≡ Some y) last q in
            all place (subst (λ (n : ℕ). Has (found_at w.by_base (Node n)) place) object has) x y (at_shorter old new longer place x below p)
            (at_shorter old new longer w.done y (slice_get-below old w.done met there) y_is));
      }

  -- a meet that was found by looking gives what is there
  pub composed_begun : (first : ℕ) (met : Met) → slice_get old first ≡ Some met → (by_base : Groups ℕ) → IsAdded w.by_base by_base (Node met.base) first
      → ((next : ℕ) → Has (found_at w.by_object (Node met.base)) next → IsThere old new first next)
      → AreComposed new (record { by_object = w.by_object; by_base = by_base; done = w.done })
  composed_begun first met stands by_base added all =
      let now = composed_longer in
      record {
        within = now.within;
        filed = now.filed;
        bases = λ base place has. elim (among base place has) [
          | inl before ↦ now.bases base place before
          | inr last ↦ (met, subst (λ (n : ℕ). slice_get new n ≡ Some met) (sym last.0) (at_longer old new longer first met stands), last.1)
        ];
        there = λ base place at has low next x y p q. elim (among base place has) [
          | inl before ↦ now.there base place at before low next x y p q
          | inr last ↦
              let within = was.within in
              let old_next = next_shorter old new longer base at (omega arith) next in
              let filed = (was.filed base).all at low old_next in
              let there = all at (subst (λ (n : ℕ). Has (found_at w.by_object (Node n)) at) (sym last.1) filed) in
              let p_is : slice_get new first ≡ Some x = subst (λ (n : ℕ). slice_get new n ≡ Some x) last.0 p in
              there x y (at_shorter old new longer first x (slice_get-below old first met stands) p_is) (at_shorter old new longer at y (omega arith) q)
        ];
      }
    where
      among : (base place : ℕ) → Has (found_at by_base (Node base)) place → Has (found_at w.by_base (Node base)) place ⊎ ((place ≡ first) × (met.base ≡ base))
      among base place has = elim (cases_eq met.base base) [
        | inl same ↦
            let here : found_at by_base (Node base) ≡ found_at w.by_base (Node base) ++ first ∷ [] =
            subst (λ (n : ℕ). found_at by_base (Node n) ≡ found_at w.by_base (Node n) ++ first ∷ []) same added.here in
            elim ((Has-push (found_at w.by_base (Node base)) first place).0 (subst (λ (xs : List ℕ). Has xs place) here has)) [
              | inl old ↦ inl old
              | inr last ↦ inr (last, same)
            ]
        | inr apart ↦
            let other = added.others (Node base) (λ e. let same : met.base ≡ base = cc in apart same) in
            inl (subst (λ (xs : List ℕ). Has xs place) other has)
      ]
