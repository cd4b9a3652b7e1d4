-- The numbers of the sites with a fact, and the sites that have the numbers.
use Rattle.std.proofs.Common.{◌≡◌, ◌↔◌, ℕ, ◌+◌, ◌<◌, ◌≤◌, List, [], ◌∷◌, ◌++◌, Some, length, slice_get, take, get_or, refl, sym, ap, ◌∙◌, subst, inl, inr, arith, length-append}
use Rattle.std.specs.List.{AllPairs}
use Rattle.std.proofs.lemmas.Bool.{cases_order}
use Rattle.std.proofs.lemmas.List.{take_more}
use Rattle.std.proofs.lemmas.List.Quantifiers.{all_pairs_push}
use Rattle.std.proofs.lemmas.Option.{get_or_from_slice_get, slice_get-get_or}
use Rattle.lists.specs.Lists.{Has, Each}
use Rattle.lists.proofs.Places.{slice_get-below, slice_get-pushed}
use Rattle.lists.proofs.SideBySide.{Each-push}
use Rattle.lists.proofs.Joined.{AllPairs-at, Has-either, Has-left, Has-right}
use Rattle.link_rules.specs.Linked.{LinkedProgram}
use Rattle.link_laws.proofs.Lists.{each_left, each_right}
use Rattle.link_sites.specs.declared.site.Site.{Site}
use Rattle.link_sites.specs.Sites.{Precedes}
use Rattle.spds_rules.specs.Answers.{AreSites}
use Rattle.demand_set.proofs.Appended.{Has-one}
use Rattle.query_core.proofs.OneWay.{sites_one_way}
use Rattle.path_query.specs.Numbers.{AreNumbersOf}

-- the numbers below n of sites that have the fact
pub record AreNumbersBelow (sites : List Site) (P : Site → Type 0) (n : ℕ) (numbers : List ℕ) : Type 0 where
  pub each : (k : ℕ) → Has numbers k ↔ ((k < n) × ((o : Site) × (slice_get sites k ≡ Some o) × P o))
  pub ordered : AllPairs (λ a b. a < b) numbers

module _ (sites : List Site) (P : Site → Type 0) where
  -- there are none at the beginning
  pub numbers_none : AreNumbersBelow sites P 0 []
  numbers_none = record {
    each = λ k. (λ has. cc (has.1), λ h. absurd (omega (arith, h.0)));
    ordered = λ i j d less within. absurd (omega (arith, less, within));
  }

  module _ (n : ℕ) (x : Site) (there : slice_get sites n ≡ Some x) (numbers : List ℕ) (old : AreNumbersBelow sites P n numbers) where
    -- the next site hasn't the fact
    pub numbers_same : (P x → ⊥) → AreNumbersBelow sites P (n + 1) numbers
    numbers_same not = record {
      each = λ k. (
        λ has. let was = (old.each k).0 has in (omega (arith, was.0), was.1),
        λ h. elim (cases_order k n) [
          | inl same ↦ (
              let here : slice_get sites n ≡ Some h.1.0 = subst (λ i. slice_get sites i ≡ Some h.1.0) same h.1.1 in
              let is : h.1.0 ≡ x = cc (here, there) in
              absurd (not (subst P is h.1.2))
              )
          | inr apart ↦ elim apart [
            | inl less ↦ (old.each k).1 (less, h.1)
            | inr more ↦ absurd (let a = h.0 in omega (arith, more, a))
          ]
        ],
      );
      ordered = old.ordered;
    }

    -- the next site has it
    pub numbers_more : P x → AreNumbersBelow sites P (n + 1) (numbers ++ n ∷ [])
    numbers_more holds = record {
      each = λ k. (
        λ has. elim (Has-either numbers (n ∷ []) k has) [
          | inl a ↦ let was = (old.each k).0 a in (omega (arith, was.0), was.1)
          | inr b ↦ (
              let e : k ≡ n = Has-one n k b in
              (omega (arith, e), (x, ap (slice_get sites) e ∙ there, holds))
              )
        ],
        λ h. elim (cases_order k n) [
          | inl same ↦ Has-right numbers (n ∷ []) k (0, ap Some (sym same))
          | inr apart ↦ elim apart [
            | inl less ↦ Has-left numbers (n ∷ []) k ((old.each k).1 (less, h.1))
            | inr more ↦ absurd (let a = h.0 in omega (arith, more, a))
          ]
        ],
      );
      ordered = all_pairs_push (λ a b. a < b) numbers n old.ordered (λ k d within. ((old.each (get_or numbers k d)).0 (k, slice_get-get_or numbers k d within)).0);
    }

  -- in the whole list
  pub numbers_all : (n : ℕ) (numbers : List ℕ) → length sites ≤ n → AreNumbersBelow sites P n numbers → AreNumbersOf sites P numbers
  numbers_all n numbers past below = record {
    each = λ k. (
      λ has. ((below.each k).0 has).1,
      λ h. (below.each k).1 (let within = slice_get-below sites k h.0 h.1 in (omega (arith, within, past), h)),
    );
    ordered = below.ordered;
  }

-- numbers of sites with one fact are those with another that says the same of these
pub numbers_as : (sites : List Site) (P Q : Site → Type 0) (numbers : List ℕ) → ((o : Site) → P o → Q o) → ((o : Site) → Q o → P o)
    → AreNumbersOf sites P numbers → AreNumbersOf sites Q numbers
numbers_as sites P Q numbers to from are = record {
  each = λ k. (
    λ has. let h = (are.each k).0 has in (h.0, h.1, to h.0 h.2),
    λ h. (are.each k).1 (h.0, h.1, from h.0 h.2),
  );
  ordered = are.ordered;
}

-- the sites with these numbers are those with the fact, in the order in which they are printed
pub sites_of_numbers : (p : LinkedProgram) (sites : List Site) (P : Site → Type 0) (numbers : List ℕ) (found : List Site) → AllPairs (Precedes p) sites
    → ((o : Site) → P o → Has sites o) → AreNumbersOf sites P numbers → Each (λ k o. slice_get sites k ≡ Some o) numbers found → AreSites p P found
sites_of_numbers p sites P numbers found ordered among are at = record { each = λ o. (of_them o, one_of_them o); ordered = in_order }
  where
    of_them : (o : Site) → Has found o → P o
    of_them o has =
        let k = each_right (λ k o. slice_get sites k ≡ Some o) numbers found has.0 o at has.1 in
        let h = (are.each k.0).0 (has.0, k.1) in
        let same : h.0 ≡ o = cc (h.1, k.2) in
        subst P same h.2

    one_of_them : (o : Site) → P o → Has found o
    one_of_them o holds =
        let h = among o holds in
        let k = (are.each h.0).1 (o, h.1, holds) in
        let there = each_left (λ k o. slice_get sites k ≡ Some o) numbers found k.0 h.0 at k.1 in
        let same : there.0 ≡ o = cc (there.2, h.1) in
        (k.0, there.1 ∙ ap Some same)

    in_order : AllPairs (Precedes p) found
    in_order i j d less within =
        let less_long : i < length found = omega (arith, less, within) in
        let one = slice_get-get_or found i d less_long in
        let two = slice_get-get_or found j d within in
        let a = each_right (λ k o. slice_get sites k ≡ Some o) numbers found i (get_or found i d) at one in
        let b = each_right (λ k o. slice_get sites k ≡ Some o) numbers found j (get_or found j d) at two in
        let rises = are.ordered i j a.0 less (slice_get-below numbers j b.0 b.1) in
        let first : get_or numbers i a.0 ≡ a.0 = get_or_from_slice_get numbers i a.0 a.0 a.1 in
        let second : get_or numbers j a.0 ≡ b.0 = get_or_from_slice_get numbers j b.0 a.0 b.1 in
        AllPairs-at (Precedes p) sites a.0 b.0 (get_or found i d) (get_or found j d) ordered (subst (λ k. a.0 < k) second (subst (λ k. k < get_or numbers j a.0) first rises)) a.2 b.2

-- nothing stands beside nothing
pub each_none : {X Y : Type 0} (R : X → Y → Type 0) → Each R [] []
each_none R = record { as_many = refl; each = λ i x y there too. cc (there) }

-- the site of one number more
pub each_put : (all read : List Site) (numbers : List ℕ) (i : ℕ) (old new : List Site) (d : Site) → read ≡ all → i < length numbers → get_or numbers i 0 < length all
    → Each (λ k o. slice_get all k ≡ Some o) (take i numbers) old → new ≡ old ++ get_or read (get_or numbers i 0) d ∷ []
    → Each (λ k o. slice_get all k ≡ Some o) (take (i + 1) numbers) new
each_put all read numbers i old new d same below there so_far is =
    let k = get_or numbers i 0 in
    let x = get_or read k d in
    let at = subst (λ (xs : List Site). slice_get all k ≡ Some (get_or xs k d)) (sym same) (slice_get-get_or all k d there) in
    subst (λ (ks : List ℕ). Each (λ j o. slice_get all j ≡ Some o) ks new) (sym (take_more numbers i 0 below))
    (subst (λ (os : List Site). Each (λ j o. slice_get all j ≡ Some o) (take i numbers ++ k ∷ []) os) (sym is)
    (Each-push (λ j o. slice_get all j ≡ Some o) (take i numbers) old k x so_far at))
