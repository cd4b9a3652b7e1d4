-- The sites with a fact among the first of a list.
use Rattle.std.proofs.Common.{◌≡◌, ◌↔◌, ◌⊎◌, inl, inr, ℕ, ◌+◌, ◌<◌, ◌≤◌, List, [], ◌∷◌, ◌++◌, Some, length, slice_get, take, get_or, sym, ap, ◌∙◌, subst, arith}
use Rattle.std.specs.List.{AllPairs}
use Rattle.std.proofs.lemmas.List.{length-take, take_all}
use Rattle.std.proofs.lemmas.List.Quantifiers.{all_pairs_push}
use Rattle.std.proofs.lemmas.Option.{get_or_from_slice_get, slice_get-get_or}
use Rattle.lists.specs.Lists.{Has}
use Rattle.lists.proofs.Places.{slice_get-below}
use Rattle.lists.proofs.Joined.{AllPairs-at, Has-either, Has-left, Has-right, slice_get-taken}
use Rattle.link_rules.specs.Linked.{LinkedProgram}
use Rattle.link_sites.specs.declared.site.Site.{Site}
use Rattle.link_sites.specs.Sites.{Precedes}
use Rattle.spds_rules.specs.Answers.{AreSites}
use Rattle.demand_set.proofs.Appended.{Has-one, Has-take_kept, Has-take_last, Has-take_more}
use Rattle.query_core.proofs.OneWay.{sites_one_way}

-- those of a list that have the fact, in the order in which they are printed
pub record AreKept (p : LinkedProgram) (P : Site → Type 0) (all kept : List Site) : Type 0 where
  pub each : (o : Site) → Has kept o ↔ (Has all o × P o)
  pub ordered : AllPairs (Precedes p) kept

module _ (p : LinkedProgram) (P : Site → Type 0) where
  -- there are none in the empty list
  pub kept_none : AreKept p P [] []
  kept_none = record {
    each = λ o. (λ has. cc (has.1), λ has. cc (has.0.1));
    ordered = λ i j d less within. absurd (omega (arith, less, within));
  }

  module _ (all kept : List Site) (i : ℕ) (x : Site) (here : slice_get all i ≡ Some x) (old : AreKept p P (take i all) kept) where
    below : i < length all
    below = slice_get-below all i x here

    is_x : get_or all i x ≡ x
    is_x = get_or_from_slice_get all i x x here

    -- what was among the first is
    earlier : (o : Site) → Has (take i all) o → Has (take (i + 1) all) o
    earlier o has = Has-take_kept all i x o below has

    -- so is the next one
    last : Has (take (i + 1) all) x
    last = subst (λ (y : Site). Has (take (i + 1) all) y) is_x (Has-take_last all i x below)

    -- and nothing else
    only : (o : Site) → Has (take (i + 1) all) o → Has (take i all) o ⊎ (o ≡ x)
    only o has = elim (Has-take_more all i x o below has) [ inl a ↦ inl a | inr e ↦ inr (e ∙ is_x) ]

    -- the next one hasn't the fact
    pub kept_same : (P x → ⊥) → AreKept p P (take (i + 1) all) kept
    kept_same not = record {
      each = λ o. (
        λ has. let was = (old.each o).0 has in (earlier o was.0, was.1),
        λ has. elim (only o has.0) [ inl a ↦ (old.each o).1 (a, has.1) | inr e ↦ absurd (not (subst P e has.1)) ],
      );
      ordered = old.ordered;
    }

    -- the next one has it
    pub kept_more : AllPairs (Precedes p) all → P x → AreKept p P (take (i + 1) all) (kept ++ x ∷ [])
    kept_more pairs holds = record {
      each = λ o. (
        λ has. elim (Has-either kept (x ∷ []) o has) [
          | inl a ↦ let was = (old.each o).0 a in (earlier o was.0, was.1)
          | inr b ↦ let e = Has-one x o b in (subst (Has (take (i + 1) all)) (sym e) last, subst P (sym e) holds)
        ],
        λ has. elim (only o has.0) [
          | inl a ↦ Has-left kept (x ∷ []) o ((old.each o).1 (a, has.1))
          | inr e ↦ Has-right kept (x ∷ []) o (0, ap Some (sym e))
        ],
      );
      ordered = all_pairs_push (Precedes p) kept x old.ordered (λ k d within. comes_before (get_or kept k d) (k, slice_get-get_or kept k d within));
    }
      where
        comes_before : (o : Site) → Has kept o → Precedes p o x
        comes_before o has =
            let was = ((old.each o).0 has).0 in
            let short = slice_get-below (take i all) was.0 o was.1 in
            AllPairs-at (Precedes p) all was.0 i o x pairs (omega (arith, short, length-take i all))
            (slice_get-taken i all was.0 o was.1) here

  -- in the whole list
  pub kept_all : (all kept : List Site) (n : ℕ) → length all ≤ n → AreKept p P (take n all) kept → ((o : Site) → P o → Has all o) → AreSites p P kept
  kept_all all kept n within are among =
      let whole = subst (λ (xs : List Site). AreKept p P xs kept) (take_all n all within) are in
      record { each = λ o. (λ has. ((whole.each o).0 has).1, λ holds. (whole.each o).1 (among o holds, holds)); ordered = whole.ordered }
