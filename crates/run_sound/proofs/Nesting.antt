-- Arrays of an inner level, which come to be where an element of an array of arrays is loaded: the stores by which arrays hold them.
use Rattle.std.proofs.Common.{◌≡◌, ℕ, zero, suc, ◌+◌, Some, false, List, [], length, slice_get, refl, sym, ap, ◌∙◌, subst, arith}
use Rattle.lists.proofs.Places.{slice_get-below}
use Rattle.link_rules.specs.declared.code.Code.{Code}
use Rattle.link_rules.specs.declared.code.Code.TheVariants as code
use Rattle.link_rules.specs.Classes.{object_name}
use Rattle.link_rules.specs.Linked.{LinkedMethod, LinkedProgram}
use Rattle.link_rules.specs.WellLinked.{IsReachedByCalls, IsWellLinked}
use Rattle.link_rules.specs.WellLinked as linked
use Rattle.link_sites.specs.declared.place.Place.{Place}
use Rattle.link_sites.specs.declared.site.Site.{Site}
use Rattle.link_sites.specs.declared.site.Site.TheVariants as site
use Rattle.link_sites.specs.Places.{HasCode, before}
use Rattle.link_sites.specs.Sites.{HasLevel, IsArraySite, IsInnerSite, IsNamedClass, IsSiteClass}
use Rattle.spds_rules.specs.declared.node.Var.TheVariants.{Nested}
use Rattle.spds_rules.specs.declared.store.StoreAt.{StoreAt}
use Rattle.spds_rules.specs.Demand.{Asked}
use Rattle.spds_rules.specs.Nodes.{HasVar, IsStart, at, site_at}
use Rattle.spds_rules.specs.Stores.{IsStore, StoresInto, level_var}
use Rattle.spds_rules.specs.Systems.{InCalls, InFields, IsString}
use Rattle.run_sound.proofs.Edges.{at_start}
use Rattle.run_sound.proofs.Invariant.{IsStored}
use Rattle.run_sound.proofs.Nodes.{node_at}

module _ (p : LinkedProgram) where
  -- a method that calls reach has a call string
  string_by : {root number : ℕ} → root + 1 ≡ length p.methods → IsReachedByCalls p root number → (string : List Place) × IsString p number string
  string_by last linked.root = ([], IsString.root last)
  string_by last (linked.called reached target) = let caller = string_by last reached in (_, IsString.called target caller.1)

  -- so has the method of each statement
  has_string : IsWellLinked p → (number index : ℕ) (Fact : Code → Type 0) → HasCode p number index Fact → (string : List Place) × IsString p number string
  has_string well number index Fact h =
      let below = slice_get-below h.at.method.code index h.code h.at.here in
      string_by well.form.is_root.last (well.reached number h.at.method h.at.there (omega (arith, below)))

  -- the class of an array of an inner level
  pub inner_class : (outer inner : Site) (class : ℕ) → IsInnerSite p outer inner → IsNamedClass p object_name class → IsSiteClass p inner class
  inner_class (site.New place) inner class h named = subst (λ s. IsSiteClass p s class) (sym h.1) (h.0, named)
  inner_class (site.Nested place level) inner class h named = subst (λ s. IsSiteClass p s class) (sym h.1) (h.0, named)
  inner_class (site.Raised place kind) inner class h named = absurd h
  inner_class (site.Text number) inner class h named = absurd h
  inner_class (site.Class number) inner class h named = absurd h

  -- a store of the program by which arrays of the one site hold those of the other: both come to be at its nodes
  record IsHolding (outer inner : Site) : Type 0 where
    pub store : StoreAt
    pub is_store : IsStore p store
    pub is_field : store.field ≡ 0
    pub base_starts : IsStart p outer store.base
    pub arg_starts : IsStart p inner store.arg

  stores_level : (level : ℕ) (c : Code) → HasLevel (level + 1) c → StoresInto c 0 (level_var level) (Nested (level + 1))
  stores_level level (code.NewMulti to levels) h = (refl, level, h.1, refl, refl)
  stores_level level c h = absurd h

  has_outer : (level : ℕ) (m : LinkedMethod) (c : Code) → HasLevel (level + 1) c → HasVar m c false (level_var level)
  has_outer zero m (code.NewMulti to levels) h = tt
  has_outer (suc level) m (code.NewMulti to levels) h = let most = h.1 in (omega arith, omega (arith, most))
  has_outer zero m c h = absurd h
  has_outer (suc level) m c h = absurd h

  holding_at : (number index level : ℕ) (outer inner : Site) → site_at (before number index) (level_var level) ≡ Some outer
      → inner ≡ site.Nested (before number index) (level + 1) → HasCode p number index (HasLevel (level + 1)) → IsHolding outer inner
  holding_at number index level outer inner is_outer is_inner h = record {
    store = record {
      place = before number index;
      field = 0;
      base = at (before number index) (level_var level);
      arg = at (before number index) (Nested (level + 1));
    };
    is_store = record {
      unraised = refl;
      base_there = refl;
      arg_there = refl;
      stores = record { code = h.code; at = h.at; is_so = stores_level level h.code h.is_so };
    };
    is_field = refl;
    base_starts = (node_at p number index false h.at.method h.code h.at.there h.at.here tt (level_var level) (has_outer level h.at.method h.code h.is_so), is_outer);
    arg_starts = (node_at p number index false h.at.method h.code h.at.there h.at.here tt (Nested (level + 1)) h.is_so, ap Some (sym is_inner));
  }

  no_level : (c : Code) → HasLevel 0 c → ⊥
  no_level (code.NewMulti to levels) h = omega (arith, h.0)
  no_level c h = h

  -- an unraised place by its parts
  by_parts : (place : Place) → place.raised ≡ false → before place.method place.index ≡ place
  by_parts place e = λ i. record { method = place.method; index = place.index; raised = (sym e) i }

  holding : (outer inner : Site) → IsArraySite p outer → IsInnerSite p outer inner → IsHolding outer inner
  holding (site.New place) inner is h =
      let whole = by_parts place h.0.0 in
      subst (λ x. IsHolding (site.New x) inner) whole
      (holding_at place.method place.index 0 (site.New (before place.method place.index)) inner refl (h.1 ∙ ap (λ x. site.Nested x 1) (sym whole)) h.0.1)
  holding (site.Nested place zero) inner is h = absurd (no_level is.1.code is.1.is_so)
  holding (site.Nested place (suc level)) inner is h =
      let whole = by_parts place h.0.0 in
      subst (λ x. IsHolding (site.Nested x (suc level)) inner) whole
      (holding_at place.method place.index (suc level) (site.Nested (before place.method place.index) (suc level)) inner refl
      (h.1 ∙ ap (λ x. site.Nested x (suc level + 1)) (sym whole)) h.0.1)
  holding (site.Raised place kind) inner is h = absurd h
  holding (site.Text number) inner is h = absurd h
  holding (site.Class number) inner is h = absurd h

module _ (p : LinkedProgram) (q : Asked) (well : IsWellLinked p) (sites : List Site) where
  -- so an array of the one site may be stored into those of the other, under some call string of the method in which both come to be
  pub nested_stored : (outer inner : Site) → IsArraySite p outer → IsInnerSite p outer inner → (x : ℕ) → slice_get sites x ≡ Some inner
      → IsStored p q sites outer 0 x
  nested_stored outer inner is_array is_inner x there = record {
    store = holds.store;
    is_store = holds.is_store;
    is_field = holds.is_field;
    string = some.0;
    at_base = λ d. (InFields.start (holds.base_starts, d), InCalls.start (holds.base_starts, d) at_base);
    at_arg = λ d. at_start p q sites holds.store.arg inner some.0 x there holds.arg_starts at_arg d;
  }
    where
      holds : IsHolding p outer inner
      holds = holding p outer inner is_array is_inner

      some : (string : List Place) × IsString p holds.store.place.method string
      some = has_string p well holds.store.place.method holds.store.place.index _ holds.is_store.stores

      at_base : IsString p holds.store.base.place.method some.0
      at_base = subst (λ (x : Place). IsString p x.method some.0) (sym holds.is_store.base_there) some.1

      at_arg : IsString p holds.store.arg.place.method some.0
      at_arg = subst (λ (x : Place). IsString p x.method some.0) (sym holds.is_store.arg_there) some.1
