-- A program has one store from a node into another.
use Rattle.std.proofs.Common.{◌≡◌, ℕ, Some, slice_get, sym, ap, subst, ◌∙◌}
use Rattle.link_rules.specs.declared.code.Code.{Code}
use Rattle.link_rules.specs.declared.code.Code.TheVariants as code
use Rattle.link_rules.specs.Linked.{LinkedMethod, LinkedProgram}
use Rattle.link_sites.specs.declared.place.Place.{Place}
use Rattle.link_sites.specs.Places.{CodeAt}
use Rattle.spds_rules.specs.declared.node.Var.{Var}
use Rattle.spds_rules.specs.declared.store.StoreAt.{StoreAt}
use Rattle.spds_rules.specs.Stores.{IsStore, StoresInto}

-- one place has one statement
pub one_code : (p : LinkedProgram) (number index : ℕ) (c d : Code) → CodeAt p number index c → CodeAt p number index d → c ≡ d
one_code p number index c d at again =
    let first = at.there in
    let second = again.there in
    let same : again.method ≡ at.method = cc in
    let here = at.here in
    let there : slice_get at.method.code index ≡ Some d = subst (λ (m : LinkedMethod). slice_get m.code index ≡ Some d) same again.here in
    cc

-- a statement stores a variable into a field of another variable, if it does, into one field
one_field : (c : Code) (f g : ℕ) (w v : Var) → StoresInto c f w v → StoresInto c g w v → f ≡ g
one_field (code.Store base field a) f g w v p q = p.0 ∙ sym q.0
one_field (code.StoreCell base a) f g w v p q = p.0 ∙ sym q.0
one_field (code.NewMulti to levels) f g w v p q = p.0 ∙ sym q.0
one_field _ f g w v p q = absurd p

-- two stores with one argument and one base are one
pub store_one : (p : LinkedProgram) (s t : StoreAt) → IsStore p s → IsStore p t → s.arg ≡ t.arg → s.base ≡ t.base → s ≡ t
store_one p s t is other arg base =
    let place : s.place ≡ t.place = sym is.arg_there ∙ ap (λ n. n.place) arg ∙ other.arg_there in
    let there : CodeAt p s.place.method s.place.index other.stores.code = subst (λ (at : Place). CodeAt p at.method at.index other.stores.code) (sym place) other.stores.at in
    let same = one_code p s.place.method s.place.index is.stores.code other.stores.code is.stores.at there in
    let into : StoresInto is.stores.code t.field s.base.var s.arg.var =
    subst (λ (c : Code). StoresInto c t.field s.base.var s.arg.var) (sym same)
    (subst (λ (v : Var). StoresInto other.stores.code t.field s.base.var v) (sym (ap (λ n. n.var) arg))
    (subst (λ (v : Var). StoresInto other.stores.code t.field v t.arg.var) (sym (ap (λ n. n.var) base)) other.stores.is_so)) in
    let field = one_field is.stores.code s.field t.field s.base.var s.arg.var is.stores.is_so into in
    λ j. record { place = place j; field = field j; base = base j; arg = arg j }
