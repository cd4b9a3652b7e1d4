-- What a query names: one place at most, and either a place or one part that isn't there.
use Rattle.std.proofs.Common.{◌≡◌, ℕ, ◌<◌, ◌≤◌, List, Some, length, slice_get, refl, ap, arith, subst}
use Rattle.lists.specs.Lists.{IsLeast}
use Rattle.link_rules.specs.Linked.{LinkedMethod, LinkedProgram}
use Rattle.link_rules.specs.Accessed.{IsFirstPlace}
use Rattle.spds_rules.specs.declared.node.Node.{Node}
use Rattle.query_core.specs.declared.places.Which.{Which}
use Rattle.query_core.specs.declared.places.Which.TheVariants as which
use Rattle.query_core.specs.Places.{ArePlacesOf, IsMethodOf, IsMissing, IsMissingOfTwo, IsPlaceOf}

-- one number is the least with a fact
pub least_one : {P : ℕ → Type 0} (a b : ℕ) → IsLeast P a → IsLeast P b → a ≡ b
least_one a b p q =
    let not_less : b < a → ⊥ = λ less. p.first b less q.holds in
    let not_more : a < b → ⊥ = λ less. q.first a less p.holds in
    omega (arith, not_less, not_more)

-- the places of one local
module _ (p : LinkedProgram) (text : List ℕ) (index : ℕ) where
  -- one method has the text first
  method_one : (i j : ℕ) (m n : LinkedMethod) → IsMethodOf p text i m → IsMethodOf p text j n → (i ≡ j) × (m ≡ n)
  method_one i j m n a b =
      let same : i ≡ j = least_one i j a.first b.first in
      let one = a.there in
      let two = b.there in
      let at : slice_get p.methods i ≡ slice_get p.methods j = ap (slice_get p.methods) same in
      (same, cc)

  module _ (name : List ℕ) where
    -- a place names one node
    pub place_one : (a b : Node) → IsPlaceOf p text index name a → IsPlaceOf p text index name b → a ≡ b
    place_one a b here there =
        let methods = method_one here.number there.number here.method there.method here.is_method there.is_method in
        let number : here.number ≡ there.number = methods.0 in
        let first = subst (λ (m : LinkedMethod). IsFirstPlace m.locals name here.local) methods.1 here.is_local in
        let local : here.local ≡ there.local = least_one here.local there.local first there.is_local in
        let one = here.is in
        let two = there.is in
        cc

    -- and no part of it is missing
    pub place_there : (n : Node) → IsPlaceOf p text index name n → (part : Which) → IsMissing p text index name part → ⊥
    place_there n here which.Method none = none here.number here.is_method.first.holds
    place_there n here which.Index (i, m, is, past) =
        let methods = method_one here.number i here.method m here.is_method is in
        let within : index < length m.code = subst (λ (m : LinkedMethod). index < length m.code) methods.1 here.within in
        absurd (omega arith)
    place_there n here which.Local (i, m, is, within, none) =
        let methods = method_one here.number i here.method m here.is_method is in
        none (here.local, subst (λ (m : LinkedMethod). slice_get m.locals here.local ≡ Some name) methods.1 here.is_local.holds)
    place_there n here which.Second none = none
    place_there n here which.Field none = none

    -- one part is the first that is missing
    pub missing_one : (part other : Which) → IsMissing p text index name part → IsMissing p text index name other → part ≡ other
    missing_one which.Method which.Method a b = refl
    missing_one which.Method which.Index a (i, m, is, past) = absurd (a i is.first.holds)
    missing_one which.Method which.Local a (i, m, is, within, none) = absurd (a i is.first.holds)
    missing_one which.Index which.Method (i, m, is, past) b = absurd (b i is.first.holds)
    missing_one which.Index which.Index a b = refl
    missing_one which.Index which.Local (i, m, is, past) (j, n, is', within, none) =
        let methods = method_one i j m n is is' in
        let over : length n.code ≤ index = subst (λ (m : LinkedMethod). length m.code ≤ index) methods.1 past in
        absurd (omega arith)
    missing_one which.Local which.Method (i, m, is, within, none) b = absurd (b i is.first.holds)
    missing_one which.Local which.Index (j, n, is', within, none) (i, m, is, past) =
        let methods = method_one i j m n is is' in
        let over : length n.code ≤ index = subst (λ (m : LinkedMethod). length m.code ≤ index) methods.1 past in
        absurd (omega arith)
    missing_one which.Local which.Local a b = refl
    missing_one which.Second other a b = absurd a
    missing_one which.Field other a b = absurd a
    missing_one part which.Second a b = absurd b
    missing_one part which.Field a b = absurd b

  -- the places of two locals
  module _ (first second : List ℕ) where
    -- a place names one pair of nodes
    pub places_one : (a b c d : Node) → ArePlacesOf p text index first second a b → ArePlacesOf p text index first second c d → (a ≡ c) × (b ≡ d)
    places_one a b c d here there = (place_one first a c here.is_first there.is_first, place_one second b d here.is_second there.is_second)

    -- and no part of it is missing
    pub places_there : (a b : Node) → ArePlacesOf p text index first second a b → (part : Which) → IsMissingOfTwo p text index first second part → ⊥
    places_there a b here which.Second none = place_there second b here.is_second which.Local none.2
    places_there a b here which.Method none = place_there first a here.is_first which.Method none
    places_there a b here which.Index none = place_there first a here.is_first which.Index none
    places_there a b here which.Local none = place_there first a here.is_first which.Local none
    places_there a b here which.Field none = none

    -- one part is the first that is missing
    pub missing_one_of_two : (part other : Which) → IsMissingOfTwo p text index first second part → IsMissingOfTwo p text index first second other → part ≡ other
    missing_one_of_two which.Second which.Second a b = refl
    missing_one_of_two which.Second which.Method a b = absurd (place_there first a.0 a.1 which.Method b)
    missing_one_of_two which.Second which.Index a b = absurd (place_there first a.0 a.1 which.Index b)
    missing_one_of_two which.Second which.Local a b = absurd (place_there first a.0 a.1 which.Local b)
    missing_one_of_two which.Method which.Second a b = absurd (place_there first b.0 b.1 which.Method a)
    missing_one_of_two which.Index which.Second a b = absurd (place_there first b.0 b.1 which.Index a)
    missing_one_of_two which.Local which.Second a b = absurd (place_there first b.0 b.1 which.Local a)
    missing_one_of_two which.Method which.Method a b = missing_one first which.Method which.Method a b
    missing_one_of_two which.Method which.Index a b = missing_one first which.Method which.Index a b
    missing_one_of_two which.Method which.Local a b = missing_one first which.Method which.Local a b
    missing_one_of_two which.Index which.Method a b = missing_one first which.Index which.Method a b
    missing_one_of_two which.Index which.Index a b = missing_one first which.Index which.Index a b
    missing_one_of_two which.Index which.Local a b = missing_one first which.Index which.Local a b
    missing_one_of_two which.Local which.Method a b = missing_one first which.Local which.Method a b
    missing_one_of_two which.Local which.Index a b = missing_one first which.Local which.Index a b
    missing_one_of_two which.Local which.Local a b = missing_one first which.Local which.Local a b
    missing_one_of_two which.Field other a b = absurd a
    missing_one_of_two part which.Field a b = absurd b

    -- where the first local is there, what is missing of the second's place is the second local
    pub second_missing : (a : Node) → IsPlaceOf p text index first a → (part : Which) → IsMissing p text index second part
        → IsMissingOfTwo p text index first second which.Second
    second_missing a here which.Method none = absurd (place_there first a here which.Method none)
    second_missing a here which.Index none = absurd (place_there first a here which.Index none)
    second_missing a here which.Local none = (a, here, none)
    second_missing a here which.Second none = absurd none
    second_missing a here which.Field none = absurd none
