-- The objects of constants, one after the other.
use Rattle.std.proofs.Common.{◌≡◌, ℕ, zero, suc, ◌+◌, List, [], ◌∷◌, ◌++◌, map, refl, ap, ◌∙◌, arith, add-one, add-zero}
use Rattle.std.specs.List.{range_with_len}
use Rattle.std.proofs.lemmas.List.{map-append}
use Rattle.link_sites.specs.declared.site.Site.{Site}
use Rattle.step_rules.specs.Runs.{constants}
use Rattle.step_rules.specs.States.{new_object}

range_next : (a n : ℕ) → range_with_len a (suc n) ≡ range_with_len a n ++ (a + n) ∷ []
range_next a zero = rw add-zero refl
range_next a (suc n) = let e : (a + 1) + n ≡ a + suc n = omega arith in
    ap (λ (l : List ℕ). a ∷ l) (range_next (a + 1) n ∙ ap (λ (k : ℕ). range_with_len (a + 1) n ++ k ∷ []) e)

-- one constant more
pub constants_next : (site_of : ℕ → Site) (class n : ℕ) → constants site_of class (n + 1) ≡ constants site_of class n ++ new_object (site_of n) class ∷ []
constants_next site_of class n =
    let e : 0 + n ≡ n = omega arith in
    let next : range_with_len 0 (n + 1) ≡ range_with_len 0 n ++ n ∷ [] = rw add-one (range_next 0 n ∙ ap (λ (k : ℕ). range_with_len 0 n ++ k ∷ []) e) in
    ap (λ (l : List ℕ). map (λ i. new_object (site_of i) class) l) next ∙ map-append (λ i. new_object (site_of i) class) (range_with_len 0 n) (n ∷ [])
