-- The classes of the implicit exceptions.
use Rattle.std.proofs.Common.{◌≡◌, ℕ, zero, suc, List, [], ◌∷◌, Some, codes, slice_get, refl, subst}
use Rattle.link_rules.specs.Linked.{LinkedProgram}
use Rattle.link_sites.specs.Sites.{IsClassOfRaised, IsNamedClass}

abbrev pub null_name : List ℕ
null_name = codes "java.lang.NullPointerException"

abbrev pub index_name : List ℕ
index_name = codes "java.lang.ArrayIndexOutOfBoundsException"

abbrev pub store_name : List ℕ
store_name = codes "java.lang.ArrayStoreException"

abbrev pub size_name : List ℕ
size_name = codes "java.lang.NegativeArraySizeException"

abbrev pub cast_name : List ℕ
cast_name = codes "java.lang.ClassCastException"

abbrev pub arithmetic_name : List ℕ
arithmetic_name = codes "java.lang.ArithmeticException"

-- six classes with these names are those of the six kinds
module _ (p : LinkedProgram) (a b c d e f : ℕ) (null : IsNamedClass p null_name a) (index : IsNamedClass p index_name b) (store : IsNamedClass p store_name c)
    (size : IsNamedClass p size_name d) (cast : IsNamedClass p cast_name e) (arithmetic : IsNamedClass p arithmetic_name f) where
  pub raised_of : (kind class : ℕ) → slice_get (a ∷ b ∷ c ∷ d ∷ e ∷ f ∷ []) kind ≡ Some class → IsClassOfRaised p kind class
  raised_of zero class h = let same : a ≡ class = cc in (null_name, refl, subst (λ n. IsNamedClass p null_name n) same null)
  raised_of (suc zero) class h = let same : b ≡ class = cc in (index_name, refl, subst (λ n. IsNamedClass p index_name n) same index)
  raised_of (suc (suc zero)) class h = let same : c ≡ class = cc in (store_name, refl, subst (λ n. IsNamedClass p store_name n) same store)
  raised_of (suc (suc (suc zero))) class h = let same : d ≡ class = cc in (size_name, refl, subst (λ n. IsNamedClass p size_name n) same size)
  raised_of (suc (suc (suc (suc zero)))) class h = let same : e ≡ class = cc in (cast_name, refl, subst (λ n. IsNamedClass p cast_name n) same cast)
  raised_of (suc (suc (suc (suc (suc zero))))) class h =
      let same : f ≡ class = cc in (arithmetic_name, refl, subst (λ n. IsNamedClass p arithmetic_name n) same arithmetic)
  raised_of (suc (suc (suc (suc (suc (suc kind)))))) class h = cc
