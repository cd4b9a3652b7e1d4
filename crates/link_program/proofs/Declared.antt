-- The class that declares a field is one of the program's.
use Rattle.std.proofs.Common.{◌≡◌, ℕ, zero, suc, ◌<◌, List, [], ◌∷◌, All, Some, length, map, slice_get, arith}
use Rattle.link_rules.specs.Linked.{LinkedField, LinkedProgram}
use Rattle.link_rules.specs.Accessed.{field_class}

within : (n : ℕ) (fs : List LinkedField) (k d : ℕ) → All (λ (f : LinkedField). f.class < n) fs → slice_get (map (λ (f : LinkedField). f.class) fs) k ≡ Some d
    → d < n
within n [] k d all e = cc
within n (f ∷ fs) zero d all e = let first = all zero f (omega arith) in let same : f.class ≡ d = cc e in omega (arith, first, same)
within n (f ∷ fs) (suc k) d all e = within n fs k d (λ j x below. all (suc j) x (omega (arith, below))) e

pub class_within : (p : LinkedProgram) (field d : ℕ) → All (λ (f : LinkedField). f.class < length p.classes) p.fields → field_class p field ≡ Some d
    → d < length p.classes
class_within p zero d all e = cc
class_within p (suc field) d all e = within (length p.classes) p.fields field d all e
