use Rattle.std.proofs.Common.{◌↔◌, ◌∷◌, [], List, ℕ, codes, false, IsTrue, true≢false, sym}
use Rattle.lists.specs.Lists.{Has}
use Rattle.link_classes.proofs.instantiable.is_raised.Goals as goal

none : (name : List ℕ) → IsTrue false ↔ Has [] name
none name = (λ t. absurd (true≢false (sym t)), λ h. cc (h.1))

pub returns : goal.returns
returns c =
    let one = c.is_this_or-is.ensures [] (none c.args.name.now) in
    let two = c.is_this_or-is-2.ensures (codes "java.lang.ArithmeticException" ∷ []) one in
    let three = c.is_this_or-is-3.ensures (codes "java.lang.ClassCastException" ∷ codes "java.lang.ArithmeticException" ∷ []) two in
    let four = c.is_this_or-is-4.ensures (codes "java.lang.NegativeArraySizeException" ∷ codes "java.lang.ClassCastException" ∷ codes "java.lang.ArithmeticException" ∷ []) three in
    let five = c.is_this_or-is-5.ensures (codes "java.lang.ArrayStoreException" ∷ codes "java.lang.NegativeArraySizeException" ∷ codes "java.lang.ClassCastException" ∷ codes "java.lang.ArithmeticException" ∷ []) four in
    c.is_this_or.ensures (codes "java.lang.ArrayIndexOutOfBoundsException" ∷ codes "java.lang.ArrayStoreException" ∷ codes "java.lang.NegativeArraySizeException" ∷ codes "java.lang.ClassCastException" ∷ codes "java.lang.ArithmeticException" ∷ []) five
