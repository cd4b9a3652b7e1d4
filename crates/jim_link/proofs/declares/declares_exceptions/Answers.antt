use Rattle.std.proofs.Common.{◌∷◌, [], codes}
use Rattle.link_rules.specs.Classes.{IsDeclared, classes_of}
use Rattle.jim_link.proofs.Declaring.{none_all}
use Rattle.jim_link.proofs.declares.declares_exceptions.Goals as goal

pub returns : goal.returns
returns c =
    let one = c.declares_too-all.ensures [] (none_all (IsDeclared (classes_of c.args.program.now))) in
    let two = c.declares_too-all-2.ensures (codes "java.lang.ArithmeticException" ∷ []) one in
    let three = c.declares_too-all-3.ensures (codes "java.lang.ClassCastException" ∷ codes "java.lang.ArithmeticException" ∷ []) two in
    let four = c.declares_too-all-4.ensures (codes "java.lang.NegativeArraySizeException" ∷ codes "java.lang.ClassCastException" ∷ codes "java.lang.ArithmeticException" ∷ []) three in
    let five = c.declares_too-all-5.ensures (codes "java.lang.ArrayStoreException" ∷ codes "java.lang.NegativeArraySizeException" ∷ codes "java.lang.ClassCastException" ∷ codes "java.lang.ArithmeticException" ∷ []) four in
    c.declares_too.ensures (codes "java.lang.ArrayIndexOutOfBoundsException" ∷ codes "java.lang.ArrayStoreException" ∷ codes "java.lang.NegativeArraySizeException" ∷ codes "java.lang.ClassCastException" ∷ codes "java.lang.ArithmeticException" ∷ []) five
