-- The text of a program of any size, in Jimple: boxes that are all filled by one `put` and read by one `get`, each with an item of its own. It is this project's own.
use Rattle.std.specs.Prelude.{ℕ, ◌++◌, List, [], ◌∷◌, codes, map}
use Rattle.std.specs.Fmt.{decimal}
use Rattle.std.specs.List.{concat, range_with_len}

-- the text of the method that is asked
abbrev pub main_method : List ℕ
main_method = codes "<Demo: void main(java.lang.String[])>"

-- the local of a box
abbrev pub box_local : ℕ → List ℕ
box_local k = codes "b" ++ decimal k

-- the local of the item that is put into the box
abbrev pub item_local : ℕ → List ℕ
item_local k = codes "o" ++ decimal k

-- the local of what is taken from the box
abbrev pub taken_local : ℕ → List ℕ
taken_local k = codes "x" ++ decimal k

-- what stands before the declarations of `main`: a class with a field, one without, and the two methods that write and read the field
abbrev pub head : List ℕ
head = concat (
    codes "class Box {\n"
    ∷ codes "    java.lang.Object v;\n"
    ∷ codes "}\n"
    ∷ codes "class Item { }\n"
    ∷ codes "class Demo {\n"
    ∷ codes "    static void put(Box, java.lang.Object) {\n"
    ∷ codes "        Box b;\n"
    ∷ codes "        java.lang.Object o;\n"
    ∷ codes "        b := @parameter0: Box;\n"
    ∷ codes "        o := @parameter1: java.lang.Object;\n"
    ∷ codes "        b.<Box: java.lang.Object v> = o;\n"
    ∷ codes "        return;\n"
    ∷ codes "    }\n"
    ∷ codes "    static java.lang.Object get(Box) {\n"
    ∷ codes "        Box b;\n"
    ∷ codes "        java.lang.Object o;\n"
    ∷ codes "        b := @parameter0: Box;\n"
    ∷ codes "        o = b.<Box: java.lang.Object v>;\n"
    ∷ codes "        return o;\n"
    ∷ codes "    }\n"
    ∷ codes "    static void main(java.lang.String[]) {\n"
    ∷ [])

-- the declarations of a box's locals
abbrev pub declarations_of : ℕ → List ℕ
declarations_of k = concat (
    codes "        Box " ∷ box_local k ∷ codes ";\n"
    ∷ codes "        java.lang.Object " ∷ item_local k ∷ codes ", " ∷ taken_local k ∷ codes ";\n"
    ∷ [])

-- the statements that make a box and its item
abbrev pub makes_of : ℕ → List ℕ
makes_of k = concat (
    codes "        " ∷ box_local k ∷ codes " = new Box;\n"
    ∷ codes "        " ∷ item_local k ∷ codes " = new Item;\n"
    ∷ [])

-- the statements that put the item into the box, and take what is in it
abbrev pub calls_of : ℕ → List ℕ
calls_of k = concat (
    codes "        staticinvoke <Demo: void put(Box,java.lang.Object)>(" ∷ box_local k ∷ codes ", " ∷ item_local k ∷ codes ");\n"
    ∷ codes "        " ∷ taken_local k ∷ codes " = staticinvoke <Demo: java.lang.Object get(Box)>(" ∷ box_local k ∷ codes ");\n"
    ∷ [])

-- the statements of a box
abbrev pub statements_of : ℕ → List ℕ
statements_of k = makes_of k ++ calls_of k

-- what stands behind the statements of the boxes
abbrev pub end : List ℕ
end = concat (
    codes "        return;\n"
    ∷ codes "    }\n"
    ∷ codes "}\n"
    ∷ [])

-- the parts of so many boxes, in order
abbrev pub each_of : (ℕ → List ℕ) → ℕ → List ℕ
each_of part count = concat (map part (range_with_len 0 count))

-- the text of the program with so many boxes
abbrev pub demo_source : ℕ → List ℕ
demo_source count = head ++ each_of declarations_of count ++ each_of statements_of count ++ end
