-- The text of the stand-ins for Java's own classes, class by class and member by member, with the few kinds of bodies that they have. It is this project's own.
use Rattle.std.specs.Prelude.{ℕ, ◌++◌, List, [], ◌∷◌, codes}
use Rattle.std.specs.List.{concat}
use Prim.Native.String.{String}

-- a class: its name with what it extends or implements, and its members
abbrev class_of : String → List (List ℕ) → List ℕ
class_of head members = codes "class " ++ codes head ++ codes " {\n" ++ concat members ++ codes "}\n"

-- an interface, likewise
abbrev interface_of : String → List (List ℕ) → List ℕ
interface_of head members = codes "interface " ++ codes head ++ codes " {\n" ++ concat members ++ codes "}\n"

-- a member without a body: a field, or a method of an interface
abbrev bare : String → List ℕ
bare member = codes "  " ++ codes member ++ codes ";\n"

-- a method with this body
abbrev method : String → List ℕ → List ℕ
method head body = codes "  " ++ codes head ++ codes " { " ++ body ++ codes " }\n"

-- a method that does nothing
abbrev idle : String → List ℕ
idle head = method head (codes "return;")

-- a method that gives 0
abbrev zero_of : String → List ℕ
zero_of head = method head (codes "return 0;")

-- a method that gives a new object of a class
abbrev new_of : String → String → List ℕ
new_of made head = method head (concat (
    codes made ∷ codes " s; s = new " ∷ codes made ∷ codes "; return s;" ∷ []))

-- a method that gives its receiver, of a class
abbrev this_of : String → String → List ℕ
this_of receiver head = method head (concat (
    codes receiver ∷ codes " s; s := @this: " ∷ codes receiver ∷ codes "; return s;" ∷ []))

-- a method that may or may not ask its argument for its text, as printing an object does
abbrev text_of_first : String → List ℕ
text_of_first head = method head (concat (
    codes "java.lang.Object o; java.lang.String s; o := @parameter0: java.lang.Object; if 0 == 1 goto label1; "
    ∷ codes "s = virtualinvoke o.<java.lang.Object: java.lang.String toString()>(); label1: return;" ∷ []))

-- an exception, with its parent: without and with a message it calls its parent's constructor
abbrev exception : String → String → List ℕ
exception e parent = concat (
    codes "class " ∷ codes e ∷ codes " extends " ∷ codes parent ∷ codes " {\n"
    ∷ method "void <init>()" (concat (
    codes e ∷ codes " r; r := @this: " ∷ codes e ∷ codes "; specialinvoke r.<" ∷ codes parent ∷ codes ": void <init>()>(); return;" ∷ []))
    ∷ method "void <init>(java.lang.String)" (concat (
    codes e ∷ codes " r; java.lang.String s; r := @this: " ∷ codes e ∷ codes "; s := @parameter0: java.lang.String; specialinvoke r.<" ∷ codes parent
    ∷ codes ": void <init>(java.lang.String)>(s); return;" ∷ []))
    ∷ codes "}\n" ∷ [])

-- the root of all classes
abbrev object : List ℕ
object = class_of "java.lang.Object" (
    idle "void <init>()"
    ∷ zero_of "boolean equals(java.lang.Object)"
    ∷ zero_of "int hashCode()"
    ∷ new_of "java.lang.String" "java.lang.String toString()"
    ∷ [])

-- the stand-in for texts
abbrev string : List ℕ
string = class_of "java.lang.String implements java.lang.CharSequence" (
    idle "void <init>()"
    ∷ zero_of "int length()"
    ∷ this_of "java.lang.String" "java.lang.String toString()"
    ∷ new_of "java.lang.String" "java.lang.String concat(java.lang.String)"
    ∷ new_of "java.lang.String" "static java.lang.String valueOf(int)"
    ∷ [])

-- a class has no members here
abbrev class : List ℕ
class = codes "class java.lang.Class { }\n"

-- what is thrown keeps its message
abbrev throwable : List ℕ
throwable = class_of "java.lang.Throwable" (
    bare "java.lang.String message"
    ∷ idle "void <init>()"
    ∷ method "void <init>(java.lang.String)" (concat (
    codes "java.lang.Throwable r; java.lang.String s; r := @this: java.lang.Throwable; s := @parameter0: java.lang.String; "
    ∷ codes "r.<java.lang.Throwable: java.lang.String message> = s; return;" ∷ []))
    ∷ method "java.lang.String getMessage()" (concat (
    codes "java.lang.Throwable r; java.lang.String s; r := @this: java.lang.Throwable; "
    ∷ codes "s = r.<java.lang.Throwable: java.lang.String message>; return s;" ∷ []))
    ∷ idle "void printStackTrace()"
    ∷ [])

-- the exceptions that programs and the machine throw
abbrev exceptions : List ℕ
exceptions = concat (
    exception "java.lang.Exception" "java.lang.Throwable"
    ∷ exception "java.lang.Error" "java.lang.Throwable"
    ∷ exception "java.lang.RuntimeException" "java.lang.Exception"
    ∷ exception "java.lang.NullPointerException" "java.lang.RuntimeException"
    ∷ exception "java.lang.IndexOutOfBoundsException" "java.lang.RuntimeException"
    ∷ exception "java.lang.ArrayIndexOutOfBoundsException" "java.lang.IndexOutOfBoundsException"
    ∷ exception "java.lang.ArrayStoreException" "java.lang.RuntimeException"
    ∷ exception "java.lang.NegativeArraySizeException" "java.lang.RuntimeException"
    ∷ exception "java.lang.ClassCastException" "java.lang.RuntimeException"
    ∷ exception "java.lang.ArithmeticException" "java.lang.RuntimeException"
    ∷ exception "java.lang.IllegalArgumentException" "java.lang.RuntimeException"
    ∷ exception "java.lang.IllegalStateException" "java.lang.RuntimeException"
    ∷ exception "java.lang.UnsupportedOperationException" "java.lang.RuntimeException"
    ∷ exception "java.lang.NumberFormatException" "java.lang.IllegalArgumentException"
    ∷ exception "java.util.NoSuchElementException" "java.lang.RuntimeException"
    ∷ exception "java.io.IOException" "java.lang.Exception"
    ∷ [])

-- what is appended changes nothing, and the builder is given back
abbrev string_builder : List ℕ
string_builder = class_of "java.lang.StringBuilder implements java.lang.CharSequence" (
    idle "void <init>()"
    ∷ idle "void <init>(java.lang.String)"
    ∷ this_of "java.lang.StringBuilder" "java.lang.StringBuilder append(java.lang.String)"
    ∷ this_of "java.lang.StringBuilder" "java.lang.StringBuilder append(int)"
    ∷ this_of "java.lang.StringBuilder" "java.lang.StringBuilder append(char)"
    ∷ this_of "java.lang.StringBuilder" "java.lang.StringBuilder append(long)"
    ∷ this_of "java.lang.StringBuilder" "java.lang.StringBuilder append(boolean)"
    ∷ zero_of "int length()"
    ∷ new_of "java.lang.String" "java.lang.String toString()"
    ∷ [])

-- the two streams are made before the class is used
abbrev system : List ℕ
system = class_of "java.lang.System" (
    bare "static java.io.PrintStream out"
    ∷ bare "static java.io.PrintStream err"
    ∷ method "static void <clinit>()" (concat (
    codes "java.io.PrintStream p, q; "
    ∷ codes "p = new java.io.PrintStream; <java.lang.System: java.io.PrintStream out> = p; "
    ∷ codes "q = new java.io.PrintStream; <java.lang.System: java.io.PrintStream err> = q; return;" ∷ []))
    ∷ zero_of "static long currentTimeMillis()"
    ∷ idle "static void exit(int)"
    ∷ [])

-- the stand-in for output
abbrev print_stream : List ℕ
print_stream = class_of "java.io.PrintStream" (
    idle "void println()"
    ∷ idle "void println(java.lang.String)"
    ∷ idle "void print(java.lang.String)"
    ∷ idle "void println(int)"
    ∷ idle "void print(int)"
    ∷ idle "void println(char)"
    ∷ idle "void print(char)"
    ∷ idle "void println(long)"
    ∷ idle "void print(long)"
    ∷ idle "void println(boolean)"
    ∷ idle "void print(boolean)"
    ∷ text_of_first "void println(java.lang.Object)"
    ∷ text_of_first "void print(java.lang.Object)"
    ∷ [])

-- the interface of what has characters
abbrev char_sequence : List ℕ
char_sequence = interface_of "java.lang.CharSequence" (bare "int length()" ∷ [])

-- the interface of what can be compared
abbrev comparable : List ℕ
comparable = interface_of "java.lang.Comparable" (bare "int compareTo(java.lang.Object)" ∷ [])

-- the stand-in for boxed numbers
abbrev integer : List ℕ
integer = class_of "java.lang.Integer" (
    idle "void <init>(int)"
    ∷ new_of "java.lang.Integer" "static java.lang.Integer valueOf(int)"
    ∷ zero_of "int intValue()"
    ∷ [])

-- the classes in their order
unfoldable pub prelude_text : List ℕ
prelude_text = concat (
    object ∷ string ∷ class ∷ throwable ∷ exceptions ∷ string_builder ∷ system ∷ print_stream ∷ char_sequence ∷ comparable ∷ integer ∷ [])
