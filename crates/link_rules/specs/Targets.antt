-- Which methods a call may run: class hierarchy analysis (Dean, Grove and Chambers 1995), over the classes of which objects are made.
use Rattle.std.specs.Prelude.{◌≡◌, ℕ, ◌<◌, ◌⊎◌, ◌↔◌, List, [], ◌∷◌, Some, false, codes, slice_get, AllPairs}
use Rattle.class_rules.specs.Lookups.{OnPath, Resolve}
use Rattle.class_rules.specs.Rows.{Sub}
use Rattle.lists.specs.Lists.{Has, IsApart}
use Rattle.jim_ast.specs.declared.syntax.Mode.{Mode}
use Rattle.jim_ast.specs.declared.syntax.Mode.TheVariants.{Special, Virtual, Interface, Static}
use Rattle.link_rules.specs.Classes.{DeclaredClass, DeclaredMethod, IsNamed, class_name, methods_of, object_name}
use Rattle.link_rules.specs.Keys.{IsMethodKeyNumber, called_key}
use Rattle.link_rules.specs.Names.{text_of}
use Rattle.link_rules.specs.Statements.{PlainCallAt}
use Rattle.link_rules.specs.World.{World}

-- the exceptions that statements raise by themselves, by their numbers
abbrev pub exception_names : List (List ℕ)
exception_names = codes "java.lang.NullPointerException" ∷ codes "java.lang.ArrayIndexOutOfBoundsException" ∷ codes "java.lang.ArrayStoreException"
    ∷ codes "java.lang.NegativeArraySizeException" ∷ codes "java.lang.ClassCastException" ∷ codes "java.lang.ArithmeticException" ∷ []

-- the classes of the objects that come to be though no statement names them
abbrev pub nine_names : List (List ℕ)
nine_names = object_name ∷ codes "java.lang.String" ∷ codes "java.lang.Class" ∷ exception_names

-- a class may have objects where it is concrete, or one of the nine
abbrev pub IsInstantiable : DeclaredClass → Type 0
IsInstantiable c = ((c.class.interface ≡ false) × (c.class.is_abstract ≡ false)) ⊎ Has nine_names (class_name c)

-- the class with this number is instantiable
pub record IsInstantiableAt (w : World) (number : ℕ) : Type 0 where
  pub class : DeclaredClass
  pub there : slice_get w.classes number ≡ Some class
  pub instantiable : IsInstantiable class

-- an object of this class may be what the call is made on, and this is the method that it runs
pub record Selects (w : World) (class key receiver row : ℕ) : Type 0 where
  pub instantiable : IsInstantiableAt w receiver
  pub below : Sub w.rows receiver class
  pub finds : Resolve w.rows receiver key (Some row)

-- what a call of static or special mode runs is found from the class that it names, in the other modes from the class of the object. A static call
-- runs no default method. That special mode begins at the named class is this project's own rule: the Java Virtual Machine may begin at the calling
-- class's parent
abbrev pub MayRun : World → Mode → ℕ → ℕ → ℕ → Type 0
MayRun w Static class key row = OnPath w.rows class key (Some row)
MayRun w Special class key row = Resolve w.rows class key (Some row)
MayRun w Virtual class key row = (receiver : ℕ) × Selects w class key receiver row
MayRun w Interface class key row = (receiver : ℕ) × Selects w class key receiver row

-- a call, with the numbers of the class and of the key that it names
pub record CallAt (w : World) (m : DeclaredMethod) (index : ℕ) : Type 0 where
  pub at : PlainCallAt m index
  pub class : ℕ
  pub is_class : IsNamed w.classes (text_of m.names at.call.sig.class) class
  pub key : ℕ
  pub is_key : IsMethodKeyNumber (methods_of w.classes) (called_key m.names at.call.mode at.call.sig) key

-- the call at the index may run the method with this number
pub record Calls (w : World) (m : DeclaredMethod) (index row : ℕ) : Type 0 where
  pub names : CallAt w m index
  pub runs : MayRun w names.at.call.mode names.class names.key row

-- before each class that selects the later method stands one that selects the earlier
abbrev pub ComesBefore : World → ℕ → ℕ → ℕ → ℕ → Type 0
ComesBefore w class key earlier later =
    (receiver : ℕ) → Selects w class key receiver later → (first : ℕ) × (first < receiver) × Selects w class key first earlier

-- the methods that a call may run, each once, in the class order of the classes that select them first
pub record AreTargetRows (w : World) (mode : Mode) (class key : ℕ) (rows : List ℕ) : Type 0 where
  pub each : (row : ℕ) → Has rows row ↔ MayRun w mode class key row
  pub apart : IsApart rows
  pub ordered : AllPairs (ComesBefore w class key) rows
