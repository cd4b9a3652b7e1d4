-- Which rules refuse a program, which of them is first, and what is told of it.
use Rattle.std.specs.Prelude.{◌≡◌, ℕ, ◌<◌, ◌⊎◌, List, [], Some, codes, slice_get}
use Rattle.class_rules.specs.Rows.{IsOwnAncestor, NamesUnknown}
use Rattle.link_rules.specs.declared.refusal.LinkKind.{LinkKind}
use Rattle.link_rules.specs.declared.refusal.LinkKind.TheVariants as rule
use Rattle.link_rules.specs.Classes.{DeclaredClass, DeclaredMethod, IsNamed, class_name, method_text, methods_of}
use Rattle.link_rules.specs.Reach.{AreInitialized, DeclaresBody, Reached, RefusesAt}
use Rattle.link_rules.specs.Root.{main_key, root_number, root_of}
use Rattle.link_rules.specs.World.{World}

-- the class has the name of an earlier one. A class of the prelude never has
pub record HasEarlierName (w : World) (number : ℕ) : Type 0 where
  pub class : DeclaredClass
  pub there : slice_get w.classes number ≡ Some class
  pub earlier : ℕ
  pub before : earlier < number
  pub same : IsNamed w.classes (class_name class) earlier

-- the method is `static void main(java.lang.String[])`, has a body, and stands in the class to begin with
pub record IsEntry (w : World) (row : ℕ) : Type 0 where
  pub class : ℕ
  pub named : IsNamed w.classes w.entry class
  pub declares : DeclaresBody w class main_key row

-- the rules that refuse a program as a whole, each at the number of a class
abbrev pub RefusesWhole : World → LinkKind → ℕ → Type 0
RefusesWhole w rule.DuplicateClass number = HasEarlierName w number
RefusesWhole w rule.UnknownParent number = NamesUnknown w.rows.classes w.rows.implements number
RefusesWhole w rule.CyclicClass number = IsOwnAncestor w.rows.classes w.rows.implements number
RefusesWhole w rule.NoEntry number = (number ≡ 0) × ((row : ℕ) → IsEntry w row → ⊥)
RefusesWhole w rule.DuplicateLocal number = ⊥
RefusesWhole w rule.DuplicateLabel number = ⊥
RefusesWhole w rule.UnknownLabel number = ⊥
RefusesWhole w rule.FallsOff number = ⊥
RefusesWhole w rule.UnknownLocal number = ⊥
RefusesWhole w rule.BadIdentity number = ⊥
RefusesWhole w rule.DynamicInvoke number = ⊥
RefusesWhole w rule.Reflection number = ⊥
RefusesWhole w rule.Threads number = ⊥
RefusesWhole w rule.RetStatement number = ⊥
RefusesWhole w rule.NestedArray number = ⊥
RefusesWhole w rule.UnknownClass number = ⊥
RefusesWhole w rule.UnknownField number = ⊥
RefusesWhole w rule.AbstractNew number = ⊥
RefusesWhole w rule.UndeclaredCallee number = ⊥
RefusesWhole w rule.BadArguments number = ⊥
RefusesWhole w rule.NativeCallee number = ⊥
RefusesWhole w rule.AmbiguousDefault number = ⊥

-- a method of a class that a run may reach, or the root with all that it initializes
abbrev pub IsReachedAs : World → ℕ → DeclaredMethod → Type 0
IsReachedAs w number m = (Reached w number × (slice_get (methods_of w.classes) number ≡ Some m))
    ⊎ ((number ≡ root_number w) × (initialized : List ℕ) × AreInitialized w initialized × (m ≡ root_of w initialized))

-- where a rule refuses: the program, at a class or a method; or a method, at an index
pub data Refusal : Type 0 where
  whole : LinkKind → ℕ → Refusal
  within : ℕ → ℕ → LinkKind → Refusal

-- a rule refuses there
abbrev pub Refuses : World → Refusal → Type 0
Refuses w (whole kind number) = RefusesWhole w kind number
Refuses w (within number index kind) = (m : DeclaredMethod) × IsReachedAs w number m × RefusesAt w m index kind

-- the numbers of the rules. 4 was that of a rule that is no more, and isn't used again
abbrev pub number_of : LinkKind → ℕ
number_of rule.DuplicateClass = 1
number_of rule.UnknownParent = 2
number_of rule.CyclicClass = 3
number_of rule.NoEntry = 5
number_of rule.DuplicateLocal = 6
number_of rule.DuplicateLabel = 7
number_of rule.UnknownLabel = 8
number_of rule.FallsOff = 9
number_of rule.UnknownLocal = 10
number_of rule.BadIdentity = 11
number_of rule.DynamicInvoke = 12
number_of rule.Reflection = 13
number_of rule.Threads = 14
number_of rule.RetStatement = 15
number_of rule.NestedArray = 16
number_of rule.UnknownClass = 17
number_of rule.UnknownField = 18
number_of rule.AbstractNew = 19
number_of rule.UndeclaredCallee = 20
number_of rule.BadArguments = 21
number_of rule.NativeCallee = 22
number_of rule.AmbiguousDefault = 23

-- the first two numbers are smaller, or the same and the second two are
abbrev pub IsLexBelow : ℕ → Type 0 → ℕ → Type 0
IsLexBelow a then b = (a < b) ⊎ ((a ≡ b) × then)

-- refusals of the program come first, by the rules' numbers, and then by class or method. Then come those in methods: by method, the root being
-- the last, by index, and by the rules' numbers
abbrev pub IsBefore : Refusal → Refusal → Type 0
IsBefore (whole j m) (whole k n) = IsLexBelow (number_of j) (m < n) (number_of k)
IsBefore (whole j m) (within n i k) = Unit {0}
IsBefore (within m i j) (whole k n) = ⊥
IsBefore (within m h j) (within n i k) = IsLexBelow m (IsLexBelow h (number_of j < number_of k) i) n

-- a rule refuses there, and of all other refusals none comes before it
pub record IsFirst (w : World) (refusal : Refusal) : Type 0 where
  pub refuses : Refuses w refusal
  pub first : (other : Refusal) → Refuses w other → IsBefore other refusal → ⊥

-- no rule refuses the program
abbrev pub IsAccepted : World → Type 0
IsAccepted w = (refusal : Refusal) → Refuses w refusal → ⊥

-- the text of a method by its number
abbrev pub IsTextOf : World → ℕ → List ℕ → Type 0
IsTextOf w number text = ((m : DeclaredMethod) × (slice_get (methods_of w.classes) number ≡ Some m) × (text ≡ method_text m))
    ⊎ ((number ≡ root_number w) × (text ≡ codes "root"))

-- what is told of a refusal of the program: the class, or of the class to begin with nothing
abbrev pub IsPlaceOf : World → LinkKind → ℕ → List ℕ → Type 0
IsPlaceOf w rule.NoEntry number place = place ≡ []
IsPlaceOf w rule.DuplicateClass number place = IsNamed w.classes place number
IsPlaceOf w rule.UnknownParent number place = IsNamed w.classes place number
IsPlaceOf w rule.CyclicClass number place = IsNamed w.classes place number
IsPlaceOf w rule.DuplicateLocal number place = IsNamed w.classes place number
IsPlaceOf w rule.DuplicateLabel number place = IsNamed w.classes place number
IsPlaceOf w rule.UnknownLabel number place = IsNamed w.classes place number
IsPlaceOf w rule.FallsOff number place = IsNamed w.classes place number
IsPlaceOf w rule.UnknownLocal number place = IsNamed w.classes place number
IsPlaceOf w rule.BadIdentity number place = IsNamed w.classes place number
IsPlaceOf w rule.DynamicInvoke number place = IsNamed w.classes place number
IsPlaceOf w rule.Reflection number place = IsNamed w.classes place number
IsPlaceOf w rule.Threads number place = IsNamed w.classes place number
IsPlaceOf w rule.RetStatement number place = IsNamed w.classes place number
IsPlaceOf w rule.NestedArray number place = IsNamed w.classes place number
IsPlaceOf w rule.UnknownClass number place = IsNamed w.classes place number
IsPlaceOf w rule.UnknownField number place = IsNamed w.classes place number
IsPlaceOf w rule.AbstractNew number place = IsNamed w.classes place number
IsPlaceOf w rule.UndeclaredCallee number place = IsNamed w.classes place number
IsPlaceOf w rule.BadArguments number place = IsNamed w.classes place number
IsPlaceOf w rule.NativeCallee number place = IsNamed w.classes place number
IsPlaceOf w rule.AmbiguousDefault number place = IsNamed w.classes place number

-- the rule, the place and the index that are told of a refusal
abbrev pub IsTold : World → Refusal → LinkKind → List ℕ → ℕ → Type 0
IsTold w (whole cause number) kind place index = (kind ≡ cause) × IsPlaceOf w cause number place × (index ≡ 0)
IsTold w (within number at cause) kind place index = (kind ≡ cause) × IsTextOf w number place × (index ≡ at)
