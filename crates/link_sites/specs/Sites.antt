-- The allocation sites of a linked program, the classes of their objects, and the fields that these have.
use Rattle.std.specs.Prelude.{◌≡◌, ℕ, ◌+◌, ◌<◌, ◌⊎◌, List, Some, false, codes, length, slice_get}
use Rattle.std.specs.Cmp.Lexicographic.{slice_cmp}
use Rattle.std.specs.Ordering.{nat_cmp}
use Rattle.std.specs.declared.cmp.Ordering.TheVariants.{Less}
use Rattle.class_rules.specs.Rows.{Sub}
use Rattle.link_rules.specs.declared.code.Code.{Code}
use Rattle.link_rules.specs.declared.code.Code.TheVariants.{This, Param, Caught, Copy, Cast, New, NewArray, NewMulti, Numeric, Length, Load, Store, LoadCell, StoreCell, LoadStatic, StoreStatic, Call, If, Goto, Switch, Return, Throw, Monitor, Skip}
use Rattle.link_rules.specs.Classes.{object_name}
use Rattle.link_rules.specs.Flow.{MayRaise}
use Rattle.link_rules.specs.Linked.{LinkedProgram}
use Rattle.link_rules.specs.Targets.{exception_names}
use Rattle.link_rules.specs.WellLinked.{MakesArrays}
use Rattle.link_rules.specs.Accessed.{field_class, linked_class_names, IsFirstPlace}
use Rattle.link_sites.specs.declared.place.Place.{Place}
use Rattle.link_sites.specs.declared.site.Site.{Site}
use Rattle.link_sites.specs.declared.site.Site.TheVariants as site
use Rattle.link_sites.specs.Places.{ComesBefore, HasCode, IsSameStatement}

-- the statement makes objects, or arrays
abbrev pub Makes : Code → Type 0
Makes (New to class) = Unit {0}
Makes (NewArray to) = Unit {0}
Makes (NewMulti to levels) = Unit {0}
Makes (This to) = ⊥
Makes (Param to number) = ⊥
Makes (Caught to) = ⊥
Makes (Copy to arg) = ⊥
Makes (Cast to arg) = ⊥
Makes (Numeric to divides) = ⊥
Makes (Length to arg) = ⊥
Makes (Load to base field) = ⊥
Makes (Store base field arg) = ⊥
Makes (LoadCell to base) = ⊥
Makes (StoreCell base arg) = ⊥
Makes (LoadStatic to field) = ⊥
Makes (StoreStatic field arg) = ⊥
Makes (Call to mode class key receiver args targets) = ⊥
Makes (If jump) = ⊥
Makes (Goto jump) = ⊥
Makes (Switch jumps) = ⊥
Makes (Return arg) = ⊥
Makes (Throw arg) = ⊥
Makes (Monitor arg) = ⊥
Makes Skip = ⊥

-- the statement makes arrays of arrays, of which this is an inner level: the outermost level is 0
abbrev pub HasLevel : ℕ → Code → Type 0
HasLevel level (NewMulti to levels) = (0 < level) × (level < levels)
HasLevel level _ = ⊥

-- the statement at the place has the fact, and no exception is in flight there
abbrev pub IsUnraised : LinkedProgram → Place → (Code → Type 0) → Type 0
IsUnraised p place Fact = (place.raised ≡ false) × HasCode p place.method place.index Fact

-- a site of the program. A constant that no start node has is one too: it has an object, which nothing holds
abbrev pub IsSite : LinkedProgram → Site → Type 0
IsSite p (site.New place) = IsUnraised p place Makes
IsSite p (site.Nested place level) = IsUnraised p place (HasLevel level)
IsSite p (site.Raised place kind) = IsUnraised p place (λ code. MayRaise code kind)
IsSite p (site.Text number) = number < length p.texts
IsSite p (site.Class number) = number < length p.class_texts

-- the first class with this name
abbrev pub IsNamedClass : LinkedProgram → List ℕ → ℕ → Type 0
IsNamedClass p name class = IsFirstPlace (linked_class_names p.classes) name class

-- the class of what a statement makes; that of an array is `java.lang.Object`
abbrev pub IsClassOfMade : LinkedProgram → Code → ℕ → Type 0
IsClassOfMade p (New to made) class = class ≡ made
IsClassOfMade p (NewArray to) class = IsNamedClass p object_name class
IsClassOfMade p (NewMulti to levels) class = IsNamedClass p object_name class
IsClassOfMade p (This to) class = ⊥
IsClassOfMade p (Param to number) class = ⊥
IsClassOfMade p (Caught to) class = ⊥
IsClassOfMade p (Copy to arg) class = ⊥
IsClassOfMade p (Cast to arg) class = ⊥
IsClassOfMade p (Numeric to divides) class = ⊥
IsClassOfMade p (Length to arg) class = ⊥
IsClassOfMade p (Load to base field) class = ⊥
IsClassOfMade p (Store base field arg) class = ⊥
IsClassOfMade p (LoadCell to base) class = ⊥
IsClassOfMade p (StoreCell base arg) class = ⊥
IsClassOfMade p (LoadStatic to field) class = ⊥
IsClassOfMade p (StoreStatic field arg) class = ⊥
IsClassOfMade p (Call to mode named key receiver args targets) class = ⊥
IsClassOfMade p (If jump) class = ⊥
IsClassOfMade p (Goto jump) class = ⊥
IsClassOfMade p (Switch jumps) class = ⊥
IsClassOfMade p (Return arg) class = ⊥
IsClassOfMade p (Throw arg) class = ⊥
IsClassOfMade p (Monitor arg) class = ⊥
IsClassOfMade p Skip class = ⊥

-- the class of the exceptions of this kind
abbrev pub IsClassOfRaised : LinkedProgram → ℕ → ℕ → Type 0
IsClassOfRaised p kind class = (name : List ℕ) × (slice_get exception_names kind ≡ Some name) × IsNamedClass p name class

-- the class of the objects of a site
abbrev pub IsSiteClass : LinkedProgram → Site → ℕ → Type 0
IsSiteClass p (site.New place) class = IsUnraised p place (λ code. IsClassOfMade p code class)
IsSiteClass p (site.Nested place level) class = IsUnraised p place (HasLevel level) × IsNamedClass p object_name class
IsSiteClass p (site.Raised place kind) class = IsUnraised p place (λ code. MayRaise code kind) × IsClassOfRaised p kind class
IsSiteClass p (site.Text number) class = (number < length p.texts) × IsNamedClass p (codes "java.lang.String") class
IsSiteClass p (site.Class number) class = (number < length p.class_texts) × IsNamedClass p (codes "java.lang.Class") class

-- the objects of the site are arrays
abbrev pub IsArraySite : LinkedProgram → Site → Type 0
IsArraySite p (site.New place) = IsUnraised p place MakesArrays
IsArraySite p (site.Nested place level) = IsUnraised p place (HasLevel level)
IsArraySite p (site.Raised place kind) = ⊥
IsArraySite p (site.Text number) = ⊥
IsArraySite p (site.Class number) = ⊥

-- the arrays of the outer site hold those of the inner one: the next level, where there is one
abbrev pub IsInnerSite : LinkedProgram → Site → Site → Type 0
IsInnerSite p (site.New place) inner = IsUnraised p place (HasLevel 1) × (inner ≡ site.Nested place 1)
IsInnerSite p (site.Nested place level) inner = IsUnraised p place (HasLevel (level + 1)) × (inner ≡ site.Nested place (level + 1))
IsInnerSite p (site.Raised place kind) inner = ⊥
IsInnerSite p (site.Text number) inner = ⊥
IsInnerSite p (site.Class number) inner = ⊥

-- objects of this class have the instance field: the class is below the one that declares it
abbrev pub HasDeclared : LinkedProgram → ℕ → ℕ → Type 0
HasDeclared p class field = (declaring : ℕ) × (field_class p field ≡ Some declaring) × Sub p.rows class declaring

-- the objects of the site have the field: each declared field that their class has, and arrays have their elements, which the number 0 stands for
abbrev pub HasField : LinkedProgram → Site → ℕ → Type 0
HasField p s field = ((field ≡ 0) × IsArraySite p s) ⊎ ((class : ℕ) × IsSiteClass p s class × HasDeclared p class field)

-- a comes before b by the bytes of the texts
abbrev pub IsTextBefore : List (List ℕ) → ℕ → ℕ → Type 0
IsTextBefore texts a b = (first : List ℕ) × (second : List ℕ) × (slice_get texts a ≡ Some first) × (slice_get texts b ≡ Some second)
    × (slice_cmp nat_cmp first second ≡ Less)

-- the order in which sites are printed: what statements make and raise by statement, at one statement what it makes first, then inner levels, and
-- then what it raises, by kind; then texts and then class constants, each by bytes
abbrev pub Precedes : LinkedProgram → Site → Site → Type 0
Precedes p (site.New a) (site.New b) = ComesBefore a b
Precedes p (site.New a) (site.Nested b level) = ComesBefore a b ⊎ IsSameStatement a b
Precedes p (site.New a) (site.Raised b kind) = ComesBefore a b ⊎ IsSameStatement a b
Precedes p (site.New a) (site.Text b) = Unit {0}
Precedes p (site.New a) (site.Class b) = Unit {0}
Precedes p (site.Nested a level) (site.New b) = ComesBefore a b
Precedes p (site.Nested a level) (site.Nested b other) = ComesBefore a b ⊎ (IsSameStatement a b × (level < other))
Precedes p (site.Nested a level) (site.Raised b kind) = ComesBefore a b ⊎ IsSameStatement a b
Precedes p (site.Nested a level) (site.Text b) = Unit {0}
Precedes p (site.Nested a level) (site.Class b) = Unit {0}
Precedes p (site.Raised a kind) (site.New b) = ComesBefore a b
Precedes p (site.Raised a kind) (site.Nested b level) = ComesBefore a b
Precedes p (site.Raised a kind) (site.Raised b other) = ComesBefore a b ⊎ (IsSameStatement a b × (kind < other))
Precedes p (site.Raised a kind) (site.Text b) = Unit {0}
Precedes p (site.Raised a kind) (site.Class b) = Unit {0}
Precedes p (site.Text a) (site.New b) = ⊥
Precedes p (site.Text a) (site.Nested b level) = ⊥
Precedes p (site.Text a) (site.Raised b kind) = ⊥
Precedes p (site.Text a) (site.Text b) = IsTextBefore p.texts a b
Precedes p (site.Text a) (site.Class b) = Unit {0}
Precedes p (site.Class a) (site.New b) = ⊥
Precedes p (site.Class a) (site.Nested b level) = ⊥
Precedes p (site.Class a) (site.Raised b kind) = ⊥
Precedes p (site.Class a) (site.Text b) = ⊥
Precedes p (site.Class a) (site.Class b) = IsTextBefore p.class_texts a b
