-- What the steps of the search add.
use Rattle.std.proofs.Common.{◌≡◌, ℕ, suc, ◌⊎◌, ◌↔◌, zero, Bool, true, false, true≢false, Option, Some, None, Result, Ok, Err, OnOk, MatchBool, MatchOption, IsTrue, List, [], ◌∷◌, ◌++◌, refl, sym, ap, subst, ◌∙◌, inl, inr, slice_get, arith}
use Rattle.std.specs.List.{Contains}
use Rattle.std.specs.Option.{is_some, option_to_list}
use Rattle.std.proofs.lemmas.List.{append-nil, append_assoc}
use Rattle.std.proofs.lemmas.Option.{slice_get-get_or}
use Rattle.class_rules.specs.Rows.{HasParent, interfaces_of}
use Rattle.lists.proofs.Elements.{Contains-at}
use Rattle.class_rules.proofs.Parents.{interface_listed, interface_named}
use Rattle.lists.specs.Lists.{Adds, Has}
use Rattle.lists.proofs.Places.{Has-adds_itself, slice_get-added, slice_get-adds, slice_get-append_left, slice_get-push}
use Rattle.link_rules.specs.Classes.{DeclaredMethod, methods_of}
use Rattle.link_rules.specs.Reach.{DeclaresBody, IsMethod}
use Rattle.link_rules.specs.Root.{initializer_key, root_number, root_of}
use Rattle.link_rules.specs.World.{World}
use Rattle.link_faults.specs.declared.examined.Examined.{Examined}
use Rattle.link_faults.specs.declared.examined.Fault.{Fault}
use Rattle.link_faults.specs.Examined.{HasNoFault, IsExamined, IsFirstFault}
use Rattle.link_reach.specs.declared.search.Found.{Found}
use Rattle.link_reach.specs.Firsts.{IsRow}
use Rattle.link_reach.specs.Graph.{Leads, Node, method, class, begins}
use Rattle.link_reach.specs.Search.{Above, AddsAll, Finds, FromMethod, InitializedBy, IsFound, IsSearched}
use Rattle.link_reach.proofs.FirstFaults.{has_pushed, has_before, has_last}

-- nothing was added
pub adds_none : (old : List ℕ) → AddsAll [] old old
adds_none old = record {
  each = λ n. ((λ h. inl h), (λ h. elim h [ inl was ↦ was | inr none ↦ cc (none.1) ]));
  behind = [];
  grown = sym (append-nil old);
}

-- one more was added
pub adds_more : (added old mid new : List ℕ) (x : ℕ) → AddsAll added old mid → Adds mid x new → AddsAll (added ++ x ∷ []) old new
adds_more added old mid new x all one = record {
  each = λ n. (to n, from n);
  behind = behind;
  grown = grown;
}
  where
    to : (n : ℕ) → Has new n → Has old n ⊎ Has (added ++ x ∷ []) n
    to n h = elim (slice_get-added mid new x one h.0 n h.1) [
      | inl before ↦ elim ((all.each n).0 (h.0, before)) [ inl was ↦ inl was | inr more ↦ inr (has_before added x n more) ]
      | inr same ↦ inr (subst (Has (added ++ x ∷ [])) (sym same) (has_last added x))
    ]

    kept : (n : ℕ) → Has mid n → Has new n
    kept n h = (h.0, slice_get-adds mid new x one h.0 n h.1)

    from : (n : ℕ) → Has old n ⊎ Has (added ++ x ∷ []) n → Has new n
    from n (inl was) = kept n ((all.each n).1 (inl was))
    from n (inr more) = elim (has_pushed added x n more) [
      | inl before ↦ kept n ((all.each n).1 (inr before))
      | inr same ↦ subst (Has new) (sym same) (Has-adds_itself mid new x one)
    ]

    behind_by : (Has mid x × (new ≡ mid)) ⊎ ((Has mid x → ⊥) × (new ≡ mid ++ x ∷ [])) → (behind : List ℕ) × (new ≡ old ++ behind)
    behind_by (inl was) = (all.behind, was.1 ∙ all.grown)
    behind_by (inr is_new) = (all.behind ++ x ∷ [], is_new.1 ∙ ap (λ (xs : List ℕ). xs ++ x ∷ []) all.grown ∙ append_assoc old all.behind (x ∷ []))

    behind : List ℕ
    behind = (behind_by one).0

    grown : new ≡ old ++ behind
    grown = (behind_by one).1

-- both words for an element of a list
pub has_contains : (xs : List ℕ) (x : ℕ) → Has xs x → Contains xs x
has_contains xs x h = Contains-at xs h.0 x h.1

pub contains_has : (xs : List ℕ) (x : ℕ) → Contains xs x → Has xs x
contains_has xs x c = (c.0, slice_get-get_or xs c.0 x c.1 ∙ ap Some c.2)

-- a number that is put into the set is added
pub adds_put : (old new : List ℕ) (x : ℕ) (is_new : Bool) → MatchBool is_new ((new ≡ old ++ x ∷ []) × (Contains old x → ⊥)) ((new ≡ old) × Contains old x) → Adds old x new
adds_put old new x true (grown, none) = inr ((λ h. none (has_contains old x h)), grown)
adds_put old new x false (same, there) = inl (contains_has old x there, same)

-- the facts of nodes are the same
pub finds_same : (P Q : Node → Type 0) (old new : Found) → ((a : Node) → P a → Q a) → ((a : Node) → Q a → P a) → Finds P old new → Finds Q old new
finds_same P Q old new to from f = record {
  each = λ a. ((λ h. elim ((f.each a).0 h) [ inl was ↦ inl was | inr p ↦ inr (to a p) ]), (λ h. elim h [ inl was ↦ (f.each a).1 (inl was) | inr q ↦ (f.each a).1 (inr (from a q)) ]));
  methods_behind = f.methods_behind;
  methods_grown = f.methods_grown;
  classes_behind = f.classes_behind;
  classes_grown = f.classes_grown;
}

-- one thing after the other
pub finds_both : (P Q R : Node → Type 0) (old mid new : Found) → ((a : Node) → P a ⊎ Q a → R a) → ((a : Node) → R a → P a ⊎ Q a)
    → Finds P old mid → Finds Q mid new → Finds R old new
finds_both P Q R old mid new to from f g = record {
  each = λ a. (there a, back a);
  methods_behind = f.methods_behind ++ g.methods_behind;
  methods_grown = g.methods_grown ∙ ap (λ (xs : List ℕ). xs ++ g.methods_behind) f.methods_grown ∙ append_assoc old.methods f.methods_behind g.methods_behind;
  classes_behind = f.classes_behind ++ g.classes_behind;
  classes_grown = g.classes_grown ∙ ap (λ (xs : List ℕ). xs ++ g.classes_behind) f.classes_grown ∙ append_assoc old.classes f.classes_behind g.classes_behind;
}
  where
    there : (a : Node) → IsFound new a → IsFound old a ⊎ R a
    there a h = elim ((g.each a).0 h) [
      | inl before ↦ elim ((f.each a).0 before) [ inl was ↦ inl was | inr p ↦ inr (to a (inl p)) ]
      | inr q ↦ inr (to a (inr q))
    ]

    back : (a : Node) → IsFound old a ⊎ R a → IsFound new a
    back a (inl was) = (g.each a).1 (inl ((f.each a).1 (inl was)))
    back a (inr r) = elim (from a r) [ inl p ↦ (g.each a).1 (inl ((f.each a).1 (inr p))) | inr q ↦ (g.each a).1 (inr q) ]

-- the lists of an examined method were added
pub finds_examined : (w : World) (m : DeclaredMethod) (e : Examined) (old new : Found) → IsExamined w m e
    → AddsAll e.rows.items old.methods new.methods → AddsAll e.touched.items old.classes new.classes → Finds (FromMethod w m) old new
finds_examined w m e old new is rows touched = record {
  each = λ a. (there a, back a);
  methods_behind = rows.behind;
  methods_grown = rows.grown;
  classes_behind = touched.behind;
  classes_grown = touched.grown;
}
  where
    there : (a : Node) → IsFound new a → IsFound old a ⊎ FromMethod w m a
    there (method row) h = elim ((rows.each row).0 h) [ inl was ↦ inl was | inr one ↦ inr ((is.targets row).0 one) ]
    there (class c) h = elim ((touched.each c).0 h) [ inl was ↦ inl was | inr one ↦ inr ((is.touched c).0 one) ]

    back : (a : Node) → IsFound old a ⊎ FromMethod w m a → IsFound new a
    back (method row) (inl was) = (rows.each row).1 (inl was)
    back (method row) (inr runs) = (rows.each row).1 (inr ((is.targets row).1 runs))
    back (class c) (inl was) = (touched.each c).1 (inl was)
    back (class c) (inr touches) = (touched.each c).1 (inr ((is.touched c).1 touches))

-- what a method leads to
module _ (w : World) (number : ℕ) (m : DeclaredMethod) (is : IsMethod w number m) where
  same_method : (other : DeclaredMethod) → IsMethod w number other → other ≡ m
  same_method other there = cc

  pub leads_from : (a : Node) → FromMethod w m a → Leads w (method number) a
  leads_from (method row) runs = (m, is, runs)
  leads_from (class c) touches = (m, is, touches)

  pub from_leads : (a : Node) → Leads w (method number) a → FromMethod w m a
  from_leads (method row) l = subst (λ z. FromMethod w z (method row)) (same_method l.0 l.1) l.2
  from_leads (class c) l = subst (λ z. FromMethod w z (class c)) (same_method l.0 l.1) l.2

  -- what a method runs and touches is what it leads to
  pub finds_method : (old new : Found) → Finds (FromMethod w m) old new → Finds (Leads w (method number)) old new
  finds_method old new f = finds_same (FromMethod w m) (Leads w (method number)) old new leads_from from_leads f

-- the root is the method with the root's number
pub root_is : (w : World) → IsMethod w (root_number w) (root_of w [])
root_is w = slice_get-push (methods_of w.classes) (root_of w [])

-- a method of a class is a method
pub row_is : (w : World) (row : ℕ) (m : DeclaredMethod) → IsRow w row m → IsMethod w row m
row_is w row m is = slice_get-append_left (methods_of w.classes) (root_of w [] ∷ []) row m is

-- what a class leads to is what is above it and what its initializer runs
pub class_leads : (w : World) (c : ℕ) (a : Node) → Above w c a ⊎ InitializedBy w c a → Leads w (class c) a
class_leads w c (method row) (inl none) = absurd none
class_leads w c (method row) (inr l) = l
class_leads w c (class above) (inl s) = s
class_leads w c (class above) (inr none) = absurd none

pub leads_class : (w : World) (c : ℕ) (a : Node) → Leads w (class c) a → Above w c a ⊎ InitializedBy w c a
leads_class w c (method row) l = inr l
leads_class w c (class above) s = inl s

has_option : (o : Option ℕ) (x : ℕ) → Has (option_to_list o) x → o ≡ Some x
has_option None x h = cc (h.1)
has_option (Some y) x h = at h.0 h.1
  where
    at : (i : ℕ) → slice_get (y ∷ []) i ≡ Some x → Some y ≡ Some x
    at zero e = e
    at (suc i) e = cc

option_has : (o : Option ℕ) (x : ℕ) → o ≡ Some x → Has (option_to_list o) x
option_has o x e = rw e (0, refl)

-- the parent and the interfaces of a class are what is above it
pub finds_above : (w : World) (c : ℕ) (old mid new : Found) (parent : Option ℕ) → ((b : ℕ) → (parent ≡ Some b) ↔ HasParent w.rows.classes c b)
    → old.methods ≡ mid.methods → mid.methods ≡ new.methods
    → AddsAll (option_to_list parent) old.classes mid.classes → AddsAll (interfaces_of w.rows.implements c) mid.classes new.classes
    → Finds (Above w c) old new
finds_above w c old mid new parent is_parent same same_too one all = record {
  each = λ a. (there a, back a);
  methods_behind = [];
  methods_grown = sym (append-nil old.methods ∙ same ∙ same_too);
  classes_behind = one.behind ++ all.behind;
  classes_grown = all.grown ∙ ap (λ (xs : List ℕ). xs ++ all.behind) one.grown ∙ append_assoc old.classes one.behind all.behind;
}
  where
    there : (a : Node) → IsFound new a → IsFound old a ⊎ Above w c a
    there (method row) h = inl (subst (λ (xs : List ℕ). Has xs row) (sym (same ∙ same_too)) h)
    there (class b) h = elim ((all.each b).0 h) [
      | inl before ↦ elim ((one.each b).0 before) [
        | inl was ↦ inl was
        | inr p ↦ inr (inl ((is_parent b).0 (has_option parent b p)))
      ]
      | inr i ↦ inr (inr (interface_named w.rows.implements c b (has_contains _ b i)))
    ]

    back : (a : Node) → IsFound old a ⊎ Above w c a → IsFound new a
    back (method row) (inl was) = subst (λ (xs : List ℕ). Has xs row) (same ∙ same_too) was
    back (method row) (inr none) = absurd none
    back (class b) (inl was) = (all.each b).1 (inl ((one.each b).1 (inl was)))
    back (class b) (inr (inl p)) = (all.each b).1 (inl ((one.each b).1 (inr (option_has parent b ((is_parent b).1 p)))))
    back (class b) (inr (inr i)) = (all.each b).1 (inr (contains_has _ b (interface_listed w.rows.implements c b i)))

-- the class has no initializer
pub finds_no_initializer : (w : World) (c : ℕ) (old : Found) → ((row : ℕ) → DeclaresBody w c initializer_key row → ⊥) → Finds (InitializedBy w c) old old
finds_no_initializer w c old none = record {
  each = λ a. ((λ h. inl h), back a);
  methods_behind = [];
  methods_grown = sym (append-nil old.methods);
  classes_behind = [];
  classes_grown = sym (append-nil old.classes);
}
  where
    back : (a : Node) → IsFound old a ⊎ InitializedBy w c a → IsFound old a
    back (method row) (inl was) = was
    back (class b) (inl was) = was
    back (method row) (inr l) = absurd (none l.0 l.1)
    back (class b) (inr no_class) = absurd no_class

-- the rows of the root that initializes the class were added
pub finds_initializer : (w : World) (c initializer : ℕ) (e : Examined) (old new : Found) → DeclaresBody w c initializer_key initializer → IsExamined w (root_of w (c ∷ [])) e
    → AddsAll e.rows.items old.methods new.methods → old.classes ≡ new.classes → Finds (InitializedBy w c) old new
finds_initializer w c initializer e old new declares is rows same = record {
  each = λ a. (there a, back a);
  methods_behind = rows.behind;
  methods_grown = rows.grown;
  classes_behind = [];
  classes_grown = sym (append-nil old.classes ∙ same);
}
  where
    there : (a : Node) → IsFound new a → IsFound old a ⊎ InitializedBy w c a
    there (method row) h = elim ((rows.each row).0 h) [ inl was ↦ inl was | inr one ↦ inr (initializer, declares, (is.targets row).0 one) ]
    there (class b) h = inl (subst (λ (xs : List ℕ). Has xs b) (sym same) h)

    back : (a : Node) → IsFound old a ⊎ InitializedBy w c a → IsFound new a
    back (method row) (inl was) = (rows.each row).1 (inl was)
    back (method row) (inr l) = (rows.each row).1 (inr ((is.targets row).1 l.2))
    back (class b) (inl was) = subst (λ (xs : List ℕ). Has xs b) same was
    back (class b) (inr no_class) = absurd no_class

-- a class is done
pub finds_class : (w : World) (c : ℕ) (old mid new : Found) → Finds (Above w c) old mid → Finds (InitializedBy w c) mid new → Finds (Leads w (class c)) old new
finds_class w c old mid new f g = finds_both (Above w c) (InitializedBy w c) (Leads w (class c)) old mid new (class_leads w c) (leads_class w c) f g

-- the same where the last step may want memory

pub finds_examined_ok : {E : Type 0} (e : Examined) (old new : Found) (r : Result Unit E) → AddsAll e.rows.items old.methods new.methods
    → OnOk r (AddsAll e.touched.items old.classes new.classes)
    → OnOk r ((w : World) (m : DeclaredMethod) → IsExamined w m e → Finds (FromMethod w m) old new)
finds_examined_ok e old new (Ok x) rows touched = λ w m is. finds_examined w m e old new is rows touched
finds_examined_ok e old new (Err x) rows touched = cc

pub finds_class_ok : {E : Type 0} (w : World) (c : ℕ) (old mid new : Found) (r : Result Unit E) → Finds (Above w c) old mid → OnOk r (Finds (InitializedBy w c) mid new)
    → OnOk r (Finds (Leads w (class c)) old new)
finds_class_ok w c old mid new (Ok x) f g = finds_class w c old mid new f g
finds_class_ok w c old mid new (Err x) f g = cc

pub finds_above_ok : {E : Type 0} (w : World) (c : ℕ) (old mid new : Found) (parent : Option ℕ) (r : Result Unit E) → ((b : ℕ) → (parent ≡ Some b) ↔ HasParent w.rows.classes c b)
    → old.methods ≡ mid.methods → mid.methods ≡ new.methods
    → AddsAll (option_to_list parent) old.classes mid.classes → OnOk r (AddsAll (interfaces_of w.rows.implements c) mid.classes new.classes)
    → OnOk r (Finds (Above w c) old new)
finds_above_ok w c old mid new parent (Ok x) is_parent same same_too one all = finds_above w c old mid new parent is_parent same same_too one all
finds_above_ok w c old mid new parent (Err x) is_parent same same_too one all = cc

pub finds_initializer_ok : {E : Type 0} (w : World) (c initializer : ℕ) (e : Examined) (old new : Found) (r : Result Unit E) → DeclaresBody w c initializer_key initializer → IsExamined w (root_of w (c ∷ [])) e
    → OnOk r (AddsAll e.rows.items old.methods new.methods) → old.classes ≡ new.classes → OnOk r (Finds (InitializedBy w c) old new)
finds_initializer_ok w c initializer e old new (Ok x) declares is rows same = finds_initializer w c initializer e old new declares is rows same
finds_initializer_ok w c initializer e old new (Err x) declares is rows same = cc

pub finds_root_ok : {E : Type 0} (w : World) (e : Examined) (old new : Found) (r : Result Unit E) → IsExamined w (root_of w []) e
    → OnOk r ((w : World) (m : DeclaredMethod) → IsExamined w m e → Finds (FromMethod w m) old new)
    → OnOk r (Finds (Leads w (method (root_number w))) old new)
finds_root_ok w e old new (Ok x) is finds = finds_method w (root_number w) (root_of w []) (root_is w) old new (finds w (root_of w []) is)
finds_root_ok w e old new (Err x) is finds = cc

-- nothing is found yet but what the root leads to
pub searched_begins : (w : World) (old new : Found) → old.methods ≡ [] → old.classes ≡ [] → Finds (Leads w (method (root_number w))) old new
    → IsSearched w (record { found = new; methods_done = 0; classes_done = 0; first = None })
searched_begins w old new no_methods no_classes f = record {
  sound = λ a h. elim ((f.each a).0 h) [ inl was ↦ absurd (empty a was) | inr l ↦ begins l ];
  closed = record {
    begun = λ a l. (f.each a).1 (inr l);
    of_methods = λ i number below. absurd (omega (arith, below));
    of_classes = λ i c below. absurd (omega (arith, below));
  };
  first = λ row m h. cc (h.1);
  methods_there = omega arith;
  classes_there = omega arith;
}
  where
    empty : (a : Node) → IsFound old a → ⊥
    empty (method row) h = let e : slice_get [] h.0 ≡ Some row = subst (λ (xs : List ℕ). slice_get xs h.0 ≡ Some row) no_methods h.1 in cc
    empty (class c) h = let e : slice_get [] h.0 ≡ Some c = subst (λ (xs : List ℕ). slice_get xs h.0 ≡ Some c) no_classes h.1 in cc

-- an option without a value, and one with a value
pub none_of : (o : Option ℕ) → is_some o ≡ false → (x : ℕ) → o ≡ Some x → ⊥
none_of None e x there = cc
none_of (Some y) e x there = cc

pub some_of : (o : Option ℕ) → is_some o ≡ true → (x : ℕ) × (o ≡ Some x)
some_of None e = absurd cc
some_of (Some y) e = (y, refl)

-- what is said of the method in a row
pub judged_same : (w : World) (row : ℕ) (one other : DeclaredMethod) → IsRow w row one → IsRow w row other → (fault : Option Fault)
    → MatchOption fault (HasNoFault w one) (IsFirstFault w one) → MatchOption fault (HasNoFault w other) (IsFirstFault w other)
judged_same w row one other is is_too fault judged = let same : one ≡ other = cc in subst (λ m. MatchOption fault (HasNoFault w m) (IsFirstFault w m)) same judged

-- what a test of a set tells
pub has_if : (numbers : List ℕ) (n : ℕ) (b : Bool) → IsTrue b ↔ Contains numbers n → b ≡ true → Has numbers n
has_if numbers n b is holds = contains_has numbers n (is.0 holds)

pub has_not : (numbers : List ℕ) (n : ℕ) (b : Bool) → IsTrue b ↔ Contains numbers n → b ≡ false → Has numbers n → ⊥
has_not numbers n b is fails h = true≢false (sym (is.1 (has_contains numbers n h)) ∙ fails)
