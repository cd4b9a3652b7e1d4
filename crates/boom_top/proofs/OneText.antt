-- What replies name, as places, sites and nodes, has one text.
use Rattle.std.proofs.Common.{◌≡◌, ℕ, ◌-◌, ◌<◌, ◌++◌, List, Some, codes, map, slice_get, get_or, sym, ap, subst, ◌∙◌, inl, inr, arith}
use Rattle.std.proofs.lemmas.Bool.{cases_lt}
use Rattle.std.proofs.lemmas.List.{length-map}
use Rattle.std.proofs.lemmas.Option.{get_or_from_slice_get, same_Some, slice_get_within}
use Rattle.lists.proofs.Places.{slice_get-below, slice_get-extensional, slice_get-there}
use Rattle.lists.specs.Lists.{AreIncreasing, Each}
use Rattle.link_rules.specs.declared.code.Code.{Code}
use Rattle.link_rules.specs.declared.code.Code.TheVariants.{New, NewArray, NewMulti}
use Rattle.link_rules.specs.Linked.{Element, LinkedMethod, LinkedProgram}
use Rattle.link_rules.specs.Names.{brackets}
use Rattle.link_rules.specs.WellLinked.{FitsMethod, IsInForm}
use Rattle.link_laws.proofs.Lists.{at_all, map_at}
use Rattle.link_rules.specs.Accessed.{HasElementText}
use Rattle.link_sites.specs.declared.place.Place.{Place}
use Rattle.link_sites.specs.declared.site.Site.{Site}
use Rattle.link_sites.specs.declared.site.Site.TheVariants as site
use Rattle.spds_rules.specs.declared.node.Node.{Node}
use Rattle.spds_rules.specs.declared.node.Var.{Var}
use Rattle.spds_rules.specs.declared.node.Var.TheVariants.{Local}
use Rattle.spds_nodes.proofs.Statements.{CodeAt-one}
use Rattle.report_text.specs.Answers.{IsQueryLine, IsTargetText, IsVarName, IsWordedSite}
use Rattle.report_text.specs.Texts.{IsArrayText, IsMadeAt, IsMadeText, IsNewText, IsPlaceText, IsSiteText, constant_text}

-- where each element has one line, each list of elements has one list of lines
pub each_one : {X : Type 0} (R : X → List ℕ → Type 0) → ((x : X) (a b : List ℕ) → R x a → R x b → a ≡ b)
    → (items : List X) (xs ys : List (List ℕ)) → Each R items xs → Each R items ys → xs ≡ ys
each_one R one items xs ys x y = slice_get-extensional xs ys (sym x.as_many ∙ y.as_many) same
  where
    same : (i : ℕ) (a b : List ℕ) → slice_get xs i ≡ Some a → slice_get ys i ≡ Some b → a ≡ b
    same i a b here there =
        let item = slice_get-there items i (let below = slice_get-below xs i a here in let long = x.as_many in omega (arith, below, long)) in
        one item.0 a b (x.each i item.0 a item.1 here) (y.each i item.0 b item.1 there)

module _ (p : LinkedProgram) (form : IsInForm p) where
  method_one : (number : ℕ) (m n : LinkedMethod) → slice_get p.methods number ≡ Some m → slice_get p.methods number ≡ Some n → m ≡ n
  method_one number m n a b = same_Some m n (sym a ∙ b)

  -- a place has one text
  pub place_text_one : (place : Place) (a b : List ℕ) → IsPlaceText p place a → IsPlaceText p place b → a ≡ b
  place_text_one place a b x y =
      let same = method_one place.method x.method y.method x.there y.there in
      let first = x.text_is in
      let second = y.text_is in
      let names : x.method.text ≡ y.method.text = ap (λ m. m.text) same in
      cc

  -- an element of an index has one text, where the indexes rise
  element_one : (elements : List Element) (index : ℕ) → AreIncreasing (map (λ e. e.index) elements) → (a b : List ℕ) → HasElementText elements index a → HasElementText elements index b → a ≡ b
  element_one elements index rising a b x y = sym x.is_text ∙ ap (λ e. e.text) same ∙ y.is_text
    where
      at_index : (i : ℕ) (e : Element) → slice_get elements i ≡ Some e → (d : ℕ) → get_or (map (λ e. e.index) elements) i d ≡ e.index
      at_index i e there d = get_or_from_slice_get (map (λ e. e.index) elements) i e.index d (map_at (λ e. e.index) elements i e there)

      apart : (i j : ℕ) (d e : Element) → slice_get elements i ≡ Some d → slice_get elements j ≡ Some e → d.index ≡ e.index → i < j → ⊥
      apart i j d e here there equal less =
          let below = slice_get_within elements j e there in
          let long = length-map elements (λ e. e.index) in
          let order = rising i j 0 less (omega (arith, below, long)) in
          let first = at_index i d here 0 in
          let second = at_index j e there 0 in
          omega (arith, order, first, second, equal)

      equal : x.element.index ≡ y.element.index
      equal = x.at ∙ sym y.at

      same : x.element ≡ y.element
      same = elim (cases_lt x.has.0 y.has.0) [
        | inl less ↦ absurd (apart x.has.0 y.has.0 x.element y.element x.has.1 y.has.1 equal less)
        | inr least ↦ elim (cases_lt y.has.0 x.has.0) [
          | inl less ↦ absurd (apart y.has.0 x.has.0 y.element x.element y.has.1 x.has.1 (sym equal) less)
          | inr most ↦
              let one : x.has.0 ≡ y.has.0 = omega (arith, least, most) in
              same_Some x.element y.element (sym x.has.1 ∙ ap (slice_get elements) one ∙ y.has.1)
        ]
      ]

  array_one : (m : LinkedMethod) → FitsMethod p m → (index pairs : ℕ) (a b : List ℕ) → IsArrayText m index pairs a → IsArrayText m index pairs b → a ≡ b
  array_one m fits index pairs a b x y =
      let same = element_one m.elements index fits.one_each x.0 y.0 x.1 y.1 in
      x.2 ∙ ap (λ e. e ++ brackets pairs) same ∙ sym y.2

  -- what a statement makes has one text
  made_one : (m : LinkedMethod) → FitsMethod p m → (index level : ℕ) (code : Code) (a b : List ℕ) → IsMadeText p m index level code a → IsMadeText p m index level code b → a ≡ b
  made_one m fits index level (New to class) a b x y =
      let same = same_Some x.0 y.0 (sym x.1 ∙ y.1) in
      x.2 ∙ ap (λ c. c.name) same ∙ sym y.2
  made_one m fits index level (NewArray to) a b x y = array_one m fits index 1 a b x y
  made_one m fits index level (NewMulti to levels) a b x y = array_one m fits index (levels - level) a b x y
  made_one m fits index level _ a b x y = absurd x

  made_at_one : (place : Place) (level : ℕ) (a b : List ℕ) → IsMadeAt p place level a → IsMadeAt p place level b → a ≡ b
  made_at_one place level a b x y =
      let codes_same = CodeAt-one p place.method place.index x.code y.code x.at y.at in
      let methods_same = method_one place.method x.at.method y.at.method x.at.there y.at.there in
      let fits = at_all (FitsMethod p) p.methods place.method y.at.method form.methods y.at.there in
      let moved = subst (λ (m : LinkedMethod). IsMadeText p m place.index level x.code a) methods_same x.made in
      made_one y.at.method fits place.index level y.code a b (subst (λ (c : Code). IsMadeText p y.at.method place.index level c a) codes_same moved) y.made

  new_text_one : (place : Place) (level : ℕ) (a b : List ℕ) → IsNewText p place level a → IsNewText p place level b → a ≡ b
  new_text_one place level a b x y =
      let at_same = place_text_one place x.at y.at x.at_is y.at_is in
      let made_same = made_at_one place level x.made y.made x.made_is y.made_is in
      x.text_is ∙ ap (λ t. t ++ codes " new " ++ x.made) at_same ∙ ap (λ t. y.at ++ codes " new " ++ t) made_same ∙ sym y.text_is

  -- a site has one text
  pub site_text_one : (o : Site) (a b : List ℕ) → IsSiteText p o a → IsSiteText p o b → a ≡ b
  site_text_one (site.New place) a b x y = new_text_one place 0 a b x y
  site_text_one (site.Nested place level) a b x y = new_text_one place level a b x y
  site_text_one (site.Raised place kind) a b x y =
      let at_same = place_text_one place x.at y.at x.at_is y.at_is in
      let class_same = same_Some x.class y.class (sym x.class_is ∙ y.class_is) in
      x.text_is ∙ ap (λ t. t ++ codes " raise " ++ x.class) at_same ∙ ap (λ t. y.at ++ codes " raise " ++ t) class_same ∙ sym y.text_is
  site_text_one (site.Text number) a b x y = x.2 ∙ ap (constant_text (codes "text")) (same_Some x.0 y.0 (sym x.1 ∙ y.1)) ∙ sym y.2
  site_text_one (site.Class number) a b x y = x.2 ∙ ap (constant_text (codes "class")) (same_Some x.0 y.0 (sym x.1 ∙ y.1)) ∙ sym y.2

  -- so has its line behind a word
  pub worded_one : (word : List ℕ) (o : Site) (a b : List ℕ) → IsWordedSite p word o a → IsWordedSite p word o b → a ≡ b
  worded_one word o a b x y = x.line_is ∙ ap (λ t. word ++ t) (site_text_one o x.text y.text x.is_text y.is_text) ∙ sym y.line_is

  pub lines_one : (word : List ℕ) (sites : List Site) (xs ys : List (List ℕ)) → Each (IsWordedSite p word) sites xs → Each (IsWordedSite p word) sites ys → xs ≡ ys
  lines_one word sites xs ys x y = each_one (IsWordedSite p word) (worded_one word) sites xs ys x y

  pub name_one : (place : Place) (v : Var) (a b : List ℕ) → IsVarName p place v a → IsVarName p place v b → a ≡ b
  name_one place (Local x) a b n m =
      let same = method_one place.method n.method m.method n.there m.there in
      same_Some a b (sym n.named ∙ ap (λ (k : LinkedMethod). slice_get k.locals x) same ∙ m.named)
  name_one place _ a b n m = absurd n

  -- a node has one text
  pub target_one : (n : Node) (a b : List ℕ) → IsTargetText p n a → IsTargetText p n b → a ≡ b
  target_one n a b x y =
      let at_same = place_text_one n.place x.at y.at x.at_is y.at_is in
      let name_same = name_one n.place n.var x.name y.name x.name_is y.name_is in
      x.text_is ∙ ap (λ t. t ++ codes " " ++ x.name) at_same ∙ ap (λ t. y.at ++ codes " " ++ t) name_same ∙ sym y.text_is

  pub query_line_one : (word : List ℕ) (n : Node) (a b : List ℕ) → IsQueryLine p word n a → IsQueryLine p word n b → a ≡ b
  query_line_one word n a b x y = x.line_is ∙ ap (λ t. word ++ codes " " ++ t) (target_one n x.target y.target x.target_is y.target_is) ∙ sym y.line_is
