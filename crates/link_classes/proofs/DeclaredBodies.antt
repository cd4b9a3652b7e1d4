-- What a class itself declares with a key.
use Rattle.std.proofs.Common.{◌≡◌, ℕ, ◌+◌, ◌<◌, ◌==◌, ◌&&◌, List, [], ◌∷◌, Bool, true, false, cond, Option, Some, None, length, slice_get, get_or, refl, sym, ap, subst, ◌∙◌, inl, inr, arith}
use Rattle.std.specs.List.{position_from}
use Rattle.std.specs.Option.{is_some, option_map}
use Rattle.std.proofs.lemmas.Bool.{cases_order}
use Rattle.std.proofs.lemmas.Option.{slice_get-get_or, slice_get-map}
use Rattle.class_rules.specs.Bodies.{has_body}
use Rattle.class_rules.specs.Lookups.{own_body}
use Rattle.class_rules.specs.declared.rows.BodyKind.TheVariants.{Plain}
use Rattle.class_rules.specs.declared.rows.MethodRow.{MethodRow}
use Rattle.jim_ast.specs.declared.syntax.Body.{Body}
use Rattle.link_rules.specs.Classes.{DeclaredMethod, methods_of}
use Rattle.link_rules.specs.Keys.{IsMethodKeyNumber, MethodKey}
use Rattle.lists.specs.Lists.{IsFirstOr}
use Rattle.lists.proofs.Joined.{first_one}
use Rattle.link_rules.specs.Reach.{DeclaresBody}
use Rattle.link_rules.specs.World.{World, kind_of_body}
use Rattle.link_classes.specs.declared.seen.MethodIn.{MethodIn}
use Rattle.link_classes.specs.Seen.{seen_method, seen_methods}

-- a place that is found is there
position_from-below : {X : Type 0} (t : X → Bool) (n : ℕ) (xs : List X) (i : ℕ) → position_from t n xs ≡ Some i → i < n + length xs
position_from-below t n [] i h = cc (h)
position_from-below t n (x ∷ xs) i h = by (t x) h (position_from-below t (n + 1) xs i)
  where
    by : (b : Bool) → cond b (Some n) (position_from t (n + 1) xs) ≡ Some i → (position_from t (n + 1) xs ≡ Some i → i < n + 1 + length xs) → i < n + length (x ∷ xs)
    by true e rest = let same : n ≡ i = cc (e) in omega (arith, same)
    by false e rest = omega (arith, rest e)

pub own_below : (methods : List MethodRow) (class key row : ℕ) → Some row ≡ own_body methods class key → row < length methods
own_below methods class key row h =
    omega (arith, position_from-below (λ (m : MethodRow). (m.class == class) && (m.key == key) && has_body m.body) 0 methods row (sym h))

-- a method is plain exactly where it has a body
plain_has : (body : Option Body) (native : Bool) → kind_of_body body native ≡ Plain → is_some body ≡ true
plain_has (Some body) native h = refl
plain_has None true h = cc (h)
plain_has None false h = cc (h)

pub has_plain : (body : Option Body) (native : Bool) → is_some body ≡ true → kind_of_body body native ≡ Plain
has_plain (Some body) native h = refl
has_plain None native h = cc (h)

-- a method where it stands, as it is seen
pub method_there : (methods : List MethodIn) (i : ℕ) (m : MethodIn) → i < length methods → m ≡ get_or methods i m → slice_get (seen_methods methods) i ≡ Some (seen_method m)
method_there methods i m below is = slice_get-map seen_method methods i ∙ ap (option_map seen_method) (slice_get-get_or methods i m below ∙ ap Some (sym is))

module _ (w : World) (class number : ℕ) (key : MethodKey) (is_number : IsMethodKeyNumber (methods_of w.classes) key number) where
  own_of : (row : ℕ) → DeclaresBody w class key row → own_body w.rows.methods class number ≡ Some row
  own_of row d = subst (λ n. own_body w.rows.methods class n ≡ Some row) (first_one (length (methods_of w.classes)) _ d.number number d.is_number is_number) d.own

  -- no row is found
  pub declares_none : None ≡ own_body w.rows.methods class number → (row : ℕ) → DeclaresBody w class key row → ⊥
  declares_none none row d = cc (none, own_of row d)

  module _ (found : ℕ) (m : DeclaredMethod) (own : Some found ≡ own_body w.rows.methods class number) (there : slice_get (methods_of w.classes) found ≡ Some m) where
    pub declares_found : is_some m.decl.body ≡ true → (row : ℕ) → found ≡ row → DeclaresBody w class key row
    declares_found has row same = record {
      number = number;
      is_number = is_number;
      own = subst (λ r. own_body w.rows.methods class number ≡ Some r) same (sym own);
      method = m;
      there = subst (λ r. slice_get (methods_of w.classes) r ≡ Some m) same there;
      plain = has_plain m.decl.body m.decl.is_native has;
    }

    pub declares_only : (row : ℕ) → DeclaresBody w class key row → (found ≡ row) × (is_some m.decl.body ≡ true)
    declares_only row d =
        let same : found ≡ row = cc (own, own_of row d) in
        let here : slice_get (methods_of w.classes) found ≡ Some d.method = subst (λ r. slice_get (methods_of w.classes) r ≡ Some d.method) (sym same) d.there in
        let one : d.method ≡ m = cc (here, there) in
        (same, subst (λ (k : DeclaredMethod). is_some k.decl.body ≡ true) one (plain_has d.method.decl.body d.method.decl.is_native d.plain))
