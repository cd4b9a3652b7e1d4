-- The laws of sub-classing and of what is found.
use Rattle.std.proofs.Common.{◌≡◌, ℕ, suc, ◌+◌, ◌==◌, ◌&&◌, Bool, true, false, cond, Option, Some, None, List, [], ◌∷◌, slice_get, refl, sym, ap, subst, ◌∙◌, inl, inr, arith, eqb-true, zero-add}
use Rattle.std.specs.List.{Contains, position_from}
use Rattle.std.specs.Option.{option_or}
use Rattle.std.proofs.lemmas.Bool.{and_parts}
use Rattle.class_rules.specs.Bodies.{has_body}
use Rattle.class_rules.specs.declared.rows.ClassRow.{ClassRow}
use Rattle.class_rules.specs.Laws.{IsMethodAbove, IsFieldAbove, PathFindsMethods, PathGivesOneAnswer, LookUpFindsFields, LookUpGivesOneAnswer, SubIsTransitive}
use Rattle.class_rules.specs.Lookups.{Upwards, found, further, ended, FieldHere, own_body, own_field}
use Rattle.class_rules.specs.Orders.{Order, Orders, class_first, no_more, each, first_found}
use Rattle.class_rules.specs.Paths.{Path, here, step}
use Rattle.class_rules.specs.Rows.{Rows, HasParent, HasNoParent, Sub, interfaces_of}
use Rattle.class_rules.proofs.OrderFacts.{order_reached}
use Rattle.class_rules.proofs.Parents.{interface_named}

-- ---- paths

pub path_append : {Go : ℕ → ℕ → Type 0} {a b c : ℕ} → Path Go a b → Path Go b c → Path Go a c
path_append here q = q
path_append (step s p) q = step s (path_append p q)

pub sub_transitive : SubIsTransitive
sub_transitive rows a b c p q = path_append p q

-- ---- what stands at a position

position_at : {X : Type 0} (t : X → Bool) (n : ℕ) (xs : List X) (i : ℕ) → position_from t n xs ≡ Some i → (k : ℕ) × (i ≡ n + k) × (x : X) × (slice_get xs k ≡ Some x) × (t x ≡ true)
position_at t n [] i e = cc
position_at {X = X} t n (x ∷ xs) i e = by (t x) refl e (position_at t (n + 1) xs i)
  where
    by : (b : Bool) → t x ≡ b → cond b (Some n) (position_from t (n + 1) xs) ≡ Some i
        → (position_from t (n + 1) xs ≡ Some i → (k : ℕ) × (i ≡ (n + 1) + k) × (y : X) × (slice_get xs k ≡ Some y) × (t y ≡ true))
        → (k : ℕ) × (i ≡ n + k) × (y : X) × (slice_get (x ∷ xs) k ≡ Some y) × (t y ≡ true)
    by true is e rest = let same : n ≡ i = cc in (0, omega (arith, same), x, refl, is)
    by false is e rest = let p = rest e in (suc p.0, omega (arith, p.1), p.2, p.3, p.4)

pub position_first : {X : Type 0} (t : X → Bool) (xs : List X) (i : ℕ) → Some i ≡ position_from t 0 xs → (x : X) × (slice_get xs i ≡ Some x) × (t x ≡ true)
position_first t xs i e = let p = position_at t 0 xs i (sym e) in (p.2, ap (slice_get xs) (p.1 ∙ zero-add p.0) ∙ p.3, p.4)

-- ---- a look-up upwards gives one answer

pub one_parent : (classes : List ClassRow) (a b c : ℕ) → HasParent classes a b → HasParent classes a c → b ≡ c
one_parent classes a b c p q = let same : p.row ≡ q.row = cc (p.there, q.there) in cc (p.names, q.names, ap (λ (r : ClassRow). r.parent) same)

pub a_parent_or_none : (classes : List ClassRow) (a b : ℕ) → HasParent classes a b → HasNoParent classes a → ⊥
a_parent_or_none classes a b p q = let same : p.row ≡ q.row = cc (p.there, q.there) in let names = ap (λ (r : ClassRow). r.parent) same in cc (p.names, q.names, names)

module _ (classes : List ClassRow) (At : ℕ → Option ℕ → Type 0) (one : (c : ℕ) (r s : Option ℕ) → At c r → At c s → r ≡ s) where
  upwards_one : {c : ℕ} {r s : Option ℕ} → Upwards classes At c r → Upwards classes At c s → r ≡ s
  upwards_one (found {c} {r} a) q = on q a
    where
      on : {c r : ℕ} {s : Option ℕ} → Upwards classes At c s → At c (Some r) → Some r ≡ s
      on (found {c} {r = t} b) a = one c (Some _) (Some t) a b
      on (further {c} n p q) a = let e = one c (Some _) None a n in cc
      on (ended {c} n h) a = let e = one c (Some _) None a n in cc
  upwards_one (further {c} {p} {r} n h u) q = on q n h (λ t v. upwards_one u v)
    where
      on : {c p : ℕ} {r s : Option ℕ} → Upwards classes At c s → At c None → HasParent classes c p → ((t : Option ℕ) → Upwards classes At p t → r ≡ t) → r ≡ s
      on (found {c} {r = t} b) n h rest = let e = one c (Some t) None b n in cc
      on {p = p} {s = t} (further {c} {p = q} m k u) n h rest = rest t (subst (λ x. Upwards classes At x t) (one_parent classes c q p k h) u)
      on (ended {c} m k) n h rest = absurd (a_parent_or_none classes c _ h k)
  upwards_one (ended {c} n h) q = on q n h
    where
      on : {c : ℕ} {s : Option ℕ} → Upwards classes At c s → At c None → HasNoParent classes c → None ≡ s
      on (found {c} {r = t} b) n h = one c None (Some t) n b
      on (further {c} m k u) n h = absurd (a_parent_or_none classes c _ k h)
      on (ended m k) n h = refl

-- ---- methods

pub path_one : PathGivesOneAnswer
path_one rows class key r s p q = upwards_one rows.classes (λ c r. r ≡ own_body rows.methods c key) (λ c r s a b. a ∙ sym b) p q

pub path_finds : PathFindsMethods
path_finds rows class key row p = on p refl
  where
    at : (c r : ℕ) → Some r ≡ own_body rows.methods c key → IsMethodAbove rows c key r
    at c r e =
        let m = position_first (λ m. (m.class == c) && (m.key == key) && has_body m.body) rows.methods r e in
        let parts = and_parts ((m.0.class == c) && (m.0.key == key)) (has_body m.0.body) m.2 in
        let names = and_parts (m.0.class == c) (m.0.key == key) parts.0 in
        record { method = m.0; there = m.1; has_key = eqb-true m.0.key key names.1; bodied = parts.1; above = subst (Path (HasParent rows.classes) c) (sym (eqb-true m.0.class c names.0)) here }

    on : {c : ℕ} {o : Option ℕ} → Upwards rows.classes (λ c r. r ≡ own_body rows.methods c key) c o → o ≡ Some row → IsMethodAbove rows c key row
    on (found {c} {r} a) e = let same : r ≡ row = cc in subst (IsMethodAbove rows c key) same (at c r a)
    on (further {c} {p} n h u) e = let m = on u e in record { method = m.method; there = m.there; has_key = m.has_key; bodied = m.bodied; above = step h m.above }
    on (ended n h) e = cc

-- ---- fields

mutual
  order_one : {interfaces : ℕ → List ℕ} {c : ℕ} {xs ys : List ℕ} → Order interfaces c xs → Order interfaces c ys → xs ≡ ys
  order_one (class_first {c} os) (class_first ps) = ap (λ zs. c ∷ zs) (orders_one os ps)

  orders_one : {interfaces : ℕ → List ℕ} {cs xs ys : List ℕ} → Orders interfaces cs xs → Orders interfaces cs ys → xs ≡ ys
  orders_one no_more no_more = refl
  orders_one (each o os) (each p ps) = let a = order_one o p in let b = orders_one os ps in cc

pub look_up_one : LookUpGivesOneAnswer
look_up_one rows class key r s p q = upwards_one rows.classes (FieldHere rows key)
    (λ c r s (xs, o, e) (ys, p, f). e ∙ ap (first_found (λ b. own_field rows.fields b key)) (order_one o p) ∙ sym f) p q

-- the class at which something is found first
first_at : (f : ℕ → Option ℕ) (xs : List ℕ) (row : ℕ) → Some row ≡ first_found f xs → (x : ℕ) × Contains xs x × (Some row ≡ f x)
first_at f [] row e = cc
first_at f (x ∷ xs) row e = by (f x) refl e (λ h. first_at f xs row h)
  where
    later : (x : ℕ) × Contains xs x × (Some row ≡ f x) → (y : ℕ) × Contains (x ∷ xs) y × (Some row ≡ f y)
    later (y, m, h) = (y, (suc m.0, omega (arith, m.1), m.2), h)

    by : (o : Option ℕ) → f x ≡ o → Some row ≡ option_or o (first_found f xs) → (Some row ≡ first_found f xs → (y : ℕ) × Contains xs y × (Some row ≡ f y)) → (y : ℕ) × Contains (x ∷ xs) y × (Some row ≡ f y)
    by None is e rest = later (rest e)
    by (Some r) is e rest = (x, (0, omega arith, refl), e ∙ sym is)

to_sub : (rows : Rows) {a b : ℕ} → Path (λ c i. Contains (interfaces_of rows.implements c) i) a b → Sub rows a b
to_sub rows here = here
to_sub rows (step {a} {b} m p) = step (inr (interface_named rows.implements a b m)) (to_sub rows p)

pub look_up_finds : LookUpFindsFields
look_up_finds rows class key row p = on p refl
  where
    at : (c r : ℕ) → FieldHere rows key c (Some r) → IsFieldAbove rows c key r
    at c r (xs, o, e) =
        let x = first_at (λ b. own_field rows.fields b key) xs r e in
        let f = position_first (λ f. (f.class == x.0) && (f.key == key)) rows.fields r x.2 in
        let names = and_parts (f.0.class == x.0) (f.0.key == key) f.2 in
        record { field = f.0; there = f.1; has_key = eqb-true f.0.key key names.1; above = subst (Sub rows c) (sym (eqb-true f.0.class x.0 names.0)) (to_sub rows (order_reached (interfaces_of rows.implements) o x.0 x.1)) }

    on : {c : ℕ} {o : Option ℕ} → Upwards rows.classes (FieldHere rows key) c o → o ≡ Some row → IsFieldAbove rows c key row
    on (found {c} {r} a) e = let same : r ≡ row = cc in subst (IsFieldAbove rows c key) same (at c r a)
    on (further {c} {p} n h u) e = let f = on u e in record { field = f.field; there = f.there; has_key = f.has_key; above = step (inl h) f.above }
    on (ended n h) e = cc
