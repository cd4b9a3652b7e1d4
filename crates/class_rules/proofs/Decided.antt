-- Sub-classing and method look-up are decided, whatever the rows: a path goes through rows that are there, and these are finitely many.
use Rattle.std.proofs.Common.{◌≡◌, ◌≢◌, ℕ, zero, suc, ◌<◌, ◌⊎◌, ◌++◌, ◌==◌, ◌&&◌, Bool, true, false, true≢false, Option, Some, None, List, [], ◌∷◌, length, map, slice_get, refl, sym, ap, ◌∙◌, subst, inl, inr, arith, eqb-true}
use Rattle.std.specs.List.{Contains}
use Rattle.std.proofs.lemmas.Bool.{and_parts, cases_eq}
use Rattle.class_rules.specs.Bodies.{has_body}
use Rattle.class_rules.specs.declared.rows.ClassRow.{ClassRow}
use Rattle.class_rules.specs.declared.rows.MethodRow.{MethodRow}
use Rattle.class_rules.specs.Lookups.{IsDefault, IsHolder, IsLowestHolder, OnPath, Resolve, Upwards, ambiguous, by_default, ended, found, further, nowhere, on_path, own_body, own_row}
use Rattle.class_rules.specs.Paths.{Path, here, step}
use Rattle.class_rules.specs.Rows.{HasParent, Rows, Step, Sub}
use Rattle.class_rules.proofs.LawFacts.{path_append, position_first}
use Rattle.class_rules.proofs.Parents.{parent-below}
use Rattle.class_rules.proofs.Selected.{owned_row}

-- the fact holds, or it doesn't
abbrev pub IsDecided : Type 0 → Type 0
IsDecided P = P ⊎ (P → ⊥)

pub both_decided : {P Q : Type 0} → IsDecided P → IsDecided Q → IsDecided (P × Q)
both_decided (inl p) (inl q) = inl (p, q)
both_decided (inl p) (inr n) = inr (λ h. n h.1)
both_decided (inr n) d = inr (λ h. n h.0)

pub either_decided : {P Q : Type 0} → IsDecided P → IsDecided Q → IsDecided (P ⊎ Q)
either_decided (inl p) d = inl (inl p)
either_decided (inr n) (inl q) = inl (inr q)
either_decided (inr n) (inr k) = inr (λ h. elim h [ inl p ↦ n p | inr q ↦ k q ])

-- so is a fact that holds exactly where a decided one does
pub same_decided : {P Q : Type 0} → (P → Q) → (Q → P) → IsDecided P → IsDecided Q
same_decided f g (inl p) = inl (f p)
same_decided f g (inr n) = inr (λ q. n (g q))

-- whether an option has this number
pub some_decided : (o : Option ℕ) (n : ℕ) → IsDecided (o ≡ Some n)
some_decided None n = inr (λ e. cc)
some_decided (Some m) n = same_decided (λ e. ap Some e) inside (cases_eq m n) where
  inside : Some m ≡ Some n → m ≡ n
  inside e = cc

none_decided : (o : Option ℕ) → IsDecided (o ≡ None)
none_decided None = inl refl
none_decided (Some m) = inr (λ e. cc)

-- whether what stands at a place of a list has the fact
pub there_decided : {X : Type 0} (P : X → Type 0) → ((x : X) → IsDecided (P x)) → (xs : List X) (i : ℕ) → IsDecided ((x : X) × (slice_get xs i ≡ Some x) × P x)
there_decided {X} P decide xs i = by (slice_get xs i) refl where
  by : (o : Option X) → slice_get xs i ≡ o → IsDecided ((x : X) × (slice_get xs i ≡ Some x) × P x)
  by None e = inr (λ h. let there = h.1 in cc)
  by (Some x) e = same_decided (λ p. (x, e, p)) (λ h. let there = h.1 in let same : h.0 ≡ x = cc in subst P same h.2) (decide x)

-- whether some place of a list has the fact
pub anywhere_decided : {X : Type 0} (P : ℕ → X → Type 0) → ((i : ℕ) (x : X) → IsDecided (P i x)) → (xs : List X)
    → IsDecided ((i : ℕ) × (x : X) × (slice_get xs i ≡ Some x) × P i x)
anywhere_decided P decide [] = inr (λ h. let there = h.2 in cc)
anywhere_decided {X} P decide (x ∷ xs) =
    same_decided first_or_later split (either_decided (decide zero x) (anywhere_decided (λ i y. P (suc i) y) (λ i y. decide (suc i) y) xs)) where
      first_or_later : P zero x ⊎ ((i : ℕ) × (y : X) × (slice_get xs i ≡ Some y) × P (suc i) y) → (i : ℕ) × (y : X) × (slice_get (x ∷ xs) i ≡ Some y) × P i y
      first_or_later (inl p) = (zero, x, refl, p)
      first_or_later (inr later) = (suc later.0, later.1, later.2, later.3)

      split : (i : ℕ) × (y : X) × (slice_get (x ∷ xs) i ≡ Some y) × P i y → P zero x ⊎ ((i : ℕ) × (y : X) × (slice_get xs i ≡ Some y) × P (suc i) y)
      split (zero, y, e, p) = let same : y ≡ x = cc in inl (subst (P zero) same p)
      split (suc i, y, e, p) = inr (i, y, e, p)

-- ---- paths

-- the number is one of the list
abbrev IsIn : ℕ → List ℕ → Type 0
IsIn a [] = ⊥
IsIn a (x ∷ xs) = (a ≡ x) ⊎ IsIn a xs

in_left : (xs ys : List ℕ) (a : ℕ) → IsIn a xs → IsIn a (xs ++ ys)
in_left [] ys a h = absurd h
in_left (x ∷ xs) ys a (inl e) = inl e
in_left (x ∷ xs) ys a (inr h) = inr (in_left xs ys a h)

in_right : (xs ys : List ℕ) (a : ℕ) → IsIn a ys → IsIn a (xs ++ ys)
in_right [] ys a h = h
in_right (x ∷ xs) ys a h = inr (in_right xs ys a h)

-- the numbers below one
abbrev below : ℕ → List ℕ
below zero = []
below (suc n) = n ∷ below n

in_below : (n a : ℕ) → a < n → IsIn a (below n)
in_below zero a h = absurd (omega (arith, h))
in_below (suc n) a h = elim (cases_eq a n) [ inl e ↦ inl e | inr other ↦ inr (in_below n a (omega (arith, h, other))) ]

module _ (Go : ℕ → ℕ → Type 0) where
  -- a path whose numbers between the first and the last are of the list: as in Warshall's algorithm, it goes by the list's first number once or not
  abbrev Way : List ℕ → ℕ → ℕ → Type 0
  Way [] a b = (a ≡ b) ⊎ Go a b
  Way (x ∷ xs) a b = Way xs a b ⊎ (Way xs a x × Way xs x b)

  way_decided : ((a b : ℕ) → IsDecided (Go a b)) → (xs : List ℕ) (a b : ℕ) → IsDecided (Way xs a b)
  way_decided decide [] a b = either_decided (cases_eq a b) (decide a b)
  way_decided decide (x ∷ xs) a b =
      either_decided (way_decided decide xs a b) (both_decided (way_decided decide xs a x) (way_decided decide xs x b))

  -- it is a path
  way_path : (xs : List ℕ) (a b : ℕ) → Way xs a b → Path Go a b
  way_path [] a b (inl e) = subst (λ c. Path Go a c) e here
  way_path [] a b (inr go) = step go here
  way_path (x ∷ xs) a b (inl w) = way_path xs a b w
  way_path (x ∷ xs) a b (inr w) = path_append (way_path xs a x w.0) (way_path xs x b w.1)

  -- one step at most
  way_once : (xs : List ℕ) (a b : ℕ) → (a ≡ b) ⊎ Go a b → Way xs a b
  way_once [] a b w = w
  way_once (x ∷ xs) a b w = inl (way_once xs a b w)

  -- two of them, one after the other, at a number of the list
  way_joined : (xs : List ℕ) (a c b : ℕ) → IsIn c xs → Way xs a c → Way xs c b → Way xs a b
  way_joined [] a c b h v w = absurd h
  way_joined (x ∷ xs) a c b (inl e) v w = inr (up_to a (subst (λ d. Way (x ∷ xs) a d) e v), on_from b (subst (λ d. Way (x ∷ xs) d b) e w)) where
    up_to : (a : ℕ) → Way (x ∷ xs) a x → Way xs a x
    up_to a (inl w) = w
    up_to a (inr w) = w.0

    on_from : (b : ℕ) → Way (x ∷ xs) x b → Way xs x b
    on_from b (inl w) = w
    on_from b (inr w) = w.1
  way_joined (x ∷ xs) a c b (inr h) (inl v) (inl w) = inl (way_joined xs a c b h v w)
  way_joined (x ∷ xs) a c b (inr h) (inl v) (inr w) = inr (way_joined xs a c x h v w.0, w.1)
  way_joined (x ∷ xs) a c b (inr h) (inr v) (inl w) = inr (v.0, way_joined xs x c b h v.1 w)
  way_joined (x ∷ xs) a c b (inr h) (inr v) (inr w) = inr (v.0, w.1)

  module _ (froms : List ℕ) (all : (a b : ℕ) → Go a b → IsIn a froms) where
    -- each path is one, where all numbers from which a step goes are of the list
    path_way : {a b : ℕ} → Path Go a b → Way froms a b
    path_way (here {a}) = way_once froms a a (inl refl)
    path_way (step {a} {b} {c} go rest) = after a go rest (path_way rest) where
      after : (a : ℕ) {b c : ℕ} → Go a b → Path Go b c → Way froms b c → Way froms a c
      after a go (here {a = b}) w = way_once froms a b (inr go)
      after a go (step {a = b} {b = d} {c} more rest) w = way_joined froms a b c (all b d more) (way_once froms a b (inr go)) w

    pub path_decided : ((a b : ℕ) → IsDecided (Go a b)) → (a b : ℕ) → IsDecided (Path Go a b)
    path_decided decide a b = same_decided (way_path froms a b) (λ p. path_way p) (way_decided decide froms a b)

-- ---- sub-classing

parent_decided : (classes : List ClassRow) (a b : ℕ) → IsDecided (HasParent classes a b)
parent_decided classes a b =
    same_decided (λ h. record { row = h.0; there = h.1; names = h.2 }) (λ h. (h.row, h.there, h.names))
    (there_decided (λ (row : ClassRow). row.parent ≡ Some b) (λ row. some_decided row.parent b) classes a)

-- a pair of classes is the one that stands first, or one of the others
pair_cases : (a b : ℕ) (p : ℕ × ℕ) (ps : List (ℕ × ℕ)) → Contains (p ∷ ps) (a, b) → ((p.0 ≡ a) × (p.1 ≡ b)) ⊎ Contains ps (a, b)
pair_cases a b p ps (zero, h, e) = inl (ap (λ (q : ℕ × ℕ). q.0) e, ap (λ (q : ℕ × ℕ). q.1) e)
pair_cases a b p ps (suc k, h, e) = inr (k, omega (arith, h), e)

interface_decided : (implements : List (ℕ × ℕ)) (a b : ℕ) → IsDecided (Contains implements (a, b))
interface_decided [] a b = inr (λ h. omega (arith, h.1))
interface_decided (p ∷ ps) a b =
    same_decided joined (pair_cases a b p ps) (either_decided (both_decided (cases_eq p.0 a) (cases_eq p.1 b)) (interface_decided ps a b)) where
      joined : ((p.0 ≡ a) × (p.1 ≡ b)) ⊎ Contains ps (a, b) → Contains (p ∷ ps) (a, b)
      joined (inl e) = (zero, omega arith, λ i. (e.0 i, e.1 i))
      joined (inr h) = (suc h.0, omega (arith, h.1), h.2)

-- a class with an interface stands first in a pair
first_in : (implements : List (ℕ × ℕ)) (a b : ℕ) → Contains implements (a, b) → IsIn a (map (λ (p : ℕ × ℕ). p.0) implements)
first_in [] a b h = absurd (omega (arith, h.1))
first_in (p ∷ ps) a b h = elim (pair_cases a b p ps h) [ inl e ↦ inl (sym e.0) | inr later ↦ inr (first_in ps a b later) ]

pub sub_decided : (rows : Rows) (a b : ℕ) → IsDecided (Sub rows a b)
sub_decided rows = path_decided (Step rows.classes rows.implements) froms all
    (λ a b. either_decided (parent_decided rows.classes a b) (interface_decided rows.implements a b))
  where
    firsts : List ℕ
    firsts = map (λ (p : ℕ × ℕ). p.0) rows.implements

    froms : List ℕ
    froms = below (length rows.classes) ++ firsts

    all : (a b : ℕ) → Step rows.classes rows.implements a b → IsIn a froms
    all a b (inl parent) = in_left (below (length rows.classes)) firsts a (in_below (length rows.classes) a (parent-below rows.classes a b parent))
    all a b (inr interface) = in_right (below (length rows.classes)) firsts a (first_in rows.implements a b interface)

-- ---- look-up along the parents

module _ (rows : Rows) (key : ℕ) where
  -- look-up goes on from the class to its parent
  abbrev Goes : ℕ → ℕ → Type 0
  Goes c p = (own_body rows.methods c key ≡ None) × HasParent rows.classes c p

  goes_decided : (a b : ℕ) → IsDecided (Goes a b)
  goes_decided a b = both_decided (none_decided (own_body rows.methods a key)) (parent_decided rows.classes a b)

  way_up_decided : (a b : ℕ) → IsDecided (Path Goes a b)
  way_up_decided a b =
      path_decided Goes (below (length rows.classes)) (λ a b go. in_below (length rows.classes) a (parent-below rows.classes a b go.1)) goes_decided a b

  -- the row of a method of this class is found
  abbrev Finds : ℕ → ℕ → Type 0
  Finds c row = own_body rows.methods c key ≡ Some row

  finds_up : {c d : ℕ} (row : ℕ) → Path Goes c d → Finds d row → OnPath rows c key (Some row)
  finds_up row here e = found (sym e)
  finds_up row (step go rest) e = further (sym go.0) go.1 (finds_up row rest e)

  found_up : {c : ℕ} {o : Option ℕ} → Upwards rows.classes (λ c r. r ≡ own_body rows.methods c key) c o → (row : ℕ) → o ≡ Some row
      → (d : ℕ) × Path Goes c d × Finds d row
  found_up (found {c} {r} e) row is = let same : r ≡ row = cc in (c, here, sym e ∙ ap Some same)
  found_up (further {c} {p} none parent rest) row is = let up = found_up rest row is in (up.0, step (sym none, parent) up.1, up.2)
  found_up (ended {c} none no_parent) row is = cc

  -- the class of a row that is found
  owner : (d row : ℕ) → Finds d row → (m : MethodRow) × (slice_get rows.methods row ≡ Some m) × (m.class ≡ d)
  owner d row e =
      let m = position_first (λ m. (m.class == d) && (m.key == key) && has_body m.body) rows.methods row (sym e) in
      let parts = and_parts ((m.0.class == d) && (m.0.key == key)) (has_body m.0.body) m.2 in
      let names = and_parts (m.0.class == d) (m.0.key == key) parts.0 in
      (m.0, m.1, eqb-true m.0.class d names.0)

  pub on_path_decided : (class row : ℕ) → IsDecided (OnPath rows class key (Some row))
  on_path_decided class row =
      same_decided (λ h. finds_up row h.2.0 h.2.1) owned
      (there_decided (λ (m : MethodRow). Path Goes class m.class × Finds m.class row) each rows.methods row)
    where
      each : (m : MethodRow) → IsDecided (Path Goes class m.class × Finds m.class row)
      each m = both_decided (way_up_decided class m.class) (some_decided (own_body rows.methods m.class key) row)

      owned : OnPath rows class key (Some row) → (m : MethodRow) × (slice_get rows.methods row ≡ Some m) × (Path Goes class m.class × Finds m.class row)
      owned r =
          let up = found_up r row refl in
          let m = owner up.0 row up.2 in
          (m.0, m.1, (subst (λ c. Path Goes class c) (sym m.2) up.1, subst (λ c. Finds c row) (sym m.2) up.2))

  -- the class is the last on the way, and has none either
  abbrev Ends : ℕ → ClassRow → Type 0
  Ends c row = (own_body rows.methods c key ≡ None) × (row.parent ≡ None)

  ends_up : {c d : ℕ} {row : ClassRow} → Path Goes c d → slice_get rows.classes d ≡ Some row → Ends d row → OnPath rows c key None
  ends_up {row} here there end = ended (sym end.0) (record { row = row; there = there; names = end.1 })
  ends_up (step go rest) there end = further (sym go.0) go.1 (ends_up rest there end)

  ended_up : {c : ℕ} {o : Option ℕ} → Upwards rows.classes (λ c r. r ≡ own_body rows.methods c key) c o → o ≡ None
      → (d : ℕ) × (row : ClassRow) × (slice_get rows.classes d ≡ Some row) × (Path Goes c d × Ends d row)
  ended_up (found {c} {r} e) is = cc
  ended_up (further {c} {p} none parent rest) is = let up = ended_up rest is in (up.0, up.1, up.2, (step (sym none, parent) up.3.0, up.3.1))
  ended_up (ended {c} none no_parent) is = (c, no_parent.row, no_parent.there, (here, (sym none, no_parent.names)))

  pub off_path_decided : (class : ℕ) → IsDecided (OnPath rows class key None)
  off_path_decided class =
      same_decided (λ h. ends_up h.3.0 h.2 h.3.1) (λ off. ended_up off refl)
      (anywhere_decided (λ (d : ℕ) (row : ClassRow). Path Goes class d × Ends d row) each rows.classes)
    where
      each : (d : ℕ) (row : ClassRow) → IsDecided (Path Goes class d × Ends d row)
      each d row = both_decided (way_up_decided class d) (both_decided (none_decided (own_body rows.methods d key)) (none_decided row.parent))

-- ---- the selection of a method

-- whether an option has a number
has_some_decided : (o : Option ℕ) → IsDecided ((n : ℕ) × (o ≡ Some n))
has_some_decided None = inr (λ h. let e = h.1 in cc)
has_some_decided (Some n) = inl (n, refl)

true_decided : (b : Bool) → IsDecided (b ≡ true)
true_decided true = inl refl
true_decided false = inr (λ e. true≢false (sym e))

pub not_decided : {P : Type 0} → IsDecided P → IsDecided (P → ⊥)
not_decided (inl p) = inr (λ n. n p)
not_decided (inr n) = inl n

-- a list has the fact nowhere, or somewhere
everywhere_decided : {X : Type 0} (P : ℕ → X → Type 0) → ((i : ℕ) (x : X) → IsDecided (P i x)) → (xs : List X)
    → IsDecided ((i : ℕ) (x : X) → slice_get xs i ≡ Some x → P i x → ⊥)
everywhere_decided P decide xs = same_decided (λ n i x e p. n (i, x, e, p)) (λ all h. all h.0 h.1 h.2 h.3) (not_decided (anywhere_decided P decide xs))

module _ (rows : Rows) (class key : ℕ) where
  -- the parts of a holder
  abbrev HolderParts : ℕ → Type 0
  HolderParts b = Sub rows class b × (((row : ClassRow) × (slice_get rows.classes b ≡ Some row) × (row.interface ≡ true))
      × ((row : ℕ) × (own_row rows.methods b key ≡ Some row)))

  holder_of : (b : ℕ) → HolderParts b → IsHolder rows class key b
  holder_of b (reached, ((class_row, there, interface), (row, holds))) =
      record { reached = reached; class_row = class_row; there = there; is_interface = interface; row = row; holds = holds }

  parts_of_holder : (b : ℕ) → IsHolder rows class key b → HolderParts b
  parts_of_holder b h = (h.reached, ((h.class_row, h.there, h.is_interface), (h.row, h.holds)))

  holder_decided : (b : ℕ) → IsDecided (IsHolder rows class key b)
  holder_decided b =
      same_decided (holder_of b) (parts_of_holder b)
      (both_decided (sub_decided rows class b) (both_decided
      (there_decided (λ (row : ClassRow). row.interface ≡ true) (λ row. true_decided row.interface) rows.classes b)
      (has_some_decided (own_row rows.methods b key))))

  -- a holder with this number is below another
  abbrev IsLower : ℕ → ℕ → ClassRow → Type 0
  IsLower b other row = IsHolder rows class key other × (Sub rows other b × (other ≡ b → ⊥))

  lowest_decided : (b : ℕ) → IsDecided (IsLowestHolder rows class key b)
  lowest_decided b =
      same_decided (λ h. record { holder = h.0; lowest = only h.1 }) (λ h. (h.holder, λ i row there lower. lower.1.1 (h.lowest i lower.0 lower.1.0)))
      (both_decided (holder_decided b) (everywhere_decided (IsLower b) each rows.classes))
    where
      each : (i : ℕ) (row : ClassRow) → IsDecided (IsLower b i row)
      each i row = both_decided (holder_decided i) (both_decided (sub_decided rows i b) (not_decided (cases_eq i b)))

      only : ((i : ℕ) (row : ClassRow) → slice_get rows.classes i ≡ Some row → IsLower b i row → ⊥)
          → (other : ℕ) → IsHolder rows class key other → Sub rows other b → other ≡ b
      only none other holder lower = elim (cases_eq other b) [ inl e ↦ e | inr apart ↦ absurd (none other holder.class_row holder.there (holder, (lower, apart))) ]

  -- a method with a body that is the first of a lowest holder
  abbrev IsFirstOfLowest : ℕ → MethodRow → Type 0
  IsFirstOfLowest row m = (has_body m.body ≡ true) × (IsLowestHolder rows class key m.class × (own_row rows.methods m.class key ≡ Some row))

  first_decided : (row : ℕ) (m : MethodRow) → IsDecided (IsFirstOfLowest row m)
  first_decided row m = both_decided (true_decided (has_body m.body)) (both_decided (lowest_decided m.class) (some_decided (own_row rows.methods m.class key) row))

  first_default : (row : ℕ) (m : MethodRow) → slice_get rows.methods row ≡ Some m → IsFirstOfLowest row m → IsDefault rows class key row
  first_default row m there h = record { interface = m.class; lowest = h.1.0; first = h.1.1; method = m; there = there; bodied = h.0 }

  default_first : (row : ℕ) → IsDefault rows class key row → (m : MethodRow) × (slice_get rows.methods row ≡ Some m) × IsFirstOfLowest row m
  default_first row d =
      let m = owned_row rows d.interface key row d.first in
      let same : m.0 ≡ d.method = cc (m.1, d.there) in
      let in_interface : d.method.class ≡ d.interface = subst (λ (x : MethodRow). x.class ≡ d.interface) same m.2 in (
        d.method,
        d.there,
        (
          d.bodied,
          (
            subst (IsLowestHolder rows class key) (sym in_interface) d.lowest,
            subst (λ c. own_row rows.methods c key ≡ Some row) (sym in_interface) d.first,
          ),
        ),
      )

  pub default_decided : (row : ℕ) → IsDecided (IsDefault rows class key row)
  default_decided row =
      same_decided (λ h. first_default row h.0 h.1 h.2) (default_first row) (there_decided (IsFirstOfLowest row) (first_decided row) rows.methods row)

  -- a default method other than the one of this row
  abbrev IsOther : ℕ → ℕ → MethodRow → Type 0
  IsOther row i m = IsFirstOfLowest i m × (i ≡ row → ⊥)

  only_decided : (row : ℕ) → IsDecided ((other : ℕ) → IsDefault rows class key other → other ≡ row)
  only_decided row =
      same_decided only (λ one i m there other. other.1 (one i (first_default i m there other.0)))
      (everywhere_decided (IsOther row) (λ i m. both_decided (first_decided i m) (not_decided (cases_eq i row))) rows.methods)
    where
      only : ((i : ℕ) (m : MethodRow) → slice_get rows.methods i ≡ Some m → IsOther row i m → ⊥) → (other : ℕ) → IsDefault rows class key other → other ≡ row
      only none other d =
          let m = default_first other d in
          elim (cases_eq other row) [ inl e ↦ e | inr apart ↦ absurd (none other m.0 m.1 (m.2, apart)) ]

  -- there is a default method, or there is none
  pub some_default_decided : IsDecided ((row : ℕ) × IsDefault rows class key row)
  some_default_decided =
      same_decided (λ h. (h.0, first_default h.0 h.1 h.2 h.3)) (λ h. let m = default_first h.0 h.1 in (h.0, m.0, m.1, m.2))
      (anywhere_decided IsFirstOfLowest first_decided rows.methods)

  -- a default method is the only one, or there is another
  pub only_or_other : (row : ℕ) → IsDefault rows class key row
      → ((other : ℕ) → IsDefault rows class key other → other ≡ row) ⊎ ((other : ℕ) × IsDefault rows class key other × (other ≢ row))
  only_or_other row d = elim (anywhere_decided (IsOther row) (λ i m. both_decided (first_decided i m) (not_decided (cases_eq i row))) rows.methods) [
    | inl h ↦ inr (h.0, first_default h.0 h.1 h.2 h.3.0, h.3.1)
    | inr none ↦ inl (λ other e. let m = default_first other e in
        elim (cases_eq other row) [ inl same ↦ same | inr apart ↦ absurd (none (other, m.0, m.1, (m.2, apart))) ])
  ]

  pub resolve_decided : (row : ℕ) → IsDecided (Resolve rows class key (Some row))
  resolve_decided row =
      same_decided resolved parts
      (either_decided (on_path_decided rows key class row) (both_decided (off_path_decided rows key class) (both_decided (default_decided row) (only_decided row))))
    where
      IsOnly : Type 0
      IsOnly = OnPath rows class key None × (IsDefault rows class key row × ((other : ℕ) → IsDefault rows class key other → other ≡ row))

      resolved : OnPath rows class key (Some row) ⊎ IsOnly → Resolve rows class key (Some row)
      resolved (inl p) = on_path p
      resolved (inr d) = by_default d.0 d.1.0 d.1.1

      parts_of : (r : Option ℕ) → Resolve rows class key r → r ≡ Some row → OnPath rows class key (Some row) ⊎ IsOnly
      parts_of r (on_path {row = a} p) e = let same : a ≡ row = cc in inl (subst (λ x. OnPath rows class key (Some x)) same p)
      parts_of r (by_default {row = a} off d only) e =
          let same : a ≡ row = cc in
          inr (off, (subst (IsDefault rows class key) same d, subst (λ x. (other : ℕ) → IsDefault rows class key other → other ≡ x) same only))
      parts_of r (nowhere off none) e = cc
      parts_of r (ambiguous two) e = cc

      parts : Resolve rows class key (Some row) → OnPath rows class key (Some row) ⊎ IsOnly
      parts p = parts_of (Some row) p refl
