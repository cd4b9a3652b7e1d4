-- The methods that call each method.
use Rattle.std.proofs.Common.{◌≡◌, ℕ, zero, suc, ◌+◌, ◌<◌, ◌≤◌, ◌⊎◌, ◌↔◌, Bool, true, false, List, [], ◌∷◌, ◌++◌, Some, eqb, length, slice_get, inl, inr, refl, sym, ap, subst, ◌∙◌, arith}
use Rattle.std.proofs.lemmas.Bool.{cases_lt, eqb-false, eqb-true}
use Rattle.lists.specs.Lists.{Adds, Has}
use Rattle.lists.proofs.Places.{Has-adds_itself, slice_get-added, slice_get-adds, Has-push}
use Rattle.link_indexes.specs.declared.method.Place.{Place}
use Rattle.link_indexes.specs.Facts.{Calls}
use Rattle.link_indexes.specs.Tables.{IsAt}
use Rattle.link_rules.specs.Accessed.{codes_in}
use Rattle.link_program.proofs.Found.{at_map}
use Rattle.link_rules.specs.declared.code.Code.{Code}
use Rattle.link_rules.specs.declared.code.Code.TheVariants as code
use Rattle.link_rules.specs.Linked.{LinkedMethod, LinkedProgram}
use Rattle.link_rules.specs.WellLinked.{HasTarget}
use Rattle.lists.specs.declared.groups.Keyed.{Keyed}
use Rattle.lists.specs.Filings.{kept_if}
use Rattle.lists.specs.Groups.{Grouped, found_at, items_with}
use Rattle.lists.proofs.Joined.{Has-cons, slice_get-mapped}
use Rattle.site_events.specs.Callers.{AreCallers, IsCaller}

module _ {X : Type 0} (number : X → ℕ) where
  -- the numbers of the items were added one by one
  pub record AreAdded (old : List ℕ) (items : List X) (new : List ℕ) : Type 0 where
    pub stay : (i m : ℕ) → slice_get old i ≡ Some m → slice_get new i ≡ Some m
    pub each : (m : ℕ) → Has new m ↔ (Has old m ⊎ ((x : X) × Has items x × (number x ≡ m)))

  pub added_none : (old : List ℕ) → AreAdded old [] old
  added_none old = record {
    stay = λ i m h. h;
    each = λ m. ((λ h. inl h), (λ h. elim h [ inl a ↦ a | inr b ↦ let none = b.1.1 in cc ]));
  }

  pub added_more : (old mid new : List ℕ) (items : List X) (x : X) → AreAdded old items mid → Adds mid (number x) new → AreAdded old (items ++ x ∷ []) new
  added_more old mid new items x added adds = record {
    stay = λ i m h. slice_get-adds mid new (number x) adds i m (added.stay i m h);
    each = λ m. (
      (λ h. elim (slice_get-added mid new (number x) adds h.0 m h.1) [
        | inl there ↦ elim ((added.each m).0 (h.0, there)) [ inl a ↦ inl a | inr b ↦ inr (b.0, (Has-push items x b.0).1 (inl b.1), b.2) ]
        | inr same ↦ inr (x, (Has-push items x x).1 (inr refl), sym same)
      ]),
      (λ h. elim h [
        | inl a ↦ grown m ((added.each m).1 (inl a))
        | inr b ↦ elim ((Has-push items x b.0).0 b.1) [
          | inl there ↦ grown m ((added.each m).1 (inr (b.0, there, b.2)))
          | inr same ↦ subst (λ (n : ℕ). Has new n) (ap number (sym same) ∙ b.2) (Has-adds_itself mid new (number x) adds)
        ]
      ]),
    );
  }
    where
      grown : (m : ℕ) → Has mid m → Has new m
      grown m h = (h.0, slice_get-adds mid new (number x) adds h.0 m h.1)

-- as the items themselves
pub added_itself : (old items new : List ℕ) → AreAdded (λ (m : ℕ). m) old items new → (m : ℕ) → Has new m ↔ (Has old m ⊎ Has items m)
added_itself old items new added m = (
  (λ h. elim ((added.each m).0 h) [ inl a ↦ inl a | inr b ↦ inr (subst (λ (n : ℕ). Has items n) b.2 b.1) ]),
  (λ h. (added.each m).1 (elim h [ inl a ↦ inl a | inr b ↦ inr (m, b, refl) ])),
)

-- the call at a place has the target
calls_has : (p : LinkedProgram) (number index target : ℕ) (m : LinkedMethod) (c : Code) → slice_get p.methods number ≡ Some m → slice_get m.code index ≡ Some c
    → Calls target c → HasTarget p number index target
calls_has p number index target m (code.Call to mode class key receiver args targets) there here calls =
    record { method = m; there = there; to = to; mode = mode; class = class; key = key; receiver = receiver; args = args; targets = targets; call = here; has = calls }
calls_has p number index target m _ there here calls = absurd calls

pub caller_has : (p : LinkedProgram) (target : ℕ) (c : Place) → IsAt (Calls target) (codes_in p) c → HasTarget p c.method c.index target
caller_has p target c is =
    let m = slice_get-mapped (λ (m : LinkedMethod). m.code) p.methods c.method is.0 is.1 in
    let at = is.2 in
    let here = subst (λ (codes : List Code). slice_get codes c.index ≡ Some at.0) (sym m.2) at.1 in
    calls_has p c.method c.index target m.0 at.0 m.1 here at.2

pub has_caller : (p : LinkedProgram) (number index target : ℕ) → HasTarget p number index target → IsAt (Calls target) (codes_in p) (record { method = number; index = index })
has_caller p number index target has =
    (has.method.code, at_map (λ (m : LinkedMethod). m.code) p.methods number has.method has.there, (_, has.call, has.has))

-- the methods of its calls are the callers of a method
pub callers_all : (p : LinkedProgram) (target : ℕ) (places : List Place) (found : List ℕ) → ((c : Place) → Has places c ↔ IsAt (Calls target) (codes_in p) c)
    → AreAdded (λ (c : Place). c.method) [] places found → (m : ℕ) → Has found m ↔ IsCaller p target m
callers_all p target places found are added m = (
  (λ h. elim ((added.each m).0 h) [
    | inl none ↦ cc none.1
    | inr b ↦ (b.0.index, subst (λ (n : ℕ). HasTarget p n b.0.index target) b.2 (caller_has p target b.0 ((are b.0).0 b.1)))
  ]),
  (λ is. let c : Place = record { method = m; index = is.0 } in (added.each m).1 (inr (c, (are c).1 (has_caller p m is.0 target is.1), refl))),
)

module _ {X : Type 0} where
  -- the items with a key are those listed with it
  pub Has-items_with : (xs : List (Keyed ℕ X)) (key : ℕ) (u : X) → Has (items_with eqb xs key) u ↔ Has xs (record { key = key; item = u })
  Has-items_with [] key u = ((λ has. cc has.1), (λ has. cc has.1))
  Has-items_with (x ∷ xs) key u = by (Has-items_with xs key u) (eqb x.key key) refl
    where
      cons : Has (x ∷ xs) (record { key = key; item = u }) ↔ ((record { key = key; item = u } ≡ x) ⊎ Has xs (record { key = key; item = u }))
      cons = Has-cons x (record { key = key; item = u }) xs

      by : (Has (items_with eqb xs key) u ↔ Has xs (record { key = key; item = u })) → (b : Bool) → eqb x.key key ≡ b
          → Has (items_with eqb (x ∷ xs) key) u ↔ Has (x ∷ xs) (record { key = key; item = u })
      by rest true e =
          let one = Has-cons x.item u (items_with eqb xs key) in
          let same : x.key ≡ key = eqb-true x.key key e in
          let is : items_with eqb (x ∷ xs) key ≡ x.item ∷ items_with eqb xs key = ap (λ t. kept_if t x.item (items_with eqb xs key)) e in (
            (λ has. cons.1 (elim (one.0 (subst (λ ys. Has ys u) is has)) [
              | inl a ↦ inl (ap (λ (y : X). record { key = key; item = y }) a ∙ ap (λ (n : ℕ). record { key = n; item = x.item }) (sym same))
              | inr b ↦ inr (rest.0 b)
            ])),
            (λ has. subst (λ ys. Has ys u) (sym is) (one.1 (elim (cons.0 has) [ inl a ↦ inl (ap (λ (y : Keyed ℕ X). y.item) a) | inr b ↦ inr (rest.1 b) ]))),
          )
      by rest false e =
          let is : items_with eqb (x ∷ xs) key ≡ items_with eqb xs key = ap (λ t. kept_if t x.item (items_with eqb xs key)) e in (
            (λ has. cons.1 (inr (rest.0 (subst (λ ys. Has ys u) is has)))),
            (λ has. subst (λ ys. Has ys u) (sym is) (elim (cons.0 has) [
              | inl a ↦ absurd (eqb-false x.key key e (sym (ap (λ (y : Keyed ℕ X). y.key) a)))
              | inr b ↦ rest.1 b
            ])),
          )

-- the methods were put in under the target
abbrev pub ArePut : ℕ → List ℕ → List (Keyed ℕ ℕ) → List (Keyed ℕ ℕ) → Type 0
ArePut target methods old new = (pair : Keyed ℕ ℕ) → Has new pair ↔ (Has old pair ⊎ ((pair.key ≡ target) × Has methods pair.item))

module _ (target : ℕ) (old : List (Keyed ℕ ℕ)) where
  pub put_none : ArePut target [] old old
  put_none pair = ((λ has. inl has), (λ h. elim h [ inl was ↦ was | inr none ↦ cc none.1.1 ]))

  pub put_more : (methods : List ℕ) (m : ℕ) (now : List (Keyed ℕ ℕ)) (it : Keyed ℕ ℕ) → it ≡ record { key = target; item = m } → ArePut target methods old now
      → ArePut target (methods ++ m ∷ []) old (now ++ it ∷ [])
  put_more methods m now it is put pair = (
    (λ has. elim ((Has-push now it pair).0 has) [
      | inl h ↦ elim ((put pair).0 h) [ inl was ↦ inl was | inr at ↦ inr (at.0, (Has-push methods m pair.item).1 (inl at.1)) ]
      | inr e ↦
          let same = e ∙ is in
          inr (ap (λ (x : Keyed ℕ ℕ). x.key) same, (Has-push methods m pair.item).1 (inr (ap (λ (x : Keyed ℕ ℕ). x.item) same)))
    ]),
    (λ h. (Has-push now it pair).1 (elim h [
      | inl was ↦ inl ((put pair).1 (inl was))
      | inr at ↦ elim ((Has-push methods m pair.item).0 at.1) [
        | inl there ↦ inl ((put pair).1 (inr (at.0, there)))
        | inr e ↦ inr (same_pair pair at.0 e ∙ sym is)
      ]
    ])),
  )
    where
      same_pair : (x : Keyed ℕ ℕ) → x.key ≡ target → x.item ≡ m → x ≡ record { key = target; item = m }
      same_pair x key item = ap (λ (n : ℕ). record { key = n; item = x.item }) key ∙ ap (λ (n : ℕ). record { key = target; item = n }) item

-- the callers of the first methods, so many, are there
abbrev pub ArePaired : LinkedProgram → ℕ → List (Keyed ℕ ℕ) → Type 0
ArePaired p done pairs = (pair : Keyed ℕ ℕ) → Has pairs pair ↔ ((pair.key < done) × IsCaller p pair.key pair.item)

module _ (p : LinkedProgram) where
  pub paired_none : ArePaired p 0 []
  paired_none pair = ((λ has. cc has.1), (λ h. let low = h.0 in absurd (omega (arith, low))))

  pub paired_more : (done : ℕ) (methods : List ℕ) (old new : List (Keyed ℕ ℕ)) → ((m : ℕ) → Has methods m ↔ IsCaller p done m) → ArePut done methods old new
      → ArePaired p done old → ArePaired p (done + 1) new
  paired_more done methods old new are put was pair = (
    (λ has. elim ((put pair).0 has) [
      | inl h ↦ let x = (was pair).0 h in (omega (arith, x.0), x.1)
      | inr at ↦ (omega (arith, at.0), subst (λ (n : ℕ). IsCaller p n pair.item) (sym at.0) ((are pair.item).0 at.1))
    ]),
    (λ h. (put pair).1 (elim (cases_lt pair.key done) [
      | inl less ↦ inl ((was pair).1 (less, h.1))
      | inr more ↦
          let same : pair.key ≡ done = omega (arith, h.0, more) in
          inr (same, (are pair.item).1 (subst (λ (n : ℕ). IsCaller p n pair.item) same h.1))
    ])),
  )

  -- those of all methods are found under them
  pub paired_all : (done : ℕ) (pairs : List (Keyed ℕ ℕ)) (g : Grouped ℕ ℕ) → length p.methods ≤ done → ArePaired p done pairs
      → ((target : ℕ) → found_at eqb g target ≡ items_with eqb pairs target) → AreCallers p g
  paired_all done pairs g past are found target method below =
      subst (λ (xs : List ℕ). Has xs method ↔ IsCaller p target method) (sym (found target)) (
        (λ has. ((are (record { key = target; item = method })).0 ((Has-items_with pairs target method).0 has)).1),
        (λ is. (Has-items_with pairs target method).1 ((are (record { key = target; item = method })).1 (omega (arith, below, past), is))),
      )
