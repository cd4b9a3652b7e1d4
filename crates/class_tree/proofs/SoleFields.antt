-- The field of a class from which interfaces lead to one owner alone.
use Rattle.std.proofs.Common.{◌≡◌, ℕ, suc, ◌⊎◌, ◌↔◌, Option, Some, None, List, [], ◌∷◌, length, get_or, map, refl, sym, ap, subst, ◌∙◌, inl, inr, arith}
use Rattle.std.specs.List.{Contains}
use Rattle.std.specs.Option.{option_or}
use Rattle.class_tree.specs.declared.field_owners.FieldOwners.{FieldOwners}
use Rattle.class_tree.specs.declared.owners.Owners.{Owners}
use Rattle.class_order.specs.declared.spans.Span.{Span}
use Rattle.class_order.specs.Groups.{group}
use Rattle.class_order.specs.Spans.{Holds, HoldsAny}
use Rattle.class_order.specs.Tables.{IsReach}
use Rattle.class_tree.specs.Holders.{few_of}
use Rattle.class_tree.specs.Indexed.{AreRanked, HasFieldNear, TellFields, TellsOf}
use Rattle.class_tree.specs.KeySpans.{member_of_field, spans_of}
use Rattle.class_tree.specs.Owners.{AreOwners, AreReady, HoldsOwner, IsHeld}
use Rattle.class_rules.specs.Lookups.{own_field, FieldHere}
use Rattle.class_rules.specs.Orders.{first_found}
use Rattle.class_rules.specs.Paths.{Path}
use Rattle.class_rules.specs.Rows.{Rows, HasInterface, NameClasses, interfaces_of}
use Rattle.class_rules.proofs.OrderFacts.{order_exists, order_finds, order_reached}
use Rattle.class_tree.proofs.Building.{field_member}
use Rattle.class_tree.proofs.Owned.{owner_or}
use Rattle.class_tree.proofs.TreeFacts.{falls, to_lists, to_rows}

-- where one element alone gives something, that is found, if anything is
first_of_sole : (f : ℕ → Option ℕ) (b : ℕ) (xs : List ℕ) → ((d row : ℕ) → Contains xs d → f d ≡ Some row → d ≡ b) → (first_found f xs ≡ None) ⊎ (first_found f xs ≡ f b)
first_of_sole f b [] only = inl refl
first_of_sole f b (x ∷ xs) only = by (f x) refl (first_of_sole f b xs (λ d row m. only d row (suc m.0, omega (arith, m.1), m.2)))
  where
    by : (o : Option ℕ) → f x ≡ o → (first_found f xs ≡ None) ⊎ (first_found f xs ≡ f b) → (option_or (f x) (first_found f xs) ≡ None) ⊎ (option_or (f x) (first_found f xs) ≡ f b)
    by (Some row) e rest = inr (ap (λ o. option_or o (first_found f xs)) e ∙ sym e ∙ ap f (only x row (0, omega arith, refl) e))
    by None e rest = elim rest [
      | inl none ↦ inl (ap (λ o. option_or o (first_found f xs)) e ∙ none)
      | inr is ↦ inr (ap (λ o. option_or o (first_found f xs)) e ∙ is)
    ]

-- where interfaces lead to one owner alone, its first row is the field
pub sole_found : (rows : Rows) (ranks : List ℕ) → AreRanked rows ranks → (class key b : ℕ) → HasFieldNear rows class key
    → ((owner row : ℕ) → Path (HasInterface rows.implements) class owner → own_field rows.fields owner key ≡ Some row → owner ≡ b)
    → (row : ℕ) × (own_field rows.fields b key ≡ Some row) × FieldHere rows key class (Some row)
sole_found rows ranks p class key b near only =
    let o = order_exists (interfaces_of rows.implements) (λ c. get_or ranks c 0) (falls rows ranks p) class in
    let own : own_field rows.fields b key ≡ Some near.row = subst (λ k. own_field rows.fields k key ≡ Some near.row) (only near.owner near.row near.reached near.own) near.own in (
      near.row,
      own,
      (
        o.0,
        o.1,
        elim (first_of_sole (λ d. own_field rows.fields d key) b o.0 (λ d row m e. only d row (to_rows rows ranks p (order_reached (interfaces_of rows.implements) o.1 d m)) e)) [
          | inl none ↦ absurd (order_finds (interfaces_of rows.implements) (λ d. own_field rows.fields d key) class near.owner near.row o.0 o.1 (to_lists rows ranks p near.reached) near.own none)
          | inr is ↦ sym (is ∙ own)
        ],
      ),
    )

module _ (rows : Rows) (places : List ℕ) (table : List (List Span)) (o : Owners) (f : FieldOwners) (united : f.owners.united.now ≡ spans_of o.others f.key) (few : f.owners.few.now ≡ few_of o.interfaces f.key)
    (table_is : f.owners.table.now ≡ table) where
  -- the owners of the key hold what all owners hold for it
  pub held_is : (p : ℕ) → IsHeld f.owners p ↔ HoldsOwner table o f.key p
  held_is p = (on, back)
    where
      on : IsHeld f.owners p → HoldsOwner table o f.key p
      on (inl h) = inl (subst (λ xs. Holds xs p) united h)
      on (inr h) = inr (subst (λ xs. HoldsAny xs (few_of o.interfaces f.key) p) table_is (subst (λ xs. HoldsAny f.owners.table.now xs p) few h))

      back : HoldsOwner table o f.key p → IsHeld f.owners p
      back (inl h) = inl (subst (λ xs. Holds xs p) (sym united) h)
      back (inr h) = inr (subst (λ xs. HoldsAny xs f.owners.few.now p) (sym table_is) (subst (λ xs. HoldsAny table xs p) (sym few) h))

  pub tell_fields : f.places.now ≡ places → length places ≡ length rows.classes → NameClasses rows → IsReach (HasInterface rows.implements) (length rows.classes) places table
      → TellsOf (HasFieldNear rows) (length rows.classes) places table o → AreOwners rows.classes (map member_of_field rows.fields) table o → AreReady f.owners → TellFields rows f
  tell_fields places_are len named reach told are ready = record {
    ready = ready;
    len = ap length places_are ∙ len;
    exact = λ a h.
        let at = ap (λ ps. get_or ps a 0) places_are in
        (λ q. (told.exact a f.key h).0 ((held_is (get_or places a 0)).0 (subst (IsHeld f.owners) at q)), λ n. subst (IsHeld f.owners) (sym at) ((held_is (get_or places a 0)).1 ((told.exact a f.key h).1 n)));
    sole = λ a b h s owner row path own.
        let at = ap (λ ps. get_or ps a 0) places_are in
        let m = field_member rows places table o told.served named owner f.key row own in
        let held : Holds (group table owner) (get_or places a 0) = (reach.exact a owner h m.4).1 path in
        elim (owner_or rows.classes (map member_of_field rows.fields) table o are f.key (get_or places a 0) m.0 m.1 m.2 (subst (λ c. Holds (group table c) (get_or places a 0)) (sym m.3) held)) [
          | inl other ↦ absurd (s.no_other (subst (Holds f.owners.united.now) (sym at) (subst (λ xs. Holds xs (get_or places a 0)) (sym united) other)))
          | inr listed ↦ s.only owner (subst (λ xs. Contains xs owner) (sym few) (subst (Contains (few_of o.interfaces f.key)) m.3 listed))
              (subst (Holds (group f.owners.table.now owner)) (sym at) (subst (λ t. Holds (group t owner) (get_or places a 0)) (sym table_is) held))
        ];
  }
