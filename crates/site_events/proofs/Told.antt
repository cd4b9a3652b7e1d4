-- Tables whose relations rise.
use Rattle.std.proofs.Common.{◌≡◌, ℕ, ◌<◌, ◌⊎◌, ◌↔◌, List, [], ◌∷◌, ◌++◌, Option, Some, length, slice_get, slice_set, inl, inr, sym, subst, ◌∙◌, arith}
use Rattle.std.proofs.lemmas.Bool.{cases_eq}
use Rattle.lists.specs.Lists.{IsLeast}
use Rattle.lists.proofs.Places.{slice_get-append_left, slice_get-below, slice_get-push, slice_get-pushed, slice_get-set_other, slice_get-set_same, slice_get-there}
use Rattle.step_rules.proofs.Determined.{least_one}
use Rattle.weight_laws.proofs.Meaning.{meaning}
use Rattle.weight_laws.specs.declared.rel.Rel.{Rel}
use Rattle.weight_laws.specs.Rel.{Relates, rel_domain}
use Rattle.site_events.specs.declared.statement.Statement.{Statement}
use Rattle.site_events.specs.Tables.{AreRaised, HasOne, IsTold, Tabled}

-- a statement has one relation
pub told_one : (t : Tabled) (s : Statement) (u w : Rel) → IsTold t s u → IsTold t s w → u ≡ w
told_one t s u w a b =
    let same : a.0 ≡ b.0 = least_one (λ n. slice_get t.statements n ≡ Some s) a.0 b.0 a.1 b.1 in
    let first = subst (λ (i : ℕ). slice_get t.relations i ≡ Some u) same a.2 in
    let second = b.2 in
    cc

-- statements that stand once have their relations where they stand
pub told_where : (t : Tabled) (s : Statement) (number i : ℕ) (w : Rel) → ((j : ℕ) → slice_get t.statements j ≡ Some s → j ≡ number) → slice_get t.statements i ≡ Some s
    → slice_get t.relations i ≡ Some w → IsTold t s w
told_where t s number i w only at is = (i, record { holds = at; first = λ m less there. let a = only m there in let b = only i at in absurd (omega (arith, a, b, less)) }, is)

-- what is found is one number
pub one_number : (o : Option ℕ) (i j : ℕ) → o ≡ Some i → o ≡ Some j → j ≡ i
one_number o i j a b = cc

-- nothing has risen
pub raised_none : (t : Tabled) (Which : Statement → Type 0) (v : Rel) → ((s : Statement) → Which s → ⊥) → AreRaised t Which v t
raised_none t Which v none = record {
  meant = λ h. h;
  one = λ s. ((λ h. inl h), (λ h. elim h [ inl a ↦ a | inr b ↦ absurd (none s b) ]));
  each = λ s w told i j h. (
    (λ r. inl (w, told, r)),
    (λ r. elim r [
      | inl a ↦ subst (λ (x : Rel). Relates x i j) (told_one t s a.0 w a.1 told) a.2
      | inr b ↦ absurd (none s b.0)
    ]),
  );
}

-- some, and then others
pub raised_then : (old mid new : Tabled) (First Then Both : Statement → Type 0) (v : Rel) → AreRaised old First v mid → AreRaised mid Then v new
    → ((s : Statement) → Both s ↔ (First s ⊎ Then s)) → AreRaised old Both v new
raised_then old mid new First Then Both v a b both = record {
  meant = λ h. b.meant (a.meant h);
  one = λ s. (
    (λ h. elim ((b.one s).0 h) [
      | inl m ↦ elim ((a.one s).0 m) [ inl o ↦ inl o | inr f ↦ inr ((both s).1 (inl f)) ]
      | inr t ↦ inr ((both s).1 (inr t))
    ]),
    (λ h. (b.one s).1 (elim h [
      | inl o ↦ inl ((a.one s).1 (inl o))
      | inr x ↦ elim ((both s).0 x) [ inl f ↦ inl ((a.one s).1 (inr f)) | inr t ↦ inr t ]
    ])),
  );
  each = λ s w told i j h. (
    (λ r. elim ((b.each s w told i j h).0 r) [
      | inl m ↦ elim ((a.each s m.0 m.1 i j h).0 m.2) [ inl o ↦ inl o | inr f ↦ inr ((both s).1 (inl f.0), f.1) ]
      | inr t ↦ inr ((both s).1 (inr t.0), t.1)
    ]),
    (λ r. (b.each s w told i j h).1 (elim r [
      | inl o ↦ let m = (a.one s).1 (inl (o.0, o.1)) in inl (m.0, m.1, (a.each s m.0 m.1 i j h).1 (inl o))
      | inr x ↦ elim ((both s).0 x.0) [
        | inl f ↦ let m = (a.one s).1 (inr f) in inl (m.0, m.1, (a.each s m.0 m.1 i j h).1 (inr (f, x.1)))
        | inr t ↦ inr (t, x.1)
      ]
    ])),
  );
}

-- the table by other names of its lists
pub raised_as : (old : Tabled) (Which : Statement → Type 0) (v : Rel) {statements others : List Statement} {relations more : List Rel} → others ≡ statements → more ≡ relations
    → AreRaised old Which v (record { statements = statements; relations = relations }) → AreRaised old Which v (record { statements = others; relations = more })
raised_as old Which v {statements} {others} {relations} {more} a b raised =
    subst (λ (xs : List Statement). AreRaised old Which v (record { statements = xs; relations = more })) (sym a)
    (subst (λ (ws : List Rel). AreRaised old Which v (record { statements = statements; relations = ws })) (sym b) raised)

-- the same statements, said otherwise
pub raised_same : (old new : Tabled) (Which Other : Statement → Type 0) (v : Rel) → AreRaised old Which v new → ((s : Statement) → Other s ↔ Which s) → AreRaised old Other v new
raised_same old new Which Other v a same = record {
  meant = a.meant;
  one = λ s. (
    (λ h. elim ((a.one s).0 h) [ inl o ↦ inl o | inr f ↦ inr ((same s).1 f) ]),
    (λ h. (a.one s).1 (elim h [ inl o ↦ inl o | inr f ↦ inr ((same s).0 f) ])),
  );
  each = λ s w told i j h. (
    (λ r. elim ((a.each s w told i j h).0 r) [ inl o ↦ inl o | inr f ↦ inr ((same s).1 f.0, f.1) ]),
    (λ r. (a.each s w told i j h).1 (elim r [ inl o ↦ inl o | inr f ↦ inr ((same s).0 f.0, f.1) ])),
  );
}

module _ (statements : List Statement) (relations : List Rel) (as_many : length relations ≡ length statements) where
  -- a statement that stands in the list has a relation
  pub has_one : (s : Statement) (i : ℕ) → IsLeast (λ n. slice_get statements n ≡ Some s) i → HasOne (record { statements = statements; relations = relations }) s
  has_one s i least =
      let below = slice_get-below statements i s least.holds in
      let w = slice_get-there relations i (omega (arith, below, as_many)) in
      (w.0, (i, least, w.1))

  module _ (s : Statement) (v : Rel) where
    -- a statement that wasn't there comes last
    pub raised_new : rel_domain.IsMeant v → ((j : ℕ) → slice_get statements j ≡ Some s → ⊥)
        → AreRaised (record { statements = statements; relations = relations }) (λ x. x ≡ s) v (record { statements = statements ++ s ∷ []; relations = relations ++ v ∷ [] })
    raised_new v_meant new = record {
      meant = λ h x w told. elim (before x w told) [ inl a ↦ h x w a | inr b ↦ subst rel_domain.IsMeant (sym b.1) v_meant ];
      one = λ x. (
        (λ h. elim (before x h.0 h.1) [ inl a ↦ inl (h.0, a) | inr b ↦ inr b.0 ]),
        (λ h. elim h [
          | inl a ↦ (a.0, after x a.0 a.1)
          | inr e ↦ (
            v,
            (
              length statements,
              record {
                holds = subst (λ (y : Statement). slice_get (statements ++ s ∷ []) (length statements) ≡ Some y) (sym e) (slice_get-push statements s);
                first = λ m less there. elim (slice_get-pushed statements s m x there) [
                  | inl a ↦ absurd (new m (subst (λ (y : Statement). slice_get statements m ≡ Some y) e a))
                  | inr b ↦ absurd (omega (arith, less, b.0))
                ];
              },
              subst (λ (n : ℕ). slice_get (relations ++ v ∷ []) n ≡ Some v) as_many (slice_get-push relations v),
            ),
          )
        ]),
      );
      each = λ x w told i j h. elim (before x w told) [
        | inl a ↦ (
          (λ r. inl (w, a, r)),
          (λ r. elim r [
            | inl b ↦ subst (λ (y : Rel). Relates y i j) (told_one (record { statements = statements; relations = relations }) x b.0 w b.1 a) b.2
            | inr b ↦ absurd (new a.0 (subst (λ (y : Statement). slice_get statements a.0 ≡ Some y) b.0 a.1.holds))
          ]),
        )
        | inr a ↦ (
          (λ r. inr (a.0, subst (λ (y : Rel). Relates y i j) a.1 r)),
          (λ r. elim r [
            | inl b ↦ absurd (new b.1.0 (subst (λ (y : Statement). slice_get statements b.1.0 ≡ Some y) a.0 b.1.1.holds))
            | inr b ↦ subst (λ (y : Rel). Relates y i j) (sym a.1) b.1
          ]),
        )
      ];
    }
      where
        before : (x : Statement) (w : Rel) → IsTold (record { statements = statements ++ s ∷ []; relations = relations ++ v ∷ [] }) x w → IsTold (record { statements = statements; relations = relations }) x w ⊎ ((x ≡ s) × (w ≡ v))
        before x w told = elim (slice_get-pushed statements s told.0 x told.1.holds) [
          | inl a ↦
              let below = slice_get-below statements told.0 x a in
              elim (slice_get-pushed relations v told.0 w told.2) [
                | inl b ↦ inl (told.0, record { holds = a; first = λ m less there. told.1.first m less (slice_get-append_left statements (s ∷ []) m x there) }, b)
                | inr b ↦ absurd (omega (arith, below, b.0, as_many))
              ]
          | inr a ↦ elim (slice_get-pushed relations v told.0 w told.2) [
            | inl b ↦ let below = slice_get-below relations told.0 w b in absurd (omega (arith, below, a.0, as_many))
            | inr b ↦ inr (a.1, b.1)
          ]
        ]

        after : (x : Statement) (w : Rel) → IsTold (record { statements = statements; relations = relations }) x w → IsTold (record { statements = statements ++ s ∷ []; relations = relations ++ v ∷ [] }) x w
        after x w told = (
          told.0,
          record {
            holds = slice_get-append_left statements (s ∷ []) told.0 x told.1.holds;
            first = λ m less there. elim (slice_get-pushed statements s m x there) [
              | inl a ↦ told.1.first m less a
              | inr b ↦ let below = slice_get-below statements told.0 x told.1.holds in absurd (omega (arith, less, below, b.0))
            ];
          },
          slice_get-append_left relations (v ∷ []) told.0 w told.2,
        )

    -- the relation of one that is there rises
    pub raised_old : (number : ℕ) (u both : Rel) → both ≡ rel_domain.combine u v → slice_get statements number ≡ Some s → ((j : ℕ) → slice_get statements j ≡ Some s → j ≡ number) → slice_get relations number ≡ Some u
        → rel_domain.IsMeant both
        → AreRaised (record { statements = statements; relations = relations }) (λ x. x ≡ s) v
        (record { statements = statements; relations = slice_set relations number both })
    raised_old number u both sum at only is both_meant = record {
      meant = λ h x w told. elim (before x w told) [ inl a ↦ h x w a.1 | inr b ↦ subst rel_domain.IsMeant (sym b.1) both_meant ];
      one = λ x. (
        (λ h. inl (has_one x h.1.0 h.1.1)),
        (λ h. elim h [
          | inl a ↦ raised_one x a.1.0 a.1.1
          | inr e ↦ raised_one x number (record {
            holds = subst (λ (y : Statement). slice_get statements number ≡ Some y) (sym e) at;
            first = λ m less there. let same = only m (subst (λ (y : Statement). slice_get statements m ≡ Some y) e there) in absurd (omega (arith, less, same));
          })
        ]),
      );
      each = λ x w told i j h. elim (before x w told) [
        | inl a ↦ (
          (λ r. inl (w, a.1, r)),
          (λ r. elim r [
            | inl b ↦ subst (λ (y : Rel). Relates y i j) (told_one (record { statements = statements; relations = relations }) x b.0 w b.1 a.1) b.2
            | inr b ↦ absurd (a.0 b.0)
          ]),
        )
        | inr a ↦ (
          (λ r. elim ((meaning.combine u v i j h).0 (subst (λ (y : Rel). Relates y i j) (a.1 ∙ sum) r)) [
            | inl b ↦ inl (u, told_where (record { statements = statements; relations = relations }) x number number u (only_of x a.0) (here x a.0) is, b)
            | inr b ↦ inr (a.0, b)
          ]),
          (λ r. subst (λ (y : Rel). Relates y i j) (sym (a.1 ∙ sum)) ((meaning.combine u v i j h).1 (elim r [
            | inl b ↦ inl (subst (λ (y : Rel). Relates y i j) (told_one (record { statements = statements; relations = relations }) x b.0 u b.1 (told_where (record { statements = statements; relations = relations }) x number number u (only_of x a.0) (here x a.0) is)) b.2)
            | inr b ↦ inr b.1
          ]))),
        )
      ];
    }
      where
        only_of : (x : Statement) → x ≡ s → (j : ℕ) → slice_get statements j ≡ Some x → j ≡ number
        only_of x e j there = only j (subst (λ (y : Statement). slice_get statements j ≡ Some y) e there)

        here : (x : Statement) → x ≡ s → slice_get statements number ≡ Some x
        here x e = subst (λ (y : Statement). slice_get statements number ≡ Some y) (sym e) at

        inside : number < length relations
        inside = slice_get-below relations number u is

        before : (x : Statement) (w : Rel) → IsTold (record { statements = statements; relations = slice_set relations number both }) x w
            → ((x ≡ s → ⊥) × IsTold (record { statements = statements; relations = relations }) x w) ⊎ ((x ≡ s) × (w ≡ both))
        before x w told = elim (cases_eq told.0 number) [
          | inl e ↦
              let set = slice_get-set_same relations number both inside in
              let read = subst (λ (n : ℕ). slice_get (slice_set relations number both) n ≡ Some w) e told.2 in
              let there = subst (λ (n : ℕ). slice_get statements n ≡ Some x) e told.1.holds in
              let same : x ≡ s = cc in
              let is_both : w ≡ both = cc in
              inr (same, is_both)
          | inr ne ↦
              let stays = slice_get-set_other relations number told.0 both ne in
              inl ((λ e. ne (only told.0 (subst (λ (y : Statement). slice_get statements told.0 ≡ Some y) e told.1.holds))), (told.0, told.1, sym stays ∙ told.2))
        ]

        raised_one : (x : Statement) (i : ℕ) → IsLeast (λ n. slice_get statements n ≡ Some x) i
            → HasOne (record { statements = statements; relations = slice_set relations number both }) x
        raised_one x i least = elim (cases_eq i number) [
          | inl e ↦ (
            both,
            (
              i,
              least,
              subst (λ (n : ℕ). slice_get (slice_set relations number both) n ≡ Some both) (sym e)
                  (slice_get-set_same relations number both inside),
            ),
          )
          | inr ne ↦ let w = has_one x i least in
              let same : w.1.0 ≡ i = least_one (λ n. slice_get statements n ≡ Some x) w.1.0 i w.1.1 least in
              (w.0, (i, least, slice_get-set_other relations number i both ne ∙ subst (λ (n : ℕ). slice_get relations n ≡ Some w.0) same w.1.2))
        ]
