-- What is known of the ends of stores grows, and pairs come to wait.
use Rattle.std.proofs.Common.{◌≡◌, ℕ, ◌+◌, ◌↔◌, ◌⊎◌, ◌<◌, List, [], get_or, length, take, refl, sym, ap, ◌∙◌, subst, inl, inr}
use Rattle.lists.specs.Lists.{Has}
use Rattle.call_side.proofs.Lists.{Has-take_more}
use Rattle.spds_solve.specs.declared.ends.End.{End}
use Rattle.spds_solve.specs.declared.ends.End.TheVariants.{Arg, Base}
use Rattle.spds_solve.specs.declared.heads.Head.{Head}
use Rattle.spds_solve.specs.declared.heads.Head.TheVariants.{Any, Mark}
use Rattle.spds_solve.specs.declared.known.Known.{Known}
use Rattle.spds_solve.specs.declared.met.Met.{Met}
use Rattle.spds_solve.specs.declared.posts.Post.{Post}
use Rattle.spds_solve.specs.declared.posts.Posts.{Posts}
use Rattle.spds_solve.specs.Heads.{Fit}
use Rattle.spds_solve.specs.Known.{AreSeen, FitsAt, IsInRange, IsKnown, IsPairOf, IsSeen, Keeps, met_at}
use Rattle.spds_solve.specs.Mets.{numbers_of}
use Rattle.spds_solve.specs.Posts.{IsPosted, Knows, post_of}
use Rattle.spds_tables.specs.declared.numbered.Met.{Met as Numbers}
use Rattle.spds_tables.specs.declared.parts.Parts.{Parts}
use Rattle.spds_tables.specs.Parts.{IsInParts}

-- heads fit both ways
pub fit_back : (a b : Head) → Fit a b → Fit b a
fit_back Any Any fit = tt
fit_back Any (Mark k) fit = tt
fit_back (Mark m) Any fit = tt
fit_back (Mark m) (Mark k) fit = sym fit

module _ (mets : List Met) where
  -- what was met or waits does so still
  pub seen_kept : (old new : List Numbers) → ((m : Numbers) → Has old m → Has new m) → (m : Numbers) → IsSeen mets old m → IsSeen mets new m
  seen_kept old new kept m (inl met) = inl met
  seen_kept old new kept m (inr waits) = inr (kept m waits)

  -- none of no pairs waits
  pub seen_none : (These : Numbers → Type 0) (old : List Numbers) → ((m : Numbers) → These m → ⊥) → AreSeen mets These old old
  seen_none These old none = record { kept = λ m has. has; only = λ m has. inl has; seen = λ m these. absurd (none m these) }

  -- a pair that is met doesn't wait
  pub seen_met : (old : List Numbers) (pair : Numbers) → Has (numbers_of mets) pair → AreSeen mets (λ m. m ≡ pair) old old
  seen_met old pair met = record { kept = λ m has. has; only = λ m has. inl has; seen = λ m e. inl (subst (Has (numbers_of mets)) (sym e) met) }

  -- another one does
  pub seen_put : (old new : List Numbers) (pair : Numbers) → ((m : Numbers) → Has new m ↔ (Has old m ⊎ (m ≡ pair))) → AreSeen mets (λ m. m ≡ pair) old new
  seen_put old new pair now = record { kept = λ m has. (now m).1 (inl has); only = λ m has. (now m).0 has; seen = λ m e. inr ((now m).1 (inr e)) }

  -- these and those
  pub seen_both : (A B C : Numbers → Type 0) (old mid new : List Numbers) → AreSeen mets A old mid → AreSeen mets B mid new → ((m : Numbers) → C m ↔ (A m ⊎ B m))
      → AreSeen mets C old new
  seen_both A B C old mid new a b both = record {
    kept = λ m has. b.kept m (a.kept m has);
    only = λ m has. elim (b.only m has) [
      | inl before ↦ elim (a.only m before) [ inl x ↦ inl x | inr y ↦ inr ((both m).1 (inl y)) ]
      | inr y ↦ inr ((both m).1 (inr y))
    ];
    seen = λ m these. elim ((both m).0 these) [ inl x ↦ seen_kept mid new b.kept m (a.seen m x) | inr y ↦ b.seen m y ];
  }

  -- these, said otherwise
  pub seen_as : (A B : Numbers → Type 0) (old new : List Numbers) → AreSeen mets A old new → ((m : Numbers) → B m ↔ A m) → AreSeen mets B old new
  seen_as A B old new a same = record {
    kept = a.kept;
    only = λ m has. elim (a.only m has) [ inl before ↦ inl before | inr x ↦ inr ((same m).1 x) ];
    seen = λ m these. a.seen m ((same m).0 these);
  }

module _ (end : End) (post : Post) (A B C : ℕ → Type 0) (both : (other : ℕ) → C other ↔ (A other ⊎ B other)) where
  -- those with these sites and those
  pub pairs_both : (m : Numbers) → IsPairOf end post C m ↔ (IsPairOf end post A m ⊎ IsPairOf end post B m)
  pairs_both m = (
    (λ pair. elim ((both pair.0).0 pair.1) [ inl a ↦ inl (pair.0, a, pair.2) | inr b ↦ inr (pair.0, b, pair.2) ]),
    (λ either. elim either [
      | inl pair ↦ (pair.0, (both pair.0).1 (inl pair.1), pair.2)
      | inr pair ↦ (pair.0, (both pair.0).1 (inr pair.1), pair.2)
    ]),
  )

-- those with the same sites are the same
pub pairs_same : (end : End) (post : Post) (A B : ℕ → Type 0) → ((other : ℕ) → A other ↔ B other) → (m : Numbers) → IsPairOf end post A m ↔ IsPairOf end post B m
pairs_same end post A B same m = (
  (λ pair. (pair.0, (same pair.0).0 pair.1, pair.2)),
  (λ pair. (pair.0, (same pair.0).1 pair.1, pair.2)),
)

-- what is the same as a third is the same
pub both_ways : {A B C : Type 0} → (A ↔ B) → (C ↔ B) → A ↔ C
both_ways a c = ((λ x. c.1 (a.0 x)), (λ x. a.1 (c.0 x)))

pub either_ways : {A B C D E : Type 0} → (A ↔ (B ⊎ C)) → (D ↔ B) → (E ↔ C) → A ↔ (D ⊎ E)
either_ways a d e = (
  (λ x. elim (a.0 x) [ inl b ↦ inl (d.1 b) | inr c ↦ inr (e.1 c) ]),
  (λ x. a.1 (elim x [ inl y ↦ inl (d.0 y) | inr z ↦ inr (e.0 z) ])),
)

-- those with one site more of a list
pub pairs_next : (end : End) (post : Post) (xs : List ℕ) (i d : ℕ) → i < length xs → (m : Numbers)
    → IsPairOf end post (Has (take (i + 1) xs)) m ↔ (IsPairOf end post (Has (take i xs)) m ⊎ (m ≡ met_at end post (get_or xs i d)))
pairs_next end post xs i d low m = (
  (λ pair. elim ((Has-take_more xs i d pair.0 low).0 pair.1) [
    | inl before ↦ inl (pair.0, before, pair.2)
    | inr e ↦ inr (pair.2 ∙ ap (met_at end post) e)
  ]),
  (λ either. elim either [
    | inl pair ↦ (pair.0, (Has-take_more xs i d pair.0 low).1 (inl pair.1), pair.2)
    | inr e ↦ (get_or xs i d, (Has-take_more xs i d (get_or xs i d) low).1 (inr refl), e)
  ]),
)

-- no pair is with none
pub pairs_none : (end : End) (post : Post) (m : Numbers) → IsPairOf end post (Has []) m → ⊥
pairs_none end post m pair = cc pair.1.1

-- the sites that fit a mark are those of the mark, and those of any
pub fits_mark : (others : Posts) (post : Post) (mark : ℕ) → post.head ≡ Mark mark → (other : ℕ)
    → FitsAt others post other ↔ (Knows others (post_of post.store post.head other) ⊎ Knows others (post_of post.store Any other))
fits_mark others post mark is other = (
  (λ fits. by fits.0 fits.1 (subst (λ (h : Head). Fit h fits.0) is fits.2)),
  (λ either. elim either [
    | inl knows ↦ (post.head, knows, subst (λ (h : Head). Fit h h) (sym is) refl_mark)
    | inr knows ↦ (Any, knows, fit_back Any post.head tt)
  ]),
)
  where
    refl_mark : Fit (Mark mark) (Mark mark)
    refl_mark = cc

    by : (head : Head) → Knows others (post_of post.store head other) → Fit (Mark mark) head
        → Knows others (post_of post.store post.head other) ⊎ Knows others (post_of post.store Any other)
    by Any knows fit = inr knows
    by (Mark k) knows fit = inl (subst (λ (h : Head). Knows others (post_of post.store h other)) (sym is) (subst (λ (n : ℕ). Knows others (post_of post.store (Mark n) other)) (sym fit) knows))

-- all fit any
pub fits_any : (others : Posts) (post : Post) → post.head ≡ Any → (other : ℕ) → FitsAt others post other ↔ ((head : Head) × Knows others (post_of post.store head other))
fits_any others post is other = (
  (λ fits. (fits.0, fits.1)),
  (λ at. (at.0, at.1, subst (λ (h : Head). Fit h at.0) (sym is) tt)),
)

module _ (parts : Parts) (mets : List Met) (old new : Known) (was : IsKnown parts mets old) where
  -- no post came
  pub known_same : IsPosted new.args → IsPosted new.bases → ((x : Post) → Knows new.args x → Knows old.args x) → ((x : Post) → Knows new.bases x → Knows old.bases x)
      → new.pending ≡ old.pending → IsKnown parts mets new
  known_same args bases few_args few_bases pending = record {
    args = args;
    bases = bases;
    in_args = λ x knows. was.in_args x (few_args x knows);
    in_bases = λ x knows. was.in_bases x (few_bases x knows);
    in_pending = λ m has. was.in_pending m (subst (λ p. Has p.keys m) pending has);
    seen = λ store a b head other x y fit.
        subst (λ p. IsSeen mets p.keys (record { object = a; base = b; store = store })) (sym pending)
        (was.seen store a b head other (few_args (post_of store head a) x) (few_bases (post_of store other b) y) fit);
  }

  module _ (post : Post) (range : IsInRange parts post) where
    -- a post came of what is stored
    pub known_arg : IsPosted new.args → ((x : Post) → Knows new.args x → Knows old.args x ⊎ (x ≡ post)) → new.bases ≡ old.bases
        → AreSeen mets (IsPairOf Arg post (FitsAt old.bases post)) old.pending.keys new.pending.keys → IsKnown parts mets new
    known_arg posted adds bases pairs = record {
      args = posted;
      bases = subst IsPosted (sym bases) was.bases;
      in_args = λ x knows. elim (adds x knows) [ inl before ↦ was.in_args x before | inr e ↦ subst (IsInRange parts) (sym e) range ];
      in_bases = λ x knows. was.in_bases x (subst (λ p. Knows p x) bases knows);
      in_pending = λ m has. elim (pairs.only m has) [
        | inl before ↦ was.in_pending m before
        | inr pair ↦
            let other = was.in_bases (post_of post.store pair.1.0 pair.0) pair.1.1 in
            subst (IsInParts parts) (sym pair.2) (record { object = range.site; base = other.site; store = range.store })
      ];
      seen = λ store a b head other x y fit.
          let known = subst (λ p. Knows p (post_of store other b)) bases y in
          elim (adds (post_of store head a) x) [
            | inl before ↦ seen_kept mets old.pending.keys new.pending.keys pairs.kept _ (was.seen store a b head other before known fit)
            | inr e ↦
                let at : (store ≡ post.store) × (head ≡ post.head) × (a ≡ post.site) = (ap (λ (p : Post). p.store) e, ap (λ (p : Post). p.head) e, ap (λ (p : Post). p.site) e) in
                let fits : FitsAt old.bases post b = (other, subst (λ (n : ℕ). Knows old.bases (post_of n other b)) at.0 known, subst (λ (h : Head). Fit h other) at.1 fit) in
                let seen = pairs.seen (met_at Arg post b) (b, fits, refl) in
                subst (λ (n : ℕ). IsSeen mets new.pending.keys (record { object = a; base = b; store = n })) (sym at.0)
                (subst (λ (n : ℕ). IsSeen mets new.pending.keys (record { object = n; base = b; store = post.store })) (sym at.2) seen)
          ];
    }

    -- and one of what is stored into
    pub known_base : IsPosted new.bases → ((x : Post) → Knows new.bases x → Knows old.bases x ⊎ (x ≡ post)) → new.args ≡ old.args
        → AreSeen mets (IsPairOf Base post (FitsAt old.args post)) old.pending.keys new.pending.keys → IsKnown parts mets new
    known_base posted adds args pairs = record {
      args = subst IsPosted (sym args) was.args;
      bases = posted;
      in_args = λ x knows. was.in_args x (subst (λ p. Knows p x) args knows);
      in_bases = λ x knows. elim (adds x knows) [ inl before ↦ was.in_bases x before | inr e ↦ subst (IsInRange parts) (sym e) range ];
      in_pending = λ m has. elim (pairs.only m has) [
        | inl before ↦ was.in_pending m before
        | inr pair ↦
            let other = was.in_args (post_of post.store pair.1.0 pair.0) pair.1.1 in
            subst (IsInParts parts) (sym pair.2) (record { object = other.site; base = range.site; store = range.store })
      ];
      seen = λ store a b head other x y fit.
          let known = subst (λ p. Knows p (post_of store head a)) args x in
          elim (adds (post_of store other b) y) [
            | inl before ↦ seen_kept mets old.pending.keys new.pending.keys pairs.kept _ (was.seen store a b head other known before fit)
            | inr e ↦
                let at : (store ≡ post.store) × (other ≡ post.head) × (b ≡ post.site) = (ap (λ (p : Post). p.store) e, ap (λ (p : Post). p.head) e, ap (λ (p : Post). p.site) e) in
                let fits : FitsAt old.args post a = (
                  head,
                  subst (λ (n : ℕ). Knows old.args (post_of n head a)) at.0 known,
                  subst (λ (h : Head). Fit h head) at.1 (fit_back head other fit),
                ) in
                let seen = pairs.seen (met_at Base post a) (a, fits, refl) in
                subst (λ (n : ℕ). IsSeen mets new.pending.keys (record { object = a; base = b; store = n })) (sym at.0)
                (subst (λ (n : ℕ). IsSeen mets new.pending.keys (record { object = a; base = n; store = post.store })) (sym at.2) seen)
          ];
    }

  -- pairs that are met wait no more
  pub known_dropped : new.args ≡ old.args → new.bases ≡ old.bases → ((m : Numbers) → Has new.pending.keys m → Has old.pending.keys m)
      → ((m : Numbers) → Has old.pending.keys m → IsSeen mets new.pending.keys m) → IsKnown parts mets new
  known_dropped args bases few seen = record {
    args = subst IsPosted (sym args) was.args;
    bases = subst IsPosted (sym bases) was.bases;
    in_args = λ x knows. was.in_args x (subst (λ p. Knows p x) args knows);
    in_bases = λ x knows. was.in_bases x (subst (λ p. Knows p x) bases knows);
    in_pending = λ m has. was.in_pending m (few m has);
    seen = λ store a b head other x y fit.
        elim (was.seen store a b head other (subst (λ p. Knows p (post_of store head a)) args x) (subst (λ p. Knows p (post_of store other b)) bases y) fit) [
          | inl met ↦ inl met
          | inr waits ↦ seen _ waits
        ];
  }

-- more meets are met
pub known_more : (parts : Parts) (few more : List Met) (known : Known) → ((m : Numbers) → Has (numbers_of few) m → Has (numbers_of more) m) → IsKnown parts few known
    → IsKnown parts more known
known_more parts few more known within was = record {
  args = was.args;
  bases = was.bases;
  in_args = was.in_args;
  in_bases = was.in_bases;
  in_pending = was.in_pending;
  seen = λ store a b head other x y fit. elim (was.seen store a b head other x y fit) [ inl met ↦ inl (within _ met) | inr waits ↦ inr waits ];
}

-- what is known at one end and at the other
pub keeps_both : (old new : Known) → ((x : Post) → Knows old.args x → Knows new.args x) → ((x : Post) → Knows old.bases x → Knows new.bases x) → Keeps old new
keeps_both old new args bases Arg x knows = args x knows
keeps_both old new args bases Base x knows = bases x knows

pub keeps_self : (known : Known) → Keeps known known
keeps_self known end x knows = knows

pub keeps_then : (first mid last : Known) → Keeps first mid → Keeps mid last → Keeps first last
keeps_then first mid last a b end x knows = b end x (a end x knows)
