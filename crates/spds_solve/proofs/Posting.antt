-- Posts, and what they are found by.
use Rattle.std.proofs.Common.{◌≡◌, ℕ, ◌↔◌, ◌⊎◌, ◌++◌, List, [], ◌∷◌, refl, sym, ap, ◌∙◌, subst, inl, inr}
use Rattle.lists.specs.Lists.{Has, Adds}
use Rattle.lists.proofs.Places.{Has-push}
use Rattle.lists.proofs.Joined.{Has-adds}
use Rattle.post_star.specs.declared.key.Key.{Key}
use Rattle.post_star.specs.declared.key.Key.TheVariants.{Node}
use Rattle.post_star.specs.Groups.{Groups, found_at, IsAdded}
use Rattle.post_star.proofs.Groups.{one_key}
use Rattle.spds_solve.specs.declared.heads.Head.{Head}
use Rattle.spds_solve.specs.declared.heads.Head.TheVariants.{Any, Mark}
use Rattle.spds_solve.specs.declared.posts.Post.{Post}
use Rattle.spds_solve.specs.declared.posts.Posts.{Posts}
use Rattle.spds_solve.specs.Posts.{IsPosted, key_at, Knows, post_of}

-- nothing is in an empty list
pub none : {X P : Type 0} {x : X} → Has [] x → P
none has = cc has.1

-- heads at stores that have one key are one
key_same : (store other : ℕ) (a b : Head) → key_at store a ≡ key_at other b → (store ≡ other) × (a ≡ b)
key_same store other Any Any e = (cc, cc)
key_same store other Any (Mark k) e = cc
key_same store other (Mark m) Any e = cc
key_same store other (Mark m) (Mark k) e = (cc, let same : m ≡ k = cc in ap Mark same)

node_same : (store other : ℕ) → Node store ≡ Node other → store ≡ other
node_same store other e = cc

-- what is found where one element came
found_added : (old new : Groups ℕ) (key : Key) (x : ℕ) → IsAdded old new key x → (k : Key) (y : ℕ) → Has (found_at new k) y ↔ (Has (found_at old k) y ⊎ ((k ≡ key) × (y ≡ x)))
found_added old new key x added k y = elim (one_key k key) [
  | inl same ↦
      let at : found_at new k ≡ found_at old k ++ x ∷ [] = ap (found_at new) same.0 ∙ added.here ∙ ap (λ (j : Key). found_at old j ++ x ∷ []) (sym same.0) in
      let push = Has-push (found_at old k) x y in (
        (λ has. elim (push.0 (subst (λ (xs : List ℕ). Has xs y) at has)) [ inl before ↦ inl before | inr e ↦ inr (same.0, e) ]),
        (λ either. subst (λ (xs : List ℕ). Has xs y) (sym at) (push.1 (elim either [ inl before ↦ inl before | inr e ↦ inr e.1 ]))),
      )
  | inr other ↦
      let at : found_at new k ≡ found_at old k = added.others k other.0 in (
        (λ has. inl (subst (λ (xs : List ℕ). Has xs y) at has)),
        (λ either. elim either [ inl before ↦ subst (λ (xs : List ℕ). Has xs y) (sym at) before | inr e ↦ absurd (other.0 e.0) ]),
      )
]

-- a post is what it says
same_post : (post : Post) (store site : ℕ) (head : Head) → store ≡ post.store → head ≡ post.head → site ≡ post.site → post_of store head site ≡ post
same_post post store site head a b c =
    ap (λ (n : ℕ). post_of n head site) a ∙ ap (λ (h : Head). post_of post.store h site) b ∙ ap (λ (n : ℕ). post_of post.store post.head n) c

module _ (old new : Posts) (post : Post) (put : new.posts.keys ≡ old.posts.keys ++ post ∷ []) where
  -- what is known where one post came
  pub known_put : (p : Post) → Knows new p ↔ (Knows old p ⊎ (p ≡ post))
  known_put p = subst (λ (xs : List Post). Has xs p ↔ (Knows old p ⊎ (p ≡ post))) (sym put) (Has-push old.posts.keys post p)

  pub posted_put : IsAdded old.by_head new.by_head (key_at post.store post.head) post.site → IsAdded old.by_store new.by_store (Node post.store) post.site → IsPosted old → IsPosted new
  posted_put heads stores was = record {
    by_head = λ store head site.
        let found = found_added old.by_head new.by_head (key_at post.store post.head) post.site heads (key_at store head) site in
        let known = known_put (post_of store head site) in (
          (λ has. known.1 (elim (found.0 has) [
            | inl before ↦ inl ((was.by_head store head site).0 before)
            | inr e ↦ let same = key_same store post.store head post.head e.0 in inr (same_post post store site head same.0 same.1 e.1)
          ])),
          (λ knows. found.1 (elim (known.0 knows) [
            | inl before ↦ inl ((was.by_head store head site).1 before)
            | inr e ↦ inr (ap (λ (p : Post). key_at p.store p.head) e, ap (λ (p : Post). p.site) e)
          ])),
        );
    by_store = λ store site.
        let found = found_added old.by_store new.by_store (Node post.store) post.site stores (Node store) site in (
          (λ has. elim (found.0 has) [
            | inl before ↦ let was_at = (was.by_store store site).0 before in (was_at.0, (known_put (post_of store was_at.0 site)).1 (inl was_at.1))
            | inr e ↦ (post.head, (known_put (post_of store post.head site)).1 (inr (same_post post store site post.head (node_same store post.store e.0) refl e.1)))
          ]),
          (λ at. found.1 (elim ((known_put (post_of store at.0 site)).0 at.1) [
            | inl before ↦ inl ((was.by_store store site).1 (at.0, before))
            | inr e ↦ inr (ap (λ (p : Post). Node p.store) e, ap (λ (p : Post). p.site) e)
          ])),
        );
  }

-- what is known where a post was put in, or was there
pub known_adds : (old new : Posts) (post : Post) → Adds old.posts.keys post new.posts.keys → (p : Post) → Knows new p ↔ (Knows old p ⊎ (p ≡ post))
known_adds old new post adds p = Has-adds old.posts.keys new.posts.keys post adds p

-- posts stay found where none came
pub posted_same : (old new : Posts) → new.posts.keys ≡ old.posts.keys → new.by_head ≡ old.by_head → new.by_store ≡ old.by_store → IsPosted old → IsPosted new
posted_same old new posts heads stores was = record {
  by_head = λ store head site. rw (posts, heads) (was.by_head store head site);
  by_store = λ store site. rw (posts, stores) (was.by_store store site);
}

-- nothing is known
pub posted_none : (new : Posts) → new.posts.keys ≡ [] → ((key : Key) → found_at new.by_head key ≡ []) → ((key : Key) → found_at new.by_store key ≡ []) → IsPosted new
posted_none new posts heads stores = record {
  by_head = λ store head site. (
    (λ has. none (subst (λ (xs : List ℕ). Has xs site) (heads (key_at store head)) has)),
    (λ knows. none (subst (λ (xs : List Post). Has xs (post_of store head site)) posts knows)),
  );
  by_store = λ store site. (
    (λ has. none (subst (λ (xs : List ℕ). Has xs site) (stores (Node store)) has)),
    (λ at. none (subst (λ (xs : List Post). Has xs (post_of store at.0 site)) posts at.1)),
  );
}
