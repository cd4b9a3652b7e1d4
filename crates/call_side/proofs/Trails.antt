-- Trails, to which an element comes last, and how they are read back.
use Rattle.std.proofs.Common.{◌≡◌, ℕ, ◌<◌, List, [], ◌∷◌, ◌++◌, Option, Some, None, Bool, true, false, not, length, get_or, reverse, slice_get, inl, inr, refl, sym, ap, subst, ◌∙◌, arith, length-append, rules}
use Rattle.std.proofs.lemmas.List.{reverse-append}
use Rattle.std.proofs.lemmas.Option.{slice_get-get_or}
use Rattle.auto_table.specs.declared.entry.Entry.{Entry}
use Rattle.auto_table.specs.Cells.{Cells}
use Rattle.lists.specs.Lists.{Has}
use Rattle.lists.proofs.Places.{slice_get-append_left, slice_get-below, slice_get-pushed, slice_get-there}
use Rattle.post_star.specs.declared.bases.BaseStep.{BaseStep}
use Rattle.post_star.specs.Derivations.{Leads, step_of}
use Rattle.weight_laws.specs.declared.reach.Reach.{Reach}
use Rattle.call_side.specs.contracts.pairs.PairPartialEq.TheImpl as pairs
use Rattle.call_side.specs.declared.homes.Homes.{Homes}
use Rattle.call_side.specs.declared.origin.Origin.{Origin}
use Rattle.call_side.specs.declared.pairs.Pair.{Pair}
use Rattle.call_side.specs.Indexed.{AreHomes, ComesHome, IsHome, MayComeHome}
use Rattle.call_side.specs.Search.{Asked, CameIn, IsEnd, IsShared, IsStart, IsTrail, MayCome, WalkBoth}
use Rattle.call_side.specs.Trails.{AreBackward, AreKept, IsBack, IsTrailOf}
use Rattle.call_side.specs.Words.{Walks}

-- the derived test on pairs is equality
pub same_pair : (a b : Pair) → pairs.eq-value.it a b ≡ true → a ≡ b
same_pair a b h = search rules

pub self_pair : (a : Pair) → pairs.eq-value.it a a ≡ true
self_pair a = search rules

-- what a set that took its key in had before
pub not_new : (r b : Bool) → r ≡ not b → r ≡ true → b ≡ false
not_new r true e t = cc
not_new r false e t = refl

module _ {X : Type 0} (Comes : List X → ℕ → X → Option Origin → Type 0) where
  -- nothing was found
  pub trail_none : (xs : List X) (origins : List (Option Origin)) → xs ≡ [] → origins ≡ [] → IsTrailOf Comes xs origins
  trail_none xs origins p o = rw (p, o) (record { as_many = refl; each = λ number x origin there from. cc })

  -- one element comes last
  pub trail_push : (old : List X) (x : X) (origins : List (Option Origin)) (origin : Option Origin) → ((number : ℕ) (y : X) (o : Option Origin) → Comes old number y o → Comes (old ++ x ∷ []) number y o)
      → Comes (old ++ x ∷ []) (length old) x origin → IsTrailOf Comes old origins → IsTrailOf Comes (old ++ x ∷ []) (origins ++ origin ∷ [])
  trail_push old x origins origin kept came trail = record {
    as_many = omega (arith, length-append old (x ∷ []), length-append origins (origin ∷ []), trail.as_many);
    each = λ number p o there from. elim (slice_get-pushed old x number p there) [
      | inl a ↦ elim (slice_get-pushed origins origin number o from) [
        | inl b ↦ kept number p o (trail.each number p o a b)
        | inr b ↦ absurd (let below : number < length old = slice_get-below old number p a in let e : number ≡ length origins = b.0 in omega (arith, trail.as_many))
      ]
      | inr a ↦ elim (slice_get-pushed origins origin number o from) [
        | inl b ↦ absurd (let below : number < length origins = slice_get-below origins number o b in let e : number ≡ length old = a.0 in omega (arith, trail.as_many))
        | inr b ↦ last number p o a.0 a.1 b.1
      ]
    ];
  }
    where
      last : (number : ℕ) (p : X) (o : Option Origin) → number ≡ length old → p ≡ x → o ≡ origin → Comes (old ++ x ∷ []) number p o
      last number p o e f g =
          subst (λ (n : ℕ). Comes (old ++ x ∷ []) n p o) (sym e)
          (subst (λ (y : X). Comes (old ++ x ∷ []) (length old) y o) (sym f) (subst (λ (y : Option Origin). Comes (old ++ x ∷ []) (length old) x y) (sym g) came))

  -- each origin of a trail is earlier
  pub trail_backward : (xs : List X) (origins : List (Option Origin)) → ((number : ℕ) (x : X) (origin : Origin) → Comes xs number x (Some origin) → origin.from < number) → IsTrailOf Comes xs origins → AreBackward origins
  trail_backward xs origins earlier trail number origin there =
      let below : number < length origins = slice_get-below origins number (Some origin) there in
      let x = slice_get-there xs number (omega (arith, trail.as_many)) in
      earlier number x.0 origin (trail.each number x.0 (Some origin) x.1 there)

module _ (q : Asked) (old : List Pair) (pair : Pair) where
  came_kept : (number : ℕ) (p : Pair) (origin : Option Origin) → CameIn q old number p origin → CameIn q (old ++ pair ∷ []) number p origin
  came_kept number p None came = came
  came_kept number p (Some origin) came = (came.0, (came.1.0, slice_get-append_left old (pair ∷ []) origin.from came.1.0 came.1.1, came.1.2))

  came_last : (origin : Option Origin) → MayCome q old pair origin → CameIn q (old ++ pair ∷ []) (length old) pair origin
  came_last None came = came
  came_last (Some origin) came = (slice_get-below old origin.from came.0 came.1, (came.0, slice_get-append_left old (pair ∷ []) origin.from came.0 came.1, came.2))

  pub trail_more : (origins : List (Option Origin)) (origin : Option Origin) → MayCome q old pair origin → IsTrail q old origins → IsTrail q (old ++ pair ∷ []) (origins ++ origin ∷ [])
  trail_more origins origin may trail = trail_push (CameIn q) old pair origins origin came_kept (came_last origin may) trail

module _ (steps : List BaseStep) (last : ℕ) where
  module _ (old : List ℕ) (base : ℕ) where
    home_kept : (number b : ℕ) (origin : Option Origin) → ComesHome steps last old number b origin → ComesHome steps last (old ++ base ∷ []) number b origin
    home_kept number b None came = came
    home_kept number b (Some origin) came = (came.0, (came.1.0, slice_get-append_left old (base ∷ []) origin.from came.1.0 came.1.1, came.1.2))

    home_last : (origin : Option Origin) → MayComeHome steps last old base origin → ComesHome steps last (old ++ base ∷ []) (length old) base origin
    home_last None came = came
    home_last (Some origin) came = (slice_get-below old origin.from came.0 came.1, (came.0, slice_get-append_left old (base ∷ []) origin.from came.0 came.1, came.2))

    pub homes_more : (origins : List (Option Origin)) (origin : Option Origin) → MayComeHome steps last old base origin → AreHomes steps last old origins → AreHomes steps last (old ++ base ∷ []) (origins ++ origin ∷ [])
    homes_more origins origin may homes = trail_push (ComesHome steps last) old base origins origin home_kept (home_last origin may) homes

  pub home_kept_may : (old new : List ℕ) (base : ℕ) (origin : Option Origin) → AreKept old new → MayComeHome steps last old base origin → MayComeHome steps last new base origin
  home_kept_may old new base None kept may = may
  home_kept_may old new base (Some origin) kept may = (may.0, kept origin.from may.0 may.1, may.2)

  pub homes_backward : (bases : List ℕ) (origins : List (Option Origin)) → AreHomes steps last bases origins → AreBackward origins
  homes_backward bases origins homes = trail_backward (ComesHome steps last) bases origins (λ number x origin came. came.0) homes

  -- the marks back are a way home
  pub back_home : (bases : List ℕ) (origins : List (Option Origin)) → AreHomes steps last bases origins → {number : ℕ} {marks : List ℕ} → IsBack origins number marks
      → (base : ℕ) → slice_get bases number ≡ Some base → Leads steps base marks last
  back_home bases origins homes (IsBack.begins {number} none) base there = homes.each number base None there none
  back_home bases origins homes (IsBack.comes {number} {origin} {marks} some rest) base there =
      let came = (homes.each number base (Some origin) there some).1 in
      (came.0, came.2, back_home bases origins homes rest came.0 came.1)

  -- each base that leads home is one of those that are found
  pub led_is_home : (h : Homes) → IsHome steps last h → (base : ℕ) (word : List ℕ) → Leads steps base word last → Has h.bases.keys base
  led_is_home h home base [] leads = subst (Has h.bases.keys) (sym leads) home.has_last
  led_is_home h home base (mark ∷ word) leads = home.closed (step_of base mark leads.0) leads.1 (led_is_home h home leads.0 word leads.2)

module _ (steps : List BaseStep) (t : Cells Reach) where
  -- one word and then another
  pub Walks-append : (entry mid end : Entry) (word more : List ℕ) → Walks steps t entry word mid → Walks steps t mid more end → Walks steps t entry (word ++ more) end
  Walks-append entry mid end [] more walk on = subst (λ (e : Entry). Walks steps t e more end) (sym walk) on
  Walks-append entry mid end (mark ∷ word) more walk on = (walk.0, walk.1, Walks-append walk.0 mid end word more walk.2 on)

module _ (q : Asked) (pairs : List Pair) (origins : List (Option Origin)) (trail : IsTrail q pairs origins) where
  pub pairs_backward : AreBackward origins
  pairs_backward = trail_backward (CameIn q) pairs origins (λ number x origin came. came.0) trail

  -- the marks back, turned round, lead from a pair to begin with
  pub record IsReached (pair : Pair) (word : List ℕ) : Type 0 where
    pub start : Pair
    pub is_start : IsStart q start
    pub walk : WalkBoth q start word pair

  pub back_start : {number : ℕ} {marks : List ℕ} → IsBack origins number marks → (pair : Pair) → slice_get pairs number ≡ Some pair → IsReached pair (reverse marks)
  back_start (IsBack.begins {number} none) pair there = record { start = pair; is_start = trail.each number pair None there none; walk = (refl, refl) }
  back_start (IsBack.comes {number} {origin} {marks} some rest) pair there =
      let came = (trail.each number pair (Some origin) there some).1 in
      let reached = back_start rest came.0 came.1 in
      record {
        start = reached.start;
        is_start = reached.is_start;
        walk = rw (reverse-append (origin.mark ∷ []) marks) (
          Walks-append q.steps q.first reached.start.first came.0.first pair.first (reverse marks) (origin.mark ∷ []) reached.walk.0 (pair.first, came.2.0, refl),
          Walks-append q.steps q.second reached.start.second came.0.second pair.second (reverse marks) (origin.mark ∷ []) reached.walk.1 (pair.second, came.2.1, refl),
        );
      }

  -- the word to the end, and then the one that both of its entries read
  pub shared_by : {number : ℕ} (marks way word : List ℕ) → IsBack origins number marks → IsEnd q pairs number way → word ≡ reverse marks ++ way → IsShared q word
  shared_by marks way word back end is =
      let reached = back_start back end.pair end.there in
      rw is (record {
        first = record { entry = reached.start.first; among = reached.is_start.0; spells = Walks-append q.steps q.first reached.start.first end.pair.first _ (reverse marks) way reached.walk.0 end.spells.0 };
        second = record { entry = reached.start.second; among = reached.is_start.1; spells = Walks-append q.steps q.second reached.start.second end.pair.second _ (reverse marks) way reached.walk.1 end.spells.1 };
      })

-- a step that leads to a base
pub step_to : (steps : List BaseStep) (s : BaseStep) (below : ℕ) → Has steps s → s.below ≡ below → Has steps (step_of s.base s.mark below)
step_to steps s below has is = subst (λ (n : ℕ). Has steps (step_of s.base s.mark n)) is has

module _ (origins : List (Option Origin)) (at : ℕ) (there : at < length origins) where
  -- an origin, and the end, as indexing reads them
  pub reads_some : (origin : Origin) → get_or origins at None ≡ Some origin → slice_get origins at ≡ Some (Some origin)
  reads_some origin is = slice_get-get_or origins at None there ∙ ap Some is

  pub reads_none : get_or origins at None ≡ None → slice_get origins at ≡ Some None
  reads_none is = slice_get-get_or origins at None there ∙ ap Some is
