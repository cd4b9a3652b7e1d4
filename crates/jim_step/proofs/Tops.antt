-- The top of a list of frames.
use Rattle.std.proofs.Common.{◌≡◌, ℕ, zero, suc, ◌+◌, ◌-◌, ◌<◌, List, [], ◌∷◌, ◌++◌, get_or, length, take, refl, sym, ap, ◌∙◌, subst, arith, length-append}
use Rattle.std.specs.List.{slice_set}
use Rattle.std.proofs.Math.Seq.{take-suc}
use Rattle.std.proofs.lemmas.List.{length-map, map-append, take_all}
use Rattle.std.proofs.lemmas.Option.{get_or_from_slice_get}
use Rattle.lists.proofs.Places.{slice_get-there}
use Rattle.jim_step.specs.declared.frame.Frame.{Frame as Kept}
use Rattle.jim_step.specs.Frames.{frame_of, frames_of}
use Rattle.jim_step.specs.Stacks.{ChangesTop, EachTop}
use Rattle.step_rules.specs.States.{Frame}

module _ {X : Type 0} where
  -- the last element is written
  pub set_last : (xs : List X) (x y : X) → slice_set (xs ++ x ∷ []) (length xs) y ≡ xs ++ y ∷ []
  set_last [] x y = refl
  set_last (z ∷ xs) x y = ap (λ l. z ∷ l) (set_last xs x y)

  -- the last element is read
  pub get_last : (xs : List X) (x d : X) → get_or (xs ++ x ∷ []) (length xs) d ≡ x
  get_last [] x d = refl
  get_last (z ∷ xs) x d = get_last xs x d

  -- two lists with a last element are equal only where these are
  pub last_same : (xs ys : List X) (x y : X) → xs ++ x ∷ [] ≡ ys ++ y ∷ [] → x ≡ y
  last_same [] [] x y e = cc
  last_same [] (z ∷ []) x y e = cc
  last_same [] (z ∷ w ∷ ys) x y e = cc
  last_same (z ∷ []) [] x y e = cc
  last_same (z ∷ w ∷ xs) [] x y e = cc
  last_same (z ∷ xs) (w ∷ ys) x y e = let rest : xs ++ x ∷ [] ≡ ys ++ y ∷ [] = cc in last_same xs ys x y rest

  pub before_same : (xs ys : List X) (x y : X) → xs ++ x ∷ [] ≡ ys ++ y ∷ [] → xs ≡ ys
  before_same [] [] x y e = refl
  before_same [] (z ∷ []) x y e = cc
  before_same [] (z ∷ w ∷ ys) x y e = cc
  before_same (z ∷ []) [] x y e = cc
  before_same (z ∷ w ∷ xs) [] x y e = cc
  before_same (z ∷ xs) (w ∷ ys) x y e =
      let rest : xs ++ x ∷ [] ≡ ys ++ y ∷ [] = cc in
      let head : z ≡ w = cc in
      let tail = before_same xs ys x y rest in cc

map_set : (ks : List Kept) (i : ℕ) (k : Kept) → frames_of (slice_set ks i k) ≡ slice_set (frames_of ks) i (frame_of k)
map_set [] i k = refl
map_set (x ∷ ks) zero k = refl
map_set (x ∷ ks) (suc i) k = ap (λ l. frame_of x ∷ l) (map_set ks i k)

map_get : (ks : List Kept) (i : ℕ) (d : Kept) → get_or (frames_of ks) i (frame_of d) ≡ frame_of (get_or ks i d)
map_get [] i d = refl
map_get (x ∷ ks) zero d = refl
map_get (x ∷ ks) (suc i) d = map_get ks i d

-- where the last of the kept frames stands
last_index : (ks : List Kept) (i : ℕ) (below : List Frame) (top : Frame) → i + 1 ≡ length ks → frames_of ks ≡ below ++ top ∷ [] → i ≡ length below
last_index ks i below top at e = omega (arith, at, length-map ks frame_of, ap length e, length-append below (top ∷ []))

-- the top frame is the last one
pub top_is : (ks : List Kept) (i : ℕ) (k : Kept) (below : List Frame) (top : Frame) → i + 1 ≡ length ks → k ≡ get_or ks i k → frames_of ks ≡ below ++ top ∷ []
    → frame_of k ≡ top
top_is ks i k below top at is e = ap frame_of is ∙ sym (map_get ks i k) ∙ rw (e, last_index ks i below top at e) (get_last below top (frame_of k))

-- the last frame is replaced
pub changes_top : (f : Frame → Frame) (ks : List Kept) (i : ℕ) (k new : Kept) → i + 1 ≡ length ks → k ≡ get_or ks i k → frame_of new ≡ f (frame_of k)
    → ChangesTop f ks (slice_set ks i new)
changes_top f ks i k new at is e below top h =
    map_set ks i new ∙ rw (h, last_index ks i below top at h, e, top_is ks i k below top at is h) (set_last below top (f top))

-- a list by its last element
by_last : (ks : List Kept) (i : ℕ) (k : Kept) → i + 1 ≡ length ks → k ≡ get_or ks i k → frames_of ks ≡ frames_of (take i ks) ++ frame_of k ∷ []
by_last ks i k at is =
    let whole : take (suc i) ks ≡ ks = take_all (suc i) ks (omega (arith, at)) in
    ap frames_of (sym whole ∙ take-suc ks i k (omega (arith, at))) ∙ map-append frame_of (take i ks) (get_or ks i k ∷ [])
    ∙ ap (λ (x : Kept). frames_of (take i ks) ++ frame_of x ∷ []) (sym is)

-- a fact of the top frame, said of the last one
pub top_fact : (P : Frame → Type 0) (ks : List Kept) (i : ℕ) (k : Kept) → EachTop P ks → i + 1 ≡ length ks → k ≡ get_or ks i k → P (frame_of k)
top_fact P ks i k each at is = each (frames_of (take i ks)) (frame_of k) (by_last ks i k at is)

-- a fact of the top frame
pub each_top : (P : Frame → Type 0) (ks : List Kept) (below : List Frame) (top : Frame) → frames_of ks ≡ below ++ top ∷ [] → P top → EachTop P ks
each_top P ks below top e h other_below other e' = subst P (last_same below other_below top other (sym e ∙ e')) h

-- where there is a frame, there is a top one
pub some_top : (ks : List Kept) → 0 < length ks → (below : List Frame) × (top : Frame) × (frames_of ks ≡ below ++ top ∷ [])
some_top ks some =
    let k = slice_get-there ks (length ks - 1) (omega arith) in
    let is = sym (get_or_from_slice_get ks (length ks - 1) k.0 k.0 k.1) in
    (frames_of (take (length ks - 1) ks), frame_of k.0, by_last ks (length ks - 1) k.0 (omega arith) is)

-- the frames below the top one are left once it has gone
pub popped : (ks rest : List Kept) (i : ℕ) → i + 1 ≡ length ks → rest ≡ take i ks → (top : Frame) × (frames_of ks ≡ frames_of rest ++ top ∷ [])
popped ks rest i at e =
    let k = slice_get-there ks i (omega (arith, at)) in
    let is = sym (get_or_from_slice_get ks i k.0 k.0 k.1) in
    (frame_of k.0, by_last ks i k.0 at is ∙ ap (λ (l : List Kept). frames_of l ++ frame_of k.0 ∷ []) (sym e))
