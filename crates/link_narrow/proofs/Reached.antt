-- The methods that are reached, as they are found.
use Rattle.std.proofs.Common.{◌≡◌, ℕ, zero, suc, ◌+◌, ◌<◌, ◌≤◌, ◌++◌, List, [], ◌∷◌, Some, length, slice_get, refl, sym, ap, ◌∙◌, subst, inl, inr, arith}
use Rattle.std.proofs.lemmas.Bool.{cases_order}
use Rattle.lists.specs.Grown.{IsGrownBy}
use Rattle.lists.specs.Lists.{Adds, Has}
use Rattle.lists.proofs.Places.{slice_get-below, slice_get-there}
use Rattle.link_rules.specs.declared.code.Code.{Code}
use Rattle.link_rules.specs.declared.code.Code.TheVariants as code
use Rattle.link_rules.specs.Linked.{LinkedMethod, LinkedProgram}
use Rattle.link_rules.specs.WellLinked.{FitsCode, FitsMethod, IsInForm}
use Rattle.link_laws.proofs.Lists.{at_all}
use Rattle.link_narrow.specs.Reaching.{AreReached, StaysBefore, StaysFrom}
use Rattle.narrow_rules.specs.declared.kept.Kept.{Kept}
use Rattle.narrow_rules.specs.Narrowed.{IsReachedBy, KeepsTarget, called, root}

module _ (p : LinkedProgram) (kept : List Kept) where
  -- a statement's targets that stay are kept by the call that it is
  keeps_at : (number index : ℕ) (m : LinkedMethod) → slice_get p.methods number ≡ Some m → (c : Code) → slice_get m.code index ≡ Some c → (target : ℕ)
      → StaysFrom kept number index c target → KeepsTarget p kept number index target
  keeps_at number index m there (code.Call to mode class key receiver args targets) here target h = record {
    has = record {
      method = m;
      there = there;
      to = to;
      mode = mode;
      class = class;
      key = key;
      receiver = receiver;
      args = args;
      targets = targets;
      call = here;
      has = (h.at, h.there);
    };
    stays = h.stays;
  }
  keeps_at number index m there c here target h = elim h [ ]

  keeps_from : (number target : ℕ) (m : LinkedMethod) → slice_get p.methods number ≡ Some m → StaysBefore kept number m.code (length m.code) target
      → (index : ℕ) × KeepsTarget p kept number index target
  keeps_from number target m there h = (h.index, keeps_at number h.index m there h.code h.here target h.stays)

  from_keeps : (number index target : ℕ) (m : LinkedMethod) → slice_get p.methods number ≡ Some m → KeepsTarget p kept number index target
      → StaysBefore kept number m.code (length m.code) target
  from_keeps number index target m there k =
      let same : k.has.method ≡ m = let a = k.has.there in cc (a, there) in
      let here = subst (λ (x : LinkedMethod). slice_get x.code index ≡ Some (code.Call k.has.to k.has.mode k.has.class k.has.key k.has.receiver k.has.args k.has.targets)) same k.has.call in
      record {
        index = index;
        within = slice_get-below m.code index _ here;
        code = code.Call k.has.to k.has.mode k.has.class k.has.key k.has.receiver k.has.args k.has.targets;
        here = here;
        stays = record {
          at = k.has.has.0;
          within = slice_get-below k.has.targets k.has.has.0 target k.has.has.1;
          there = k.has.has.1;
          stays = k.stays;
        };
      }

  -- what is reached is a method
  pub reached_within : IsInForm p → (first : ℕ) → first + 1 ≡ length p.methods → {number : ℕ} → IsReachedBy p kept first number → number < length p.methods
  reached_within form first last root = omega (arith, last)
  reached_within form first last (called {number} {index} {target} r k) =
      let m = at_all (FitsMethod p) p.methods number k.has.method form.methods k.has.there in
      let c = at_all (FitsCode p k.has.method) k.has.method.code index (code.Call k.has.to k.has.mode k.has.class k.has.key k.has.receiver k.has.args k.has.targets) m.codes k.has.call in
      at_all (λ t. t < length p.methods) k.has.targets k.has.has.0 target c.5 k.has.has.1

  -- what is found so far: the targets of so many of them are found too
  pub record IsFound (first at : ℕ) (found : List ℕ) : Type 0 where
    pub within : at ≤ length found
    pub root : Has found first
    pub each : (i x : ℕ) → slice_get found i ≡ Some x → IsReachedBy p kept first x
    pub done : (i x : ℕ) → i < at → slice_get found i ≡ Some x → (index target : ℕ) → KeepsTarget p kept x index target → Has found target

  -- one more is looked at
  pub found_more : (first at number : ℕ) (m : LinkedMethod) (old new : List ℕ) → slice_get p.methods number ≡ Some m → slice_get old at ≡ Some number
      → IsFound first at old → IsGrownBy (StaysBefore kept number m.code (length m.code)) old new → IsFound first (at + 1) new
  found_more first at number m old new there here f g =
      let still : (x : ℕ) → Has old x → Has new x = λ x has. (has.0, g.same has.0 x has.1) in
      record {
        within = let below = slice_get-below new at number (g.same at number here) in omega (arith, below);
        root = still first f.root;
        each = λ i x e. elim (g.each x (i, e)) [
          | inl before ↦ f.each before.0 x before.1
          | inr new_one ↦ (let k = keeps_from number x m there new_one in called (f.each at number here) k.1)
        ];
        done = λ i x less e index target k. elim (cases_order i at) [
          | inl same ↦
              let is : x ≡ number = let a = g.same at number here in cc (e, a, same) in
              g.all target (from_keeps number index target m there (subst (λ y. KeepsTarget p kept y index target) is k))
          | inr apart ↦ elim apart [
            | inl below ↦
                let old_there = old_at i x e below in
                still target (f.done i x below old_there index target k)
            | inr above ↦ absurd (omega (arith, less, above))
          ]
        ];
      }
    where
      old_at : (i x : ℕ) → slice_get new i ≡ Some x → i < at → slice_get old i ≡ Some x
      old_at i x e below =
          let y = slice_get-there old i (let b = slice_get-below old at number here in omega (arith, b, below)) in
          let same : y.0 ≡ x = let a = g.same i y.0 y.1 in cc (a, e) in
          y.1 ∙ ap Some same

  -- all are looked at
  pub found_all : (first at : ℕ) (found : List ℕ) → first + 1 ≡ length p.methods → length found ≤ at → IsFound first at found → AreReached p kept found
  found_all first at found last end f = λ other other_last number.
      let same : first ≡ other = omega (arith, last, other_last) in
      subst (λ r. (Has found number → IsReachedBy p kept r number) × (IsReachedBy p kept r number → Has found number)) same
      ((λ has. f.each has.0 number has.1), (λ r. closed r))
    where
      closed : {number : ℕ} → IsReachedBy p kept first number → Has found number
      closed root = f.root
      closed (called {number} {index} {target} r k) =
          let has = closed r in
          f.done has.0 number (let below = slice_get-below found has.0 number has.1 in omega (arith, below, end)) has.1 index target k

  -- the root is found first
  pub found_first : (first number : ℕ) (none new : List ℕ) → first + 1 ≡ length p.methods → number + 1 ≡ length p.methods → none ≡ [] → Adds none number new
      → IsFound first 0 new
  found_first first number none new last last_too is_none adds =
      let same : number ≡ first = omega (arith, last, last_too) in
      let one : new ≡ first ∷ [] = elim adds [
        | inl there ↦ (let has = there.0.1 in cc (has, is_none))
        | inr pushed ↦ pushed.1 ∙ ap (λ xs. xs ++ number ∷ []) is_none ∙ ap (λ n. n ∷ []) same
      ] in
      record {
        within = omega arith;
        root = subst (λ xs. Has xs first) (sym one) (0, refl);
        each = λ i x e. only i x (subst (λ xs. slice_get xs i ≡ Some x) one e);
        done = λ i x less e index target k. absurd (omega (arith, less));
      }
    where
      only : (i x : ℕ) → slice_get (first ∷ []) i ≡ Some x → IsReachedBy p kept first x
      only zero x e = let is : first ≡ x = cc in subst (IsReachedBy p kept first) is root
      only (suc i) x e = cc
