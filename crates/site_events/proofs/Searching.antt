-- The search for loud methods.
use Rattle.std.proofs.Common.{◌≡◌, ℕ, ◌+◌, ◌<◌, ◌≤◌, ◌⊎◌, ◌↔◌, List, [], Some, None, eqb, length, slice_get, inl, inr, subst, arith}
use Rattle.std.proofs.lemmas.Bool.{cases_lt}
use Rattle.lists.specs.Lists.{Has, IsApart, AreAll}
use Rattle.lists.proofs.Places.{slice_get-below, slice_get-there}
use Rattle.link_rules.specs.Linked.{LinkedProgram}
use Rattle.link_rules.specs.WellLinked.{HasTarget}
use Rattle.lists.specs.Groups.{Grouped, found_at}
use Rattle.site_events.specs.Callers.{AreCallers, AreMethodNumbers, IsCaller}
use Rattle.site_events.specs.Loud.{IsLoud}
use Rattle.site_events.specs.Loud as loud

-- where there is no further one, there are no more
pub past : (found : List ℕ) (number : ℕ) → slice_get found number ≡ None → length found ≤ number
past found number none = elim (cases_lt number (length found)) [
  | inl below ↦ let x = slice_get-there found number below in let some = x.1 in cc
  | inr all ↦ omega (arith, all)
]

module _ (p : LinkedProgram) (callers : Grouped ℕ ℕ) (told : List ℕ) (calling : AreCallers p callers) (methods : AreMethodNumbers p told) where
  -- the told methods are found, each that is found is loud, and the callers of the first ones are found
  pub record IsSearched (done : ℕ) (found : List ℕ) : Type 0 where
    pub begun : (m : ℕ) → Has told m → Has found m
    pub each : (m : ℕ) → Has found m → IsLoud p told m
    pub closed : (i target m index : ℕ) → i < done → slice_get found i ≡ Some target → HasTarget p m index target → Has found m

  -- loud methods are methods of the program
  loud_below : (m : ℕ) → IsLoud p told m → m < length p.methods
  loud_below m (loud.here is) = methods m is
  loud_below m (loud.calls has is) = slice_get-below p.methods m has.method has.there

  pub searched_none : (first found : List ℕ) → first ≡ [] → ((m : ℕ) → Has found m ↔ (Has first m ⊎ Has told m)) → IsSearched 0 found
  searched_none first found empty same = record {
    begun = λ m h. (same m).1 (inr h);
    each = λ m h. elim ((same m).0 h) [
      | inl old ↦ let none : Has [] m = subst (λ (xs : List ℕ). Has xs m) empty old in cc none.1
      | inr is ↦ loud.here is
    ];
    closed = λ i target m index low at has. absurd (omega (arith, low));
  }

  pub searched_more : (done : ℕ) (old new : List ℕ) (target : ℕ) → IsSearched done old → slice_get old done ≡ Some target
      → ((i m : ℕ) → slice_get old i ≡ Some m → slice_get new i ≡ Some m) → ((m : ℕ) → Has new m ↔ (Has old m ⊎ Has (found_at eqb callers target) m))
      → IsSearched (done + 1) new
  searched_more done old new target s at stay put = record {
    begun = λ m h. (put m).1 (inl (s.begun m h));
    each = λ m h. elim ((put m).0 h) [ inl a ↦ s.each m a | inr b ↦ let call = (calls m).0 b in loud.calls call.1 (s.each target (done, at)) ];
    closed = λ i t m index low there has. elim (cases_lt i done) [
      | inl less ↦
          let inside = slice_get-below old done target at in
          let x = slice_get-there old i (omega (arith, less, inside)) in
          let moved = stay i x.0 x.1 in
          let same : x.0 ≡ t = cc in
          (put m).1 (inl (s.closed i t m index less (subst (λ (y : ℕ). slice_get old i ≡ Some y) same x.1) has))
      | inr more ↦
          let last : i ≡ done = omega (arith, low, more) in
          let moved = stay done target at in
          let here : slice_get new done ≡ Some t = subst (λ (j : ℕ). slice_get new j ≡ Some t) last there in
          let same : t ≡ target = cc in
          (put m).1 (inr ((calls m).1 (index, subst (λ (y : ℕ). HasTarget p m index y) same has)))
    ];
  }
    where
      calls : (m : ℕ) → Has (found_at eqb callers target) m ↔ IsCaller p target m
      calls m = calling target m (loud_below target (s.each target (done, at)))

  -- what is loud is found in the end
  complete : (done : ℕ) (found : List ℕ) → IsSearched done found → length found ≤ done → (m : ℕ) → IsLoud p told m → Has found m
  complete done found s all m (loud.here is) = s.begun m is
  complete done found s all m (loud.calls {index = index} {target = target} has is) =
      let there = complete done found s all target is in
      let below = slice_get-below found there.0 target there.1 in
      s.closed there.0 target m index (omega (arith, below, all)) there.1 has

  pub searched_all : (done : ℕ) (found : List ℕ) → IsSearched done found → slice_get found done ≡ None → IsApart found → AreAll (IsLoud p told) found
  searched_all done found s end apart = record { each = s.each; all = complete done found s (past found done end); apart = apart }
