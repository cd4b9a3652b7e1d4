-- Systems that grow.
use Rattle.std.proofs.Common.{◌≡◌, ◌⊎◌, ℕ, ◌+◌, ◌≤◌, List, [], ◌∷◌, ◌++◌, Some, None, length, slice_get, refl, sym, ◌∙◌, subst, inl, inr, arith}
use Rattle.std.proofs.lemmas.Bool.{cases_lt}
use Rattle.auto_table.specs.declared.rule.Rule.{Rule}
use Rattle.auto_table.specs.declared.rule.Rule.TheVariants as rule
use Rattle.call_side.specs.Trails.{AreKept}
use Rattle.lists.specs.Lists.{Adds, Has}
use Rattle.lists.proofs.Places.{slice_get-append_left, slice_get-below, slice_get-there, Has-push}
use Rattle.post_star.specs.Measures.{to_of}
use Rattle.track_tables.specs.declared.growth.Due.{Due}
use Rattle.track_tables.specs.declared.growth.Due.TheVariants as due
use Rattle.track_tables.specs.declared.growth.Growth.{Growth}
use Rattle.track_tables.specs.declared.returns.Return.{Return}
use Rattle.track_tables.specs.Making.{IsDue, IsGrown, IsOpenFor, IsPast}
use Rattle.weight_laws.specs.declared.rel.Rel.{Rel}

-- what is kept at its place is still there
pub kept_has : (old new : List ℕ) (n : ℕ) → AreKept old new → Has old n → Has new n
kept_has old new n kept has = (has.0, kept has.0 n has.1)

-- a number that comes in moves no other
pub kept_adds : (old new : List ℕ) (x : ℕ) → Adds old x new → AreKept old new
kept_adds old new x (inl was) number y there = subst (λ (ys : List ℕ). slice_get ys number ≡ Some y) (sym was.1) there
kept_adds old new x (inr now) number y there = subst (λ (ys : List ℕ). slice_get ys number ≡ Some y) (sym now.1) (slice_get-append_left old (x ∷ []) number y there)

-- nothing came
pub grown_same : (g : Growth) → IsGrown g g
grown_same g = record {
  steps = refl;
  last = refl;
  starts = refl;
  rules = λ r has. has;
  reached = λ number x there. there;
  within = λ r has. inl has;
  marks = λ number x there. there;
  opened = λ r has. inl has;
}

-- a mark stays open
pub open_kept : (old new : List ℕ) (r : Rule Rel) → AreKept old new → IsOpenFor old r → IsOpenFor new r
open_kept old new (rule.Push from to mark weight) kept has = kept_has old new mark kept has
open_kept old new (rule.Flow from to weight) kept has = tt
open_kept old new (rule.Pop from mark to weight) kept has = tt

-- one after the other
pub grown_more : (a b c : Growth) → IsGrown a b → IsGrown b c → IsGrown a c
grown_more a b c f s = record {
  steps = s.steps ∙ f.steps;
  last = s.last ∙ f.last;
  starts = s.starts ∙ f.starts;
  rules = λ r has. s.rules r (f.rules r has);
  reached = λ number x there. s.reached number x (f.reached number x there);
  within = λ r has. elim (s.within r has) [
    | inl was ↦ elim (f.within r was) [ inl first ↦ inl first | inr there ↦ inr (kept_has b.reached.keys c.reached.keys (to_of r) s.reached there) ]
    | inr there ↦ inr there
  ];
  marks = λ number x there. s.marks number x (f.marks number x there);
  opened = λ r has. elim (s.opened r has) [
    | inl was ↦ elim (f.opened r was) [ inl first ↦ inl first | inr there ↦ inr (open_kept b.marks.keys c.marks.keys r s.marks there) ]
    | inr there ↦ inr there
  ];
}

-- a rule came, the node that it leads to, and the mark that it puts on
pub grown_rule : (old new : Growth) (r : Rule Rel) → new.work.steps ≡ old.work.steps → new.work.last ≡ old.work.last → new.work.starts ≡ old.work.starts
    → new.work.rules ≡ old.work.rules ++ r ∷ [] → AreKept old.reached.keys new.reached.keys → Has new.reached.keys (to_of r)
    → AreKept old.marks.keys new.marks.keys → IsOpenFor new.marks.keys r → IsGrown old new
grown_rule old new r steps last starts rules kept there marks is_open = record {
  steps = steps;
  last = last;
  starts = starts;
  rules = λ x has. subst (λ (rs : List (Rule Rel)). Has rs x) (sym rules) ((Has-push old.work.rules r x).1 (inl has));
  reached = kept;
  within = λ x has. elim ((Has-push old.work.rules r x).0 (subst (λ (rs : List (Rule Rel)). Has rs x) rules has)) [
    | inl was ↦ inl was
    | inr e ↦ inr (subst (λ (y : Rule Rel). Has new.reached.keys (to_of y)) (sym e) there)
  ];
  marks = marks;
  opened = λ x has. elim ((Has-push old.work.rules r x).0 (subst (λ (rs : List (Rule Rel)). Has rs x) rules has)) [
    | inl was ↦ inl was
    | inr e ↦ inr (subst (λ (y : Rule Rel). IsOpenFor new.marks.keys y) (sym e) is_open)
  ];
}

-- no node was reached past the last
pub past : (nodes : List ℕ) (number : ℕ) → slice_get nodes number ≡ None → length nodes ≤ number
past nodes number none = elim (cases_lt number (length nodes)) [
  | inl below ↦ let there = (slice_get-there nodes number below).1 in cc
  | inr more ↦ more
]

-- a node that is one of the first is one still
pub past_kept : (old new : List ℕ) (at number : ℕ) → AreKept old new → IsPast old at number → IsPast new at number
past_kept old new at number kept is = (is.0, is.1, kept is.0 number is.2)

-- so is an edge that is due
pub due_kept : (old new : Growth) (which : Due) (r : Return) → IsGrown old new → IsDue old which r → IsDue new which r
due_kept old new due.Each r grown is = tt
due_kept old new due.Open r grown is = kept_has old.marks.keys new.marks.keys r.mark grown.marks is
due_kept old new (due.Past at) r grown is = past_kept old.reached.keys new.reached.keys at r.edge.from grown.reached is

pub past_has : (nodes : List ℕ) (at number : ℕ) → IsPast nodes at number → Has nodes number
past_has nodes at number is = (is.0, is.2)

-- one more was gone on from
pub past_more : (old new : List ℕ) (at node number : ℕ) → AreKept old new → slice_get old at ≡ Some node → IsPast new (at + 1) number
    → IsPast old at number ⊎ (number ≡ node)
past_more old new at node number kept there is = elim (cases_lt is.0 at) [
  | inl before ↦
      let x = slice_get-there old is.0 (omega (arith, slice_get-below old at node there)) in
      let moved = kept is.0 x.0 x.1 in
      let now = is.2 in
      let same : x.0 ≡ number = cc in
      inl (is.0, before, subst (λ (n : ℕ). slice_get old is.0 ≡ Some n) same x.1)
  | inr other ↦
      let last : is.0 ≡ at = (let low = is.1 in omega arith) in
      let moved = kept at node there in
      let here : slice_get new at ≡ Some number = subst (λ (n : ℕ). slice_get new n ≡ Some number) last is.2 in
      inr cc
]

-- so is each of them, where a further number isn't there
pub past_all : (nodes : List ℕ) (at number : ℕ) → slice_get nodes at ≡ None → Has nodes number → IsPast nodes at number
past_all nodes at number none has = (has.0, omega (arith, slice_get-below nodes has.0 number has.1, past nodes at none), has.1)
