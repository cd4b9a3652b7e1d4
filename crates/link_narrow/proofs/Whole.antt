-- The program that is left.
use Rattle.std.proofs.Common.{◌≡◌, ℕ, zero, suc, List, [], ◌∷◌, Some, Result, Ok, Err, length, slice_get, refl, ap, ◌∙◌, subst, inl, inr, arith}
use Rattle.std.specs.Result.{IfOk}
use Rattle.lists.proofs.Places.{slice_get-below, slice_get-there}
use Rattle.lists.specs.Lists.{Has}
use Rattle.link_indexes.specs.declared.method.MethodCode.{MethodCode}
use Rattle.link_program.specs.Methods.{coded}
use Rattle.link_program.specs.Parts.{with_code}
use Rattle.link_rules.specs.Linked.{LinkedMethod, LinkedProgram}
use Rattle.link_rules.specs.WellLinked.{IsInForm}
use Rattle.link_narrow.specs.Bodies.{AreBodies, IsBodyBy, IsBodyOf}
use Rattle.link_narrow.specs.Reaching.{AreReached}
use Rattle.narrow_rules.specs.declared.kept.Kept.{Kept}
use Rattle.narrow_rules.specs.Narrowed.{IsNarrowed, IsNarrowedBody, IsNarrowedMethod}
use Rattle.narrow_rules.proofs.Well.{narrowed_form}

-- what follows of an answer
pub if_ok : {T E : Type 0} (P Q : T → Type 0) (r : Result T E) → IfOk r P → ((x : T) → P x → Q x) → IfOk r Q
if_ok P Q (Ok x) h f = f x h
if_ok P Q (Err e) h f = h

pub if_ok_both : {T E : Type 0} (P Q R : T → Type 0) (r : Result T E) → IfOk r P → IfOk r Q → ((x : T) → P x → Q x → R x) → IfOk r R
if_ok_both P Q R (Ok x) h k f = f x h k
if_ok_both P Q R (Err e) h k f = h

-- as many methods as before
length-coded : (ms : List LinkedMethod) (bs : List MethodCode) → length bs ≡ length ms → length ms ≡ length (coded ms bs)
length-coded [] bs e = refl
length-coded (m ∷ ms) [] e = absurd (omega (arith, e))
length-coded (m ∷ ms) (b ∷ bs) e = ap suc (length-coded ms bs (omega (arith, e)))

-- each with its code
at_coded : (ms : List LinkedMethod) (bs : List MethodCode) (i : ℕ) (m : LinkedMethod) (b : MethodCode) → slice_get ms i ≡ Some m → slice_get bs i ≡ Some b
    → slice_get (coded ms bs) i ≡ Some (record m { code = b.code; catches = b.catches })
at_coded [] bs i m b p q = cc (p)
at_coded (x ∷ ms) [] i m b p q = cc (q)
at_coded (x ∷ ms) (y ∷ bs) zero m b p q =
    let head : x ≡ m = cc (p) in
    let body : y ≡ b = cc (q) in
    ap (λ (h : LinkedMethod). Some (record h { code = y.code; catches = y.catches })) head
    ∙ ap (λ (c : MethodCode). Some (record m { code = c.code; catches = c.catches })) body
at_coded (x ∷ ms) (y ∷ bs) (suc i) m b p q = at_coded ms bs i m b p q

-- a method that is left
method_left : (p : LinkedProgram) (kept : List Kept) (root number : ℕ) (m : LinkedMethod) (b : MethodCode) → IsBodyBy p kept root number m b
    → IsNarrowedMethod p kept root number m (record m { code = b.code; catches = b.catches })
method_left p kept root number m b is = record {
  same = refl;
  becomes = elim is [
    | inl goes ↦ inl (record { reached = goes.0; code = goes.1; catches = goes.2 })
    | inr lost ↦ inr (record { unreached = lost.0; code = lost.1; catches = lost.2 })
  ];
}

-- all of it
pub program_left : (p : LinkedProgram) (kept : List Kept) (bodies : List MethodCode) → IsInForm p → AreBodies p kept (length p.methods) bodies
    → IsNarrowed p kept (with_code p bodies)
program_left p kept bodies form are = record {
  same = refl;
  as_many = length-coded p.methods bodies are.as_many;
  root = form.number;
  last = form.is_root.last;
  each = λ number old new at_old at_new.
      let b = slice_get-there bodies number (let below = slice_get-below p.methods number old at_old in let many = are.as_many in omega (arith, below, many)) in
      let is = at_coded p.methods bodies number old b.0 at_old b.1 in
      let same : record old { code = b.0.code; catches = b.0.catches } ≡ new = cc (is, at_new) in
      subst (IsNarrowedMethod p kept form.number number old) same
      (method_left p kept form.number number old b.0 (are.each number b.0 b.1 form.number old form.is_root.last at_old));
}

-- it has the form of linked programs
pub form_left : (p : LinkedProgram) (kept : List Kept) (bodies : List MethodCode) → IsInForm p → AreBodies p kept (length p.methods) bodies
    → IsInForm (with_code p bodies)
form_left p kept bodies form are = narrowed_form p (with_code p bodies) kept form (program_left p kept bodies form are)

-- a method that is found
pub body_found : (p : LinkedProgram) (kept : List Kept) (found : List ℕ) (number place : ℕ) (m : LinkedMethod) (b : MethodCode) → AreReached p kept found
    → slice_get found place ≡ Some number → slice_get p.methods number ≡ Some m → IsNarrowedBody kept number m.code b.code → b.catches ≡ m.catches
    → IsBodyOf p kept number b
body_found p kept found number place m b are there at code catches = λ root other last at_other.
    let same : m ≡ other = cc (at, at_other) in
    inl (
      (are root last number).0 (place, there),
      subst (λ (x : LinkedMethod). IsNarrowedBody kept number x.code b.code) same code,
      catches ∙ ap (λ (x : LinkedMethod). x.catches) same,
    )

-- one that isn't
pub body_lost : (p : LinkedProgram) (kept : List Kept) (found : List ℕ) (number : ℕ) (b : MethodCode) → AreReached p kept found
    → (Has found number → ⊥) → b.code ≡ [] → b.catches ≡ [] → IsBodyOf p kept number b
body_lost p kept found number b are none code catches = λ root other last at_other. inr (λ r. none ((are root last number).1 r), code, catches)
