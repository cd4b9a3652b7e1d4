-- So many rounds leave one program.
use Rattle.std.proofs.Common.{◌≡◌, ℕ, suc, List, refl, sym, subst, inl, inr}
use Rattle.jim_ast.specs.declared.syntax.Mode.{Mode}
use Rattle.jim_ast.specs.declared.syntax.Mode.TheVariants.{Special, Virtual, Interface, Static}
use Rattle.link_rules.specs.declared.code.Code.{Code}
use Rattle.link_rules.specs.declared.code.Code.TheVariants as code
use Rattle.link_rules.specs.Linked.{LinkedMethod, LinkedProgram}
use Rattle.narrow_rules.specs.declared.kept.Kept.{Kept}
use Rattle.narrow_rules.specs.Narrowed.{AreThose, IsKept, IsNarrowed, IsNarrowedBody, IsNarrowedCode, IsNarrowedMethod, IsReachedBy, StaysIn, none, one, other, root, called}
use Rattle.narrow_rules.proofs.Once.{narrowed_once}
use Rattle.refine_rules.specs.Laws.{RefinedIsDetermined}
use Rattle.refine_rules.specs.Refined.{IsRefined, IsRefinedBy, none as no_round, round}

-- facts that hold of the same elements select the same list
those_same : {X : Type 0} (P Q : X → Type 0) → ((x : X) → P x → Q x) → ((x : X) → Q x → P x) → {all some : List X} → AreThose P all some
    → AreThose Q all some
those_same P Q to from none = none
those_same P Q to from (one {x} h r) = one (to x h) (those_same P Q to from r)
those_same P Q to from (other {x} h r) = other (λ q. h (from x q)) (those_same P Q to from r)

-- what stays goes by what is named
stays_same : (mode : Mode) (A B : Type 0) → (A → B) → StaysIn mode A → StaysIn mode B
stays_same Static A B f h = tt
stays_same Special A B f h = tt
stays_same Virtual A B f h = f h
stays_same Interface A B f h = f h

module _ (p : LinkedProgram) (kept too : List Kept) (to : (number index target : ℕ) → IsKept kept number index target → IsKept too number index target)
    (from : (number index target : ℕ) → IsKept too number index target → IsKept kept number index target) where
  -- so does what is left of a statement
  code_same : (number index : ℕ) (c d : Code) → IsNarrowedCode kept number index c d → IsNarrowedCode too number index c d
  code_same number index (code.Call t mode class key receiver args targets) d n = (
    n.0,
    those_same (λ target. StaysIn mode (IsKept kept number index target)) (λ target. StaysIn mode (IsKept too number index target))
        (λ target. stays_same mode (IsKept kept number index target) (IsKept too number index target) (to number index target))
        (λ target. stays_same mode (IsKept too number index target) (IsKept kept number index target) (from number index target)) n.1,
    n.2,
  )
  code_same number index c d n = n

  body_same : (number : ℕ) (old new : List Code) → IsNarrowedBody kept number old new → IsNarrowedBody too number old new
  body_same number old new n = record {
    as_many = n.as_many;
    each = λ index c d at_old at_new. code_same number index c d (n.each index c d at_old at_new);
  }

-- and which methods are reached
reached_same : (p : LinkedProgram) (kept too : List Kept) → ((number index target : ℕ) → IsKept kept number index target → IsKept too number index target)
    → (start : ℕ) {number : ℕ} → IsReachedBy p kept start number → IsReachedBy p too start number
reached_same p kept too to start root = root
reached_same p kept too to start (called {number} {index} {target} r k) =
    called (reached_same p kept too to start r)
    (record { has = k.has; stays = stays_same k.has.mode (IsKept kept number index target) (IsKept too number index target) (to number index target) k.stays })

module _ (p : LinkedProgram) (kept too : List Kept) (to : (number index target : ℕ) → IsKept kept number index target → IsKept too number index target)
    (from : (number index target : ℕ) → IsKept too number index target → IsKept kept number index target) where
  method_same : (start number : ℕ) (old new : LinkedMethod) → IsNarrowedMethod p kept start number old new → IsNarrowedMethod p too start number old new
  method_same start number old new n = record {
    same = n.same;
    becomes = elim n.becomes [
      | inl goes ↦ inl (record {
        reached = reached_same p kept too to start goes.reached;
        code = body_same p kept too to from number old.code new.code goes.code;
        catches = goes.catches;
      })
      | inr lost ↦ inr (record {
        unreached = λ r. lost.unreached (reached_same p too kept from start r);
        code = lost.code;
        catches = lost.catches;
      })
    ];
  }

  -- the program that is left goes by what is named alone
  named_same : (q : LinkedProgram) → IsNarrowed p kept q → IsNarrowed p too q
  named_same q n = record {
    same = n.same;
    as_many = n.as_many;
    root = n.root;
    last = n.last;
    each = λ number old new at_p at_q. method_same n.root number old new (n.each number old new at_p at_q);
  }

-- one round leaves one program
round_once : (p a b : LinkedProgram) (budget : ℕ) → IsRefined p budget a → IsRefined p budget b → a ≡ b
round_once p a b budget x y =
    narrowed_once p a b y.0
    (named_same p x.0 y.0 (λ number index target h. (y.1 number index target).1 ((x.1 number index target).0 h))
    (λ number index target h. (x.1 number index target).1 ((y.1 number index target).0 h)) a x.2) y.2

-- so do more
rounds_once : (budget : ℕ) (p : LinkedProgram) {rounds : ℕ} {a : LinkedProgram} → IsRefinedBy budget p rounds a → (b : LinkedProgram)
    → IsRefinedBy budget p rounds b → a ≡ b
rounds_once budget p no_round = λ b r. no_once p b r where
  no_once : (q b : LinkedProgram) → IsRefinedBy budget q 0 b → q ≡ b
  no_once q _ no_round = refl
rounds_once budget p (round {rounds} {q} {r} earlier last) = last_once p rounds q r last (rounds_once budget p earlier) where
  last_once : (p : LinkedProgram) (rounds : ℕ) (q a : LinkedProgram) → IsRefined q budget a
      → ((b : LinkedProgram) → IsRefinedBy budget p rounds b → q ≡ b) → (b : LinkedProgram) → IsRefinedBy budget p (suc rounds) b → a ≡ b
  last_once p rounds q a last rest b (round {q = before} earlier after) =
      let same = rest before earlier in
      round_once q a b budget last (subst (λ (r : LinkedProgram). IsRefined r budget b) (sym same) after)

-- the law
pub rounds_determined : RefinedIsDetermined
rounds_determined p a b budget rounds x y = rounds_once budget p x b y
