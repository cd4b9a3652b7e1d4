-- Lists of lines go on: whatever was given, more lines can be written behind.
use Rattle.std.proofs.Common.{ℕ, zero, suc, List, [], ◌∷◌, ◌++◌, Option, Some, length, refl}
use Rattle.lists.proofs.Places.{slice_get-append_left, slice_get-push}
use Rattle.link_rules.specs.Linked.{LinkedProgram}
use Rattle.spds_rules.specs.declared.node.Node.{Node}
use Rattle.cert_rules.specs.declared.fact.Fact.{Fact}
use Rattle.cert_rules.specs.declared.line.Line.{Line}
use Rattle.cert_rules.specs.Certified.{AreGiven}
use Rattle.cert_rules.specs.Given.{Cites, Facts, Gives}
use Rattle.cert_laws.proofs.Givens.{given_more}

-- what was cited is cited
abbrev pub Keeps_cited : Facts → Facts → Type 0
Keeps_cited old new = (number : ℕ) (fact : Fact) → Cites old number fact → Cites new number fact

-- what is behind keeps what was in front
pub cites_push : (given : Facts) (g : Option Fact) → Keeps_cited given (given ++ g ∷ [])
cites_push given g zero fact cites = absurd cites
cites_push given g (suc number) fact cites = slice_get-append_left given (g ∷ []) number (Some fact) cites

-- a property of facts that more of them keep
abbrev pub IsLasting : (Facts → Type 0) → Type 0
IsLasting P = (old new : Facts) → Keeps_cited old new → P old → P new

-- one of the facts is this
abbrev pub IsThere : Fact → Facts → Type 0
IsThere fact given = (number : ℕ) × Cites given number fact

pub there_lasts : (fact : Fact) → IsLasting (IsThere fact)
there_lasts fact old new keeps is = (is.0, keeps is.0 fact is.1)

module _ (p : LinkedProgram) (t : Node) where
  -- lines, and what they give
  pub record Listing : Type 0 where
    pub lines : List Line
    pub given : Facts
    pub are : AreGiven p t lines given

  -- lines that go on from others, and what they give has the property
  pub record GoesOn (from : Listing) (P : Facts → Type 0) : Type 0 where
    pub to : Listing
    pub keeps : Keeps_cited from.given to.given
    pub has : P to.given

  -- each list of lines can go on so
  abbrev pub Writes : (Facts → Type 0) → Type 0
  Writes P = (from : Listing) → GoesOn from P

  pub write_none : Writes (λ given. Unit {0})
  write_none from = record { to = from; keeps = λ number fact cites. cites; has = tt }

  pub write_both : (P Q : Facts → Type 0) → IsLasting P → Writes P → Writes Q → Writes (λ given. P given × Q given)
  write_both P Q lasts first second from =
      let a = first from in
      let b = second a.to in
      record { to = b.to; keeps = λ number fact cites. b.keeps number fact (a.keeps number fact cites); has = (lasts a.to.given b.to.given b.keeps a.has, b.has) }

  pub write_as : (P Q : Facts → Type 0) → ((given : Facts) → P given → Q given) → Writes P → Writes Q
  write_as P Q so writes from = let a = writes from in record { to = a.to; keeps = a.keeps; has = so a.to.given a.has }

  -- a line more gives a fact
  pub write_line : (P : Facts → Type 0) (fact : Fact) → ((given : Facts) → P given → (l : Line) × Gives p t given l (Some fact)) → Writes P → Writes (IsThere fact)
  write_line P fact next writes from =
      let a = writes from in
      let l = next a.to.given a.has in
      record {
        to = record {
          lines = a.to.lines ++ l.0 ∷ [];
          given = a.to.given ++ Some fact ∷ [];
          are = given_more p t a.to.lines a.to.given l.0 (Some fact) a.to.are l.1;
        };
        keeps = λ number f cites. cites_push a.to.given (Some fact) number f (a.keeps number f cites);
        has = (suc (length a.to.given), slice_get-push a.to.given (Some fact));
      }

  -- no lines
  pub nothing_written : Listing
  nothing_written = record { lines = []; given = []; are = record { as_many = refl; each = λ i l there. cc } }
