-- Lines that are put behind others leave these as they are.
use Rattle.std.proofs.Common.{◌≡◌, ◌∙◌, inl, inr, ℕ, zero, suc, ◌+◌, ◌<◌, ◌≤◌, List, [], ◌∷◌, ◌++◌, Some, length, slice_get, slice_index_or, take, refl, sym, subst, arith, length-append}
use Rattle.lists.specs.Lists.{Has}
use Rattle.lists.proofs.Places.{slice_get-append_left, slice_get-below, slice_get-pushed, take-next}
use Rattle.link_rules.specs.Linked.{LinkedProgram}
use Rattle.link_sites.specs.declared.site.Site.{Site}
use Rattle.spds_rules.specs.declared.edge.Edge.{Edge}
use Rattle.spds_rules.specs.declared.edge.EdgeKind.{EdgeKind}
use Rattle.spds_rules.specs.declared.edge.EdgeKind.TheVariants as edge
use Rattle.spds_rules.specs.declared.node.Node.{Node}
use Rattle.cert_rules.specs.declared.fact.Entry.{Entry}
use Rattle.cert_rules.specs.declared.fact.Fact.{Fact}
use Rattle.cert_rules.specs.declared.line.Side.{Side}
use Rattle.cert_rules.specs.declared.line.Side.TheVariants.{Field, Call}
use Rattle.cert_rules.specs.Given.{Cites}
use Rattle.cert_rules.specs.Lengths.{cited_length}
use Rattle.cert_lines.specs.Noted.{GivesAt, IsThere, Noted, length_at}
use Rattle.cert_work.specs.declared.held.Below.{Below}
use Rattle.cert_work.specs.declared.held.Held.{Held}
use Rattle.cert_work.specs.declared.held.Meeting.{Meeting}
use Rattle.cert_work.specs.Added.{AreAdded, length_told}
use Rattle.cert_work.specs.Held.{IsBelowHeld, IsHeld, IsMeeting}
use Rattle.cert_work.specs.Rules.{GoesInto, GoesOn, IsAlong, IsPopped, IsPut}

pub second : {A B : Type 0} → A × B → B
second p = p.1

pub first : {A B : Type 0} → A × B → A
first p = p.0

-- what is true of the first elements and of the next one
pub each_next : {X : Type 0} (P : X → Type 0) (xs : List X) (i : ℕ) (x : X) → slice_get xs i ≡ Some x → ((y : X) → Has (take i xs) y → P y) → P x → (y : X)
    → Has (take (i + 1) xs) y → P y
each_next {X} P xs i x there each here y has =
    let at : slice_get (take i xs ++ x ∷ []) has.0 ≡ Some y = subst (λ (ys : List X). slice_get ys has.0 ≡ Some y) (take-next xs i x there) has.1 in
    elim (slice_get-pushed (take i xs) x has.0 y at) [ inl before ↦ each y (has.0, before) | inr e ↦ subst P (sym e.1) here ]

-- of no element
pub each_none : {X : Type 0} (P : X → Type 0) (xs : List X) (y : X) → Has (take 0 xs) y → P y
each_none P xs y has = let h = has.1 in cc

pub there_within : (w : Noted) (fact : Fact) (a b : ℕ) → IsThere w fact a → a ≤ b → IsThere w fact b
there_within w fact a b there less = record { at = there.at; gives = there.gives; short = omega (arith, there.short, less) }

-- a line gives one fact
pub one_fact : (w : Noted) (i : ℕ) (f g : Fact) → GivesAt w i f → GivesAt w i g → f ≡ g
one_fact w i f g a b = cc

index-left : (xs : List ℕ) (x i : ℕ) → i < length xs → slice_index_or (xs ++ x ∷ []) i 0 ≡ slice_index_or xs i 0
index-left [] x i low = absurd (omega arith)
index-left (y ∷ xs) x zero low = refl
index-left (y ∷ xs) x (suc i) low = index-left xs x i (omega arith)

module _ (p : LinkedProgram) (t : Node) where
  pub added_more : {a b c : Noted} → AreAdded p t a b → AreAdded p t b c → AreAdded p t a c
  added_more first AreAdded.none = first
  added_more first (AreAdded.more line fact rest even gives not) = AreAdded.more line fact (added_more first rest) even gives not

  pub at_more : {old new : Noted} → AreAdded p t old new → (i : ℕ) (f : Fact) → GivesAt old i f → GivesAt new i f
  at_more AreAdded.none i f at = at
  at_more (AreAdded.more {mid} line fact rest even gives not) i f at =
      slice_get-append_left mid.given (Some fact ∷ []) i (Some f) (at_more rest i f at)

  pub many_more : {old new : Noted} → AreAdded p t old new → length old.given ≤ length new.given
  many_more AreAdded.none = omega arith
  many_more (AreAdded.more {mid} line fact rest even gives not) =
      omega (arith, many_more rest, length-append mid.given (Some fact ∷ []))

  pub length_more : {old new : Noted} → AreAdded p t old new → (i : ℕ) → i < length old.given → length_at new i ≡ length_at old i
  length_more AreAdded.none i low = refl
  length_more (AreAdded.more {mid} line fact rest even gives not) i low =
      index-left mid.lengths (length_told mid line) i (omega (arith, even, low, many_more rest)) ∙ length_more rest i low

  pub at_less : {old new : Noted} → AreAdded p t old new → (i : ℕ) (f : Fact) → i < length old.given → GivesAt new i f → GivesAt old i f
  at_less AreAdded.none i f low at = at
  at_less (AreAdded.more {mid} line fact rest even gives not) i f low at =
      elim (slice_get-pushed mid.given (Some fact) i (Some f) at) [
        | inl before ↦ at_less rest i f low before
        | inr e ↦ absurd (omega (arith, e.0, low, many_more rest))
      ]

  module _ {old new : Noted} (added : AreAdded p t old new) where
    pub there_more : (f : Fact) (n : ℕ) → IsThere old f n → IsThere new f n
    there_more f n there =
        let low = slice_get-below old.given there.at (Some f) there.gives in
        record { at = there.at; gives = at_more added there.at f there.gives; short = omega (arith, there.short, length_more added there.at low) }

    pub cites_kept : (number : ℕ) (f : Fact) → Cites old.given number f → Cites new.given number f
    cites_kept zero f cites = absurd cites
    cites_kept (suc number) f cites = at_more added number f cites

    pub cited_kept : (number : ℕ) (f : Fact) → Cites old.given number f → cited_length new.lengths number ≡ cited_length old.lengths number
    cited_kept zero f cites = absurd cites
    cited_kept (suc number) f cites = length_more added number (slice_get-below old.given number (Some f) cites)

    pub held_more : (h : Held) → IsHeld old h → IsHeld new h
    held_more h is = record { gives = cites_kept h.number _ is.gives; long = cited_kept h.number _ is.gives ∙ is.long }

    pub below_more : (h : Held) (b : Below) → IsBelowHeld old h b → IsBelowHeld new h b
    below_more h b is = record { gives = cites_kept b.number _ is.gives; long = cited_kept b.number _ is.gives ∙ is.long }

    pub meeting_more : (h : Held) (m : Meeting) → IsMeeting old h m → IsMeeting new h m
    meeting_more h m is = record { at_arg = is.at_arg; meets = cites_kept m.number _ is.meets }

    pub goes_on_more : (n : ℕ) (side : Side) (o : Site) (x : Entry) (kind : EdgeKind) (to : Node) → GoesOn old n side o x kind to → GoesOn new n side o x kind to
    goes_on_more n Field o x edge.Flow to is = there_more _ _ is
    goes_on_more n Field o x (edge.Load field) to is = tt
    goes_on_more n Field o x (edge.Call call) to is = there_more _ _ is
    goes_on_more n Field o x (edge.Return call) to is = there_more _ _ is
    goes_on_more n Field o x edge.Jump to is = there_more _ _ is
    goes_on_more n Call o x edge.Flow to is = there_more _ _ is
    goes_on_more n Call o x (edge.Load field) to is = there_more _ _ is
    goes_on_more n Call o x (edge.Call call) to is = (there_more _ _ is.0, there_more _ _ is.1)
    goes_on_more n Call o x (edge.Return call) to is = λ e. there_more _ _ (is e)
    goes_on_more n Call o x edge.Jump to is = there_more _ _ is

    pub goes_into_more : (n : ℕ) (side : Side) (o : Site) (x : Entry) (field : ℕ) (to : Node) → GoesInto old n side o x field to → GoesInto new n side o x field to
    goes_into_more n Field o x field to is = (there_more _ _ is.0, there_more _ _ is.1)
    goes_into_more n Call o x field to is = there_more _ _ is

    pub cites_less : (number : ℕ) (f : Fact) → number ≤ length old.given → Cites new.given number f → Cites old.given number f
    cites_less zero f low cites = absurd cites
    cites_less (suc number) f low cites = at_less added number f (omega (arith, low)) cites

    pub along_more : (i : ℕ) (e : Edge) → i ≤ length old.given → IsAlong old i e → IsAlong new i e
    along_more i e low is side o x at =
        let here = cites_less i _ low at in
        subst (λ (n : ℕ). GoesOn new n side o x e.kind e.to) (sym (cited_kept i _ here))
        (goes_on_more (cited_length old.lengths i) side o x e.kind e.to (is side o x here))

    pub popped_more : (i link : ℕ) (e : Edge) → i ≤ length old.given → link ≤ length old.given → IsPopped old i link e → IsPopped new i link e
    popped_more i link e low under is side o x below at links takes =
        let here = cites_less i _ low at in
        let there = cites_less link _ under links in
        let more = there_more _ _ (is side o x below here there takes) in
        let one = cited_kept i _ here in
        let two = cited_kept link _ there in rw (one, two) more

    pub put_more : (i met : ℕ) (base : Site) (n : Node) → i ≤ length old.given → met ≤ length old.given → IsPut old i met base n → IsPut new i met base n
    put_more i met base n low under is side o x s at meets =
        let here = cites_less i _ low at in
        subst (λ (k : ℕ). GoesInto new k side o x s.field n) (sym (cited_kept i _ here))
        (goes_into_more (cited_length old.lengths i) side o x s.field n (is side o x s here (cites_less met _ under meets)))
