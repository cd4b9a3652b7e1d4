-- Lines and how far they were gone through.
use Rattle.std.specs.Prelude.{◌≡◌, ◌↔◌, ◌≤◌, ℕ, length}
use Rattle.link_rules.specs.Linked.{LinkedProgram}
use Rattle.link_sites.specs.declared.site.Site.{Site}
use Rattle.lists.specs.Groups.{found_at}
use Rattle.lists.specs.Lists.{Has}
use Rattle.spds_rules.specs.declared.node.Node.{Node}
use Rattle.spds_rules.specs.declared.store.StoreAt.{StoreAt}
use Rattle.cert_rules.specs.declared.fact.Entry.{Entry}
use Rattle.cert_rules.specs.declared.fact.Fact.TheVariants.{At, Link, Met}
use Rattle.cert_rules.specs.declared.line.Side.{Side}
use Rattle.spds_rules.specs.declared.edge.Edge.{Edge}
use Rattle.spds_rules.specs.Demand.{EdgeIn, StoreIn, about}
use Rattle.cert_rules.specs.Given.{Cites, Takes}
use Rattle.cert_lines.specs.contracts.keys.SpotPartialEq.TheImpl as spot
use Rattle.cert_lines.specs.contracts.keys.WordPartialEq.TheImpl as word
use Rattle.cert_lines.specs.declared.keys.Spot.{Spot}
use Rattle.cert_lines.specs.declared.keys.Word.{Word}
use Rattle.cert_lines.specs.Noted.{Noted}
use Rattle.cert_work.specs.declared.held.Held.{Held}
use Rattle.cert_work.specs.declared.roads.View.{View}
use Rattle.cert_work.specs.declared.wants.Wants.{Wants}
use Rattle.cert_work.specs.declared.work.Work.{Work}
use Rattle.cert_work.specs.Roads.{IsEnd}
use Rattle.cert_work.specs.Rules.{AreWorked, AreWorkedIfBest}
use Rattle.cert_work.specs.Wants.{IsFollowedAt}

-- the words under which it is there
abbrev pub word_of : Held → Word
word_of h = record { side = h.side; site = h.site; entry = h.entry }

-- where it is
abbrev pub spot_of : Held → Spot
spot_of h = record { site = h.site; node = h.node }

-- the line with the number, from 1, put an object of the word somewhere
abbrev pub HasWord : Noted → Word → ℕ → Type 0
HasWord w k i = (n : Node) × Cites w.given i (At k.side k.site k.entry n)

-- it gave what stands below the first letter of the word
abbrev pub IsBelow : Noted → Word → ℕ → Type 0
IsBelow w k i = (below : Entry) × Cites w.given i (Link k.side k.site k.entry below)

-- it put an object there
abbrev pub IsAt : Noted → Spot → ℕ → Type 0
IsAt w k i = (side : Side) × (x : Entry) × Cites w.given i (At side k.site x k.node)

-- it put an object at an end
pub record PutsAtEnd (p : LinkedProgram) (t : Node) (w : Noted) (k : Spot) (i : ℕ) : Type 0 where
  pub end : IsEnd p t k.node
  pub at : IsAt w k i

-- it gave that an object that is there may be stored
abbrev pub IsStored : Noted → Spot → ℕ → Type 0
IsStored w k i = (base : Site) × (s : StoreAt) × (s.arg ≡ k.node) × Cites w.given i (Met k.site base s)

-- it put an object of the word where it is followed, and where an edge takes the first letter of the word off
pub record IsTaker (p : LinkedProgram) (t : Node) (wants : Wants) (w : Noted) (k : Word) (i : ℕ) : Type 0 where
  pub edge : Edge
  pub edge_in : EdgeIn p (about t) edge.from edge.kind edge.to
  pub takes : Takes k.side k.entry edge.kind
  pub put : Cites w.given i (At k.side k.site k.entry edge.from)
  pub wanted : IsFollowedAt wants k.site k.entry edge.from

-- the lines that were gone through, by what they are looked for by
pub record AreFiled (w : Noted) (k : Work) : Type 0 where
  pub links : (x : Word) (i : ℕ) → Has (found_at word.eq-value.it k.links x) i ↔ ((i ≤ k.done) × IsBelow w x i)
  pub mets : (x : Spot) (i : ℕ) → Has (found_at spot.eq-value.it k.mets x) i ↔ ((i ≤ k.done) × IsStored w x i)

-- the same of those that put objects at ends
abbrev pub AreEndsFiled : LinkedProgram → Node → Work → Type 0
AreEndsFiled p t k = (x : Spot) (i : ℕ) → Has (found_at spot.eq-value.it k.spots x) i ↔ ((i ≤ k.done) × PutsAtEnd p t k.written x i)

-- they tell which of them put objects at the node
abbrev pub TellsAt : Work → Node → Type 0
TellsAt k n = (p : LinkedProgram) × (t : Node) × AreEndsFiled p t k × IsEnd p t n

-- objects are stored by demanded stores alone
abbrev pub AreStored : LinkedProgram → Node → Noted → Type 0
AreStored p t w = (i : ℕ) (o base : Site) (s : StoreAt) → Cites w.given i (Met o base s) → StoreIn p (about t) s

-- of the lines that were gone through, what the rules give is there, as far as objects are followed
pub record IsWork (p : LinkedProgram) (t : Node) (wants : Wants) (k : Work) : Type 0 where
  pub within : k.done ≤ length k.written.given
  pub filed : AreFiled k.written k
  pub ends : AreEndsFiled p t k
  pub stored : AreStored p t k.written
  pub takers : (x : Word) (i : ℕ) → Has (found_at word.eq-value.it k.takers x) i ↔ ((i ≤ k.done) × IsTaker p t wants k.written x i)
  pub worked : AreWorked p t wants k.written k.done

abbrev pub IsWorkOf : View → Work → Type 0
IsWorkOf v k = IsWork v.linked.now v.target v.wants.now k

-- While lines are gone through, what the rules give of one may come of a better line, which is still to be gone through.
pub record IsWorking (p : LinkedProgram) (t : Node) (wants : Wants) (k : Work) : Type 0 where
  pub within : k.done ≤ length k.written.given
  pub filed : AreFiled k.written k
  pub ends : AreEndsFiled p t k
  pub stored : AreStored p t k.written
  pub takers : (x : Word) (i : ℕ) → Has (found_at word.eq-value.it k.takers x) i ↔ ((i ≤ k.done) × IsTaker p t wants k.written x i)
  pub worked : AreWorkedIfBest p t wants k.written k.done

abbrev pub IsWorkingOf : View → Work → Type 0
IsWorkingOf v k = IsWorking v.linked.now v.target v.wants.now k
