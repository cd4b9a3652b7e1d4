-- What a replay finds.
use Rattle.std.specs.Prelude.{◌≡◌, ◌⊎◌, ℕ, ◌+◌, List, Result, MatchResult}
use Rattle.link_sites.specs.declared.site.Site.{Site}
use Rattle.spds_rules.specs.declared.node.Node.{Node}
use Rattle.cert_rules.specs.declared.fact.Fact.TheVariants.{At}
use Rattle.cert_rules.specs.declared.line.Line.{Line}
use Rattle.cert_rules.specs.declared.line.Side.TheVariants.{Field}
use Rattle.cert_rules.specs.Certified.{EndsWith, IsUngiven}
use Rattle.cert_rules.specs.Given.{Cites, Facts}
use Rattle.cert_rules.specs.declared.fact.Entry.{Entry}
use Rattle.cert_replay.specs.declared.error.ReplayError.{ReplayError}
use Rattle.cert_replay.specs.declared.error.ReplayError.TheVariants.{NoMemory, Rejected}
use Rattle.cert_replay.specs.declared.view.View.{View}

-- the line with the number, from 1, is the first that gives nothing
abbrev pub IsFirstUngiven : View → List Line → ℕ → Type 0
IsFirstUngiven v lines number = (i : ℕ) × (number ≡ i + 1) × IsUngiven v.linked.now v.target lines i

-- the last line claims, and the field line that it cites put an object of the site somewhere
abbrev pub ClaimsSite : Facts → List Line → Site → Type 0
ClaimsSite given lines o = (field : ℕ) × (call : ℕ) × EndsWith lines field call × ((e : Entry) × (n : Node) × Cites given field (At Field o e n))

-- it is the error that names the line, or memory that was asked for wasn't found
abbrev pub IsRefusal : {A : Type 0} → ℕ → Result A ReplayError → Type 0
IsRefusal k result = MatchResult result (λ found. ⊥) (λ e. (e ≡ Rejected k) ⊎ (e ≡ NoMemory))
