-- What the rows of the table find.
use Rattle.std.specs.Prelude.{ℕ, Option}
use Rattle.spds_rules.specs.declared.node.Node.{Node}
use Rattle.spds_rules.specs.Demand.{StartIn, about}
use Rattle.cert_rules.specs.declared.fact.Fact.TheVariants.{At, Met}
use Rattle.cert_rules.specs.declared.fact.Fact.{Fact}
use Rattle.cert_rules.specs.declared.line.Line.{Line}
use Rattle.cert_rules.specs.declared.line.Side.{Side}
use Rattle.cert_rules.specs.Given.{Cites, Facts, Gives}
use Rattle.cert_replay.specs.declared.rows.Inserted.{Inserted}
use Rattle.cert_replay.specs.declared.view.View.{View}

abbrev pub AnyInserted : Type 0
AnyInserted = Inserted

-- the cited lines put an object so into one that starts at the node
abbrev pub IsPutAs : View → Facts → Side → ℕ → ℕ → Node → Inserted → Type 0
IsPutAs v given side from meet n s =
    Cites given from (At side s.site s.entry s.store.arg) × Cites given meet (Met s.site s.base s.store)
    × StartIn v.linked.now (about v.target) s.base n

-- the line gives this for the query of the view
abbrev pub GivesIn : View → Facts → Line → Option Fact → Type 0
GivesIn v given l g = Gives v.linked.now v.target given l g
