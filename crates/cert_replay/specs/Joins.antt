-- Edges and stores by the nodes that they join.
use Rattle.std.specs.Prelude.{◌≡◌, List}
use Rattle.lists.specs.Lists.{Has}
use Rattle.spds_rules.specs.declared.edge.Edge.{Edge}
use Rattle.spds_rules.specs.declared.edge.EdgeKind.{EdgeKind}
use Rattle.spds_rules.specs.declared.edge.EdgeKind.TheVariants.{Flow, Load, Call, Return, Jump}
use Rattle.spds_rules.specs.declared.store.StoreAt.{StoreAt}
use Rattle.spds_rules.specs.Systems.{KeepsCalls, KeepsFields}
use Rattle.cert_replay.specs.declared.edges.Joined.{Joined}
use Rattle.cert_replay.specs.declared.edges.Step.{Step}
use Rattle.cert_replay.specs.declared.edges.Way.{Way}
use Rattle.cert_replay.specs.declared.edges.Way.TheVariants.{Fields, Calls, Returns, Only}

abbrev pub AnyStep : Type 0
AnyStep = Step

abbrev pub IsReturn : EdgeKind → Type 0
IsReturn (Return call) = Unit {0}
IsReturn Flow = ⊥
IsReturn (Load field) = ⊥
IsReturn (Call call) = ⊥
IsReturn Jump = ⊥

-- it is true of an edge of the kind
abbrev pub Goes : Way → EdgeKind → Type 0
Goes Fields kind = KeepsFields kind
Goes Calls kind = KeepsCalls kind
Goes Returns kind = IsReturn kind
Goes (Only only) kind = only ≡ kind

-- the step is the edge's, with this, which is true of it
abbrev pub IsStepOf : Edge → Way → Step → Type 0
IsStepOf edge way s = Goes way edge.kind × (s ≡ record { joined = record { from = edge.from; to = edge.to }; way = way })

-- the step is the edge's, with something that is true of it
abbrev pub IsStepAlong : Edge → Step → Type 0
IsStepAlong edge s = (s.joined.from ≡ edge.from) × (s.joined.to ≡ edge.to) × Goes s.way edge.kind

-- it is that of one of the edges
abbrev pub HasStep : List Edge → Step → Type 0
HasStep edges s = (edge : Edge) × Has edges edge × IsStepAlong edge s

abbrev pub joined_by : StoreAt → Joined
joined_by s = record { from = s.arg; to = s.base }
