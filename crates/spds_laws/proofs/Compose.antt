-- The laws by which meets, call strings and words compose.
use Rattle.std.proofs.Common.{ℕ, zero, suc, List, ◌∷◌, ◌++◌, inl, inr}
use Rattle.link_rules.specs.Linked.{LinkedProgram}
use Rattle.link_sites.specs.declared.place.Place.{Place}
use Rattle.link_sites.specs.declared.site.Site.{Site}
use Rattle.spds_rules.specs.declared.node.Node.{Node}
use Rattle.spds_rules.specs.declared.store.StoreAt.{StoreAt}
use Rattle.spds_rules.specs.Demand.{Asked, StartIn}
use Rattle.spds_rules.specs.Systems.{Calls, Fields, InCalls, InFields, IsString, Meets, MetAfter}
use Rattle.spds_laws.specs.Laws.{MeetsCompose, StringsAreIncluded, WordsCompose}
use Rattle.spds_laws.proofs.More.{calls_more, fields_more}
use Rattle.spds_laws.proofs.Rounds.{meets_closed, meets_stored, round_met}

-- the call strings of base are ones of o where o has those of the start nodes of base and meets what base meets
pub calls_within : (p : LinkedProgram) (q : Asked) (Few More : Site → Site → StoreAt → Type 0) (o base : Site)
    → ((n : Node) (string : List Place) → StartIn p q base n → IsString p n.place.method string → InCalls p q More o n string)
    → ((further : Site) (later : StoreAt) → Few base further later → More o further later)
    → {n : Node} {string : List Place} → InCalls p q Few base n string → InCalls p q More o n string
calls_within p q Few More o base opens meets (InCalls.start {n} {string} st is) = opens n string st is
calls_within p q Few More o base opens meets (InCalls.keep e k c) = InCalls.keep e k (calls_within p q Few More o base opens meets c)
calls_within p q Few More o base opens meets (InCalls.push e c) = InCalls.push e (calls_within p q Few More o base opens meets c)
calls_within p q Few More o base opens meets (InCalls.pop e c) = InCalls.pop e (calls_within p q Few More o base opens meets c)
calls_within p q Few More o base opens meets (InCalls.jump e c is) = InCalls.jump e (calls_within p q Few More o base opens meets c) is
calls_within p q Few More o base opens meets (InCalls.store {base = further} {s} m st c is) =
    InCalls.store (meets further s m) st (calls_within p q Few More o base opens meets c) is

module _ (p : LinkedProgram) (q : Asked) where
  -- where o meets base, o may be at the start nodes of base, under each string of their methods
  pub meet_opens : (o base : Site) (s : StoreAt) → Meets p q o base s → (n : Node) (string : List Place) → StartIn p q base n
      → IsString p n.place.method string → Calls p q o n string
  meet_opens o base s m n string st is = InCalls.store m st (meets_stored p q o base s m).1.at_arg is

  -- where o meets base, and base meets further in some round, o meets further
  round_composes : (k : ℕ) (o base : Site) (s : StoreAt) → Meets p q o base s → (further : Site) (later : StoreAt)
      → MetAfter p q k base further later → Meets p q o further later
  round_composes zero o base s m further later h = elim h [ ]
  round_composes (suc k) o base s m further later (inl h) = round_composes k o base s m further later h
  round_composes (suc k) o base s m further later (inr (string, g)) =
      meets_closed p q o further later (
        string,
        record {
          store = g.store;
          at_arg = calls_within p q (MetAfter p q k) (Meets p q) o base (meet_opens o base s m) (round_composes k o base s m) g.at_arg;
          at_base = calls_more p q (MetAfter p q k) (Meets p q) (round_met p q k) further g.at_base;
          is_base = fields_more p q (MetAfter p q k) (Meets p q) (round_met p q k) further g.is_base;
          has = g.has;
        },
      )

-- meets compose
pub meets_composed : MeetsCompose
meets_composed p q o base further s later first second = round_composes p q second.0 o base s first further later second.1

-- where o meets base, each call string of base is one of o
pub strings_within : StringsAreIncluded
strings_within p q o base s m n string c =
    calls_within p q (Meets p q) (Meets p q) o base (meet_opens p q o base s m)
    (λ (further : Site) (later : StoreAt) (h : Meets p q base further later). meets_composed p q o base further s later m h) c

-- words compose
module _ (p : LinkedProgram) (q : Asked) (o base : Site) (s : StoreAt) (m : Meets p q o base s) (rest : List ℕ) (stored : Fields p q o s.arg rest) where
  words_behind : {n : Node} {word : List ℕ} → Fields p q base n word → Fields p q o n (word ++ s.field ∷ rest)
  words_behind (InFields.start st) = InFields.store m st stored
  words_behind (InFields.keep e k c) = InFields.keep e k (words_behind c)
  words_behind (InFields.load e c) = InFields.load e (words_behind c)
  words_behind (InFields.store {base = further} {s = later} h st c) =
      InFields.store (meets_composed p q o base further s later m h) st (words_behind c)

pub words_composed : WordsCompose
words_composed p q o base s m n word rest c stored = words_behind p q o base s m rest stored c
