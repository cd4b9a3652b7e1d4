-- The call system from start nodes that grow.
use Rattle.std.proofs.Common.{List}
use Rattle.lists.specs.Lists.{Has}
use Rattle.link_rules.specs.Linked.{LinkedProgram}
use Rattle.link_sites.specs.declared.place.Place.{Place}
use Rattle.link_sites.specs.declared.site.Site.{Site}
use Rattle.spds_rules.specs.declared.node.Node.{Node}
use Rattle.spds_rules.specs.declared.store.StoreAt.{StoreAt}
use Rattle.spds_rules.specs.Demand.{Asked}
use Rattle.spds_rules.specs.Systems.{InCalls, IsString}
use Rattle.spds_laws.specs.Found.{Listed}
use Rattle.spds_laws.specs.Starts.{CallsAreFromStarts, FromOpen, FromStarts, IsAsked, IsOpen}

module _ (p : LinkedProgram) (q : Asked) (Meet : Site → Site → StoreAt → Type 0) (o : Site) where
  -- what the call system gives comes from open nodes
  pub calls_open : {n : Node} {string : List Place} → InCalls p q Meet o n string → FromOpen p q Meet o n string
  calls_open (InCalls.start st is) = FromOpen.start (IsOpen.own st) is
  calls_open (InCalls.keep e k c) = FromOpen.keep e k (calls_open c)
  calls_open (InCalls.push e c) = FromOpen.push e (calls_open c)
  calls_open (InCalls.pop e c) = FromOpen.pop e (calls_open c)
  calls_open (InCalls.jump e c is) = FromOpen.start (IsOpen.jump e (calls_open c)) is
  calls_open (InCalls.store m st c is) = FromOpen.start (IsOpen.store m st (calls_open c)) is

  mutual
    -- an open node has each string of its method
    pub open_calls : {n : Node} → IsOpen p q Meet o n → (string : List Place) → IsString p n.place.method string → InCalls p q Meet o n string
    open_calls (IsOpen.own st) string is = InCalls.start st is
    open_calls (IsOpen.jump e c) string is = InCalls.jump e (from_open_calls c) is
    open_calls (IsOpen.store m st c) string is = InCalls.store m st (from_open_calls c) is

    -- what comes from open nodes is in the call system
    pub from_open_calls : {n : Node} {string : List Place} → FromOpen p q Meet o n string → InCalls p q Meet o n string
    from_open_calls (FromOpen.start {n} {string} open_node is) = open_calls open_node string is
    from_open_calls (FromOpen.keep e k c) = InCalls.keep e k (from_open_calls c)
    from_open_calls (FromOpen.push e c) = InCalls.push e (from_open_calls c)
    from_open_calls (FromOpen.pop e c) = InCalls.pop e (from_open_calls c)

  -- over starts that are open
  module _ (Start : Node → Type 0) (each : (n : Node) → Start n → IsOpen p q Meet o n) where
    -- what comes from them comes from open nodes
    pub starts_open : {n : Node} {string : List Place} → FromStarts p q Start n string → FromOpen p q Meet o n string
    starts_open (FromStarts.start {n} st is) = FromOpen.start (each n st) is
    starts_open (FromStarts.keep e k c) = FromOpen.keep e k (starts_open c)
    starts_open (FromStarts.push e c) = FromOpen.push e (starts_open c)
    starts_open (FromStarts.pop e c) = FromOpen.pop e (starts_open c)

    -- what comes from them is in the call system
    pub starts_calls : {n : Node} {string : List Place} → FromStarts p q Start n string → InCalls p q Meet o n string
    starts_calls c = from_open_calls (starts_open c)

    -- what they ask for is open
    pub asked_open : {n : Node} → IsAsked p q Meet o Start n → IsOpen p q Meet o n
    asked_open (IsAsked.own st) = IsOpen.own st
    asked_open (IsAsked.jump e c) = IsOpen.jump e (starts_open c.1)
    asked_open (IsAsked.store m st c) = IsOpen.store m st (starts_open c.1)

  -- over starts that hold what they ask for
  module _ (Start : Node → Type 0) (holds : (n : Node) → IsAsked p q Meet o Start n → Start n) where
    -- the call system comes from them
    pub calls_starts : {n : Node} {string : List Place} → InCalls p q Meet o n string → FromStarts p q Start n string
    calls_starts (InCalls.start {n} st is) = FromStarts.start (holds n (IsAsked.own st)) is
    calls_starts (InCalls.keep e k c) = FromStarts.keep e k (calls_starts c)
    calls_starts (InCalls.push e c) = FromStarts.push e (calls_starts c)
    calls_starts (InCalls.pop e c) = FromStarts.pop e (calls_starts c)
    calls_starts (InCalls.jump {b = b} {old} e c is) = FromStarts.start (holds b (IsAsked.jump e (old, calls_starts c))) is
    calls_starts (InCalls.store {n} {old} m st c is) = FromStarts.start (holds n (IsAsked.store m st (old, calls_starts c))) is

    -- each open node is one of them
    pub open_starts : {n : Node} → IsOpen p q Meet o n → Start n
    open_starts (IsOpen.own {n} st) = holds n (IsAsked.own st)
    open_starts (IsOpen.jump {b = b} {string} e c) = holds b (IsAsked.jump e (string, calls_starts (from_open_calls c)))
    open_starts (IsOpen.store {n} {string} m st c) = holds n (IsAsked.store m st (string, calls_starts (from_open_calls c)))

-- more starts keep what comes from them
pub starts_more : (p : LinkedProgram) (q : Asked) (Start More : Node → Type 0) → ((n : Node) → Start n → More n)
    → {n : Node} {string : List Place} → FromStarts p q Start n string → FromStarts p q More n string
starts_more p q Start More more (FromStarts.start {n} st is) = FromStarts.start (more n st) is
starts_more p q Start More more (FromStarts.keep e k c) = FromStarts.keep e k (starts_more p q Start More more c)
starts_more p q Start More more (FromStarts.push e c) = FromStarts.push e (starts_more p q Start More more c)
starts_more p q Start More more (FromStarts.pop e c) = FromStarts.pop e (starts_more p q Start More more c)

-- more meets keep the open nodes, and what comes from them
module _ (p : LinkedProgram) (q : Asked) (Few More : Site → Site → StoreAt → Type 0)
    (more : (o base : Site) (s : StoreAt) → Few o base s → More o base s) (o : Site) where
  mutual
    pub open_more : {n : Node} → IsOpen p q Few o n → IsOpen p q More o n
    open_more (IsOpen.own st) = IsOpen.own st
    open_more (IsOpen.jump e c) = IsOpen.jump e (from_open_more c)
    open_more (IsOpen.store {base} {s} m st c) = IsOpen.store (more o base s m) st (from_open_more c)

    pub from_open_more : {n : Node} {string : List Place} → FromOpen p q Few o n string → FromOpen p q More o n string
    from_open_more (FromOpen.start open_node is) = FromOpen.start (open_more open_node) is
    from_open_more (FromOpen.keep e k c) = FromOpen.keep e k (from_open_more c)
    from_open_more (FromOpen.push e c) = FromOpen.push e (from_open_more c)
    from_open_more (FromOpen.pop e c) = FromOpen.pop e (from_open_more c)

-- from a list of start nodes edges give the call system
pub calls_from_starts : CallsAreFromStarts
calls_from_starts p q triples o nodes starts n string =
    (calls_starts p q (Listed triples) o (Has nodes) starts.holds_asked, starts_calls p q (Listed triples) o (Has nodes) starts.open_each)
