use Rattle.std.proofs.Common.{arith}
use Rattle.std.proofs.lemmas.List.Elements.{Contains-get_or}
use Rattle.default_turns.specs.declared.holders.Holder.{Holder}
use Rattle.default_turns.proofs.Covered.{reached_own}
use Rattle.default_turns.proofs.hops.Line.spans.Goals as goal

abbrev none : Holder
none = record { interface = 0; place = 0 }

pub get-requires : goal.get-requires
get-requires c =
    let known = c.requires.line.placed.known _ (Contains-get_or c.args.self.holders.now c.args.at none c.requires.at) in
    omega (arith, known, c.requires.line.laid.reached.len)

pub returns : goal.returns
returns c = λ to past le.
    rw c.get.ensures (reached_own c.args.self.placed.tree.now c.args.self.placed.layout c.requires.line.laid c.args.self.holders.now c.requires.line.placed c.args.at none c.requires.at
    _ to (c.requires.line.hops.each c.args.at c.requires.at).below past le)
