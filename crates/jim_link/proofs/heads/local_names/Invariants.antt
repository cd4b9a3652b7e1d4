use Rattle.std.proofs.Common.{◌≡◌, map, take}
use Rattle.link_rules.specs.Names.{text_of}
use Rattle.jim_link.specs.Texts.{own_names}
use Rattle.jim_link.proofs.heads.local_names.Given as goal

abbrev pub invariant-loop-local : goal.invariant-loop-local
invariant-loop-local l = l.names.items ≡ map (text_of (own_names l.method)) (take l.local-index l.local-items)
