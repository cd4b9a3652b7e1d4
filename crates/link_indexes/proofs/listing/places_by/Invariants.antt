use Rattle.std.proofs.Common.{take, ◌++◌, ◌∷◌, []}
use Rattle.link_indexes.specs.Facts.{HasKey}
use Rattle.lists.specs.Filings.{items_under}
use Rattle.link_indexes.specs.Tables.{ArePlacesBy, codes_of}
use Rattle.link_indexes.proofs.listing.places_by.Given as goal

abbrev pub invariant-loop-number : goal.invariant-loop-number
invariant-loop-number l = ArePlacesBy (HasKey l.key) (take l.number (codes_of l.methods)) (items_under l.filing)

abbrev pub invariant-loop-index : goal.invariant-loop-index
invariant-loop-index l = ArePlacesBy (HasKey l.key) (take l.number (codes_of l.methods) ++ take l.index l.code-items ∷ []) (items_under l.filing)
