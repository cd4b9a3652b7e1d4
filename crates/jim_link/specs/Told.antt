-- What is told where a program isn't linked.
use Rattle.link_rules.specs.Refusals.{IsFirst, IsTold, Refusal}
use Rattle.link_rules.specs.World.{World}
use Rattle.link_rules.specs.declared.refusal.LinkError.{LinkError}
use Rattle.link_rules.specs.declared.refusal.LinkError.TheVariants.{NoMemory, Refused}

-- the first refusal is told, if one is told
abbrev pub TellsFirst : World → LinkError → Type 0
TellsFirst w (Refused kind place index) = (r : Refusal) × IsFirst w r × IsTold w r kind place index
TellsFirst w NoMemory = Unit {0}
