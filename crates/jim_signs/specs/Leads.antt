-- The class of a token, by its kind and its bytes.
use Rattle.std.specs.Prelude.{ℕ, if◌then◌else◌, List, nat_eq, codes}
use Rattle.std.specs.List.{starts_with}
use Rattle.std.specs.Str.{bytes_eq}
use Rattle.jim_text.specs.declared.Kind.{Kind}
use Rattle.jim_text.specs.declared.Kind.TheVariants as kind
use Rattle.jim_text.specs.declared.lead.Lead.{Lead}
use Rattle.jim_text.specs.declared.lead.Lead.TheVariants as lead
use Rattle.jim_text.specs.Words.{look_up, words, marks}

-- the words with an at sign: the receiver, the exception that a handler catches, and a parameter by its number
abbrev pub at_lead : List ℕ → Lead
at_lead text = if bytes_eq text (codes "@this") then lead.This
    else if bytes_eq text (codes "@caughtexception") then lead.Caught
    else if starts_with nat_eq text (codes "@parameter") then lead.Parameter
    else lead.Other

-- the class of a token
abbrev pub lead_of : Kind → List ℕ → Lead
lead_of kind.Word text = look_up words text
lead_of kind.Mark text = look_up marks text
lead_of kind.At text = at_lead text
lead_of kind.Name text = lead.Name
lead_of kind.Number text = lead.Number
lead_of kind.Text text = lead.Text
