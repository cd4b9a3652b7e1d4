-- What is selected up to the next turn of either kind.
use Rattle.std.proofs.Common.{◌≡◌, ℕ, Option, None, List, sym, ap, ◌∙◌, arith}
use Rattle.class_tree.specs.declared.tree.Defaults.{Defaults}
use Rattle.class_tree.specs.declared.turns.Turn.{Turn}
use Rattle.class_tree.specs.Turns.{turned}
use Rattle.default_turns.specs.declared.turns.DefaultTurn.{DefaultTurn}
use Rattle.default_turns.specs.Turns.{defaults_at}
use Rattle.object_ranges.specs.declared.selection.Selection.{Selection}
use Rattle.object_ranges.specs.Parts.{SelectAlike}
use Rattle.object_ranges.specs.Selections.{IsSteady, selected_at, selection_of}

-- from a place up to where neither the row nor the default methods change, the same is selected
pub steady_part : (marks : List (Option ℕ)) (turns : List Turn) (defaults : List DefaultTurn) (start count until end : ℕ) (row : Option ℕ) (found : Defaults) (selection : Selection)
    → row ≡ turned None turns start → found ≡ defaults_at defaults start → selection ≡ selection_of row found
    → IsSteady (turned None turns) start count until → IsSteady (defaults_at defaults) start until end
    → SelectAlike marks (selected_at turns defaults) (record { start = start; end = end; selection = selection })
steady_part marks turns defaults start count until end row found selection is_row is_found is s t = λ place class here st.
    ap (λ r. selection_of r (defaults_at defaults place)) (s.same place here.0 (omega (arith, here.1, t.within)))
    ∙ ap (selection_of (turned None turns start)) (t.same place here.0 here.1)
    ∙ sym (is ∙ ap (λ r. selection_of r found) is_row ∙ ap (selection_of (turned None turns start)) is_found)
