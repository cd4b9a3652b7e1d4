-- What the demo is asked, and how it is told.
use Rattle.std.specs.Prelude.{◌≡◌, ℕ, ◌*◌, ◌-◌, ◌++◌, List, ◌∷◌, codes, length, take}
use Rattle.std.specs.List.{sum_by}
use Rattle.std.specs.Fmt.{decimal}
use Rattle.link_rules.specs.Linked.{LinkedProgram}
use Rattle.link_sites.specs.declared.site.Site.{Site}
use Rattle.boom_words.specs.Requests.{PointsTo}
use Rattle.demo_text.specs.Demo.{main_method, taken_local}
use Rattle.report_text.specs.Answers.{count_lines}
use Rattle.report_text.specs.Lines.{text_of}

-- what is asked of the demo with so many boxes: what is taken from the last one, just before main returns, whatever it demands
abbrev pub demo_asked : ℕ → PointsTo
demo_asked boxes = record {
  method = main_method;
  index = 4 * boxes;
  local = taken_local (boxes - 1);
  budget = 4294967295;
}

-- how many statements the methods of a program have, but for the root, which is the last
abbrev pub statement_count : LinkedProgram → ℕ
statement_count p = sum_by (λ m. length m.code) (take (length p.methods - 1) p.methods)

-- the reply that tells of the demo: how many boxes, statements, sites of the answer and demanded nodes there are
abbrev pub IsDemoText : LinkedProgram → ℕ → List Site → ℕ → List ℕ → Type 0
IsDemoText p boxes sites demanded text = text ≡ text_of (
    (codes "demo " ++ decimal boxes)
    ∷ (codes "statements " ++ decimal (statement_count p))
    ∷ count_lines (length sites) demanded)
