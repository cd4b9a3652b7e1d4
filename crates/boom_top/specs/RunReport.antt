-- What `run` is answered: the status and the lines.
use Rattle.std.specs.Prelude.{◌≡◌, ℕ, List}
use Rattle.link_rules.specs.Linked.{LinkedProgram}
use Rattle.boom_words.specs.Requests.{RunFor}
use Rattle.report_text.specs.Lines.{text_of}
use Rattle.run_report.specs.Named.{digits_of}
use Rattle.run_report.specs.Reports.{IsRunText}
use Rattle.boom_top.specs.declared.status.Status.{Status}
use Rattle.boom_top.specs.declared.status.Status.TheVariants.{Done}

-- about a run: how it stands
abbrev pub IsRunReply : LinkedProgram → List ℕ → RunFor → Status → List (List ℕ) → Type 0
IsRunReply p entry asked status lines = IsRunText p entry asked.steps (digits_of asked.choices) (text_of lines) × (status ≡ Done)
