-- A certificate as it is written.
use Rattle.std.specs.Prelude.{List, ℕ, ◌∷◌, ◌++◌, codes, map}
use Rattle.cert_rules.specs.declared.certificate.Certificate.{Certificate}
use Rattle.cert_rules.specs.Spelled.{line_text, node_text}

-- its lines: the one that names the target, and then its own
abbrev pub written_lines : Certificate → List (List ℕ)
written_lines c = (codes "query " ++ node_text c.target) ∷ map line_text c.lines
