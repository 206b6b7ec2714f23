-- Programs with their generated denials.
use Rattle.std.proofs.Common.{◌≡◌, ℕ, List, Result, Ok, Err, refl, sym, ap, ◌∙◌}
use Rattle.scasp_reader_terms.specs.declared.fault.Fault.{Fault}
use Rattle.scasp_syntax.specs.Denials.{with_denials}
use Rattle.scasp_reader.specs.declared.texts.texts.Reading.{Reading}
use Rattle.scasp_reader.specs.Texts.Texts.{read}
use Rattle.scasp_reader.specs.Programs.Programs.{completed, program_in}
use Rattle.scasp_law_program_text.specs.Grammar.Programs.{IsProgram}
use Rattle.scasp_law_program_text.proofs.GrammarLemmas.Texts.{read-is-text}
use Rattle.scasp_law_program_text.proofs.GrammarLemmas.GivenTexts.{text-is-read}

pub program-is : (names : List (List ℕ)) (bytes : List ℕ) (r : Reading) → program_in names bytes ≡ Ok r → IsProgram names bytes r
program-is names bytes r = by (read names bytes) refl
  where
    by : (x : Result Reading Fault) → read names bytes ≡ x → completed x ≡ Ok r → IsProgram names bytes r
    by (Err f) e h = absurd cc
    by (Ok q) e h = (q, read-is-text names bytes q e, (let same : record q { clauses = with_denials q.clauses q.queries } ≡ r = cc in sym same))

pub is-program : (names : List (List ℕ)) (bytes : List ℕ) (r : Reading) → IsProgram names bytes r → program_in names bytes ≡ Ok r
is-program names bytes r h = ap completed (text-is-read names bytes h.0 h.1) ∙ ap Ok (sym h.2)
