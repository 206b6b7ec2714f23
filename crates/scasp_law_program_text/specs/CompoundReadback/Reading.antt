-- What it says that a step of the reader reads a text as the value that was written.
use Rattle.std.specs.Prelude.{◌≡◌, ℕ, ◌+◌, List, ◌++◌, length, take, None, Ok}
use Rattle.scasp_reader_terms.specs.Steps.{State, Read}
use Rattle.scasp_print_program.specs.Terms.{Style}
use Rattle.scasp_law_program_text.specs.TermReadback.Reading.{before, behind_term}

-- the reader with the table of the style, in a clause that has had its first n variables, where nothing was wrong
abbrev pub had : Style → ℕ → State → State
had w n s = record s { names = w.names; variables = take n w.variables; fault = None }

-- The step reads the text before these bytes as x. The clause had n variables before, and has m behind; nothing else changes.
abbrev pub Reads : {A : Type 0} → Style → ℕ → ℕ → Read A → List ℕ → A → State → List ℕ → Type 0
Reads w n m step text x s rest =
    (at : ℕ) → step (before (had w n s) at (text ++ rest)) ≡ Ok (x, behind_term (had w m s) (at + length text) rest)
