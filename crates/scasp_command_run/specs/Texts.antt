-- The lines that are printed.
use Rattle.std.specs.Prelude.{ℕ, suc, List, [], ◌∷◌, ◌++◌, Option, None, Some, codes, decimal}
use Rattle.scasp_cert.specs.Text.Block.{block_text}
use Rattle.scasp_print_remarks.specs.Remarks.{remarks_text}
use Rattle.scasp_print_shared.specs.Shared.{shared_text}
use Rattle.scasp_command_run.specs.Queries.{Printed, Shown}
use Rattle.scasp_command_run.specs.declared.ends.QueryEnd.{QueryEnd}
use Rattle.scasp_command_run.specs.declared.ends.QueryEnd.TheVariants.{Ended, Stopped, Spent, Overflow}
use Rattle.scasp_command_words.specs.declared.format.Format.{Format}
use Rattle.scasp_command_words.specs.declared.format.Format.TheVariants.{Whole, Shared}
use Rattle.scasp_syntax.specs.Programs.{numbered}
use Rattle.scasp_syntax.specs.declared.clause.Query.{Query}
use Rattle.scasp_syntax.specs.declared.program.Program.{Program}

-- the first line of a run, with the version
abbrev pub header_line : Format → List ℕ
header_line Whole = codes "scasp 1\n"
header_line Shared = codes "scasp 2\n"

-- the word of how a query ended
abbrev pub end_word : QueryEnd → List ℕ
end_word Ended = codes "ended "
end_word Stopped = codes "stopped "
end_word Spent = codes "spent "
end_word Overflow = codes "overflow "

-- the line of how the query of this number ended
abbrev pub end_line : ℕ → QueryEnd → List ℕ
end_line query end = end_word end ++ decimal query ++ codes "\n"

-- no line where the run is cut off
abbrev pub last_line : ℕ → Option QueryEnd → List ℕ
last_line query None = []
last_line query (Some end) = end_line query end

-- the names of the variables of a query; none for one that is written `_`
abbrev pub names_of : Option Query → List (Option ℕ)
names_of None = []
names_of (Some query) = query.names

-- the variables of the query that the answer is to
abbrev pub variables_of : Program → ℕ → List (Option ℕ)
variables_of p query = names_of (numbered p.queries query)

-- the block of the answer of this number
abbrev pub answer_block : Format → ℕ → Printed → List ℕ
answer_block Whole number one = block_text one.names one.certificate number
answer_block Shared number one = shared_text (block_text one.names one.certificate number)

-- the block of the answer of this number, and the remarks on it
abbrev pub answer_text : Format → Program → ℕ → Printed → List ℕ
answer_text format p number one =
    answer_block format number one ++ remarks_text one.names (variables_of p one.certificate.query) one.certificate

-- what is printed for a query from the answer of this number on
abbrev pub shown_from : Format → Program → ℕ → ℕ → List Printed → Option QueryEnd → List ℕ
shown_from format p query number [] end = last_line query end
shown_from format p query number (one ∷ more) end = answer_text format p number one ++ shown_from format p query (suc number) more end

-- what is printed from the query of this number on
abbrev pub queries_text : Format → Program → ℕ → List Shown → List ℕ
queries_text format p query [] = []
queries_text format p query (one ∷ more) = shown_from format p query 1 one.answers one.end ++ queries_text format p (suc query) more

-- all that a run of the program prints
abbrev pub run_text : Format → Program → List Shown → List ℕ
run_text format p all = header_line format ++ queries_text format p 1 all
