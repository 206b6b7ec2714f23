-- What a text is read as: a program with its generated denials, and the table of names behind it.
use Rattle.std.specs.Prelude.{◌≡◌, ℕ, Bool, true, List, Result, Ok, Err}
use Rattle.scasp_syntax.specs.Denials.{variables_from, with_denials}
use Rattle.scasp_syntax.specs.declared.atom.Pred.{Pred}
use Rattle.scasp_syntax.specs.declared.clause.Item.{Item}
use Rattle.scasp_syntax.specs.declared.clause.Item.TheVariants as form
use Rattle.scasp_syntax.specs.declared.program.Program.{Program}
use Rattle.scasp_reader_terms.specs.declared.fault.Fault.{Fault}
use Rattle.scasp_reader_terms.specs.declared.fault.Stop.{Stop}
use Rattle.scasp_reader_terms.specs.declared.fault.Stop.TheVariants.{At, Memory}
use Rattle.scasp_reader.specs.declared.texts.texts.Reading.{Reading}
use Rattle.scasp_reader.specs.Texts.Texts.{read}

-- the call of the predicate, or of its negation, on variables
abbrev pub call_of : Bool → Pred → Item
call_of minus p = form.Call (record { positive = true; atom = record { minus = minus; name = p.name; args = variables_from 0 p.arity } })

-- what was read, with a denial behind its clauses for each -p that occurs; that a predicate may be assumed is no occurrence
abbrev pub completed : Result Reading Fault → Result Reading Fault
completed (Ok r) = Ok (record r { clauses = with_denials r.clauses r.queries })
completed (Err f) = Err f

-- what the bytes are read as, with the table of names before
abbrev pub program_in : List (List ℕ) → List ℕ → Result Reading Fault
program_in names bytes = completed (read names bytes)

abbrev pub reading_of : Program × List (List ℕ) → Reading
reading_of x = record { clauses = x.0.clauses; queries = x.0.queries; abducibles = x.0.abducibles; names = x.1 }

-- what the code answers is what is read; want of memory is free
abbrev pub Gives : Result (Program × List (List ℕ)) Stop → Result Reading Fault → Type 0
Gives (Ok x) r = r ≡ Ok (reading_of x)
Gives (Err (At f)) r = r ≡ Err f
Gives (Err Memory) r = Unit {0}
