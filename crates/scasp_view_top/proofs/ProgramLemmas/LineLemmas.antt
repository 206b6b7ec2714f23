-- How many clauses are written.
use Rattle.std.proofs.Common.{◌≡◌, ◌≤◌, ℕ, List, length, take, IfOk, Result, Ok, Err, sym, ◌∙◌, ap, length-take-le}
use Rattle.scasp_list.specs.declared.memory.Memory.{Memory}
use Rattle.scasp_syntax.specs.declared.clause.Clause.{Clause}
use Rattle.scasp_syntax.specs.declared.clause.Query.{Query}
use Rattle.scasp_print_program.specs.Programs.{written}

pub count-is : (clauses : List Clause) (queries : List Query) (r : Result ℕ Memory) → IfOk r (λ n. n ≤ length clauses)
    → IfOk r (λ n. take n clauses ≡ written clauses queries) → IfOk r (λ n. n ≡ length (written clauses queries))
count-is clauses queries (Ok n) within are = sym (length-take-le n clauses within) ∙ ap (λ (cs : List Clause). length cs) are
count-is clauses queries (Err e) within are = within
