-- The variables of a clause are numbered in the order in which they are read: those that a linear item lists.
use Rattle.std.specs.Prelude.{ℕ, List, [], ◌∷◌, Option, Some}
use Rattle.scasp_num.specs.Arithmetic.{◌>>=◌}
use Rattle.scasp_print_program.specs.Terms.{Style}
use Rattle.scasp_law_program_text.specs.CompoundReadback.Counting.{count_variable}

-- the number of variables that the clause has had behind these, where it had n before
abbrev pub count_variables : Style → ℕ → List ℕ → Option ℕ
count_variables w n [] = Some n
count_variables w n (x ∷ xs) = count_variable w n x >>= (λ m. count_variables w m xs)
