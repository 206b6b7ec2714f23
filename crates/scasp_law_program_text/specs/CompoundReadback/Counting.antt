-- The variables of a clause are numbered in the order in which they are read.
use Rattle.std.specs.Prelude.{ℕ, ◌+◌, Bool, not, ◌&&◌, ◌==◌, nat_lt, if◌then◌else◌, Option, None, Some}
use Rattle.scasp_num.specs.Arithmetic.{◌>>=◌}
use Rattle.scasp_syntax.specs.Tm.{Tm, Tms, var, num, app, nil, cons}
use Rattle.scasp_reader_terms.specs.declared.reader.TheConstants.{VARIABLE_LIMIT}
use Rattle.scasp_print_program.specs.Terms.{Style, variable_text}
use Rattle.scasp_law_program_text.specs.CompoundReadback.Styles.{is_anonymous}

-- one of the n variables that the clause has had, which is found by its text
abbrev pub is_known : Style → ℕ → ℕ → Bool
is_known w n x = nat_lt x n && not (is_anonymous (variable_text w x))

-- the next variable, within the limit
abbrev pub is_next : ℕ → ℕ → Bool
is_next n x = x == n && nat_lt n VARIABLE_LIMIT

-- the number of variables that the clause has had behind this one, where it had n before; none for one that is neither known nor next
abbrev pub count_variable : Style → ℕ → ℕ → Option ℕ
count_variable w n x = if is_known w n x then Some n else (if is_next n x then Some (n + 1) else None)

abbrev mutual
  -- the same behind a term
  pub count : Style → ℕ → Tm → Option ℕ
  count w n (var x) = count_variable w n x
  count w n (num q) = Some n
  count w n (app f ts) = count_all w n ts

  pub count_all : Style → ℕ → Tms → Option ℕ
  count_all w n nil = Some n
  count_all w n (cons t ts) = count w n t >>= (λ m. count_all w m ts)
