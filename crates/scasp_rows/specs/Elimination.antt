-- The elimination of the variables of rows, one after the other (Fourier 1826, Motzkin 1936).
use Rattle.std.specs.Prelude.{◌≡◌, ℕ, ◌+◌, ◌/◌, ◌==◌, nat_lt, Bool, ◌&&◌, ◌||◌, not, if◌then◌else◌, ℤ, pos, unsigned_abs, int_div, int_lt, max, List, [], ◌∷◌, ◌++◌, length, filter, Option, Some, None, Result, Ok, Err, ⊤}
use Rattle.std.specs.List.{list_any}
use Rattle.scasp_num.specs.declared.linear.Coeff.{Coeff}
use Rattle.scasp_num.specs.declared.hints.Step.{Step}
use Rattle.scasp_num.specs.Gcd.{gcd}
use Rattle.scasp_num.specs.Linear.{Linear, is_zero, is_equation, coefficient, negated_if}
use Rattle.scasp_num.specs.SameRow.{same_row}
use Rattle.scasp_rows.specs.declared.state.Halt.{Halt}
use Rattle.scasp_rows.specs.declared.state.Halt.TheVariants as halt
use Rattle.scasp_rows.specs.declared.state.Sign.{Sign}
use Rattle.scasp_rows.specs.declared.state.Sign.TheVariants as sign
use Rattle.scasp_rows.specs.declared.state.Standing.{Standing}
use Rattle.scasp_rows.specs.declared.state.State.{State}
use Rattle.scasp_rows.specs.Points.{is_constant, is_false}
use Rattle.scasp_rows.specs.Steps.{row_sum}

-- the second part with what the first one made, unless that halts
abbrev pub and_then : {A B : Type 0} → Result A Halt → (A → Result B Halt) → Result B Halt
and_then (Ok s) f = f s
and_then (Err e) f = Err e

-- the code answers so, where there is memory
abbrev pub Ends : {A : Type 0} → Result A Halt → Result A Halt → Type 0
Ends (Ok s) o = o ≡ Ok s
Ends (Err halt.Memory) o = ⊤
Ends (Err halt.Overflow) o = o ≡ Err halt.Overflow
Ends (Err (halt.Unsat steps)) o = o ≡ Err (halt.Unsat steps)

-- ---- a new row

-- the row is looked at: a false constant row ends the elimination; a true one is dropped, and so is one that equals a row
-- that stands already, among those so far or those that come later in the list; another row stands
abbrev pub looked : Standing → List Standing → State → Result State Halt
looked r later s =
    if is_false r.row then Err (halt.Unsat s.steps)
    else (if is_constant r.row || list_any (λ o. same_row o.row r.row) (s.standing ++ later) then Ok s
    else Ok (record { standing = s.standing ++ r ∷ []; steps = s.steps; last = s.last }))

abbrev pub sum_looked : Step → List Standing → State → Option Linear → Result State Halt
sum_looked step later s None = Err halt.Overflow
sum_looked step later s (Some row) =
    looked (record { number = s.last + 1; row = row }) later (record { standing = s.standing; steps = s.steps ++ step ∷ []; last = s.last + 1 })

-- the row a*p + b*q is made by a step, and looked at
abbrev pub made : ℤ → Standing → ℤ → Standing → List Standing → State → Result State Halt
made a p b q later s =
    sum_looked (record { a = a; p = p.number; b = b; q = q.number }) later s (row_sum a p.row b q.row)

-- ---- a variable x that an equation has

abbrev pub factor : ℕ → Standing → ℤ
factor x r = coefficient x r.row.coeffs

abbrev pub solves : ℕ → Standing → Bool
solves x r = is_equation r.row.op && not (is_zero (factor x r))

-- the first equation with x
abbrev pub first_equation : ℕ → List Standing → Option Standing
first_equation x [] = None
first_equation x (r ∷ rs) = if solves x r then Some r else first_equation x rs

-- the other rows
abbrev pub others : ℕ → List Standing → List Standing
others x [] = []
others x (r ∷ rs) = if solves x r then rs else r ∷ others x rs

-- what two coefficients are divided by: their greatest common divisor, or 1 where both are 0
abbrev pub share : ℤ → ℤ → ℕ
share a b = max (gcd (unsigned_abs a) (unsigned_abs b)) 1

-- |a|/g
abbrev pub size_over : ℤ → ℕ → ℤ
size_over a g = pos (unsigned_abs a / g)

-- -s*(b/g), where s is the sign of a
abbrev pub against : ℤ → ℤ → ℕ → ℤ
against a b g = negated_if (not (int_lt a (pos 0))) (int_div b (pos g))

-- the row that q becomes by the equation p is made: |a|/g times q, less s*b/g times p
abbrev pub replaced : ℕ → Standing → Standing → List Standing → State → Result State Halt
replaced x p q later s =
    let g = share (factor x p) (factor x q) in
    made (size_over (factor x p) g) q (against (factor x p) (factor x q) g) p later s

-- by the equation p, each row with x becomes one without, in its place
abbrev pub solved : ℕ → Standing → List Standing → State → Result State Halt
solved x p [] s = Ok s
solved x p (q ∷ qs) s =
    if is_zero (factor x q)
    then solved x p qs (record { standing = s.standing ++ q ∷ []; steps = s.steps; last = s.last })
    else and_then (replaced x p q qs s) (solved x p qs)

-- ---- a variable x that no equation has

abbrev pub has_sign : Sign → ℤ → Bool
has_sign sign.Below z = int_lt z (pos 0)
has_sign sign.Zero z = is_zero z
has_sign sign.Above z = int_lt (pos 0) z

abbrev pub rows_with : Sign → ℕ → List Standing → List Standing
rows_with t x rows = filter (λ r. has_sign t (factor x r)) rows

-- the row of a lower row and an upper row is made: a/g times l and b/g times u
abbrev pub met : ℕ → Standing → Standing → State → Result State Halt
met x l u s =
    let g = share (factor x l) (factor x u) in
    made (size_over (factor x u) g) l (size_over (factor x l) g) u [] s

-- the lower row l with each upper row, in order
abbrev pub paired : ℕ → Standing → List Standing → State → Result State Halt
paired x l [] s = Ok s
paired x l (u ∷ us) s = and_then (met x l u s) (paired x l us)

-- each lower row with each upper row, in order
abbrev pub all_paired : ℕ → List Standing → List Standing → State → Result State Halt
all_paired x [] us s = Ok s
all_paired x (l ∷ ls) us s = and_then (paired x l us s) (all_paired x ls us)

-- ---- one variable, and all of them

abbrev pub by_bounds : ℕ → List Standing → List Step → ℕ → Result State Halt
by_bounds x rows steps last =
    all_paired x (rows_with sign.Below x rows) (rows_with sign.Above x rows) (record { standing = rows_with sign.Zero x rows; steps = steps; last = last })

-- the rows without x that follow, by an equation with x where there is one
abbrev pub by_equation : ℕ → State → Option Standing → Result State Halt
by_equation x s (Some p) = solved x p (others x s.standing) (record { standing = []; steps = s.steps; last = s.last })
by_equation x s None = by_bounds x s.standing s.steps s.last

abbrev pub made_without : ℕ → State → Result State Halt
made_without x s = by_equation x s (first_equation x s.standing)

-- more than 4,096 rows are too many
abbrev pub limited : State → Result State Halt
limited s = if nat_lt 4096 (length s.standing) then Err halt.Overflow else Ok s

unfoldable pub without : ℕ → State → Result State Halt
without x s = and_then (made_without x s) limited

abbrev pub eliminated : List ℕ → State → Result State Halt
eliminated [] s = Ok s
eliminated (x ∷ xs) s = and_then (without x s) (eliminated xs)

-- ---- the given rows

-- a variable put among others that ascend
abbrev pub placed : ℕ → List ℕ → List ℕ
placed x [] = x ∷ []
placed x (y ∷ ys) = if nat_lt y x then y ∷ placed x ys else (if y == x then y ∷ ys else x ∷ y ∷ ys)

abbrev pub with_terms : List Coeff → List ℕ → List ℕ
with_terms [] xs = xs
with_terms (k ∷ ks) xs = with_terms ks (placed k.x xs)

-- the variables of the rows, ascending
abbrev pub variables : List ℕ → List Linear → List ℕ
variables xs [] = xs
variables xs (r ∷ rs) = variables (with_terms r.coeffs xs) rs

-- the given rows are looked at in order, numbered from n
abbrev pub all_looked : ℕ → List Linear → State → Result State Halt
all_looked n [] s = Ok s
all_looked n (r ∷ rs) s = and_then (looked (record { number = n; row = r }) [] s) (all_looked (n + 1) rs)

unfoldable pub elimination : List Linear → Result State Halt
elimination rows =
    and_then (all_looked 1 rows (record { standing = []; steps = []; last = length rows })) (eliminated (variables [] rows))
