-- The multipliers of the steps of an elimination lie from -M to M.
use Rattle.std.proofs.Common.{◌≡◌, ℕ, zero, suc, ◌+◌, ◌<◌, ◌/◌, ◌^◌, nat_lt, Bool, true, false, not, ◌||◌, ℤ, pos, negsuc, unsigned_abs, int_div, Option, Some, None, Result, Ok, Err, List, [], ◌∷◌, ◌++◌, length, refl, sym, subst, ◌∙◌, arith}
use Rattle.std.specs.Prelude.{⊤, if◌then◌else◌, int_lt}
use Rattle.std.specs.List.{list_any}
use native.Mathlib.Nat.{div-le_self}
use Rattle.scasp_num.specs.declared.hints.Step.{Step}
use Rattle.scasp_num.specs.Number.{InRange}
use Rattle.scasp_list.specs.Each.{Each}
use Rattle.scasp_list.proofs.EachLemmas.{Each-append, Each-filter}
use Rattle.scasp_num.specs.Linear.{Linear, IsNormal, is_zero, negated_if}
use Rattle.scasp_num.specs.SameRow.{same_row}
use Rattle.scasp_num.proofs.Joins.{coefficient-range}
use Rattle.scasp_num.proofs.Numbers.{unsigned_abs-over}
use Rattle.scasp_rows.specs.declared.state.Halt.{Halt}
use Rattle.scasp_rows.specs.declared.state.Halt.TheVariants as halt
use Rattle.scasp_rows.specs.declared.state.Sign.TheVariants as sign
use Rattle.scasp_rows.specs.declared.state.Standing.{Standing}
use Rattle.scasp_rows.specs.declared.state.State.{State}
use Rattle.scasp_rows.specs.Points.{is_constant, is_false}
use Rattle.scasp_rows.specs.Steps.{row_sum}
use Rattle.scasp_rows.specs.Elimination.{and_then, looked, sum_looked, made, factor, first_equation, others, share, size_over, against, replaced, solved, has_sign, rows_with, met, paired, all_paired, by_equation, made_without, limited, without, eliminated, variables, all_looked, elimination}
use Rattle.scasp_rows.specs.Steps.{StepInRange}
use Rattle.scasp_rows.proofs.Sums.{row_sum-IsNormal}
use Rattle.scasp_rows.proofs.Soundness.{first_equation-each, others-each}

-- the row is in normal form
abbrev Normal : Standing → Type 0
Normal r = IsNormal r.row

abbrev Good : State → Type 0
Good s = Each Normal s.standing × Each StepInRange s.steps

abbrev Ranged : Result State Halt → Type 0
Ranged (Ok s) = Good s
Ranged (Err (halt.Unsat steps)) = Each StepInRange steps
Ranged (Err halt.Overflow) = ⊤
Ranged (Err halt.Memory) = ⊤

ranged-then : (o : Result State Halt) (f : State → Result State Halt) → Ranged o → ((s : State) → Good s → Ranged (f s)) → Ranged (and_then o f)
ranged-then (Ok s) f g h = h s g
ranged-then (Err (halt.Unsat steps)) f g h = g
ranged-then (Err halt.Overflow) f g h = tt
ranged-then (Err halt.Memory) f g h = tt

-- ---- multipliers

smaller : (n g : ℕ) → n < 2 ^ 127 → (n / g) < 2 ^ 127
smaller n g h = let d = div-le_self n g in omega (arith, h, d)

size-range : (z : ℤ) (g : ℕ) → InRange z → InRange (size_over z g)
size-range z g h = smaller (unsigned_abs z) g h

sign-size : (t : Bool) (z : ℤ) → unsigned_abs (negated_if t z) ≡ unsigned_abs z
sign-size true (pos zero) = refl
sign-size true (pos (suc n)) = refl
sign-size true (negsuc n) = refl
sign-size false z = refl

against-range : (a b : ℤ) (g : ℕ) → InRange b → InRange (against a b g)
against-range a b g h = subst (λ n. n < 2 ^ 127) (sym (sign-size (not (int_lt a (pos 0))) (int_div b (pos g)) ∙ unsigned_abs-over b g)) (smaller (unsigned_abs b) g h)

pub factor-range : (x : ℕ) (r : Standing) → Normal r → InRange (factor x r)
factor-range x r n = coefficient-range x r.row.coeffs n.range

-- ---- new rows

looked-ranged : (r : Standing) (later : List Standing) (s : State) → Good s → Normal r → Ranged (looked r later s)
looked-ranged r later s g n = by (is_false r.row) (is_constant r.row || list_any (λ o. same_row o.row r.row) (s.standing ++ later))
  where
    by : (b c : Bool) → Ranged (if b then Err (halt.Unsat s.steps) else (if c then Ok s else Ok (record { standing = s.standing ++ r ∷ []; steps = s.steps; last = s.last })))
    by true c = g.1
    by false true = g
    by false false = (Each-append Normal s.standing (r ∷ []) g.0 (n, tt), g.1)

made-ranged : (a : ℤ) (p : Standing) (b : ℤ) (q : Standing) (later : List Standing) (s : State) → Good s → InRange a → InRange b → Ranged (made a p b q later s)
made-ranged a p b q later s g ha hb = by (row_sum a p.row b q.row) refl
  where
    by : (o : Option Linear) → o ≡ row_sum a p.row b q.row → Ranged (sum_looked (record { a = a; p = p.number; b = b; q = q.number }) later s o)
    by None e = tt
    by (Some row) e =
        looked-ranged (record { number = s.last + 1; row = row }) later (record { standing = s.standing; steps = s.steps ++ record { a = a; p = p.number; b = b; q = q.number } ∷ []; last = s.last + 1 })
        (g.0, Each-append StepInRange s.steps (record { a = a; p = p.number; b = b; q = q.number } ∷ []) g.1 ((ha, hb), tt)) (row_sum-IsNormal a p.row b q.row row e)

-- ---- one variable

solved-ranged : (x : ℕ) (p : Standing) (qs : List Standing) (s : State) → Good s → Normal p → Each Normal qs → Ranged (solved x p qs s)
solved-ranged x p [] s g n h = g
solved-ranged x p (q ∷ qs) s g n h =
    by (is_zero (factor x q))
    (solved-ranged x p qs (record { standing = s.standing ++ q ∷ []; steps = s.steps; last = s.last }) (Each-append Normal s.standing (q ∷ []) g.0 (h.0, tt), g.1) n h.1)
    (λ t k. solved-ranged x p qs t k n h.1)
  where
    by : (b : Bool) → Ranged (solved x p qs (record { standing = s.standing ++ q ∷ []; steps = s.steps; last = s.last })) → ((t : State) → Good t → Ranged (solved x p qs t)) → Ranged (if b then solved x p qs (record { standing = s.standing ++ q ∷ []; steps = s.steps; last = s.last }) else and_then (replaced x p q qs s) (solved x p qs))
    by true kept rest = kept
    by false kept rest =
        let k = share (factor x p) (factor x q) in
        ranged-then (replaced x p q qs s) (solved x p qs)
        (made-ranged (size_over (factor x p) k) q (against (factor x p) (factor x q) k) p qs s g (size-range (factor x p) k (factor-range x p n)) (against-range (factor x p) (factor x q) k (factor-range x q h.0))) rest

paired-ranged : (x : ℕ) (l : Standing) (us : List Standing) (s : State) → Good s → Normal l → Each Normal us → Ranged (paired x l us s)
paired-ranged x l [] s g n h = g
paired-ranged x l (u ∷ us) s g n h =
    let k = share (factor x l) (factor x u) in
    ranged-then (met x l u s) (paired x l us)
    (made-ranged (size_over (factor x u) k) l (size_over (factor x l) k) u [] s g (size-range (factor x u) k (factor-range x u h.0)) (size-range (factor x l) k (factor-range x l n)))
    (λ t k. paired-ranged x l us t k n h.1)

all_paired-ranged : (x : ℕ) (ls us : List Standing) (s : State) → Good s → Each Normal ls → Each Normal us → Ranged (all_paired x ls us s)
all_paired-ranged x [] us s g n h = g
all_paired-ranged x (l ∷ ls) us s g n h = ranged-then (paired x l us s) (all_paired x ls us) (paired-ranged x l us s g n.0 h) (λ t k. all_paired-ranged x ls us t k n.1 h)

made_without-ranged : (x : ℕ) (s : State) → Good s → Ranged (made_without x s)
made_without-ranged x s g = by (first_equation x s.standing) refl
  where
    by : (o : Option Standing) → o ≡ first_equation x s.standing → Ranged (by_equation x s o)
    by (Some p) e = solved-ranged x p (others x s.standing) (record { standing = []; steps = s.steps; last = s.last }) (tt, g.1) (first_equation-each Normal x s.standing p e g.0) (others-each Normal x s.standing g.0)
    by None e =
        all_paired-ranged x (rows_with sign.Below x s.standing) (rows_with sign.Above x s.standing) (record { standing = rows_with sign.Zero x s.standing; steps = s.steps; last = s.last })
        (Each-filter Normal (λ r. has_sign sign.Zero (factor x r)) s.standing g.0, g.1)
        (Each-filter Normal (λ r. has_sign sign.Below (factor x r)) s.standing g.0)
        (Each-filter Normal (λ r. has_sign sign.Above (factor x r)) s.standing g.0)

without-ranged : (x : ℕ) (s : State) → Good s → Ranged (without x s)
unfolding without
without-ranged x s g = ranged-then (made_without x s) limited (made_without-ranged x s g) (λ t k. by t k (nat_lt 4096 (length t.standing)))
  where
    by : (t : State) → Good t → (b : Bool) → Ranged (if b then Err halt.Overflow else Ok t)
    by t k true = tt
    by t k false = k

eliminated-ranged : (xs : List ℕ) (s : State) → Good s → Ranged (eliminated xs s)
eliminated-ranged [] s g = g
eliminated-ranged (x ∷ xs) s g = ranged-then (without x s) (eliminated xs) (without-ranged x s g) (λ t k. eliminated-ranged xs t k)

-- ---- all of them

all_looked-ranged : (n : ℕ) (rs : List Linear) (s : State) → Good s → Each IsNormal rs → Ranged (all_looked n rs s)
all_looked-ranged n [] s g h = g
all_looked-ranged n (r ∷ rs) s g h = ranged-then (looked (record { number = n; row = r }) [] s) (all_looked (n + 1) rs) (looked-ranged (record { number = n; row = r }) [] s g h.0) (λ t k. all_looked-ranged (n + 1) rs t k h.1)

elimination-ranged : (rows : List Linear) → Each IsNormal rows → Ranged (elimination rows)
unfolding elimination
elimination-ranged rows h =
    let start : State = record { standing = []; steps = []; last = length rows } in
    ranged-then (all_looked 1 rows start) (eliminated (variables [] rows)) (all_looked-ranged 1 rows start (tt, tt) h) (λ t k. eliminated-ranged (variables [] rows) t k)

pub steps-ranged : (rows : List Linear) (steps : List Step) → Each IsNormal rows → elimination rows ≡ Err (halt.Unsat steps) → Each StepInRange steps
steps-ranged rows steps h e = subst Ranged e (elimination-ranged rows h)
