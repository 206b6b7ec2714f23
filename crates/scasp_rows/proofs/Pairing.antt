-- How the pairs of lower and upper rows end an elimination does not rest on the rows that stand.
use Rattle.std.proofs.Common.{◌≡◌, ℕ, ◌+◌, ◌<◌, nat_lt, Bool, true, false, ◌||◌, ◌&&◌, not, is_some, Option, Some, None, Result, Ok, Err, List, [], ◌∷◌, ◌++◌, length, refl, sym, ap, subst, ◌∙◌, arith, length-append}
use Rattle.std.specs.Prelude.{⊤, if◌then◌else◌}
use Rattle.std.specs.List.{list_any}
use Rattle.std.proofs.lemmas.Bool.{or_parts}
use Rattle.std.proofs.lemmas.Bool.Decides.{nat_tests}
use Rattle.scasp_num.specs.declared.hints.Step.{Step}
use Rattle.scasp_num.specs.Linear.{Linear, compares}
use Rattle.scasp_num.specs.SameRow.{same_row}
use Rattle.scasp_rows.specs.declared.outlook.Outlook.{Outlook}
use Rattle.scasp_rows.specs.declared.outlook.Outlook.TheVariants as outlook
use Rattle.scasp_rows.specs.declared.state.Halt.{Halt}
use Rattle.scasp_rows.specs.declared.state.Halt.TheVariants as halt
use Rattle.scasp_rows.specs.declared.state.Standing.{Standing}
use Rattle.scasp_rows.specs.declared.state.State.{State}
use Rattle.scasp_rows.specs.Points.{is_constant, is_false}
use Rattle.scasp_rows.specs.Steps.{row_sum}
use Rattle.scasp_rows.specs.Elimination.{Ends, and_then, looked, sum_looked, met, paired, all_paired, limited}
use Rattle.scasp_rows.specs.Inside.Outlooks.{meeting, outlook_of, met_outlook, is_falsified, some_false, any_false, stepped, paired_steps, all_paired_steps}

-- the state without its rows
abbrev bare : State → State
bare s = record { standing = []; steps = s.steps; last = s.last }

abbrev bare_end : Result State Halt → Result State Halt
bare_end (Ok s) = Ok (bare s)
bare_end (Err h) = Err h

-- ---- the steps are those of the elimination

looked-bare : (r : Standing) (s : State) → bare_end (looked r [] s) ≡ (if is_false r.row then Err (halt.Unsat s.steps) else Ok (bare s))
looked-bare r s = by (is_false r.row) (is_constant r.row || list_any (λ o. same_row o.row r.row) (s.standing ++ []))
  where
    by : (b c : Bool) → bare_end (if b then Err (halt.Unsat s.steps) else (if c then Ok s else Ok (record { standing = s.standing ++ r ∷ []; steps = s.steps; last = s.last }))) ≡ (if b then Err (halt.Unsat s.steps) else Ok (bare s))
    by true c = refl
    by false true = refl
    by false false = refl

met-stepped : (x : ℕ) (l u : Standing) (s : State) → bare_end (met x l u s) ≡ stepped (met_outlook x l u) (meeting x l u) (bare s)
met-stepped x l u s = let m = meeting x l u in by (row_sum m.a l.row m.b u.row)
  where
    ended : (b : Bool) (m : Step) → (if b then Err (halt.Unsat (s.steps ++ m ∷ [])) else Ok (record { standing = []; steps = s.steps ++ m ∷ []; last = s.last + 1 })) ≡ stepped (if b then outlook.False else outlook.Open) m (bare s)
    ended true m = refl
    ended false m = refl

    by : (o : Option Linear) → bare_end (sum_looked (meeting x l u) [] s o) ≡ stepped (outlook_of o) (meeting x l u) (bare s)
    by None = refl
    by (Some row) =
        looked-bare (record { number = s.last + 1; row = row }) (record { standing = s.standing; steps = s.steps ++ meeting x l u ∷ []; last = s.last + 1 }) ∙ ended (is_false row) (meeting x l u)

-- what follows a part, where the part and what follows have such steps
bare-then : (o e : Result State Halt) (f g : State → Result State Halt) → bare_end o ≡ e → ((t : State) → bare_end (f t) ≡ g (bare t)) → bare_end (and_then o f) ≡ and_then e g
bare-then (Ok t) e f g h k = k t ∙ ap (λ r. and_then r g) h
bare-then (Err j) e f g h k = ap (λ (r : Result State Halt). and_then r g) h

paired-stepped : (x : ℕ) (l : Standing) (us : List Standing) (s : State) → bare_end (paired x l us s) ≡ paired_steps x l us (bare s)
paired-stepped x l [] s = refl
paired-stepped x l (u ∷ us) s = bare-then (met x l u s) (stepped (met_outlook x l u) (meeting x l u) (bare s)) (paired x l us) (paired_steps x l us) (met-stepped x l u s) (λ t. paired-stepped x l us t)

all_paired-stepped : (x : ℕ) (ls us : List Standing) (s : State) → bare_end (all_paired x ls us s) ≡ all_paired_steps x ls us (bare s)
all_paired-stepped x [] us s = refl
all_paired-stepped x (l ∷ ls) us s = bare-then (paired x l us s) (paired_steps x l us (bare s)) (all_paired x ls us) (all_paired_steps x ls us) (paired-stepped x l us s) (λ t. all_paired-stepped x ls us t)

-- ---- where no sum is a false row, the steps go through or overflow

abbrev GoesOn : Result State Halt → Type 0
GoesOn (Ok t) = ⊤
GoesOn (Err halt.Overflow) = ⊤
GoesOn (Err halt.Memory) = ⊥
GoesOn (Err (halt.Unsat steps)) = ⊥

goes-then : (o : Result State Halt) (f : State → Result State Halt) → GoesOn o → ((t : State) → GoesOn (f t)) → GoesOn (and_then o f)
goes-then (Ok t) f g h = h t
goes-then (Err k) f g h = g

stepped-goes : (o : Outlook) (m : Step) (s : State) → is_falsified o ≡ false → GoesOn (stepped o m s)
stepped-goes outlook.Open m s e = tt
stepped-goes outlook.False m s e = cc
stepped-goes outlook.Overflow m s e = tt

paired-goes : (x : ℕ) (l : Standing) (us : List Standing) (s : State) → some_false x l us ≡ false → GoesOn (paired_steps x l us s)
paired-goes x l [] s e = tt
paired-goes x l (u ∷ us) s e =
    let parts = or_parts (is_falsified (met_outlook x l u)) (some_false x l us) e in
    goes-then (stepped (met_outlook x l u) (meeting x l u) s) (paired_steps x l us) (stepped-goes (met_outlook x l u) (meeting x l u) s parts.0) (λ t. paired-goes x l us t parts.1)

all_paired-goes : (x : ℕ) (ls us : List Standing) (s : State) → any_false x ls us ≡ false → GoesOn (all_paired_steps x ls us s)
all_paired-goes x [] us s e = tt
all_paired-goes x (l ∷ ls) us s e =
    let parts = or_parts (some_false x l us) (any_false x ls us) e in
    goes-then (paired_steps x l us s) (all_paired_steps x ls us) (paired-goes x l us s parts.0) (λ t. all_paired-goes x ls us t parts.1)

-- ---- where some sum is a false row, they end

abbrev Stops : Result State Halt → Type 0
Stops (Ok t) = ⊥
Stops (Err h) = ⊤

-- the first part ends where the test is true, and else what follows
stops-then : (t : Bool) (o : Result State Halt) (f : State → Result State Halt) → (t ≡ true → Stops o) → (t ≡ false → (s : State) → Stops (f s)) → Stops (and_then o f)
stops-then t (Err k) f g h = tt
stops-then true (Ok s) f g h = absurd (g refl)
stops-then false (Ok s) f g h = h refl s

or-later : (a b : Bool) → (a || b) ≡ true → a ≡ false → b ≡ true
or-later false b e f = e
or-later true b e f = cc

stepped-stops : (o : Outlook) (m : Step) (s : State) → is_falsified o ≡ true → Stops (stepped o m s)
stepped-stops outlook.Open m s e = cc
stepped-stops outlook.False m s e = tt
stepped-stops outlook.Overflow m s e = cc

paired-stops : (x : ℕ) (l : Standing) (us : List Standing) (s : State) → some_false x l us ≡ true → Stops (paired_steps x l us s)
paired-stops x l [] s e = cc
paired-stops x l (u ∷ us) s e =
    let first = is_falsified (met_outlook x l u) in
    stops-then first (stepped (met_outlook x l u) (meeting x l u) s) (paired_steps x l us) (stepped-stops (met_outlook x l u) (meeting x l u) s) (λ f t. paired-stops x l us t (or-later first (some_false x l us) e f))

all_paired-stops : (x : ℕ) (ls us : List Standing) (s : State) → any_false x ls us ≡ true → Stops (all_paired_steps x ls us s)
all_paired-stops x [] us s e = cc
all_paired-stops x (l ∷ ls) us s e =
    let first = some_false x l us in
    stops-then first (paired_steps x l us s) (all_paired_steps x ls us) (paired-stops x l us s) (λ f t. all_paired-stops x ls us t (or-later first (any_false x ls us) e f))

-- where some sum is a false row, the steps do not go through
pub false-ends : (x : ℕ) (ls us : List Standing) (s t : State) → any_false x ls us ≡ true → all_paired_steps x ls us s ≡ Ok t → ⊥
false-ends x ls us s t e f = subst Stops f (all_paired-stops x ls us s e)

-- ---- the end of the elimination

-- the end that the steps have is the elimination's
pub ended-limited : (x : ℕ) (ls us : List Standing) (s : State) (h : Halt) → Ends {A = State} (Err h) (all_paired_steps x ls us (bare s)) → Ends {A = State} (Err h) (and_then (all_paired x ls us s) limited)
ended-limited x ls us s h e = by (all_paired x ls us s) h (subst (λ (o : Result State Halt). Ends {A = State} (Err h) o) (sym (all_paired-stepped x ls us s)) e)
  where
    by : (o : Result State Halt) (h : Halt) → Ends {A = State} (Err h) (bare_end o) → Ends {A = State} (Err h) (and_then o limited)
    by (Ok t) halt.Memory g = tt
    by (Ok t) halt.Overflow g = cc
    by (Ok t) (halt.Unsat steps) g = cc
    by (Err k) h g = g

-- ---- too many rows stay too many

abbrev IsOver : State → Type 0
IsOver s = 4096 < length s.standing

abbrev StaysOver : Result State Halt → Type 0
StaysOver (Ok s) = IsOver s
StaysOver (Err h) = ⊤

over-then : (o : Result State Halt) (f : State → Result State Halt) → StaysOver o → ((s : State) → IsOver s → StaysOver (f s)) → StaysOver (and_then o f)
over-then (Ok s) f g h = h s g
over-then (Err k) f g h = tt

looked-over : (r : Standing) (s : State) → IsOver s → StaysOver (looked r [] s)
looked-over r s h = by (is_false r.row) (is_constant r.row || list_any (λ o. same_row o.row r.row) (s.standing ++ []))
  where
    by : (b c : Bool) → StaysOver (if b then Err (halt.Unsat s.steps) else (if c then Ok s else Ok (record { standing = s.standing ++ r ∷ []; steps = s.steps; last = s.last })))
    by true c = tt
    by false true = h
    by false false = omega (arith, h, length-append s.standing (r ∷ []))

met-over : (x : ℕ) (l u : Standing) (s : State) → IsOver s → StaysOver (met x l u s)
met-over x l u s h = let m = meeting x l u in by (row_sum m.a l.row m.b u.row)
  where
    by : (o : Option Linear) → StaysOver (sum_looked (meeting x l u) [] s o)
    by None = tt
    by (Some row) = looked-over (record { number = s.last + 1; row = row }) (record { standing = s.standing; steps = s.steps ++ meeting x l u ∷ []; last = s.last + 1 }) h

paired-over : (x : ℕ) (l : Standing) (us : List Standing) (s : State) → IsOver s → StaysOver (paired x l us s)
paired-over x l [] s h = h
paired-over x l (u ∷ us) s h = over-then (met x l u s) (paired x l us) (met-over x l u s h) (λ t k. paired-over x l us t k)

all_paired-over : (x : ℕ) (ls us : List Standing) (s : State) → IsOver s → StaysOver (all_paired x ls us s)
all_paired-over x [] us s h = h
all_paired-over x (l ∷ ls) us s h = over-then (paired x l us s) (all_paired x ls us) (paired-over x l us s h) (λ t k. all_paired-over x ls us t k)

-- once too many rows stand, and no later sum is a false row, it overflows
pub over-limited : (x : ℕ) (ls us : List Standing) (s : State) → 4096 < length s.standing → any_false x ls us ≡ false → and_then (all_paired x ls us s) limited ≡ Err halt.Overflow
over-limited x ls us s h e = by (all_paired x ls us s) (all_paired-over x ls us s h) (subst GoesOn (sym (all_paired-stepped x ls us s)) (all_paired-goes x ls us (bare s) e))
  where
    by : (o : Result State Halt) → StaysOver o → GoesOn (bare_end o) → and_then o limited ≡ Err halt.Overflow
    by (Ok t) k g = let over : nat_lt 4096 (length t.standing) ≡ true = grind (arith, nat_tests, k) in ap (λ b. if b then Err halt.Overflow else Ok t) over
    by (Err halt.Overflow) k g = refl
    by (Err halt.Memory) k g = absurd g
    by (Err (halt.Unsat steps)) k g = absurd g

pub ruleset overflowing = (over-limited, or_parts)

-- ---- the outlook of a sum

pub outlook-none : (o : Option Linear) → is_some o ≡ false → outlook.Overflow ≡ outlook_of o
outlook-none None e = refl
outlook-none (Some row) e = cc

pub outlook-open : (o : Option Linear) → is_some o ≡ true → ((row : Linear) → Some row ≡ o → is_constant row ≡ false) → outlook.Open ≡ outlook_of o
outlook-open None e f = cc
outlook-open (Some row) e f = ap (λ b. if b && not (compares row.op row.constant) then outlook.False else outlook.Open) (sym (f row refl))
