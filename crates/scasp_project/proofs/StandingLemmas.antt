-- What sums of rows keep holds of every row that stands in an elimination.
use Rattle.std.proofs.Common.{◌≡◌, ◌≢◌, ℕ, ◌+◌, Bool, true, false, not, ℤ, pos, Some, None, Option, Result, Ok, Err, List, [], ◌∷◌, ◌++◌, length, nat_lt, refl}
use Rattle.std.specs.Prelude.{if◌then◌else◌, int_lt, ◌||◌, filter, map, ⊤}
use Rattle.std.specs.List.{list_any}
use Rattle.std.proofs.lemmas.Bool.{and_from, and_parts}
use Rattle.scasp_num.specs.declared.linear.Op.TheVariants as op
use Rattle.scasp_num.specs.declared.hints.Step.{Step}
use Rattle.scasp_list.specs.Each.{Each}
use Rattle.scasp_list.proofs.EachLemmas.{Each-map, Each-append, Each-filter}
use Rattle.scasp_num.specs.Linear.{Linear, is_equation, is_zero}
use Rattle.scasp_num.specs.SameRow.{same_row}
use Rattle.scasp_num.specs.Values.{Holds}
use Rattle.scasp_num.proofs.Comparing.{ne_zero}
use Rattle.scasp_rows.specs.declared.state.Halt.{Halt}
use Rattle.scasp_rows.specs.declared.state.Halt.TheVariants as halt
use Rattle.scasp_rows.specs.declared.state.Standing.{Standing}
use Rattle.scasp_rows.specs.declared.state.State.{State}
use Rattle.scasp_rows.specs.Points.{MeetsAll, NoDisequation, RationalPoint, is_constant, is_false}
use Rattle.scasp_rows.specs.Steps.{row_sum, may_step}
use Rattle.scasp_rows.specs.Elimination.{and_then, looked, sum_looked, made, factor, solves, first_equation, others, share, size_over, against, replaced, solved, met, paired, all_paired, by_equation, made_without, limited, without, eliminated, all_looked}
use Rattle.scasp_rows.specs.LeftRows.{elimination_of}
use Rattle.scasp_rows.proofs.Reaching.{false-holds}
use Rattle.scasp_rows.proofs.Sums.{row_sum-op, step-holds}
use Rattle.scasp_rows.proofs.Shares.{share-dvd_left, share-dvd_right, size_over-above, against-nonzero}
use Rattle.scasp_rows.proofs.Soundness.{scale-above, scale-equation, below-nonzero, above-nonzero, not_true, filter-passes, first_equation-solves, first_equation-each, others-each}
use Rattle.scasp_project.specs.LeftRows.{dropped_variables, elimination_dropping}

abbrev pub rows_of : List Standing → List Linear
rows_of = map (λ (r : Standing). r.row)

module _ (P : Linear → Type 0) (comparing : (r : Linear) → P r → r.op ≢ op.Ne) (sums : (a : ℤ) (p : Linear) (b : ℤ) (q row : Linear) → may_step a p b q ≡ true → Some row ≡ row_sum a p b q → P p → P q → P row) where
  -- a false row has it
  abbrev pub Denied : Type 0
  Denied = (r : Linear) × (is_false r ≡ true) × P r

  abbrev pub Has : Standing → Type 0
  Has r = P r.row

  -- every row that stands has it, and where a false row is reached that one has it
  abbrev pub Keeps : Result State Halt → Type 0
  Keeps (Ok s) = Each Has s.standing
  Keeps (Err (halt.Unsat steps)) = Denied
  Keeps (Err halt.Overflow) = ⊤
  Keeps (Err halt.Memory) = ⊤

  keeps-then : (o : Result State Halt) (f : State → Result State Halt) → Keeps o → ((s : State) → Each Has s.standing → Keeps (f s)) → Keeps (and_then o f)
  keeps-then (Ok s) f h k = k s h
  keeps-then (Err (halt.Unsat steps)) f h k = h
  keeps-then (Err halt.Overflow) f h k = tt
  keeps-then (Err halt.Memory) f h k = tt

  looked-keeps : (r : Standing) (later : List Standing) (s : State) → Each Has s.standing → Has r → Keeps (looked r later s)
  looked-keeps r later s g h = by (is_false r.row) refl (is_constant r.row || list_any (λ (o : Standing). same_row o.row r.row) (s.standing ++ later))
    where
      by : (a : Bool) → is_false r.row ≡ a → (b : Bool) → Keeps (if a then Err (halt.Unsat s.steps) else (if b then Ok s else Ok (record { standing = s.standing ++ r ∷ []; steps = s.steps; last = s.last })))
      by true e b = (r.row, e, h)
      by false e true = g
      by false e false = Each-append Has s.standing (r ∷ []) g (h, tt)

  made-keeps : (a : ℤ) (p : Standing) (b : ℤ) (q : Standing) (later : List Standing) (s : State) → Each Has s.standing → Has p → Has q → may_step a p.row b q.row ≡ true → Keeps (made a p b q later s)
  made-keeps a p b q later s g hp hq may = by (row_sum a p.row b q.row) refl
    where
      step : Step
      step = record { a = a; p = p.number; b = b; q = q.number }

      by : (o : Option Linear) → o ≡ row_sum a p.row b q.row → Keeps (sum_looked step later s o)
      by None e = tt
      by (Some row) e =
          looked-keeps (record { number = s.last + 1; row = row }) later (record { standing = s.standing; steps = s.steps ++ step ∷ []; last = s.last + 1 }) g (sums a p.row b q.row row may e hp hq)

  -- ---- one variable

  solved-keeps : (x : ℕ) (p : Standing) (qs : List Standing) (s : State) → solves x p ≡ true → Has p → Each Has qs → Each Has s.standing → Keeps (solved x p qs s)
  solved-keeps x p [] s is hp hqs g = g
  solved-keeps x p (q ∷ qs) s is hp hqs g =
      by (is_zero (factor x q)) refl
      (solved-keeps x p qs (record { standing = s.standing ++ q ∷ []; steps = s.steps; last = s.last }) is hp hqs.1 (Each-append Has s.standing (q ∷ []) g (hqs.0, tt)))
      (λ t h. solved-keeps x p qs t is hp hqs.1 h)
    where
      by : (b : Bool) → is_zero (factor x q) ≡ b
          → Keeps (solved x p qs (record { standing = s.standing ++ q ∷ []; steps = s.steps; last = s.last }))
          → ((t : State) → Each Has t.standing → Keeps (solved x p qs t))
          → Keeps (if b then solved x p qs (record { standing = s.standing ++ q ∷ []; steps = s.steps; last = s.last }) else and_then (replaced x p q qs s) (solved x p qs))
      by true z first rest = first
      by false z first rest =
          let a = factor x p in
          let b = factor x q in
          let k = share a b in
          let parts = and_parts (is_equation p.row.op) (not (is_zero a)) is in
          let a_is = ne_zero a (not_true (is_zero a) parts.1) in
          let left = scale-above (size_over a k) q.row.op (size_over-above a k a_is (share-dvd_left a b)) (comparing q.row hqs.0) in
          let right = scale-equation (against a b k) p.row.op (against-nonzero a b k (ne_zero b z) (share-dvd_right a b)) parts.0 in
          keeps-then (replaced x p q qs s) (solved x p qs) (made-keeps (size_over a k) q (against a b k) p qs s g hqs.0 hp (and_from _ _ left right)) rest

  abbrev Holding : ℕ → Standing → Type 0
  Holding x r = factor x r ≢ pos 0

  met-keeps : (x : ℕ) (l u : Standing) (s : State) → Holding x l → Holding x u → Has l → Has u → Each Has s.standing → Keeps (met x l u s)
  met-keeps x l u s a b hl hu g =
      let k = share (factor x l) (factor x u) in
      let left = scale-above (size_over (factor x u) k) l.row.op (size_over-above (factor x u) k b (share-dvd_right (factor x l) (factor x u))) (comparing l.row hl) in
      let right = scale-above (size_over (factor x l) k) u.row.op (size_over-above (factor x l) k a (share-dvd_left (factor x l) (factor x u))) (comparing u.row hu) in
      made-keeps (size_over (factor x u) k) l (size_over (factor x l) k) u [] s g hl hu (and_from _ _ left right)

  paired-keeps : (x : ℕ) (l : Standing) (us : List Standing) (s : State) → Holding x l → Each (Holding x) us → Has l → Each Has us → Each Has s.standing → Keeps (paired x l us s)
  paired-keeps x l [] s a b hl hu g = g
  paired-keeps x l (u ∷ us) s a b hl hu g = keeps-then (met x l u s) (paired x l us) (met-keeps x l u s a b.0 hl hu.0 g) (λ t h. paired-keeps x l us t a b.1 hl hu.1 h)

  all_paired-keeps : (x : ℕ) (ls us : List Standing) (s : State) → Each (Holding x) ls → Each (Holding x) us → Each Has ls → Each Has us → Each Has s.standing → Keeps (all_paired x ls us s)
  all_paired-keeps x [] us s a b hl hu g = g
  all_paired-keeps x (l ∷ ls) us s a b hl hu g = keeps-then (paired x l us s) (all_paired x ls us) (paired-keeps x l us s a.0 b hl.0 hu g) (λ t h. all_paired-keeps x ls us t a.1 b hl.1 hu h)

  made_without-keeps : (x : ℕ) (s : State) → Each Has s.standing → Keeps (made_without x s)
  made_without-keeps x s g = by (first_equation x s.standing) refl
    where
      by : (o : Option Standing) → o ≡ first_equation x s.standing → Keeps (by_equation x s o)
      by (Some p) e =
          solved-keeps x p (others x s.standing) (record { standing = []; steps = s.steps; last = s.last }) (first_equation-solves x s.standing p e) (first_equation-each Has x s.standing p e g) (others-each Has x s.standing g) tt
      by None e =
          let below = λ (r : Standing). int_lt (factor x r) (pos 0) in
          let above = λ (r : Standing). int_lt (pos 0) (factor x r) in
          let zero = λ (r : Standing). is_zero (factor x r) in
          let ls = filter below s.standing in
          let us = filter above s.standing in
          all_paired-keeps x ls us (record { standing = filter zero s.standing; steps = s.steps; last = s.last })
          (Each-map (λ r. below r ≡ true) (Holding x) (λ r f. below-nonzero (factor x r) f) ls (filter-passes below s.standing))
          (Each-map (λ r. above r ≡ true) (Holding x) (λ r f. above-nonzero (factor x r) f) us (filter-passes above s.standing))
          (Each-filter Has below s.standing g) (Each-filter Has above s.standing g) (Each-filter Has zero s.standing g)

  without-keeps : (x : ℕ) (s : State) → Each Has s.standing → Keeps (without x s)
  unfolding without
  without-keeps x s g = keeps-then (made_without x s) limited (made_without-keeps x s g) (λ t h. by t h (nat_lt 4096 (length t.standing)))
    where
      by : (t : State) → Each Has t.standing → (b : Bool) → Keeps (if b then Err halt.Overflow else Ok t)
      by t h true = tt
      by t h false = h

  eliminated-keeps : (xs : List ℕ) (s : State) → Each Has s.standing → Keeps (eliminated xs s)
  eliminated-keeps [] s g = g
  eliminated-keeps (x ∷ xs) s g = keeps-then (without x s) (eliminated xs) (without-keeps x s g) (λ t h. eliminated-keeps xs t h)

  all_looked-keeps : (n : ℕ) (rs : List Linear) (s : State) → Each P rs → Each Has s.standing → Keeps (all_looked n rs s)
  all_looked-keeps n [] s h g = g
  all_looked-keeps n (r ∷ rs) s h g = keeps-then (looked (record { number = n; row = r }) [] s) (all_looked (n + 1) rs) (looked-keeps (record { number = n; row = r }) [] s g h.0) (λ t k. all_looked-keeps (n + 1) rs t h.1 k)

  pub elimination-keeps : (xs : List ℕ) (rs : List Linear) → Each P rs → Keeps (elimination_of xs rs)
  elimination-keeps xs rs h =
      let start : State = record { standing = []; steps = []; last = length rs } in
      keeps-then (all_looked 1 rs start) (eliminated xs) (all_looked-keeps 1 rs start h tt) (λ t k. eliminated-keeps xs t k)

-- ---- points

-- the row is no disequation, and the point meets it
abbrev pub Met : RationalPoint → Linear → Type 0
Met v r = (r.op ≢ op.Ne) × Holds v r

both-met : (v : RationalPoint) (rs : List Linear) → NoDisequation rs → MeetsAll v rs → Each (Met v) rs
both-met v [] n h = tt
both-met v (r ∷ rs) n h = ((n.0, h.0), both-met v rs n.1 h.1)

-- where a point meets the given rows it meets those that are left, and no false row is reached
abbrev pub LeftMet : RationalPoint → Result State Halt → Type 0
LeftMet v (Ok s) = MeetsAll v (rows_of s.standing)
LeftMet v (Err (halt.Unsat steps)) = ⊥
LeftMet v (Err halt.Overflow) = ⊤
LeftMet v (Err halt.Memory) = ⊤

pub left-met : (v : RationalPoint) (keep : List ℕ) (rs : List Linear) → NoDisequation rs → MeetsAll v rs → LeftMet v (elimination_dropping keep rs)
left-met v keep rs n h = by (elimination_dropping keep rs) (elimination-keeps (Met v) (λ r k. k.0) sums (dropped_variables keep rs) rs (both-met v rs n h))
  where
    sums : (a : ℤ) (p : Linear) (b : ℤ) (q row : Linear) → may_step a p b q ≡ true → Some row ≡ row_sum a p b q → Met v p → Met v q → Met v row
    sums a p b q row may e hp hq = (row_sum-op a p b q row e hp.0 hq.0, step-holds a p b q row may e v hp.1 hq.1)

    standing : (ss : List Standing) → Each (λ (r : Standing). Met v r.row) ss → MeetsAll v (rows_of ss)
    standing [] k = tt
    standing (s ∷ ss) k = (k.0.1, standing ss k.1)

    by : (o : Result State Halt) → Keeps (Met v) (λ r k. k.0) sums o → LeftMet v o
    by (Ok s) k = standing s.standing k
    by (Err (halt.Unsat steps)) k = false-holds v k.0 k.1 k.2.1
    by (Err halt.Overflow) k = tt
    by (Err halt.Memory) k = tt
