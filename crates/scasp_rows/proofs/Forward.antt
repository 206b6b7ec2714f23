-- What the parts of an elimination keep where they go through, and which rows are met where the later ones are.
use Rattle.std.proofs.Common.{◌≡◌, ◌≢◌, ℕ, ◌+◌, ◌<◌, ◌==◌, Bool, true, false, not, ℤ, pos, negsuc, ◌+ℤ◌, ◌*ℤ◌, neg_ℤ, ◌<ℤ◌, unsigned_abs, Some, None, Option, Result, Ok, Err, List, [], ◌∷◌, ◌++◌, refl, sym, ap, subst, ◌∙◌, arith}
use Rattle.std.specs.Prelude.{if◌then◌else◌, int_lt, ◌||◌}
use Rattle.std.specs.List.{list_any}
use Rattle.std.proofs.lemmas.Bool.{eqb-true}
use Rattle.std.proofs.lemmas.Int.{ints}
use Rattle.std.proofs.Math.IntN.{*ℤ_comm, *ℤ-zero, zero-*ℤ, +ℤ_idl}
use Rattle.scasp_num.specs.declared.linear.Coeff.{Coeff}
use Rattle.scasp_num.specs.declared.linear.Op.TheVariants as op
use Rattle.scasp_num.specs.declared.hints.Step.{Step}
use Rattle.scasp_list.specs.Each.{Each}
use Rattle.scasp_list.proofs.EachLemmas.{Each-map, Each-append}
use Rattle.scasp_num.specs.Linear.{Linear, IsNormal, is_zero, Compares, compares, Meets, coefficient}
use Rattle.scasp_num.specs.SameRow.{same_row}
use Rattle.scasp_num.proofs.Comparing.{compares-is}
use Rattle.scasp_num.proofs.Integers.{*ℤ-cancel}
use Rattle.scasp_num.proofs.Meaning.{compares-scaled}
use Rattle.scasp_num.proofs.NormalForms.{zero_is}
use Rattle.scasp_num.proofs.SameRows.{row-same}
use Rattle.scasp_rows.specs.declared.state.Halt.{Halt}
use Rattle.scasp_rows.specs.declared.state.Halt.TheVariants as halt
use Rattle.scasp_rows.specs.declared.state.Standing.{Standing}
use Rattle.scasp_rows.specs.declared.state.State.{State}
use Rattle.scasp_rows.specs.Points.{is_constant, is_false}
use Rattle.scasp_rows.specs.Steps.{joined, row_sum}
use Rattle.scasp_rows.specs.Elimination.{and_then, looked, sum_looked, made, factor, share, size_over, against, replaced, solved, met, paired, all_paired}
use Rattle.scasp_rows.proofs.Sums.{value, joined-comparing, row_sum-IsNormal, row_sum-op, row_sum-meets}
use Rattle.scasp_rows.proofs.Shares.{turned, share-above, share-dvd_left, share-dvd_right, size_over-times, against-times}
use Rattle.scasp_rows.proofs.Bounds.{cancelled, solved-equation, met-rows}
use Rattle.scasp_rows.proofs.Values.{row_sum-coefficient}

-- the rows are met by the values m x / d
abbrev pub Met : (ℕ → ℤ) → ℤ → List Standing → Type 0
Met m d rows = Each (λ (r : Standing). Meets m d r.row) rows

-- ---- parts that go through

pub and_then-ok : (o : Result State Halt) (f : State → Result State Halt) (s : State) → and_then o f ≡ Ok s → (t : State) × (o ≡ Ok t) × (f t ≡ Ok s)
and_then-ok (Ok t) f s e = (t, refl, e)
and_then-ok (Err h) f s e = cc

pub same_state : (s t : State) → ◌≡◌ {A = Result State Halt} (Ok s) (Ok t) → s ≡ t
same_state s t e = cc

-- ---- a new row

constant-meets : (m : ℕ → ℤ) (d : ℤ) (r : Linear) → pos 0 <ℤ d → is_constant r ≡ true → is_false r ≡ false → Meets m d r
constant-meets m d r h e f = by r.coeffs e f
  where
    yes : (b : Bool) → not b ≡ false → b ≡ true
    yes true e = refl
    yes false e = cc

    by : (ks : List Coeff) → is_constant (record { coeffs = ks; constant = r.constant; op = r.op }) ≡ true → is_false (record { coeffs = ks; constant = r.constant; op = r.op }) ≡ false → Meets m d (record { coeffs = ks; constant = r.constant; op = r.op })
    by [] e f = subst (Compares r.op) (sym (+ℤ_idl (r.constant *ℤ d))) ((compares-scaled r.op r.constant d h).0 (compares-is r.op r.constant (yes (compares r.op r.constant) f)))
    by (k ∷ ks) e f = cc

any-same : (m : ℕ → ℤ) (d : ℤ) (r : Standing) (xs : List Standing) → list_any (λ o. same_row o.row r.row) xs ≡ true → Each (λ o. same_row o.row r.row ≡ true → Meets m d o.row) xs → Meets m d r.row
any-same m d r [] e h = cc
any-same m d r (o ∷ os) e h = by (same_row o.row r.row) refl e (λ f. any-same m d r os f h.1)
  where
    by : (b : Bool) → same_row o.row r.row ≡ b → (b || list_any (λ o. same_row o.row r.row) os) ≡ true → (list_any (λ o. same_row o.row r.row) os ≡ true → Meets m d r.row) → Meets m d r.row
    by true f e rest = subst (λ (q : Linear). Meets m d q) (row-same o.row r.row f) (h.0 f)
    by false f e rest = rest e

-- what is met before a row was looked at, where what stands after it is met
abbrev pub Before : Standing → List Standing → State → State → Type 0
Before r later s t = (m : ℕ → ℤ) (d : ℤ) → pos 0 <ℤ d → Met m d t.standing → Each (λ o. same_row o.row r.row ≡ true → Meets m d o.row) later → Met m d s.standing × Meets m d r.row

pub Each-left' : {A : Type 0} (P : A → Type 0) (xs : List A) (y : A) → Each P (xs ++ y ∷ []) → Each P xs × P y
Each-left' P [] y e = (tt, e.0)
Each-left' P (x ∷ xs) y e = let r = Each-left' P xs y e.1 in ((e.0, r.0), r.1)

pub looked-ok : (P : Standing → Type 0) (r : Standing) (later : List Standing) (s t : State) → looked r later s ≡ Ok t → Each P s.standing → (is_constant r.row ≡ false → P r) → Each P t.standing × Before r later s t
looked-ok P r later s t e h f = by (is_false r.row) refl (is_constant r.row) refl (list_any (λ o. same_row o.row r.row) (s.standing ++ later)) refl e
  where
    by : (a : Bool) → is_false r.row ≡ a → (b : Bool) → is_constant r.row ≡ b → (c : Bool) → list_any (λ o. same_row o.row r.row) (s.standing ++ later) ≡ c → (if a then Err (halt.Unsat s.steps) else (if b || c then Ok s else Ok (record { standing = s.standing ++ r ∷ []; steps = s.steps; last = s.last }))) ≡ Ok t → Each P t.standing × Before r later s t
    by true i b j c k e = cc
    by false i true j c k e =
        let same = same_state s t e in
        (subst (λ (u : State). Each P u.standing) same h, λ m d above after rest. (subst (λ (u : State). Met m d u.standing) (sym same) after, constant-meets m d r.row above j i))
    by false i false j true k e =
        let same = same_state s t e in (
          subst (λ (u : State). Each P u.standing) same h,
          λ m d above after rest.
              let standing = subst (λ (u : State). Met m d u.standing) (sym same) after in
              (standing, any-same m d r (s.standing ++ later) k (Each-append (λ o. same_row o.row r.row ≡ true → Meets m d o.row) s.standing later (Each-map (λ (o : Standing). Meets m d o.row) (λ o. same_row o.row r.row ≡ true → Meets m d o.row) (λ o g _. g) s.standing standing) rest)),
        )
    by false i false j false k e =
        let same = same_state (record { standing = s.standing ++ r ∷ []; steps = s.steps; last = s.last }) t e in (
          subst (λ (u : State). Each P u.standing) same (Each-append P s.standing (r ∷ []) h (f j, tt)),
          λ m d above after rest. Each-left' (λ (o : Standing). Meets m d o.row) s.standing r (subst (λ (u : State). Met m d u.standing) (sym same) after),
        )

-- the state with one more step
abbrev stepped : Step → State → State
stepped step s = record { standing = s.standing; steps = s.steps ++ step ∷ []; last = s.last + 1 }

made-ok : (a : ℤ) (p : Standing) (b : ℤ) (q : Standing) (later : List Standing) (s t : State) → made a p b q later s ≡ Ok t → (row : Linear) × (Some row ≡ row_sum a p.row b q.row) × (looked (record { number = s.last + 1; row = row }) later (stepped (record { a = a; p = p.number; b = b; q = q.number }) s) ≡ Ok t)
made-ok a p b q later s t e = by (row_sum a p.row b q.row) refl e
  where
    by : (o : Option Linear) → o ≡ row_sum a p.row b q.row → sum_looked (record { a = a; p = p.number; b = b; q = q.number }) later s o ≡ Ok t → (row : Linear) × (Some row ≡ row_sum a p.row b q.row) × (looked (record { number = s.last + 1; row = row }) later (stepped (record { a = a; p = p.number; b = b; q = q.number }) s) ≡ Ok t)
    by None f e = cc
    by (Some row) f e = (row, f, e)

-- ---- rows with some variables alone

abbrev pub has : ℕ → List ℕ → Bool
has y xs = list_any (λ z. z == y) xs

-- the row is in normal form, compares by =, < or =<, and has variables, all among those
pub record Fine (xs : List ℕ) (r : Standing) : Type 0 where
  pub normal : IsNormal r.row
  pub comparing : r.row.op ≢ op.Ne
  pub varying : is_constant r.row ≡ false
  pub among : (y : ℕ) → has y xs ≡ false → factor y r ≡ pos 0

-- the row is fine, and lacks x
abbrev pub Lacks : ℕ → List ℕ → Standing → Type 0
Lacks x xs r = Fine xs r × (factor x r ≡ pos 0)

among-less : (x : ℕ) (xs : List ℕ) (r : Standing) → ((y : ℕ) → has y (x ∷ xs) ≡ false → factor y r ≡ pos 0) → factor x r ≡ pos 0 → (y : ℕ) → has y xs ≡ false → factor y r ≡ pos 0
among-less x xs r f e y h = by (x == y) refl
  where
    by : (t : Bool) → (x == y) ≡ t → factor y r ≡ pos 0
    by true g = subst (λ z. factor z r ≡ pos 0) (eqb-true x y g) e
    by false g = f y (ap (λ b. b || has y xs) g ∙ h)

pub fine-less : (x : ℕ) (xs : List ℕ) (r : Standing) → Fine (x ∷ xs) r → factor x r ≡ pos 0 → Lacks x xs r
fine-less x xs r f e = (record { normal = f.normal; comparing = f.comparing; varying = f.varying; among = among-less x xs r f.among e }, e)

zeros : (a b c d : ℤ) → c ≡ pos 0 → d ≡ pos 0 → a *ℤ c +ℤ b *ℤ d ≡ pos 0
zeros a b c d e f =
    let g : a *ℤ c ≡ pos 0 = ap (λ z. a *ℤ z) e ∙ *ℤ-zero a in
    let h : b *ℤ d ≡ pos 0 = ap (λ z. b *ℤ z) f ∙ *ℤ-zero b in
    omega (arith, ints, g, h)

made-lacks : (x : ℕ) (xs : List ℕ) (a : ℤ) (p : Standing) (b : ℤ) (q : Standing) (row : Linear) (n : ℕ) → Fine (x ∷ xs) p → Fine (x ∷ xs) q → Some row ≡ row_sum a p.row b q.row → a *ℤ factor x p +ℤ b *ℤ factor x q ≡ pos 0 → is_constant row ≡ false → Lacks x xs (record { number = n; row = row })
made-lacks x xs a p b q row n f g e none v =
    let r : Standing = record { number = n; row = row } in
    let no = joined-comparing p.row.op q.row.op f.comparing g.comparing in
    let at = λ (y : ℕ) (z : a *ℤ factor y p +ℤ b *ℤ factor y q ≡ pos 0). row_sum-coefficient a p.row b q.row row e f.normal g.normal no y z in
    let zero = at x none in
    fine-less x xs r (record {
      normal = row_sum-IsNormal a p.row b q.row row e;
      comparing = row_sum-op a p.row b q.row row e f.comparing g.comparing;
      varying = v;
      among = λ y h. at y (zeros a b (factor y p) (factor y q) (f.among y h) (g.among y h));
    }) zero

-- ---- the multipliers cancel x

cancels-by : (z : ℤ) (g : ℕ) → 0 < g → z *ℤ pos g ≡ pos 0 → z ≡ pos 0
cancels-by z g h e = *ℤ-cancel z (pos 0) (pos g) (omega (arith, ints)) (e ∙ sym (zero-*ℤ (pos g)))

replaced-cancels : (a b : ℤ) → size_over a (share a b) *ℤ b +ℤ against a b (share a b) *ℤ a ≡ pos 0
replaced-cancels a b =
    let g = share a b in
    let S = size_over a g in
    let T = against a b g in
    let n = pos (unsigned_abs a) in
    let f = met-rows S T (pos g) n (turned a b) b a (size_over-times a g (share-dvd_left a b)) (against-times a b g (share-dvd_right a b)) in
    cancels-by (S *ℤ b +ℤ T *ℤ a) g (share-above a b) (f ∙ (λ i. *ℤ_comm n b i +ℤ *ℤ_comm (turned a b) a i) ∙ solved-equation a b)

pub below-size : (z : ℤ) → int_lt z (pos 0) ≡ true → z ≡ neg_ℤ (pos (unsigned_abs z))
below-size (pos n) e = absurd (omega (arith, ints, e))
below-size (negsuc n) e = refl

pub above-size : (z : ℤ) → int_lt (pos 0) z ≡ true → z ≡ pos (unsigned_abs z)
above-size (pos n) e = refl
above-size (negsuc n) e = absurd (omega (arith, ints, e))

met-cancels : (l u : ℤ) → int_lt l (pos 0) ≡ true → int_lt (pos 0) u ≡ true → size_over u (share l u) *ℤ l +ℤ size_over l (share l u) *ℤ u ≡ pos 0
met-cancels l u e f =
    let g = share l u in
    let S = size_over u g in
    let T = size_over l g in
    let nl = pos (unsigned_abs l) in
    let nu = pos (unsigned_abs u) in
    let k = met-rows S T (pos g) nu nl l u (size_over-times u g (share-dvd_right l u)) (size_over-times l g (share-dvd_left l u)) in
    let e1 : nu *ℤ l ≡ nu *ℤ neg_ℤ nl = ap (λ z. nu *ℤ z) (below-size l e) in
    let e2 : nl *ℤ u ≡ nl *ℤ nu = ap (λ z. nl *ℤ z) (above-size u f) in
    let c = cancelled nu nl in
    let none : nu *ℤ l +ℤ nl *ℤ u ≡ pos 0 = omega (arith, ints, e1, e2, c) in
    cancels-by (S *ℤ l +ℤ T *ℤ u) g (share-above l u) (k ∙ none)

-- ---- by an equation

-- what was met of a row q, where p is the equation
pub record Became (m : ℕ → ℤ) (d : ℤ) (x : ℕ) (p q : Standing) : Type 0 where
  pub kept : is_zero (factor x q) ≡ true → Meets m d q.row
  pub made : is_zero (factor x q) ≡ false → Compares (joined q.row.op p.row.op) (size_over (factor x p) (share (factor x p) (factor x q)) *ℤ value m d q.row +ℤ against (factor x p) (factor x q) (share (factor x p) (factor x q)) *ℤ value m d p.row)

-- what stands afterwards is fine, and what was met before where it is met
abbrev pub Solves : ℕ → List ℕ → Standing → List Standing → State → State → Type 0
Solves x xs p qs s t = Each (Lacks x xs) t.standing × ((m : ℕ → ℤ) (d : ℤ) → pos 0 <ℤ d → Met m d t.standing → Met m d s.standing × Each (Became m d x p) qs)

pub solved-ok : (x : ℕ) (xs : List ℕ) (p : Standing) (qs : List Standing) (s t : State) → solved x p qs s ≡ Ok t → Fine (x ∷ xs) p → Each (Fine (x ∷ xs)) qs → Each (Lacks x xs) s.standing → Solves x xs p qs s t
solved-ok x xs p [] s t e f g h = let same = same_state s t e in (subst (λ (u : State). Each (Lacks x xs) u.standing) same h, λ m d above after. (subst (λ (u : State). Met m d u.standing) (sym same) after, tt))
solved-ok x xs p (q ∷ qs) s t e f g h =
    by (is_zero (factor x q)) refl e
    (λ c h2. solved-ok x xs p qs (record { standing = s.standing ++ q ∷ []; steps = s.steps; last = s.last }) t c f g.1 h2)
    (λ u c h2. solved-ok x xs p qs u t c f g.1 h2)
  where
    by : (b : Bool) → is_zero (factor x q) ≡ b → (if b then solved x p qs (record { standing = s.standing ++ q ∷ []; steps = s.steps; last = s.last }) else and_then (replaced x p q qs s) (solved x p qs)) ≡ Ok t → (solved x p qs (record { standing = s.standing ++ q ∷ []; steps = s.steps; last = s.last }) ≡ Ok t → Each (Lacks x xs) (s.standing ++ q ∷ []) → Solves x xs p qs (record { standing = s.standing ++ q ∷ []; steps = s.steps; last = s.last }) t) → ((u : State) → solved x p qs u ≡ Ok t → Each (Lacks x xs) u.standing → Solves x xs p qs u t) → Solves x xs p (q ∷ qs) s t
    by true z c first second =
        let r = first c (Each-append (Lacks x xs) s.standing (q ∷ []) h (fine-less x xs q g.0 (zero_is (factor x q) z), tt)) in (
          r.0,
          λ m d above after.
              let before = r.1 m d above after in
              let both = Each-left' (λ (o : Standing). Meets m d o.row) s.standing q before.0 in
              (both.0, (record { kept = λ _. both.1; made = λ n. absurd (let no : true ≡ false = sym z ∙ n in cc) }, before.1)),
        )
    by false z c first second =
        let a = factor x p in
        let b = factor x q in
        let k = share a b in
        let u = and_then-ok (replaced x p q qs s) (solved x p qs) t c in
        let row = made-ok (size_over a k) q (against a b k) p qs s u.0 u.1 in
        let new : Standing = record { number = s.last + 1; row = row.0 } in
        let start = stepped (record { a = size_over a k; p = q.number; b = against a b k; q = p.number }) s in
        let lacks = made-lacks x xs (size_over a k) q (against a b k) p row.0 (s.last + 1) g.0 f row.1 (replaced-cancels a b) in
        let new-zero : factor x new ≡ pos 0 = row_sum-coefficient (size_over a k) q.row (against a b k) p.row row.0 row.1 g.0.normal f.normal (joined-comparing q.row.op p.row.op g.0.comparing f.comparing) x (replaced-cancels a b) in
        let look = looked-ok (Lacks x xs) new qs start u.0 row.2 h lacks in
        let r = second u.0 u.2 look.0 in (
          r.0,
          λ m d above after.
              let later = r.1 m d above after in
              let rest = Each-map (Became m d x p) (λ (o : Standing). same_row o.row row.0 ≡ true → Meets m d o.row)
              (λ (o : Standing) (w : Became m d x p o) (same : same_row o.row row.0 ≡ true). w.kept (ap is_zero (ap (λ (l : Linear). coefficient x l.coeffs) (row-same o.row row.0 same) ∙ new-zero))) qs later.1 in
              let before = look.1 m d above later.0 rest in
              (before.0, (record { kept = λ n. absurd (let no : true ≡ false = sym n ∙ z in cc); made = λ _. (row_sum-meets (size_over a k) q.row (against a b k) p.row row.0 row.1 m d).0 before.1 }, later.1)),
        )

-- ---- by bounds

-- what was met of a lower row and an upper row
abbrev pub Between : (ℕ → ℤ) → ℤ → ℕ → Standing → Standing → Type 0
Between m d x l u = Compares (joined l.row.op u.row.op) (size_over (factor x u) (share (factor x l) (factor x u)) *ℤ value m d l.row +ℤ size_over (factor x l) (share (factor x l) (factor x u)) *ℤ value m d u.row)

abbrev pub Lower : ℕ → List ℕ → Standing → Type 0
Lower x xs l = Fine (x ∷ xs) l × (int_lt (factor x l) (pos 0) ≡ true)

abbrev pub Upper : ℕ → List ℕ → Standing → Type 0
Upper x xs u = Fine (x ∷ xs) u × (int_lt (pos 0) (factor x u) ≡ true)

paired-ok : (x : ℕ) (xs : List ℕ) (l : Standing) (us : List Standing) (s t : State) → paired x l us s ≡ Ok t → Lower x xs l → Each (Upper x xs) us → Each (Lacks x xs) s.standing → Each (Lacks x xs) t.standing × ((m : ℕ → ℤ) (d : ℤ) → pos 0 <ℤ d → Met m d t.standing → Met m d s.standing × Each (Between m d x l) us)
paired-ok x xs l [] s t e f g h = let same = same_state s t e in (subst (λ (u : State). Each (Lacks x xs) u.standing) same h, λ m d above after. (subst (λ (u : State). Met m d u.standing) (sym same) after, tt))
paired-ok x xs l (u ∷ us) s t e f g h =
    let k = share (factor x l) (factor x u) in
    let S = size_over (factor x u) k in
    let T = size_over (factor x l) k in
    let v = and_then-ok (met x l u s) (paired x l us) t e in
    let row = made-ok S l T u [] s v.0 v.1 in
    let new : Standing = record { number = s.last + 1; row = row.0 } in
    let start = stepped (record { a = S; p = l.number; b = T; q = u.number }) s in
    let lacks = made-lacks x xs S l T u row.0 (s.last + 1) f.0 g.0.0 row.1 (met-cancels (factor x l) (factor x u) f.1 g.0.1) in
    let look = looked-ok (Lacks x xs) new [] start v.0 row.2 h lacks in
    let r = paired-ok x xs l us v.0 t v.2 f g.1 look.0 in (
      r.0,
      λ m d above after.
          let later = r.1 m d above after in
          let before = look.1 m d above later.0 tt in
          (before.0, ((row_sum-meets S l.row T u.row row.0 row.1 m d).0 before.1, later.1)),
    )

pub all_paired-ok : (x : ℕ) (xs : List ℕ) (ls us : List Standing) (s t : State) → all_paired x ls us s ≡ Ok t → Each (Lower x xs) ls → Each (Upper x xs) us → Each (Lacks x xs) s.standing → Each (Lacks x xs) t.standing × ((m : ℕ → ℤ) (d : ℤ) → pos 0 <ℤ d → Met m d t.standing → Met m d s.standing × Each (λ l. Each (Between m d x l) us) ls)
all_paired-ok x xs [] us s t e f g h = let same = same_state s t e in (subst (λ (u : State). Each (Lacks x xs) u.standing) same h, λ m d above after. (subst (λ (u : State). Met m d u.standing) (sym same) after, tt))
all_paired-ok x xs (l ∷ ls) us s t e f g h =
    let v = and_then-ok (paired x l us s) (all_paired x ls us) t e in
    let first = paired-ok x xs l us s v.0 v.1 f.0 g h in
    let r = all_paired-ok x xs ls us v.0 t v.2 f.1 g first.0 in (
      r.0,
      λ m d above after.
          let later = r.1 m d above after in
          let before = first.1 m d above later.0 in
          (before.0, (before.1, later.1)),
    )
