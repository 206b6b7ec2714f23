-- The variables of a row whose variables are replaced by what they stand for.
use Rattle.std.specs.Prelude.{◌≡◌, ◌⊎◌, ℕ, ◌==◌, nat_eq, nat_lt, Bool, true, false, ℤ, pos, ◌+ℤ◌, ◌*ℤ◌, int_div, if◌then◌else◌, Option, Some, None, List, [], ◌∷◌, map, ⊤}
use Rattle.std.specs.List.{Contains}
use Rattle.std.proofs.Common.{refl, sym, subst, ◌∙◌, inl, inr}
use Rattle.std.proofs.lemmas.Bool.{true≢false, or_cases, eqb-true, eqb-false, eq-eqb}
use Rattle.scasp_list.specs.Each.{Each}
use Rattle.scasp_list.proofs.EachLemmas.{Each-map}
use Rattle.scasp_list.proofs.MemberLemmas.{Contains-map, list_any-from}
use Rattle.scasp_num.specs.Arithmetic.{◌>>=◌, within}
use Rattle.scasp_num.specs.Linear.{Linear, normal_form, shares, is_negated, divisor, is_zero, negated_if, coefficient, others_times, put_constant, put_of, merged, join_of}
use Rattle.scasp_num.specs.Number.{Number}
use Rattle.scasp_num.specs.declared.linear.Coeff.{Coeff}
use Rattle.scasp_num.proofs.Exact.{bind-some}
use Rattle.scasp_search_rules.specs.Successors.Reading.{among, row_or, row_under}
use Rattle.scasp_syntax.specs.Tm.{Tm, var, num, app}
use Rattle.scasp_syntax.specs.Values.{Sub}
use Rattle.scasp_unify.specs.ResolvedRows.{replaced_by, replaced_each, resolved_row}
use Rattle.scasp_unify.proofs.Members.{Each-from}

module _ (P : ℕ → Type 0) where
  abbrev pub EachOf : List Coeff → Type 0
  EachOf ks = Each (λ k. P k.x) ks

  others-of : (d : ℤ) (x : ℕ) (ks others : List Coeff) → Some others ≡ others_times d x ks → EachOf ks → EachOf others
  others-of d x [] others e h = subst EachOf (let same : [] ≡ others = cc in same) tt
  others-of d x (k ∷ ks) others e h = by (k.x == x) e (λ rest g. others-of d x ks rest g h.1)
    where
      by : (t : Bool) → Some others ≡ (if t then others_times d x ks else (within (d *ℤ k.c) >>= (λ c. others_times d x ks >>= (λ rest. Some (record { x = k.x; c = c } ∷ rest)))))
          → ((rest : List Coeff) → Some rest ≡ others_times d x ks → EachOf rest) → EachOf others
      by true e rest = rest others e
      by false e rest =
          let a = bind-some (within (d *ℤ k.c)) (λ c. others_times d x ks >>= (λ rest. Some (record { x = k.x; c = c } ∷ rest))) others e in
          let b = bind-some (others_times d x ks) (λ rest. Some (record { x = k.x; c = a.0 } ∷ rest)) others a.2 in
          let same : others ≡ record { x = k.x; c = a.0 } ∷ b.0 = cc in
          subst EachOf (sym same) (h.0, rest b.0 b.1)

  merged-of : (y : ℕ) (c : ℤ) → P y → (ks out : List Coeff) → Some out ≡ merged y c ks → EachOf ks → EachOf out
  merged-of y c p [] out e h = subst EachOf (let same : record { x = y; c = c } ∷ [] ≡ out = cc in same) (p, tt)
  merged-of y c p (k ∷ ks) out e h = by (nat_lt k.x y) (k.x == y) e (λ rest f. merged-of y c p ks rest f h.1)
    where
      by : (s t : Bool)
          → Some out ≡ (if s then (merged y c ks >>= (λ rest. Some (k ∷ rest))) else (if t then (within (k.c +ℤ c) >>= (λ sum. Some (record { x = y; c = sum } ∷ ks))) else Some (record { x = y; c = c } ∷ k ∷ ks)))
          → ((rest : List Coeff) → Some rest ≡ merged y c ks → EachOf rest) → EachOf out
      by true t e rest =
          let a = bind-some (merged y c ks) (λ rest. Some (k ∷ rest)) out e in
          let same : out ≡ k ∷ a.0 = cc in subst EachOf (sym same) (h.0, rest a.0 a.1)
      by false true e rest =
          let a = bind-some (within (k.c +ℤ c)) (λ sum. Some (record { x = y; c = sum } ∷ ks)) out e in
          let same : out ≡ record { x = y; c = a.0 } ∷ ks = cc in subst EachOf (sym same) (p, h.1)
      by false false e rest = let same : record { x = y; c = c } ∷ k ∷ ks ≡ out = cc in subst EachOf same (p, h)

  shares-of : (n : Bool) (g : ℕ) (ks : List Coeff) → EachOf ks → EachOf (shares n g ks)
  shares-of n g [] h = tt
  shares-of n g (k ∷ ks) h = by (is_zero k.c) (shares-of n g ks h.1)
    where
      by : (z : Bool) → EachOf (shares n g ks) → EachOf (if z then shares n g ks else (record { x = k.x; c = negated_if n (int_div k.c (pos g)) } ∷ shares n g ks))
      by true rest = rest
      by false rest = (h.0, rest)

  normal-of : (r : Linear) → EachOf r.coeffs → EachOf (normal_form r).coeffs
  unfolding normal_form
  normal-of r h = shares-of (is_negated r) (divisor r) r.coeffs h

  put-of : (r row : Linear) (x : ℕ) (q : Number) → Some row ≡ put_of r x q → EachOf r.coeffs → EachOf row.coeffs
  unfolding put_of
  put-of r row x q e h =
      let a = bind-some (others_times q.den x r.coeffs) (λ others. put_constant r x q >>= (λ c. Some (normal_form (record { coeffs = others; constant = c; op = r.op })))) row e in
      let b = bind-some (put_constant r x q) (λ c. Some (normal_form (record { coeffs = a.0; constant = c; op = r.op }))) row a.2 in
      let made : row ≡ normal_form (record { coeffs = a.0; constant = b.0; op = r.op }) = cc in
      subst (λ (l : Linear). EachOf l.coeffs) (sym made) (normal-of (record { coeffs = a.0; constant = b.0; op = r.op }) (others-of q.den x r.coeffs a.0 a.1 h))

  join-of : (r row : Linear) (x y : ℕ) → Some row ≡ join_of r x y → P y → EachOf r.coeffs → EachOf row.coeffs
  unfolding join_of
  join-of r row x y e p h =
      let a = bind-some (others_times (pos 1) x r.coeffs) (λ others. merged y (coefficient x r.coeffs) others >>= (λ coeffs. Some (normal_form (record { coeffs = coeffs; constant = r.constant; op = r.op })))) row e in
      let b = bind-some (merged y (coefficient x r.coeffs) a.0) (λ coeffs. Some (normal_form (record { coeffs = coeffs; constant = r.constant; op = r.op }))) row a.2 in
      let made : row ≡ normal_form (record { coeffs = b.0; constant = r.constant; op = r.op }) = cc in
      subst (λ (l : Linear). EachOf l.coeffs) (sym made)
      (normal-of (record { coeffs = b.0; constant = r.constant; op = r.op }) (merged-of y (coefficient x r.coeffs) p a.0 b.0 b.1 (others-of (pos 1) x r.coeffs a.0 a.1 h)))

  module _ (s : Sub) (closed : (x y : ℕ) → P x → s x ≡ var y → P y) where
    one-of : (t : Tm) (x : ℕ) (r row : Linear) → s x ≡ t → P x → Some row ≡ replaced_by t x r → EachOf r.coeffs → EachOf row.coeffs
    one-of (num q) x r row f p e h = put-of r row x q e h
    one-of (app g ts) x r row f p e h = let same : row ≡ r = cc in subst (λ (l : Linear). EachOf l.coeffs) (sym same) h
    one-of (var y) x r row f p e h = by (nat_eq y x) e
      where
        by : (b : Bool) → Some row ≡ (if b then Some r else join_of r x y) → EachOf row.coeffs
        by true g = let same : row ≡ r = cc in subst (λ (l : Linear). EachOf l.coeffs) (sym same) h
        by false g = join-of r row x y g (closed x y p f) h

    each-of-row : (ks : List Coeff) (r row : Linear) → EachOf ks → Some row ≡ replaced_each s ks r → EachOf r.coeffs → EachOf row.coeffs
    each-of-row [] r row k e h = let same : row ≡ r = cc in subst (λ (l : Linear). EachOf l.coeffs) (sym same) h
    each-of-row (j ∷ ks) r row k e h =
        let a = bind-some (replaced_by (s j.x) j.x r) (replaced_each s ks) row e in
        each-of-row ks a.0 row k.1 a.2 (one-of (s j.x) j.x r a.0 refl k.0 a.1 h)

    -- what holds of a row's variables, and of a variable that one of these stands for, holds of those of the row as it reads
    pub read-of : (r : Linear) → EachOf r.coeffs → EachOf (row_under s r).coeffs
    read-of r h = by (resolved_row s r) refl
      where
        by : (o : Option Linear) → resolved_row s r ≡ o → EachOf (row_or r o).coeffs
        by None e = h
        by (Some row) e = each-of-row r.coeffs r row h (sym e) h

-- ---- each variable is replaced

-- no name with arguments
abbrev pub NoCompound : Tm → Type 0
NoCompound (var y) = ⊤
NoCompound (num q) = ⊤
NoCompound (app f ts) = ⊥

-- what holds of all that a row's variables stand for holds of the row as it reads, if none stands for a compound term
module _ (s : Sub) (I : ℕ → Type 0) where
  -- what is left where x was replaced
  others-off : (P : ℕ → Type 0) (d : ℤ) (x : ℕ) (ks others : List Coeff) → Some others ≡ others_times d x ks → Each (λ k. (k.x ≡ x) ⊎ P k.x) ks → Each (λ k. P k.x) others
  others-off P d x [] others e h = subst (Each (λ (k : Coeff). P k.x)) (let same : [] ≡ others = cc in same) tt
  others-off P d x (k ∷ ks) others e h = by (k.x == x) refl e (λ rest g. others-off P d x ks rest g h.1)
    where
      other : (k.x == x) ≡ false → (k.x ≡ x) ⊎ P k.x → P k.x
      other f (inl same) = absurd (eqb-false k.x x f same)
      other f (inr p) = p

      by : (t : Bool) → (k.x == x) ≡ t
          → Some others ≡ (if t then others_times d x ks else (within (d *ℤ k.c) >>= (λ c. others_times d x ks >>= (λ rest. Some (record { x = k.x; c = c } ∷ rest)))))
          → ((rest : List Coeff) → Some rest ≡ others_times d x ks → Each (λ k. P k.x) rest) → Each (λ k. P k.x) others
      by true f e rest = rest others e
      by false f e rest =
          let a = bind-some (within (d *ℤ k.c)) (λ c. others_times d x ks >>= (λ rest. Some (record { x = k.x; c = c } ∷ rest))) others e in
          let b = bind-some (others_times d x ks) (λ rest. Some (record { x = k.x; c = a.0 } ∷ rest)) others a.2 in
          let same : others ≡ record { x = k.x; c = a.0 } ∷ b.0 = cc in
          subst (Each (λ (k : Coeff). P k.x)) (sym same) (other f h.0, rest b.0 b.1)

  module _ (P : ℕ → Type 0) where
    one-off : (t : Tm) (x : ℕ) (r row : Linear) → NoCompound t → ((y : ℕ) → t ≡ var y → P y) → Some row ≡ replaced_by t x r → Each (λ k. (k.x ≡ x) ⊎ P k.x) r.coeffs → Each (λ k. P k.x) row.coeffs
    unfolding put_of join_of
    one-off (app g ts) x r row n f e h = absurd n
    one-off (num q) x r row n f e h =
        let a = bind-some (others_times q.den x r.coeffs) (λ others. put_constant r x q >>= (λ c. Some (normal_form (record { coeffs = others; constant = c; op = r.op })))) row e in
        let b = bind-some (put_constant r x q) (λ c. Some (normal_form (record { coeffs = a.0; constant = c; op = r.op }))) row a.2 in
        let made : row ≡ normal_form (record { coeffs = a.0; constant = b.0; op = r.op }) = cc in
        subst (λ (l : Linear). Each (λ k. P k.x) l.coeffs) (sym made) (normal-of P (record { coeffs = a.0; constant = b.0; op = r.op }) (others-off P q.den x r.coeffs a.0 a.1 h))
    one-off (var y) x r row n f e h = by (nat_eq y x) refl e
      where
        keep : y ≡ x → (ks : List Coeff) → Each (λ k. (k.x ≡ x) ⊎ P k.x) ks → Each (λ k. P k.x) ks
        keep same [] l = tt
        keep same (k ∷ ks) l = (one l.0, keep same ks l.1)
          where
            one : (k.x ≡ x) ⊎ P k.x → P k.x
            one (inl g) = subst P (same ∙ sym g) (f y refl)
            one (inr p) = p

        by : (b : Bool) → nat_eq y x ≡ b → Some row ≡ (if b then Some r else join_of r x y) → Each (λ k. P k.x) row.coeffs
        by true g e = let same : row ≡ r = cc in subst (λ (l : Linear). Each (λ k. P k.x) l.coeffs) (sym same) (keep (eqb-true y x g) r.coeffs h)
        by false g e =
            let a = bind-some (others_times (pos 1) x r.coeffs) (λ others. merged y (coefficient x r.coeffs) others >>= (λ coeffs. Some (normal_form (record { coeffs = coeffs; constant = r.constant; op = r.op })))) row e in
            let b = bind-some (merged y (coefficient x r.coeffs) a.0) (λ coeffs. Some (normal_form (record { coeffs = coeffs; constant = r.constant; op = r.op }))) row a.2 in
            let made : row ≡ normal_form (record { coeffs = b.0; constant = r.constant; op = r.op }) = cc in
            subst (λ (l : Linear). Each (λ k. P k.x) l.coeffs) (sym made)
            (normal-of P (record { coeffs = b.0; constant = r.constant; op = r.op }) (merged-of P y (coefficient x r.coeffs) (f y refl) a.0 b.0 b.1 (others-off P (pos 1) x r.coeffs a.0 a.1 h)))

  -- what these variables stand for
  abbrev Stand : Coeff → Type 0
  Stand k = NoCompound (s k.x) × ((y : ℕ) → s k.x ≡ var y → I y)

  -- of what is still to be replaced, or of what was put in place
  abbrev Left : List Coeff → ℕ → Type 0
  Left ks x = I x ⊎ (among x (map (λ k. k.x) ks) ≡ true)

  each-off : (ks : List Coeff) (r row : Linear) → Each Stand ks → Some row ≡ replaced_each s ks r → Each (λ k. Left ks k.x) r.coeffs → Each (λ k. I k.x) row.coeffs
  each-off [] r row h e l = let same : row ≡ r = cc in subst (λ (q : Linear). Each (λ k. I k.x) q.coeffs) (sym same) (Each-map (λ (k : Coeff). Left [] k.x) (λ k. I k.x) (λ k i. by i) r.coeffs l)
    where
      by : {x : ℕ} → Left [] x → I x
      by (inl i) = i
      by (inr i) = absurd (true≢false (sym i))
  each-off (j ∷ js) r row h e l =
      let a = bind-some (replaced_by (s j.x) j.x r) (replaced_each s js) row e in
      each-off js a.0 row h.1 a.2
      (one-off (Left js) (s j.x) j.x r a.0 h.0.0 (λ y f. inl (h.0.1 y f)) a.1 (Each-map (λ (k : Coeff). Left (j ∷ js) k.x) (λ k. (k.x ≡ j.x) ⊎ Left js k.x) (λ k i. by k.x i) r.coeffs l))
    where
      at : (x : ℕ) → (nat_eq x j.x ≡ true) ⊎ (among x (map (λ k. k.x) js) ≡ true) → (x ≡ j.x) ⊎ Left js x
      at x (inl g) = inl (eqb-true x j.x g)
      at x (inr g) = inr (inr g)

      by : (x : ℕ) → Left (j ∷ js) x → (x ≡ j.x) ⊎ Left js x
      by x (inl i) = inr (inl i)
      by x (inr i) = at x (or_cases (nat_eq x j.x) (among x (map (λ k. k.x) js)) i)

  pub stood-for : (r row : Linear) → Each Stand r.coeffs → resolved_row s r ≡ Some row → Each (λ k. I k.x) row.coeffs
  stood-for r row h e = each-off r.coeffs r row h (sym e) (Each-from (λ (k : Coeff). Left r.coeffs k.x) r.coeffs (λ k i. inr (listed r.coeffs k i)))
    where
      listed : (ks : List Coeff) (k : Coeff) → Contains ks k → among k.x (map (λ k. k.x) ks) ≡ true
      listed ks k i = list_any-from (nat_eq k.x) (map (λ k. k.x) ks) k.x (Contains-map (λ (k : Coeff). k.x) ks k i) (eq-eqb k.x k.x refl)
