-- Lists say the same with the numbers put in that their rows fix.
use Rattle.std.proofs.Common.{◌≡◌, ◌↔◌, ◌⊎◌, inl, inr, ℕ, ◌+◌, ◌==◌, nat_eq, Bool, true, false, not, ◌&&◌, ◌||◌, List, [], ◌∷◌, ◌++◌, length, map, Option, None, Some, refl, sym, ap, subst, ◌∙◌}
use Rattle.std.specs.Prelude.{if◌then◌else◌, filter, is_some, nat_lt}
use Rattle.std.specs.List.{list_all, list_any}
use Rattle.std.proofs.lemmas.Bool.{and_parts, eqb-true, true≢false}
use Rattle.scasp_list.specs.Each.{Each}
use Rattle.scasp_list.proofs.EachLemmas.{Each-append, Each-filter, Each-map}
use Rattle.scasp_num.specs.declared.linear.Coeff.{Coeff}
use Rattle.scasp_num.specs.Linear.{IsNormal, Linear}
use Rattle.scasp_num.specs.Number.{Number}
use Rattle.scasp_hint.specs.AskedRows.{RowsNormal}
use Rattle.scasp_law_parts.specs.Questions.{IsReadable}
use Rattle.scasp_law_parts.proofs.ReadLemmas.{con-read}
use Rattle.scasp_project.specs.Meaning.{MeetsOne}
use Rattle.scasp_search_rules.specs.Successors.Reading.{con_under}
use Rattle.scasp_shorten.specs.Following.{follows, is_row_of}
use Rattle.scasp_shorten.proofs.FollowingLemmas.{asked-meets}
use Rattle.scasp_shorten.proofs.RowsLemmas.{IsNormalCon, each-normal, normal-each}
use Rattle.scasp_shorten.proofs.ShorteningLemmas.{all-filter}
use Rattle.scasp_syntax.specs.Constraints.{holds}
use Rattle.scasp_syntax.specs.Tm.{Tm, var, num, app}
use Rattle.scasp_syntax.specs.Values.{Sub, Valuation, under}
use Rattle.scasp_syntax.specs.View.{tm_of}
use Rattle.scasp_syntax.specs.declared.con.Con.{Con}
use Rattle.scasp_syntax.specs.declared.con.Con.TheVariants as con
use Rattle.scasp_syntax.specs.declared.term.Term.TheVariants as term
use Rattle.scasp_syntax.proofs.SameLemmas.{tm_decided}
use Rattle.scasp_unify.specs.ResolvedRows.{resolved_row}
use Rattle.scasp_unify.specs.Solving.{sub_of}
use Rattle.scasp_unify.specs.TermFailures.{is_compound}
use Rattle.scasp_unify.specs.Unification.{Absorbs, single, then_by}
use Rattle.scasp_unify.specs.declared.bindings.Binding.{Binding}
use Rattle.scasp_fixed.specs.Fixed.{Telling, are_read, fixing, gives, gives_by, is_fixing, is_read, most_constraints, numbers_from, telling, telling_by, value_of, values_found, values_from}

-- ---- what a list gives

-- what is fixed in a list is met where the list is, and its rows are normal
fixing-met : (ns : List Binding) (cs : List Con) (v : Sub) → list_all (holds v) cs ≡ true → list_all (holds v) (fixing ns cs) ≡ true
fixing-met ns cs v m = by (nat_lt most_constraints (length cs)) refl
  where
    by : (b : Bool) → nat_lt most_constraints (length cs) ≡ b → list_all (holds v) (fixing ns cs) ≡ true
    by true p = ap (λ b. list_all (holds v) (if b then [] else filter (is_fixing ns) cs)) p
    by false p = ap (λ b. list_all (holds v) (if b then [] else filter (is_fixing ns) cs)) p ∙ all-filter (holds v) (is_fixing ns) cs m

fixing-normal : (ns : List Binding) (cs : List Con) → RowsNormal cs → RowsNormal (fixing ns cs)
fixing-normal ns cs n = by (nat_lt most_constraints (length cs)) refl
  where
    by : (b : Bool) → nat_lt most_constraints (length cs) ≡ b → RowsNormal (fixing ns cs)
    by true p = subst (λ (b : Bool). RowsNormal (if b then [] else filter (is_fixing ns) cs)) (sym p) tt
    by false p =
        subst (λ (b : Bool). RowsNormal (if b then [] else filter (is_fixing ns) cs)) (sym p)
        (normal-each (filter (is_fixing ns) cs) (Each-filter IsNormalCon (is_fixing ns) cs (each-normal cs n)))

gives-holds : (ns : List Binding) (cs : List Con) (v : Valuation) (x : ℕ) (q : Number) → RowsNormal cs → list_all (holds v.of) cs ≡ true → gives (fixing ns cs) x q ≡ true → v.of x ≡ num q
gives-holds ns cs v x q n m e = by (list_any (is_row_of x) (fixing ns cs)) refl
  where
    asked : follows (fixing ns cs) (con.Eq (term.Var x) (term.Num q)) ≡ true → v.of x ≡ num q
    asked a = (tm_decided (v.of x) (num q)).0 (asked-meets (fixing ns cs) (con.Eq (term.Var x) (term.Num q)) v (fixing-normal ns cs n) tt tt a (fixing-met ns cs v.of m))

    by : (b : Bool) → list_any (is_row_of x) (fixing ns cs) ≡ b → v.of x ≡ num q
    by true p = asked (sym (ap (λ b. gives_by b (fixing ns cs) x q) p) ∙ e)
    by false p = absurd (true≢false (sym e ∙ ap (λ b. gives_by b (fixing ns cs) x q) p))

-- what all lists give holds where one of them is met
one-gives : (ns : List Binding) (lists : List (List Con)) (v : Valuation) (x : ℕ) (q : Number) → Each RowsNormal lists → list_any (list_all (holds v.of)) lists ≡ true → list_all (λ cs. gives cs x q) (map (fixing ns) lists) ≡ true → v.of x ≡ num q
one-gives ns [] v x q n m e = cc
one-gives ns (cs ∷ lists) v x q n m e = by (list_all (holds v.of) cs) refl (one-gives ns lists v x q n.1)
  where
    all : (gives (fixing ns cs) x q ≡ true) × (list_all (λ ds. gives ds x q) (map (fixing ns) lists) ≡ true)
    all = and_parts (gives (fixing ns cs) x q) (list_all (λ ds. gives ds x q) (map (fixing ns) lists)) e

    by : (b : Bool) → list_all (holds v.of) cs ≡ b
        → (list_any (list_all (holds v.of)) lists ≡ true → list_all (λ ds. gives ds x q) (map (fixing ns) lists) ≡ true → v.of x ≡ num q)
        → v.of x ≡ num q
    by true p rest = gives-holds ns cs v x q n.0 p all.0
    by false p rest = rest (sym (ap (λ b. b || list_any (list_all (holds v.of)) lists) p) ∙ m) all.1

-- ---- the values

-- what holds of each number that the lists give holds of each value
values-each : (P : Binding → Type 0) (lists : List (List Con)) → ((x : ℕ) (q : Number) → list_all (λ cs. gives cs x q) lists ≡ true → P (record { x = x; term = term.Num q })) → (x : ℕ) (ts : List Tm) → Each P (values_from lists x ts)
values-each P lists h x [] = tt
values-each P lists h x (t ∷ ts) = Each-append P (value_of lists x t) (values_from lists (x + 1) ts) (here t) (values-each P lists h (x + 1) ts)
  where
    here : (t : Tm) → Each P (value_of lists x t)
    here (var y) = tt
    here (app f us) = tt
    here (num q) = by (list_all (λ cs. gives cs x q) lists) refl
      where
        by : (b : Bool) → list_all (λ cs. gives cs x q) lists ≡ b → Each P (value_of lists x (num q))
        by true p = subst (λ (b : Bool). Each P (if b then record { x = x; term = term.Num q } ∷ [] else [])) (sym p) (h x q p, tt)
        by false p = subst (λ (b : Bool). Each P (if b then record { x = x; term = term.Num q } ∷ [] else [])) (sym p) tt

-- a value is a number
abbrev IsNumber : Binding → Type 0
IsNumber b = (q : Number) × (b.term ≡ term.Num q)

-- and the variable has it
abbrev IsHad : Sub → Binding → Type 0
IsHad v b = (q : Number) × (b.term ≡ term.Num q) × (v b.x ≡ num q)

-- each variable stands for itself or for a number
abbrev Numbers : Sub → Type 0
Numbers s = (x : ℕ) → (s x ≡ var x) ⊎ ((q : Number) × (s x ≡ num q))

numbers-sub : (vs : List Binding) → Each IsNumber vs → Numbers (sub_of vs)
numbers-sub [] n x = inl refl
numbers-sub (b ∷ vs) n x = by (nat_eq x b.x) refl (numbers-sub vs n.1 x)
  where
    by : (k : Bool) → nat_eq x b.x ≡ k → (sub_of vs x ≡ var x) ⊎ ((q : Number) × (sub_of vs x ≡ num q)) → (sub_of (b ∷ vs) x ≡ var x) ⊎ ((q : Number) × (sub_of (b ∷ vs) x ≡ num q))
    by true p rest = inr (n.0.0, ap (λ k. under (sub_of vs) (if k then tm_of b.term else var x)) p ∙ ap (λ t. under (sub_of vs) (tm_of t)) n.0.1)
    by false p (inl e) = inl (ap (λ k. under (sub_of vs) (if k then tm_of b.term else var x)) p ∙ e)
    by false p (inr e) = inr (e.0, ap (λ k. under (sub_of vs) (if k then tm_of b.term else var x)) p ∙ e.1)

numbers-absorb : (s : Sub) → Numbers s → Absorbs s s
numbers-absorb s n y = by (n y)
  where
    by : (s y ≡ var y) ⊎ ((q : Number) × (s y ≡ num q)) → under s (s y) ≡ s y
    by (inl e) = ap (under s) e
    by (inr e) = ap (under s) e.1 ∙ sym e.1

numbers-flat : (s : Sub) → Numbers s → (x : ℕ) → is_compound (s x) ≡ false
numbers-flat s n x = by (n x)
  where
    by : (s x ≡ var x) ⊎ ((q : Number) × (s x ≡ num q)) → is_compound (s x) ≡ false
    by (inl e) = ap is_compound e
    by (inr e) = ap is_compound e.1

had-absorbed : (v : Sub) (vs : List Binding) → Each (IsHad v) vs → Absorbs v (sub_of vs)
had-absorbed v [] h y = refl
had-absorbed v (b ∷ vs) h y = by (nat_eq y b.x) refl (had-absorbed v vs h.1 y)
  where
    by : (k : Bool) → nat_eq y b.x ≡ k → under v (sub_of vs y) ≡ v y → under v (sub_of (b ∷ vs) y) ≡ v y
    by true p rest =
        ap (λ k. under v (under (sub_of vs) (if k then tm_of b.term else var y))) p
        ∙ ap (λ t. under v (under (sub_of vs) (tm_of t))) h.0.1
        ∙ sym (ap v (eqb-true y b.x p) ∙ h.0.2)
    by false p rest = ap (λ k. under v (under (sub_of vs) (if k then tm_of b.term else var y))) p ∙ rest

-- ---- lists with the values put in

readable : (s : Sub) → Numbers s → (c : Con) → IsNormalCon c → is_read s c ≡ true → IsReadable s c
readable s n (con.Eq t u) k e = tt
readable s n (con.Neq t u) k e = tt
readable s n (con.NotShape x f a) k e = tt
readable s n (con.Num t) k e = tt
readable s n (con.NotNum t) k e = tt
readable s n (con.Row r) k e = by (resolved_row s r) refl
  where
    flat : (ks : List Coeff) → Each (λ j. is_compound (s j.x) ≡ false) ks
    flat [] = tt
    flat (j ∷ ks) = (numbers-flat s n j.x, flat ks)

    by : (o : Option Linear) → resolved_row s r ≡ o → IsReadable s (con.Row r)
    by None p = absurd (true≢false (sym e ∙ ap is_some p))
    by (Some q) p = record { normal = k.0; row = q; read = sym p; flat = flat r.coeffs }

list-same : (s w : Sub) → Numbers s → (cs : List Con) → Each IsNormalCon cs → are_read s cs ≡ true → list_all (holds w) (map (con_under s) cs) ≡ list_all (holds (then_by s w)) cs
list-same s w n [] k e = refl
list-same s w n (c ∷ cs) k e =
    let p = and_parts (is_read s c) (are_read s cs) e in
    ap (λ b. b && list_all (holds w) (map (con_under s) cs)) (con-read s w c (numbers-absorb s n) (readable s n c k.0 p.0))
    ∙ ap (λ b. holds (then_by s w) c && b) (list-same s w n cs k.1 p.1)

lists-same : (s w : Sub) → Numbers s → (lists : List (List Con)) → Each RowsNormal lists → list_all (are_read s) lists ≡ true
    → list_any (list_all (holds w)) (map (map (con_under s)) lists) ≡ list_any (list_all (holds (then_by s w))) lists
lists-same s w n [] k e = refl
lists-same s w n (cs ∷ lists) k e =
    let p = and_parts (are_read s cs) (list_all (are_read s) lists) e in
    ap (λ b. b || list_any (list_all (holds w)) (map (map (con_under s)) lists)) (list-same s w n cs (each-normal cs k.0) p.0)
    ∙ ap (λ b. list_all (holds (then_by s w)) cs || b) (lists-same s w n lists k.1 p.1)

-- ---- what is told

-- a valuation that has the values is the same with them put in
pub absorbed-same : (v s : Sub) → Absorbs v s → then_by s v ≡ v
absorbed-same v s a = λ i y. a y i

abbrev Filled : (lists : List (List Con)) → Valuation → Telling → Type 0
Filled lists v t = MeetsOne v.of t.lists → MeetsOne (then_by (sub_of t.values) v.of) lists

abbrev Same : (lists : List (List Con)) → Valuation → Telling → Type 0
Same lists v t = MeetsOne v.of lists ↔ (Absorbs v.of (sub_of t.values) × MeetsOne v.of t.lists)

abbrev as_they_are : List (List Con) → Telling
as_they_are lists = record { values = []; lists = lists }

abbrev with_them : List Binding → List (List Con) → Telling
with_them vs lists = record { values = vs; lists = map (map (con_under (sub_of vs))) lists }

-- what holds of both ways to tell
told-by : (P : Telling → Type 0) (vs : List Binding) (lists : List (List Con)) → P (as_they_are lists) → (list_all (are_read (sub_of vs)) lists ≡ true → P (with_them vs lists)) → P (telling_by vs lists)
told-by P vs lists plain put = by (length vs == 0) (list_all (are_read (sub_of vs)) lists) refl refl
  where
    by : (a b : Bool) → (length vs == 0) ≡ a → list_all (are_read (sub_of vs)) lists ≡ b → P (telling_by vs lists)
    by true b p q = subst (λ (k : Bool). P (if k || not (list_all (are_read (sub_of vs)) lists) then as_they_are lists else with_them vs lists)) (sym p) plain
    by false false p q =
        subst (λ (k : Bool). P (if k || not (list_all (are_read (sub_of vs)) lists) then as_they_are lists else with_them vs lists)) (sym p)
        (subst (λ (k : Bool). P (if not k then as_they_are lists else with_them vs lists)) (sym q) plain)
    by false true p q =
        subst (λ (k : Bool). P (if k || not (list_all (are_read (sub_of vs)) lists) then as_they_are lists else with_them vs lists)) (sym p)
        (subst (λ (k : Bool). P (if not k then as_they_are lists else with_them vs lists)) (sym q) (put q))

values-number : (lists : List (List Con)) (sample : List Tm) → Numbers (sub_of (values_found lists sample))
values-number lists sample = numbers-sub (values_found lists sample) (values-each IsNumber (map (fixing (numbers_from 0 sample)) lists) (λ x q e. (q, refl)) 0 sample)

values-had : (lists : List (List Con)) (sample : List Tm) (v : Valuation) → Each RowsNormal lists → MeetsOne v.of lists → Absorbs v.of (sub_of (values_found lists sample))
values-had lists sample v n m =
    had-absorbed v.of (values_found lists sample)
    (values-each (IsHad v.of) (map (fixing (numbers_from 0 sample)) lists) (λ x q e. (q, refl, one-gives (numbers_from 0 sample) lists v x q n m e)) 0 sample)

pub told-fills : (lists : List (List Con)) (sample : List Tm) (v : Valuation) → Each RowsNormal lists → Filled lists v (telling lists sample)
told-fills lists sample v n =
    told-by (Filled lists v) (values_found lists sample) lists
    (λ m. sym (ap (λ (w : Sub). list_any (list_all (holds w)) lists) (absorbed-same v.of var (λ y. refl))) ∙ m)
    (λ e m. sym (lists-same (sub_of (values_found lists sample)) v.of (values-number lists sample) lists n e) ∙ m)

pub told-same : (lists : List (List Con)) (sample : List Tm) (v : Valuation) → Each RowsNormal lists → Same lists v (telling lists sample)
told-same lists sample v n = told-by (Same lists v) (values_found lists sample) lists ((λ m. ((λ y. refl), m)), (λ k. k.1)) put
  where
    s : Sub
    s = sub_of (values_found lists sample)

    same : list_all (are_read s) lists ≡ true → Absorbs v.of s → list_any (list_all (holds v.of)) (map (map (con_under s)) lists) ≡ list_any (list_all (holds v.of)) lists
    same e a = lists-same s v.of (values-number lists sample) lists n e ∙ ap (λ w. list_any (list_all (holds w)) lists) (absorbed-same v.of s a)

    put : list_all (are_read s) lists ≡ true → Same lists v (with_them (values_found lists sample) lists)
    put e =
        ((λ m. let a = values-had lists sample v n m in (a, same e a ∙ m)), (λ k. sym (same e k.0) ∙ k.1))
