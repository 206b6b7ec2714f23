-- Numbers that a list leaves to variables may be put into it.
use Rattle.std.proofs.Common.{◌≡◌, ◌≢◌, ◌⊎◌, inl, inr, ℕ, Bool, true, false, ◌&&◌, ◌||◌, nat_eq, if◌then◌else◌, List, [], ◌∷◌, ◌++◌, Some, slice_get, zero, suc, ℤ, pos, negsuc, ◌+ℤ◌, ◌*ℤ◌, neg_ℤ, refl, sym, ap, subst, arith, ◌∙◌}
use Rattle.std.specs.List.{list_all}
use Rattle.std.proofs.lemmas.Bool.{and_parts, eqb-true, true≢false}
use Rattle.std.proofs.lemmas.Int.{ints}
use Rattle.std.proofs.Math.IntN.{*ℤ_comm}
use Rattle.scasp_hint.specs.AskedRows.{RowsNormal}
use Rattle.scasp_hint.specs.Satisfying.{sat}
use Rattle.scasp_hint.proofs.SatisfyingLemmas.{sat-sorted}
use Rattle.scasp_law_parts.specs.Bound.{Triangular, equations}
use Rattle.scasp_law_parts.specs.Parts.{SatUnder}
use Rattle.scasp_law_parts.proofs.BoundLemmas.{absorbed}
use Rattle.scasp_law_parts.proofs.ReadLemmas.{con-read, list-met, same-truth}
use Rattle.scasp_law_parts.proofs.TriangularLemmas.{more-triangular, solved-self}
use Rattle.scasp_list.specs.Each.{Each}
use Rattle.scasp_num.specs.Linear.{Linear, compares, is_zero}
use Rattle.scasp_num.specs.Number.{IsFraction, Number}
use Rattle.scasp_num.specs.Values.{numerator_under, row_sum}
use Rattle.scasp_num.specs.declared.linear.Coeff.{Coeff}
use Rattle.scasp_num.specs.declared.linear.Op.{Op}
use Rattle.scasp_num.proofs.Integers.{neg-*ℤ}
use Rattle.scasp_num.proofs.SameNumber.{same_number}
use Rattle.scasp_search_rules.specs.Successors.Reading.{among, con_under, holds_always}
use Rattle.scasp_syntax.specs.Constraints.{Sat, holds, is_number}
use Rattle.scasp_syntax.specs.RowTruth.{number_of, point}
use Rattle.scasp_syntax.specs.Tm.{Tm, var, num, app}
use Rattle.scasp_syntax.specs.Values.{Sub, under}
use Rattle.scasp_syntax.specs.View.{tm_of}
use Rattle.scasp_syntax.specs.declared.con.Con.{Con}
use Rattle.scasp_syntax.specs.declared.con.Con.TheVariants as con
use Rattle.scasp_syntax.specs.declared.term.Term.TheVariants.{Num as TermNum}
use Rattle.scasp_syntax.proofs.ConstraintLemmas.{number-decided}
use Rattle.scasp_unify.specs.Resolver.{Equal}
use Rattle.scasp_unify.specs.Solving.{sub_of}
use Rattle.scasp_unify.specs.Sorted.{is_typed, typed}
use Rattle.scasp_unify.specs.Unification.{then_by}
use Rattle.scasp_unify.specs.declared.bindings.Binding.{Binding}
use Rattle.scasp_unify.proofs.SolvingLemmas.{under-var}
use Rattle.scasp_unify.proofs.ValuationLemmas.{ground-under}
use Rattle.scasp_store.specs.Inside.Asking.{is_readable, one_var, read_by, told_by, told_var}
use Rattle.scasp_store.specs.Inside.Fixing.{AreFixed, IsOnly, Leaves, Says, counts_alone, left_by}
use Rattle.scasp_store.specs.Inside.Open.{IsNew}
use Rattle.scasp_store.proofs.AskLemmas.{all-read, alone_typed, either-among, goes_through, read-con}
use Rattle.scasp_store.proofs.TrueLemmas.{always}

-- ---- an equation of one variable

once : (a : ℤ) → a *ℤ pos 1 ≡ a
once a = omega (arith, ints)

never : (a : ℤ) → pos 0 *ℤ a ≡ pos 0
never a = omega (arith, ints)

plain : (a b : ℤ) → (a +ℤ pos 0) +ℤ b ≡ a +ℤ b
plain a b = omega (arith, ints)

turned : (a b : ℤ) → a +ℤ b ≡ pos 0 → a ≡ neg_ℤ b
turned a b e = omega (arith, ints, e)

zero-of : (z : ℤ) → is_zero z ≡ true → z ≡ pos 0
zero-of (pos zero) e = refl
zero-of (pos (suc n)) e = absurd (true≢false (sym e))
zero-of (negsuc n) e = absurd (true≢false (sym e))

one-sum : (c n d z : ℤ) → (c *ℤ n *ℤ pos 1 +ℤ pos 0 *ℤ d) +ℤ z *ℤ (d *ℤ pos 1) ≡ c *ℤ n +ℤ z *ℤ d
one-sum c n d z = (λ i. (once (c *ℤ n) i +ℤ never d i) +ℤ z *ℤ once d i) ∙ plain (c *ℤ n) (z *ℤ d)

-- the value of the variable is this fraction
fraction : (p : ℕ → Number) (r : Linear) (k : Coeff) → IsOnly r k → compares r.op (numerator_under p r) ≡ true → IsFraction (p k.x) (neg_ℤ r.constant) k.c
fraction p r k h e =
    let n : ℤ = (p k.x).num in
    let d : ℤ = (p k.x).den in
    let sum : numerator_under p r ≡ k.c *ℤ n +ℤ r.constant *ℤ d = ap (λ (ks : List Coeff). (row_sum p ks).0 +ℤ r.constant *ℤ (row_sum p ks).1) h.coeffs ∙ one-sum k.c n d r.constant in
    let met : is_zero (numerator_under p r) ≡ true = sym (ap (λ (o : Op). compares o (numerator_under p r)) h.op) ∙ e in
    let nothing : k.c *ℤ n +ℤ r.constant *ℤ d ≡ pos 0 = sym sum ∙ zero-of (numerator_under p r) met in
    *ℤ_comm n k.c ∙ turned (k.c *ℤ n) (r.constant *ℤ d) nothing ∙ sym (neg-*ℤ r.constant d)

pub only_one : (r : Linear) (k : Coeff) (q : Number) → IsOnly r k → k.c ≢ pos 0 → IsFraction q (neg_ℤ r.constant) k.c → Leaves [] (con.Row r) (record { x = k.x; term = TermNum q })
only_one r k q h n f = record {
  number = refl;
  only = λ v _ e g.
      let w = (number-decided (v k.x)).0 e in
      let same = same_number (point v k.x) q (neg_ℤ r.constant) k.c n (fraction (point v) r k h g) f in
      w.1 ∙ ap num (sym (ap number_of w.1) ∙ same);
}

-- ---- what is fixed

pub leaves_read : (fs : List Binding) (c : Con) (b : Binding) → Triangular fs → RowsNormal (c ∷ []) → is_readable (sub_of fs) c ≡ true → Leaves [] (con_under (sub_of fs) c) b → Leaves fs c b
leaves_read fs c b t n r l = record {
  number = l.number;
  only = λ v e g h.
      let read = con-read (sub_of fs) v c (absorbed (sub_of fs) fs (solved-self fs t)) (read-con (sub_of fs) c n r) in
      l.only v tt g (read ∙ ap (λ (w : Sub). holds w c) (goes_through v fs e) ∙ h);
}

var-number : (v : Sub) (y : ℕ) (t : Tm) → among y (one_var t) ≡ true → is_number (under v t) ≡ true → is_number (v y) ≡ true
var-number v y (var z) a h = by (nat_eq y z) refl a
  where
    by : (b : Bool) → nat_eq y z ≡ b → (b || false) ≡ true → is_number (v y) ≡ true
    by true k f = ap (λ x. is_number (v x)) (eqb-true y z k) ∙ h
    by false k f = absurd (true≢false (sym f))
var-number v y (num q) a h = absurd (true≢false (sym a))
var-number v y (app f ts) a h = absurd (true≢false (sym a))

one-number : (v : Sub) (y : ℕ) (c : Con) → among y (told_var var c) ≡ true → holds v c ≡ true → is_number (v y) ≡ true
one-number v y (con.Num t) a h = var-number v y (tm_of t) (ap (λ u. among y (one_var u)) (sym (under-var (tm_of t))) ∙ a) h
one-number v y (con.Row r) a h = absurd (true≢false (sym a))
one-number v y (con.Eq t u) a h = absurd (true≢false (sym a))
one-number v y (con.Neq t u) a h = absurd (true≢false (sym a))
one-number v y (con.NotShape x f n) a h = absurd (true≢false (sym a))
one-number v y (con.NotNum t) a h = absurd (true≢false (sym a))

-- a variable that is told is a number
told-number : (v : Sub) (y : ℕ) (cs : List Con) → among y (told_by var cs) ≡ true → list_all (holds v) cs ≡ true → is_number (v y) ≡ true
told-number v y [] a m = absurd (true≢false (sym a))
told-number v y (c ∷ cs) a m =
    let k = and_parts (holds v c) (list_all (holds v) cs) m in
    by (either-among y (told_var var c) (told_by var cs) a (among y (told_var var c)) refl) k.0 (λ e. told-number v y cs e k.1)
  where
    by : (among y (told_by var cs) ≡ true) ⊎ (among y (told_var var c) ≡ true) → holds v c ≡ true → (among y (told_by var cs) ≡ true → is_number (v y) ≡ true) → is_number (v y) ≡ true
    by (inl e) h rest = rest e
    by (inr e) h rest = one-number v y c e h

pub number-same : (v : Sub) (t : Tm) → is_number t ≡ true → under v t ≡ t
number-same v (var x) e = absurd (true≢false (sym e))
number-same v (num q) e = refl
number-same v (app f ts) e = absurd (true≢false (sym e))

pub each-more : (v : Sub) (fs : List Binding) (b : Binding) → Each (Equal v) (equations fs) → v b.x ≡ under v (tm_of b.term) → Each (Equal v) (equations (fs ++ b ∷ []))
each-more v [] b e g = (g, tt)
each-more v (f ∷ fs) b e g = (e.0, each-more v fs b e.1 g)

pub one_fixed : (cs : List Con) (c : Con) (ys : List ℕ) (fs : List Binding) (b : Binding) → among b.x ys ≡ true → IsNew fs b → Leaves fs c b → Says cs c → ys ≡ told_by var cs → AreFixed cs fs → AreFixed cs (fs ++ b ∷ [])
one_fixed cs c ys fs b a n l s t h = record {
  triangular = more-triangular fs b h.triangular n.0 n.1;
  follow = λ v m.
      let e = h.follow v m in
      let number = told-number v b.x cs (sym (ap (among b.x) t) ∙ a) m in
      each-more v fs b e (l.only v e number (s v m) ∙ sym (number-same v (tm_of b.term) l.number));
}

pub none_fixed : (cs : List Con) → AreFixed cs []
none_fixed cs = record { triangular = tt; follow = λ v m. tt }

pub says-there : (v : Sub) (cs : List Con) (i : ℕ) (c : Con) → Some c ≡ slice_get cs i → list_all (holds v) cs ≡ true → holds v c ≡ true
says-there v [] i c g m = absurd (cc g)
says-there v (d ∷ cs) zero c g m = let p : c ≡ d = cc in ap (holds v) p ∙ (and_parts (holds v d) (list_all (holds v) cs) m).0
says-there v (d ∷ cs) (suc i) c g m = says-there v cs i c g (and_parts (holds v d) (list_all (holds v) cs) m).1

pub says_at : (cs : List Con) (i : ℕ) (c : Con) → Some c ≡ slice_get cs i → Says cs c
says_at cs i c g = λ v m. says-there v cs i c g m

-- ---- what is left

left-alike : (v s : Sub) (cs : List Con) → list_all (holds v) (left_by s cs) ≡ list_all (holds v) (read_by s cs)
left-alike v s [] = refl
left-alike v s (c ∷ cs) = by (holds_always (con_under s c)) refl (left-alike v s cs)
  where
    by : (b : Bool) → holds_always (con_under s c) ≡ b → list_all (holds v) (left_by s cs) ≡ list_all (holds v) (read_by s cs) → list_all (holds v) ((if b then [] else con_under s c ∷ []) ++ left_by s cs) ≡ (holds v (con_under s c) && list_all (holds v) (read_by s cs))
    by true k e = e ∙ sym (ap (λ b. b && list_all (holds v) (read_by s cs)) (always (con_under s c) k v))
    by false k e = ap (λ b. holds v (con_under s c) && b) e

pub fixed_alike : (cs : List Con) (fs : List Binding) → AreFixed cs fs → RowsNormal cs → list_all (is_readable (sub_of fs)) cs ≡ true → is_typed cs ≡ true → counts_alone (left_by (sub_of fs) cs) ≡ true → sat (left_by (sub_of fs) cs) ≡ sat cs
fixed_alike cs fs h n r t u =
    let s : Sub = sub_of fs in
    let whole = sat-sorted cs (typed t) in
    let part = sat-sorted (left_by s cs) (typed (alone_typed (left_by s cs) u)) in
    let read = list-met s cs (absorbed s fs (solved-self fs h.triangular)) (all-read s cs n r) in
    same-truth (sat (left_by s cs)) (sat cs)
    (λ q. whole.1 (from (read.1 (more (part.0 q)))))
    (λ q. part.1 (fewer (read.0 (to (whole.0 q)))))
  where
    more : Sat (left_by (sub_of fs) cs) → Sat (read_by (sub_of fs) cs)
    more a = record { by = a.by; meets = sym (left-alike a.by.of (sub_of fs) cs) ∙ a.meets }

    fewer : Sat (read_by (sub_of fs) cs) → Sat (left_by (sub_of fs) cs)
    fewer a = record { by = a.by; meets = left-alike a.by.of (sub_of fs) cs ∙ a.meets }

    from : SatUnder (sub_of fs) cs → Sat cs
    from a = record {
      by = record { of = then_by (sub_of fs) a.by.of; ground = λ x. ground-under a.by.of (sub_of fs x) a.by.ground };
      meets = a.meets;
    }

    to : Sat cs → SatUnder (sub_of fs) cs
    to a = record { by = a.by; meets = subst (λ (v : Sub). list_all (holds v) cs ≡ true) (sym (goes_through a.by.of fs (h.follow a.by.of a.meets))) a.meets }
