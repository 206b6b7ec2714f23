-- What replacing a variable and making a normal form keep: the normal form, and how the row compares with 0.
use Rattle.std.proofs.Common.{◌≡◌, ℕ, ℤ, pos, ◌+ℤ◌, ◌*ℤ◌, unsigned_abs, int_div, Some, List, [], refl, sym, ap, subst, ◌∙◌}
use Rattle.scasp_list.specs.Each.{Each}
use Rattle.scasp_num.specs.declared.linear.Coeff.{Coeff}
use Rattle.scasp_num.specs.declared.linear.Op.{Op}
use Rattle.scasp_num.specs.declared.linear.RatPair.{RatPair}
use Rattle.scasp_num.specs.Number.{Number, InRange}
use Rattle.scasp_num.specs.Arithmetic.{◌>>=◌, within}
use Rattle.scasp_num.specs.Linear.{Linear, Ascends, IsNormal, normal_form, coefficient, others_times, put_constant, put_of, merged, join_of}
use Rattle.scasp_num.specs.Sums.{normal_of, summed, multiple, whole, whole_number}
use Rattle.scasp_num.proofs.Numbers.{within-some}
use Rattle.scasp_num.proofs.Exact.{bind-some}
use Rattle.scasp_num.proofs.NormalForms.{normal_form-IsNormal}
use Rattle.scasp_num.proofs.Puts.{others_times-range, others_times-Ascends}
use Rattle.scasp_num.proofs.Joins.{merged-range, merged-Ascends, coefficient-range}
use Rattle.scasp_num.proofs.Wholes.{summed-Rises, whole-Ascends, whole-range}

-- the whole row of which a normal form is made
pub record IsNormalOf (o : Op) (row : Linear) : Type 0 where
  pub coeffs : List Coeff
  pub constant : ℤ
  pub ascending : Ascends coeffs
  pub range : Each (λ k. InRange k.c) coeffs
  pub constant_range : InRange constant
  pub made : row ≡ normal_form (record { coeffs = coeffs; constant = constant; op = o })

normal_form-op : (r : Linear) → (normal_form r).op ≡ r.op
unfolding normal_form
normal_form-op r = refl

kept-op : {o : Op} {row : Linear} → IsNormalOf o row → row.op ≡ o
kept-op {o} p = ap (λ (r : Linear). r.op) p.made ∙ normal_form-op (record { coeffs = p.coeffs; constant = p.constant; op = o })

kept-IsNormal : {o : Op} {row : Linear} → IsNormalOf o row → IsNormal row
kept-IsNormal {o} p =
    subst IsNormal (sym p.made) (normal_form-IsNormal (record { coeffs = p.coeffs; constant = p.constant; op = o }) p.ascending p.constant_range p.range)

-- ---- of pairs

pub normal_of-parts : (pairs : List RatPair) (q : Number) (o : Op) (row : Linear) → Some row ≡ normal_of pairs q o → IsNormalOf o row
unfolding normal_of
normal_of-parts pairs q o row e =
    let f = λ (coeffs : List Coeff) (constant : ℤ). Some (normal_form (record { coeffs = coeffs; constant = constant; op = o })) in
    let s = bind-some (summed [] pairs) (λ sums. multiple q.den sums >>= (λ n. whole n sums >>= (λ cs. whole_number n q >>= (λ c. f cs c)))) row e in
    let n = bind-some (multiple q.den s.0) (λ n. whole n s.0 >>= (λ cs. whole_number n q >>= (λ c. f cs c))) row s.2 in
    let w = bind-some (whole n.0 s.0) (λ cs. whole_number n.0 q >>= (λ c. f cs c)) row n.2 in
    let c = bind-some (whole_number n.0 q) (λ c. f w.0 c) row w.2 in
    let made : row ≡ normal_form (record { coeffs = w.0; constant = c.0; op = o }) = cc in
    record {
      coeffs = w.0;
      constant = c.0;
      ascending = whole-Ascends n.0 s.0 w.0 w.1 (summed-Rises [] pairs s.0 s.1 tt);
      range = whole-range n.0 s.0 w.0 w.1;
      constant_range = (within-some c.0 (q.num *ℤ int_div n.0 (pos (unsigned_abs q.den))) c.1).1;
      made = made;
    }

pub normal_of-op : (pairs : List RatPair) (q : Number) (o : Op) (row : Linear) → Some row ≡ normal_of pairs q o → row.op ≡ o
normal_of-op pairs q o row e = kept-op (normal_of-parts pairs q o row e)

pub normal_of-IsNormal : (pairs : List RatPair) (q : Number) (o : Op) (row : Linear) → Some row ≡ normal_of pairs q o → IsNormal row
normal_of-IsNormal pairs q o row e = kept-IsNormal (normal_of-parts pairs q o row e)

-- ---- with a number for a variable

put_of-parts : (r row : Linear) (x : ℕ) (q : Number) → IsNormal r → Some row ≡ put_of r x q → IsNormalOf r.op row
unfolding put_of
put_of-parts r row x q n e =
    let f = λ (coeffs : List Coeff) (constant : ℤ). Some (normal_form (record { coeffs = coeffs; constant = constant; op = r.op })) in
    let a = bind-some (others_times q.den x r.coeffs) (λ others. put_constant r x q >>= (λ c. f others c)) row e in
    let b = bind-some (put_constant r x q) (λ c. f a.0 c) row a.2 in
    let made : row ≡ normal_form (record { coeffs = a.0; constant = b.0; op = r.op }) = cc in
    record {
      coeffs = a.0;
      constant = b.0;
      ascending = others_times-Ascends q.den x r.coeffs a.0 a.1 n.ascending;
      range = others_times-range q.den x r.coeffs a.0 a.1 n.range;
      constant_range = constant-range b.0 b.1;
      made = made;
    }
  where
    constant-range : (c : ℤ) → Some c ≡ put_constant r x q → InRange c
    constant-range c e =
        let right = coefficient x r.coeffs *ℤ q.num in
        let a = bind-some (within (q.den *ℤ r.constant)) (λ l. within right >>= (λ k. within (l +ℤ k))) c e in
        let b = bind-some (within right) (λ k. within (a.0 +ℤ k)) c a.2 in
        (within-some c (a.0 +ℤ b.0) b.2).1

pub put_of-op : (r row : Linear) (x : ℕ) (q : Number) → IsNormal r → Some row ≡ put_of r x q → row.op ≡ r.op
put_of-op r row x q n e = kept-op (put_of-parts r row x q n e)

pub put_of-IsNormal : (r row : Linear) (x : ℕ) (q : Number) → IsNormal r → Some row ≡ put_of r x q → IsNormal row
put_of-IsNormal r row x q n e = kept-IsNormal (put_of-parts r row x q n e)

-- ---- with a variable for a variable

join_of-parts : (r row : Linear) (x y : ℕ) → IsNormal r → Some row ≡ join_of r x y → IsNormalOf r.op row
unfolding join_of
join_of-parts r row x y n e =
    let f = λ (coeffs : List Coeff). Some (normal_form (record { coeffs = coeffs; constant = r.constant; op = r.op })) in
    let a = bind-some (others_times (pos 1) x r.coeffs) (λ others. merged y (coefficient x r.coeffs) others >>= f) row e in
    let b = bind-some (merged y (coefficient x r.coeffs) a.0) f row a.2 in
    let made : row ≡ normal_form (record { coeffs = b.0; constant = r.constant; op = r.op }) = cc in
    let range = coefficient-range x r.coeffs n.range in
    record {
      coeffs = b.0;
      constant = r.constant;
      ascending = merged-Ascends y (coefficient x r.coeffs) range a.0 b.0 b.1 (others_times-Ascends (pos 1) x r.coeffs a.0 a.1 n.ascending);
      range = merged-range y (coefficient x r.coeffs) range a.0 b.0 b.1 (others_times-range (pos 1) x r.coeffs a.0 a.1 n.range);
      constant_range = n.constant_range;
      made = made;
    }

pub join_of-op : (r row : Linear) (x y : ℕ) → IsNormal r → Some row ≡ join_of r x y → row.op ≡ r.op
join_of-op r row x y n e = kept-op (join_of-parts r row x y n e)

pub join_of-IsNormal : (r row : Linear) (x y : ℕ) → IsNormal r → Some row ≡ join_of r x y → IsNormal row
join_of-IsNormal r row x y n e = kept-IsNormal (join_of-parts r row x y n e)
