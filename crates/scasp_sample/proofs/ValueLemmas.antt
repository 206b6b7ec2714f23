-- Values of variables, one by one.
use Rattle.std.specs.Prelude.{◌≡◌, ℕ, suc, ◌+◌, ◌-◌, ◌<◌, ◌≤◌, Bool, true, false, if◌then◌else◌, nat_eq, Some, List, [], ◌∷◌, ◌++◌}
use Rattle.std.specs.List.{list_any}
use Rattle.std.proofs.Common.{add-one, append_assoc, arith, ap, sym, ◌∙◌}
use Rattle.std.proofs.lemmas.List.{append-nil}
use Rattle.scasp_num.specs.Arithmetic.{◌>>=◌}
use Rattle.scasp_num.specs.declared.linear.RatPair.{RatPair}
use Rattle.scasp_rows.specs.Samples.{value_in}
use Rattle.scasp_syntax.proofs.TermLemmas.{items_inj}
use Rattle.scasp_syntax.specs.Tm.{Tm, Tms, num, app, nil, cons, items}
use Rattle.scasp_syntax.specs.declared.con.Con.{Con}
use Rattle.scasp_unify.specs.Numbers.{number_var}
use Rattle.scasp_sample.specs.Inside.Values.{is_one_of, name_behind, value_at}
use Rattle.scasp_sample.specs.Sampling.{evaluated, point_for, sample, values_from}

next : (is_number : ℕ → Bool) (point : List RatPair) (name x count : ℕ) → x < count
    → values_from is_number point name x (count - x) ≡ cons (value_at (is_number x) point name x) (values_from is_number point (name_behind (is_number x) name) (x + 1) (count - (x + 1)))
next is_number point name x count h =
    let e : count - x ≡ suc (count - (x + 1)) = omega (arith, h) in
    ap (values_from is_number point name x) e ∙ by (is_number x)
  where
    by : (b : Bool)
        → (if b then cons (num (value_in point x)) (values_from is_number point name (suc x) (count - (x + 1)))
        else cons (app name nil) (values_from is_number point (suc name) (suc x) (count - (x + 1))))
        ≡ cons (value_at b point name x) (values_from is_number point (name_behind b name) (x + 1) (count - (x + 1)))
    by true = ap (λ y. cons (num (value_in point x)) (values_from is_number point name y (count - (x + 1)))) (sym (add-one x))
    by false = λ i. cons (app name nil) (values_from is_number point (sym (add-one name) i) (sym (add-one x) i) (count - (x + 1)))

-- the value of one variable is put behind those before
pub value-put : (is_number : ℕ → Bool) (point : List RatPair) (name behind x count : ℕ) (old new : Tms) (all : List Tm) → x < count
    → items new ≡ items old ++ value_at (is_number x) point name x ∷ [] → behind ≡ name_behind (is_number x) name
    → items old ++ items (values_from is_number point name x (count - x)) ≡ all
    → items new ++ items (values_from is_number point behind (x + 1) (count - (x + 1))) ≡ all
value-put is_number point name behind x count old new all h e f i =
    let rest : List Tm = items (values_from is_number point (name_behind (is_number x) name) (x + 1) (count - (x + 1))) in
    (λ j. e j ++ items (values_from is_number point (f j) (x + 1) (count - (x + 1))))
    ∙ append_assoc (items old) (value_at (is_number x) point name x ∷ []) rest
    ∙ ap (λ ts. items old ++ items ts) (sym (next is_number point name x count h)) ∙ i

-- all of them are there
pub values-all : (is_number : ℕ → Bool) (point : List RatPair) (name fresh x count : ℕ) (made : Tms) → count ≤ x
    → items made ++ items (values_from is_number point name x (count - x)) ≡ items (values_from is_number point fresh 0 count)
    → made ≡ values_from is_number point fresh 0 count
values-all is_number point name fresh x count made h i =
    let e : count - x ≡ 0 = omega (arith, h) in
    items_inj made (values_from is_number point fresh 0 count)
    (sym (append-nil (items made)) ∙ ap (λ n. items made ++ items (values_from is_number point name x n)) (sym e) ∙ i)

-- where the rows can be evaluated at them, they are the sample
pub values-sample : (fresh count : ℕ) (cs : List Con) (numbers ns : List ℕ) (point p : List RatPair) (made : Tms) → Some point ≡ point_for cs → p ≡ point → ns ≡ numbers
    → ((y : ℕ) → list_any (λ z. nat_eq z y) numbers ≡ number_var cs y) → made ≡ values_from (is_one_of ns) p fresh 0 count → evaluated cs made ≡ sample fresh cs count
values-sample fresh count cs numbers ns point p made is e f h g =
    let test : is_one_of ns ≡ number_var cs = λ i y. (ap (λ zs. is_one_of zs y) f ∙ h y) i in
    ap (evaluated cs) (g ∙ (λ i. values_from (test i) (e i) fresh 0 count))
    ∙ ap (λ o. o >>= (λ point. evaluated cs (values_from (number_var cs) point fresh 0 count))) is
