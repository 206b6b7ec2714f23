-- The sample meets what is given also without the range of the numbers, and as a valuation of all variables.
use Rattle.std.proofs.Common.{◌≡◌, ◌∙◌, ℕ, zero, suc, Bool, true, nat_lt, Option, Some, None, List, [], ◌∷◌, refl, sym, arith}
use Rattle.std.specs.Prelude.{length}
use Rattle.std.specs.List.{list_all}
use Rattle.std.proofs.lemmas.Bool.{and_parts, and_from, ltb-true}
use Rattle.scasp_num.specs.Linear.{Linear}
use Rattle.scasp_num.specs.Number.{Number, zero_number}
use Rattle.scasp_num.proofs.Numbers.{lt_ltb}
use Rattle.scasp_syntax.specs.Constraints.{holds}
use Rattle.scasp_syntax.specs.Tm.{Tm, Tms, num, nil, cons, items}
use Rattle.scasp_syntax.specs.RowTruth.{row_holds}
use Rattle.scasp_syntax.specs.Values.{Sub, giving, is_ground, are_ground}
use Rattle.scasp_syntax.specs.declared.con.Con.{Con}
use Rattle.scasp_syntax.specs.declared.con.Con.TheVariants as con
use Rattle.scasp_syntax.specs.declared.program.Program.{Program}
use Rattle.scasp_cert.specs.Certificate.{Certificate}
use Rattle.scasp_lines.specs.Known.{is_con_known}
use Rattle.scasp_lines.proofs.KnownLemmas.{agree-con}
use Rattle.scasp_checker_rules.specs.Accepted.{AcceptsWhere}
use Rattle.scasp_checker_rules.specs.BoundedTruth.{bounded_sum, compares_so, holds_bounded}
use Rattle.scasp_checker_rules.specs.Faults.{is_free}
use Rattle.scasp_ground.proofs.RowLemmas.{row-tested}
use Rattle.scasp_law_instances.specs.Instances.{HasInstance}

-- ---- arithmetic in the range of the numbers is exact

row-exact : (v : Sub) (r : Linear) (o : Option Number) → o ≡ bounded_sum v r → compares_so r.op o ≡ true → row_holds v r ≡ true
row-exact v r None e h = absurd (cc h)
row-exact v r (Some sum) e h = sym (row-tested v r sum e) ∙ h

exact : (v : Sub) (c : Con) → holds_bounded v c ≡ true → holds v c ≡ true
exact v (con.Row r) h = row-exact v r (bounded_sum v r) refl h
exact v (con.Eq t u) h = h
exact v (con.Neq t u) h = h
exact v (con.NotShape x f n) h = h
exact v (con.Num t) h = h
exact v (con.NotNum t) h = h

-- ---- the sample with 0 for each variable behind it

abbrev sampled : List Tm → Sub
sampled [] x = num zero_number
sampled (t ∷ ts) zero = t
sampled (t ∷ ts) (suc x) = sampled ts x

same-at : (ts : List Tm) (x : ℕ) → nat_lt x (length ts) ≡ true → giving ts x ≡ sampled ts x
same-at [] x h = absurd (omega (arith, ltb-true x 0 h))
same-at (t ∷ ts) zero h = refl
same-at (t ∷ ts) (suc x) h = same-at ts x (let l = ltb-true (suc x) (length (t ∷ ts)) h in lt_ltb (omega (arith, l)))

ground-at : (ts : Tms) → are_ground ts ≡ true → (x : ℕ) → is_ground (sampled (items ts) x) ≡ true
ground-at nil h x = refl
ground-at (cons t ts) h zero = (and_parts (is_ground t) (are_ground ts) h).0
ground-at (cons t ts) h (suc x) = ground-at ts (and_parts (is_ground t) (are_ground ts) h).1 x

meets-all : (k : ℕ → Bool) (v w : Sub) → ((x : ℕ) → k x ≡ true → v x ≡ w x) → (cs : List Con) → list_all (is_con_known k) cs ≡ true
    → list_all (holds_bounded v) cs ≡ true → list_all (holds w) cs ≡ true
meets-all k v w same [] known h = refl
meets-all k v w same (c ∷ cs) known h =
    let a = and_parts (is_con_known k c) (list_all (is_con_known k) cs) known in
    let b = and_parts (holds_bounded v c) (list_all (holds_bounded v) cs) h in
    and_from (holds w c) (list_all (holds w) cs) (sym (agree-con k v w same c a.0) ∙ exact v c b.0) (meets-all k v w same cs a.1 b.1)

pub has-instance : (b : Bool) (p : Program) (c : Certificate) → AcceptsWhere b p c → HasInstance c
has-instance b p c h = record {
  by = record { of = sampled (items c.sample); ground = ground-at c.sample h.sample_ground };
  sampled = λ x l. sym (same-at (items c.sample) x l);
  meets = meets-all (is_free c) (giving (items c.sample)) (sampled (items c.sample)) (same-at (items c.sample)) c.given h.given_known h.sample_meets;
}
