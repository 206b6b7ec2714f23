-- Lists whose rows are in normal form.
use Rattle.std.proofs.Common.{List, [], ◌∷◌, ◌++◌, sym, subst}
use Rattle.scasp_num.specs.Linear.{IsNormal, Linear}
use Rattle.scasp_num.proofs.NormalForms.{negation-IsNormal}
use Rattle.scasp_list.specs.Each.{Each}
use Rattle.scasp_list.proofs.EachLemmas.{Each-append, Each-left, Each-right}
use Rattle.scasp_syntax.specs.declared.con.Con.{Con}
use Rattle.scasp_syntax.specs.declared.con.Con.TheVariants as con
use Rattle.scasp_unify.specs.Negations.{negated}
use Rattle.scasp_hint.specs.AskedRows.{RowsNormal, given_rows}
use Rattle.scasp_checker_rules.proofs.NormalityLemmas.{rows-append}

pub normal-append : (cs ds : List Con) → RowsNormal cs → RowsNormal ds → RowsNormal (cs ++ ds)
normal-append cs ds a b = subst (λ (rs : List Linear). Each IsNormal rs) (sym (rows-append cs ds)) (Each-append IsNormal (given_rows cs) (given_rows ds) a b)

pub normal-left : (cs ds : List Con) → RowsNormal (cs ++ ds) → RowsNormal cs
normal-left cs ds a = Each-left IsNormal (given_rows cs) (given_rows ds) (subst (λ (rs : List Linear). Each IsNormal rs) (rows-append cs ds) a)

pub normal-right : (cs ds : List Con) → RowsNormal (cs ++ ds) → RowsNormal ds
normal-right cs ds a = Each-right IsNormal (given_rows cs) (given_rows ds) (subst (λ (rs : List Linear). Each IsNormal rs) (rows-append cs ds) a)

pub normal-negated : (c : Con) → RowsNormal (c ∷ []) → RowsNormal (negated 0 c ∷ [])
normal-negated (con.Eq t u) a = tt
normal-negated (con.Neq t u) a = tt
normal-negated (con.NotShape x f n) a = tt
normal-negated (con.Num t) a = tt
normal-negated (con.NotNum t) a = tt
normal-negated (con.Row r) a = (negation-IsNormal r a.0, tt)

-- ---- by the constraints

abbrev pub IsNormalCon : Con → Type 0
IsNormalCon c = RowsNormal (c ∷ [])

pub each-normal : (cs : List Con) → RowsNormal cs → Each IsNormalCon cs
each-normal [] n = tt
each-normal (c ∷ cs) n = (normal-left (c ∷ []) cs n, each-normal cs (normal-right (c ∷ []) cs n))

pub normal-each : (cs : List Con) → Each IsNormalCon cs → RowsNormal cs
normal-each [] n = tt
normal-each (c ∷ cs) n = normal-append (c ∷ []) cs n.0 (normal-each cs n.1)
