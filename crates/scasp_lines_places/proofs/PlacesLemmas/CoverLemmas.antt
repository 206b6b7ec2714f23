-- Universals one by one, and what is inside a clause by its cover.
use Rattle.std.proofs.Common.{◌≡◌, ◌∙◌, ℕ, suc, ◌+◌, ◌-◌, ◌<◌, Bool, ap, arith}
use Rattle.scasp_syntax.specs.Flat.{flat_body}
use Rattle.scasp_syntax.specs.declared.clause.Clause.{Clause}
use Rattle.scasp_lines.specs.Bodies.{Inside, inside, is_bare}
use Rattle.scasp_lines.specs.Covers.{Cover, covering, value_of, with_universal, with_universals}
use Rattle.scasp_lines.specs.Openings.{Opening, bound_to}
use Rattle.scasp_lines.specs.Places.{Place, with_opened}

pub universals_step : (n x : ℕ) (c : Cover) → x < n → with_universals (n - x) x c ≡ with_universals (n - (x + 1)) (x + 1) (with_universal (bound_to c.bound x) x c)
universals_step n x c h =
    let e : n - x ≡ suc (n - (x + 1)) = omega arith in
    ap (λ m. with_universals m x c) e ∙ ap (λ y. with_universals (n - (x + 1)) y (with_universal (bound_to c.bound x) x c)) (omega arith)

-- what is inside a clause, by its cover
abbrev pub by_cover : Bool → Clause → Place → ℕ → Cover → Inside
by_cover is_check c here hidden cover =
    record {
      here = with_opened cover.opened hidden here;
      next = cover.next;
      body = record { items = flat_body c.body; head = c.head; is_check = is_check; bare = is_bare c; vars = c.vars; values = value_of cover.bound };
    }

pub inside-is : (is_check : Bool) (c : Clause) (o : Opening) (next : ℕ) (here : Place) (cover : Cover) → cover ≡ covering c.vars next o → by_cover is_check c here o.hidden cover ≡ inside is_check c o next here
inside-is is_check c o next here cover e = ap (by_cover is_check c here o.hidden) e
