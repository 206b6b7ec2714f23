-- Terms whose variables are known.
use Rattle.std.proofs.Common.{◌≡◌, ℕ, Bool, true, false, not, ◌&&◌, ◌||◌, List, nat_lt, Bor, refl}
use Rattle.scasp_syntax.specs.Tm.{Tm, Tms, var, num, app, nil, cons}
use Rattle.scasp_syntax.specs.View.{tms_of}
use Rattle.scasp_syntax.specs.WellFormed.{is_below, are_below}
use Rattle.scasp_syntax.specs.declared.term.Term.{Term}
use Rattle.scasp_lines.specs.Known.{is_known, are_known}
use Rattle.scasp_checker_rules.specs.Splits.{has_any, have_any}

mutual
  pub one_below_known : (n : ℕ) (t : Tm) → is_known (λ x. nat_lt x n) t ≡ is_below n t
  one_below_known n (var x) = refl
  one_below_known n (num q) = refl
  one_below_known n (app f ts) = below_known n ts

  pub below_known : (n : ℕ) (ts : Tms) → are_known (λ x. nat_lt x n) ts ≡ are_below n ts
  below_known n nil = refl
  below_known n (cons t ts) = let e = one_below_known n t in let f = below_known n ts in rw (e, f) refl

-- each variable of the list is known
abbrev pub is_list_known : (ℕ → Bool) → Bor (List Term) → Bool
is_list_known known l = are_known known (tms_of l.now)

-- ---- a known variable stands in it, where not each is unknown

twice : (b : Bool) → b ≡ not (not b)
twice true = refl
twice false = refl

not-and : (a b c d : Bool) → c ≡ not a → d ≡ not b → (c || d) ≡ not (a && b)
not-and true b c d e f = rw e f
not-and false b c d e f = rw e refl

mutual
  pub any-known : (known : ℕ → Bool) (t : Tm) → has_any known t ≡ not (is_known (λ x. not (known x)) t)
  any-known known (var x) = twice (known x)
  any-known known (num q) = refl
  any-known known (app f ts) = any-of-known known ts

  any-of-known : (known : ℕ → Bool) (ts : Tms) → have_any known ts ≡ not (are_known (λ x. not (known x)) ts)
  any-of-known known nil = refl
  any-of-known known (cons t ts) = not-and (is_known (λ x. not (known x)) t) (are_known (λ x. not (known x)) ts) _ _ (any-known known t) (any-of-known known ts)
