-- Lists of terms that are still to be seen.
use Rattle.std.specs.Prelude.{ℕ, ◌+◌, Bool, List}
use Rattle.std.specs.Borrow.{Bor}
use Rattle.std.specs.List.{list_any, sum_by}
use Rattle.scasp_syntax.specs.Tm.{weight_s}
use Rattle.scasp_syntax.specs.View.{tms_of}
use Rattle.scasp_syntax.specs.declared.term.Term.{Term}
use Rattle.scasp_unify.specs.Parts.{occurs_among}

-- the variable stands in one of them
abbrev pub any_unseen : ℕ → List (Bor (List Term)) → Bool
any_unseen y ls = list_any (λ l. occurs_among y (tms_of l.now)) ls

-- what is left to do with them
abbrev pub work : List (Bor (List Term)) → ℕ
work ls = sum_by (λ l. weight_s (tms_of l.now) + 1) ls
