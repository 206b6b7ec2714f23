-- A certificate that meets the premises of both laws, computed: r(X). ?- r(X). The answer V0, where V0 #> 0, with the sample 1.
use Rattle.std.specs.Prelude.{◌≡◌, true, pos, negsuc, List, [], ◌∷◌, None}
use Rattle.std.specs.List.{list_all}
use Rattle.std.proofs.Common.{refl}
use Rattle.scasp_num.specs.Arithmetic.{is_reduced, IsReduced-from_test, lowest, sum_of, product_of}
use Rattle.scasp_num.specs.Gcd.{gcd, gcd_within}
use Rattle.scasp_num.specs.Number.{Number, zero_number}
use Rattle.scasp_num.specs.declared.linear.Op.TheVariants as op
use Rattle.scasp_syntax.specs.Constraints.{holds}
use Rattle.scasp_syntax.specs.Tm.{Tm, var, num, items}
use Rattle.scasp_syntax.specs.Values.{giving}
use Rattle.scasp_syntax.specs.declared.atom.Atom.{Atom}
use Rattle.scasp_syntax.specs.declared.clause.Item.TheVariants.{Call}
use Rattle.scasp_syntax.specs.declared.con.Con.TheVariants as con
use Rattle.scasp_syntax.specs.declared.program.Program.{Program}
use Rattle.scasp_syntax.specs.declared.term.Term.TheVariants.{Var}
use Rattle.scasp_graph.specs.Map.{map_faults}
use Rattle.scasp_model.specs.Grounding.{is_domain}
use Rattle.scasp_cert.specs.Certificate.{Certificate}
use Rattle.scasp_cert.specs.Flat.{is_flat}
use Rattle.scasp_cert.specs.Trees.{pos_tree, listed}
use Rattle.scasp_sound.specs.MapLevels.{covered}
use Rattle.scasp_lines.specs.Said.{is_closed_over}
use Rattle.scasp_lines.specs.Samples.{atom, is_true, one, rule}
use Rattle.scasp_checker_rules.specs.ExampleWords.{program, refused_at, row}
use Rattle.scasp_checker_rules.specs.Faults.{faults}
use Rattle.scasp_checker_rules.specs.Refusals.{first}
use Rattle.scasp_checker_rules.specs.declared.refusal.Reason.TheVariants as reason
use Rattle.scasp_law_promise.specs.OwnRows.{has_normal_rows}

abbrev r : Atom
r = atom 2 (one (var 0))

abbrev anything : Program
anything = program (rule 1 r [] ∷ []) (record { body = Call (is_true r) ∷ []; names = None ∷ [] } ∷ []) refl

one-reduced : is_reduced (pos 1) (pos 1) ≡ true
unfolding gcd gcd_within
one-reduced = refl

abbrev one_number : Number
one_number = record { num = pos 1; den = pos 1; reduced = IsReduced-from_test (pos 1) (pos 1) one-reduced }

-- -V0 #< 0
abbrev above : Number → Certificate
above sample =
    record {
      query = 1;
      terms = one (var 0);
      given = con.Num (Var 0) ∷ con.Row (row 0 (negsuc 0) (pos 0) op.Lt) ∷ [];
      sample = one (num sample);
      trees = pos_tree r 1 (one (var 0)) (listed []) ∷ [];
      checks = [];
      clashes = [];
      map = [];
    }

abbrev c : Certificate
c = above one_number

accepted : faults anything c ≡ []
unfolding gcd gcd_within lowest sum_of product_of
accepted = refl

-- 0 is no instance
refused : first (faults anything (above zero_number)) ≡ refused_at 0 reason.Sample
unfolding gcd gcd_within lowest sum_of product_of
refused = refl

normal : has_normal_rows c ≡ true
unfolding gcd gcd_within
normal = refl

map_kept : map_faults anything (covered c) c.map ≡ []
map_kept = refl

flat : is_flat c ≡ true
flat = refl

-- the sample is an instance, for which the domain of 1 is closed
met : list_all (holds (giving (items c.sample))) c.given ≡ true
met = refl

abbrev numbers : List Tm
numbers = num one_number ∷ []

distinct : is_domain numbers ≡ true
distinct = refl

closed : is_closed_over anything c (giving (items c.sample)) numbers ≡ true
closed = refl
