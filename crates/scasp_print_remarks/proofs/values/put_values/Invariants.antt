use Rattle.std.proofs.Common.{◌≡◌, ◌++◌, drop}
use Rattle.std.specs.Prelude.{flat_map}
use Rattle.scasp_syntax.specs.View.{tms_of}
use Rattle.scasp_unify.specs.Solving.{sub_of}
use Rattle.scasp_print_remarks.specs.Remarks.{value_line, values_of}
use Rattle.scasp_print_remarks.proofs.values.put_values.Given as goal

abbrev pub invariant-loop-variable : goal.invariant-loop-variable
invariant-loop-variable l =
    l.out.items ++ flat_map (value_line l.names (sub_of l.numbers)) (values_of (drop l.variable-index l.variables) (tms_of l.rest))
    ≡ l.fn.out.items ++ flat_map (value_line l.names (sub_of l.numbers)) (values_of l.variables (tms_of l.terms))
