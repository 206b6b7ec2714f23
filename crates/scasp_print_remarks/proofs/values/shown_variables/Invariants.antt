use Rattle.std.proofs.Common.{◌≡◌, ◌++◌, drop}
use Rattle.scasp_syntax.specs.View.{tms_of}
use Rattle.scasp_print_remarks.specs.Remarks.{shown_variables, values_of}
use Rattle.scasp_print_remarks.proofs.values.shown_variables.Given as goal

abbrev pub invariant-loop-variable : goal.invariant-loop-variable
invariant-loop-variable l =
    l.found ++ shown_variables (values_of (drop l.variable-index l.variables) (tms_of l.rest))
    ≡ shown_variables (values_of l.variables (tms_of l.terms))
