use Rattle.std.proofs.Common.{◌≡◌, ◌++◌, true, map, filter, List, sym, ap, subst, ◌∙◌}
use Rattle.scasp_syntax.specs.Denials.{denial_of, with_denials}
use Rattle.scasp_syntax.specs.WellFormed.{are_well_formed}
use Rattle.scasp_syntax.specs.declared.atom.Pred.{Pred}
use Rattle.scasp_syntax.specs.declared.clause.Clause.{Clause}
use Rattle.scasp_reader.proofs.ProgramsLemmas.DenialLemmas.{with_denials-well_formed}
use Rattle.scasp_reader.proofs.programs.reading.completed.Goals as goal

pub invariant_of-result : goal.invariant_of-result
invariant_of-result c =
    let w = c.args.written in
    let h : are_well_formed w.clauses w.queries ≡ true = w.well_formed in
    let e : c.push_denials.new.clauses ≡ with_denials w.clauses w.queries =
    c.in_ok-push_denials.ensures ∙ ap (λ (ps : List Pred). w.clauses ++ map denial_of (filter (λ (p : Pred). p.minus) ps)) (c.as_slice.ensures ∙ c.in_ok-preds.ensures) in
    record {
      well_formed = subst (λ (cs : List Clause). are_well_formed cs w.queries ≡ true) (sym e) (with_denials-well_formed w.clauses w.queries h);
      choices = w.choices;
    }
