use Rattle.std.proofs.Common.{◌≡◌, ◌++◌, refl, ap, ◌∙◌}
use Rattle.std.specs.List.{flat_map}
use Rattle.scasp_syntax.specs.WellFormed.{are_abducible, are_well_formed}
use Rattle.scasp_abduce.specs.Occurrences.{names_of}
use Rattle.scasp_abduce.specs.Translation.{Opposed, choice_rules, opposed}
use Rattle.scasp_abduce.proofs.OpposedLemmas.{none-assumed, opposed-same}
use Rattle.scasp_abduce.proofs.RuleLemmas.{with_rules-well_formed}
use Rattle.scasp_abduce.proofs.translation.translate.Goals as goal

pub invariant_of-translated : goal.invariant_of-translated
invariant_of-translated c = record {
  well_formed = ap (λ cs. are_well_formed cs c.args.program.queries) c.in_ok-push_choices.ensures.clauses ∙ with_rules-well_formed c.args.program.clauses c.args.program.queries (opposed c.in_ok-taken.taken c.args.names c.as_slice.result.now).choices c.args.program.well_formed;
  choices = ap are_abducible c.new-abducibles.ensures;
}

pub returns-then-is_empty : goal.returns-then-is_empty
returns-then-is_empty c = none-assumed c.args.names c.args.program (c.is_empty.ensures.0 c.if-is_empty.true)

pub returns : goal.returns
returns c =
    let p = c.args.program in
    let own = names_of p.clauses p.queries p.abducibles in
    let same : opposed c.in_ok-taken.taken c.args.names c.as_slice.result.now ≡ opposed own c.args.names p.abducibles =
    ap (opposed c.in_ok-taken.taken c.args.names) c.as_slice.ensures ∙ opposed-same c.in_ok-taken.taken own c.in_ok-taken.ensures c.args.names p.abducibles in
    record {
      clauses = c.in_ok-push_choices.ensures.clauses ∙ ap (λ (o : Opposed). p.clauses ++ flat_map choice_rules o.choices) same;
      queries = refl;
      abducibles = c.new-abducibles.ensures;
      names = c.in_ok-push_choices.ensures.names ∙ ap (λ (o : Opposed). o.names) same;
    }
