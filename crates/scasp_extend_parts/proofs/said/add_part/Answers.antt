use Rattle.std.proofs.Common.{◌∙◌, true, false, List, ap, sym}
use Rattle.scasp_extend_instances.specs.View.{ways_of}
use Rattle.scasp_extend_levels.specs.Sets.{with_atoms}
use Rattle.scasp_lines.specs.Said.{Said, atoms_of}
use Rattle.scasp_lines_walk.specs.Traversal.View.{part_of}
use Rattle.scasp_lines_walk.specs.declared.traversal.parts.Part.{Part}
use Rattle.scasp_syntax.specs.Tm.{items}
use Rattle.scasp_extend_parts.specs.Inside.{part_says}
use Rattle.scasp_extend_parts.specs.Obstacles.{unless_closed}
use Rattle.scasp_extend_parts.proofs.SaidLemmas.{none-said}
use Rattle.scasp_extend_parts.proofs.said.add_part.Goals as goal

pub returns-in-Rule-clause-causes : goal.returns-in-Rule-clause-causes
returns-in-Rule-clause-causes c =
    let ws = ways_of c.args.ways.now in
    ap (unless_closed (items c.args.domain.now) c.args.line.now.at) (ap (λ (n : Part). part_says (part_of n) ws) c.in-Rule.is ∙ none-said ws)

pub returns-in-Rule-clause-trues : goal.returns-in-Rule-clause-trues
returns-in-Rule-clause-trues c =
    let ws = ways_of c.args.ways.now in
    ap (λ (ss : List Said). with_atoms c.args.told.now.trues (atoms_of true ss)) (sym (ap (λ (n : Part). part_says (part_of n) ws) c.in-Rule.is ∙ none-said ws))

pub returns-in-Rule-clause-falses : goal.returns-in-Rule-clause-falses
returns-in-Rule-clause-falses c =
    let ws = ways_of c.args.ways.now in
    ap (λ (ss : List Said). with_atoms c.args.told.now.falses (atoms_of false ss)) (sym (ap (λ (n : Part). part_says (part_of n) ws) c.in-Rule.is ∙ none-said ws))

pub returns-in-Check-clause-causes : goal.returns-in-Check-clause-causes
returns-in-Check-clause-causes c =
    let ws = ways_of c.args.ways.now in
    ap (unless_closed (items c.args.domain.now) c.args.line.now.at) (ap (λ (n : Part). part_says (part_of n) ws) c.in-Check.is ∙ none-said ws)

pub returns-in-Check-clause-trues : goal.returns-in-Check-clause-trues
returns-in-Check-clause-trues c =
    let ws = ways_of c.args.ways.now in
    ap (λ (ss : List Said). with_atoms c.args.told.now.trues (atoms_of true ss)) (sym (ap (λ (n : Part). part_says (part_of n) ws) c.in-Check.is ∙ none-said ws))

pub returns-in-Check-clause-falses : goal.returns-in-Check-clause-falses
returns-in-Check-clause-falses c =
    let ws = ways_of c.args.ways.now in
    ap (λ (ss : List Said). with_atoms c.args.told.now.falses (atoms_of false ss)) (sym (ap (λ (n : Part). part_says (part_of n) ws) c.in-Check.is ∙ none-said ws))

pub returns-in-Case-clause-causes : goal.returns-in-Case-clause-causes
returns-in-Case-clause-causes c =
    let ws = ways_of c.args.ways.now in
    ap (unless_closed (items c.args.domain.now) c.args.line.now.at) (ap (λ (n : Part). part_says (part_of n) ws) c.in-Case.is ∙ none-said ws)

pub returns-in-Case-clause-trues : goal.returns-in-Case-clause-trues
returns-in-Case-clause-trues c =
    let ws = ways_of c.args.ways.now in
    ap (λ (ss : List Said). with_atoms c.args.told.now.trues (atoms_of true ss)) (sym (ap (λ (n : Part). part_says (part_of n) ws) c.in-Case.is ∙ none-said ws))

pub returns-in-Case-clause-falses : goal.returns-in-Case-clause-falses
returns-in-Case-clause-falses c =
    let ws = ways_of c.args.ways.now in
    ap (λ (ss : List Said). with_atoms c.args.told.now.falses (atoms_of false ss)) (sym (ap (λ (n : Part). part_says (part_of n) ws) c.in-Case.is ∙ none-said ws))
