use Rattle.std.proofs.Common.{List, Option, Some, map, sym, subst, ap, ◌∙◌}
use Rattle.std.specs.Prelude.{option_map}
use Rattle.scasp_num.specs.Linear.{Gives}
use Rattle.scasp_syntax.specs.Values.{under}
use Rattle.scasp_syntax.specs.View.{tm_of}
use Rattle.scasp_unify.specs.Parts.{Part, parts}
use Rattle.scasp_unify.specs.Solving.{part_of, sub_of}
use Rattle.scasp_unify.specs.declared.bindings.Binding.{Binding}
use Rattle.scasp_unify.specs.declared.parts.Part.{Part as FoundPart}
use Rattle.scasp_project.specs.Choices.{options_by}
use Rattle.scasp_project.specs.Inside.CodeReading.{reading}
use Rattle.scasp_project.proofs.choices.sides_options.Goals as goal

pub returns-in-Some : goal.returns-in-Some
returns-in-Some c =
    subst (λ (o : Option (List Part)). Gives c.some_options.result (options_by (reading c.args.resolver.now c.args.keep.now) c.args.constraint.now o))
    (ap (λ (ps : List FoundPart). Some (map part_of ps)) c.as_slice-in-Some.ensures.value
    ∙ ap (option_map (λ v. map part_of v.items)) (sym c.in-Some.is)
    ∙ c.in_ok-resolved_sides.ensures
    ∙ ap (λ (bs : List Binding). parts (under (sub_of bs) (tm_of c.args.left.now)) (under (sub_of bs) (tm_of c.args.right.now))) c.as_slice.ensures.value)
    c.some_options.ensures
