-- What private functions alone speak of.
use Rattle.std.specs.Prelude.{not, List, filter, Option, None, Some, if◌then◌else◌}
use Rattle.std.specs.List.{flat_map, list_any}
use Rattle.scasp_cert.specs.Trees.{Tree}
use Rattle.scasp_lines.specs.Said.{Said, said_by_node, said_by_part}
use Rattle.scasp_lines.specs.Walk.{Part}
use Rattle.scasp_model.specs.Residual.{is_known_false, is_known_true}
use Rattle.scasp_syntax.specs.Values.{Sub}
use Rattle.scasp_syntax.specs.declared.atom.Atom.{Atom}
use Rattle.scasp_syntax.specs.declared.atom.Lit.{Lit}

-- what a node says at these values
abbrev pub node_says : Tree → List Sub → List Said
node_says t vs = flat_map (λ v. said_by_node v t) vs

-- what stands on a line says at these values
abbrev pub part_says : Part → List Sub → List Said
part_says part vs = flat_map (λ v. said_by_part v part) vs

-- the body without the literals that are true by the atoms t and the false atoms f; none where one of them is false
abbrev pub body_left : List Atom → List Atom → List Lit → Option (List Lit)
body_left t f body =
    if list_any (is_known_false t f) body then None else Some (filter (λ l. not (is_known_true t f l)) body)
