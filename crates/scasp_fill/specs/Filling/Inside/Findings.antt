-- What is found for lists of constraints.
use Rattle.std.specs.Prelude.{Bool, Option, None, Some, List, [], ◌∷◌}
use Rattle.std.specs.List.{flat_map, list_all}
use Rattle.scasp_hint.specs.Finding.{Found, hint, nothing, unknown_list}
use Rattle.scasp_hint_steps.specs.Pruned.{found_pruned}
use Rattle.scasp_lines.specs.Walk.{Line}
use Rattle.scasp_search_rules.specs.Successors.Answers.{part_lists}
use Rattle.scasp_syntax.specs.declared.con.Con.{Con}
use Rattle.scasp_fill.specs.Filling.Filled.{is_known}
use Rattle.scasp_fill.specs.declared.filling.finding.Finding.{Finding}
use Rattle.scasp_fill.specs.declared.filling.finding.Finding.TheVariants as finding

abbrev pub found_of : Finding → Found
found_of (finding.Shown h) = hint h
found_of finding.Nothing = nothing
found_of finding.Unknown = unknown_list

-- a list, if there is one
abbrev pub lists_in : Option (List Con) → List (List Con)
lists_in None = []
lists_in (Some cs) = cs ∷ []

-- no list of these overflows
abbrev pub all_known : List (List Con) → Bool
all_known lists = list_all (λ cs. is_known (found_pruned cs)) lists

-- the lists that a line asks, and those that lines ask
abbrev pub lists_at : List Con → Line → List (List Con)
lists_at given l = part_lists given l.here l.part

abbrev pub lists_asked : List Con → List Line → List (List Con)
lists_asked given ls = flat_map (λ l. part_lists given l.here l.part) ls
