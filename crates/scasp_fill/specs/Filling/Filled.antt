-- A filled tree: each hint and each clash line that it needs is found.
use Rattle.std.specs.Prelude.{ℕ, Bool, true, false, ◌&&◌, ◌||◌, is_some, if◌then◌else◌, Option, None, Some, List, [], ◌∷◌}
use Rattle.std.specs.List.{flat_map, list_all}
use Rattle.scasp_syntax.specs.Programs.{numbered}
use Rattle.scasp_syntax.specs.declared.con.Con.{Con}
use Rattle.scasp_syntax.specs.declared.hint.Hint.{Hint}
use Rattle.scasp_syntax.specs.declared.hint.Hint.TheVariants as hints
use Rattle.scasp_syntax.specs.declared.program.Program.{Program}
use Rattle.scasp_cert.specs.Certificate.{Certificate}
use Rattle.scasp_cert.specs.declared.certificate.Clash.{Clash}
use Rattle.scasp_hint.specs.Finding.{Found, hint, nothing, unknown_list}
use Rattle.scasp_hint_steps.specs.Pruned.{found_pruned}
use Rattle.scasp_hint.specs.Showing.{fault_of}
use Rattle.scasp_lines.specs.Lines.{lines, free_of}
use Rattle.scasp_lines.specs.Walk.{Line}
use Rattle.scasp_checker_rules.specs.PairLists.{pair_list}
use Rattle.scasp_checker_rules.specs.Pairs.{all_pairs}
use Rattle.scasp_checker_rules.specs.Told.{Told, all_told}
use Rattle.scasp_search_rules.specs.Successors.Answers.{hint_lists, part_lists}
use Rattle.scasp_fill.specs.Filling.Hinted.{shown_by}

-- ---- the hints that are found

abbrev pub hint_of : Found → Option Hint
hint_of nothing = None
hint_of unknown_list = None
hint_of (hint h) = Some h

abbrev pub or_terms : Option Hint → Hint
or_terms None = hints.Terms
or_terms (Some h) = h

-- what is found for the list that a line asks, if it asks one
abbrev pub hint_for : List (List Con) → Hint
hint_for [] = hints.Terms
hint_for (cs ∷ more) = or_terms (hint_of (found_pruned cs))

abbrev pub hint_at : List Con → Option Line → Hint
hint_at given None = hints.Terms
hint_at given (Some l) = hint_for (part_lists given l.here l.part)

-- the hint that is found for the line with this number; Terms where there is none
abbrev pub found_on : Program → Certificate → ℕ → Hint
found_on p c n = hint_at c.given (numbered (lines p c) n)

-- ---- the clash lines that are found

abbrev pub clash_by : ℕ → ℕ → Option Hint → List Clash
clash_by first second None = []
clash_by first second (Some h) = record { first = first; second = second; hint = h } ∷ []

abbrev pub clash_or : ℕ → ℕ → Option Hint → List Clash → List Clash
clash_or first second None other = other
clash_or first second (Some h) other = clash_by first second (Some h)

-- no line where the terms show the pair apart; else one by the pair's list, or by the list of the two the other way round
abbrev pub clash_for : ℕ → List Con → Told × Told → List Clash
clash_for free given ab =
    if is_some (fault_of (pair_list free given ab.0 ab.1) hints.Terms)
    then clash_or ab.0.at ab.1.at (hint_of (found_pruned (pair_list free given ab.0 ab.1))) (clash_by ab.1.at ab.0.at (hint_of (found_pruned (pair_list free given ab.1 ab.0))))
    else []

abbrev pub clashes_found : Program → Certificate → List Clash
clashes_found p c = flat_map (clash_for (free_of c) c.given) (all_pairs (all_told (lines p c)))

-- ---- the filled certificate

abbrev pub filled : Program → Certificate → Certificate
filled p c = shown_by (found_on p c) (clashes_found p c) c

-- ---- whether it is known that nothing else serves

-- the list does not overflow
abbrev pub is_known : Found → Bool
is_known nothing = true
is_known unknown_list = false
is_known (hint h) = true

-- of the two lists of a pair one has a hint, or neither overflows
abbrev pub is_either_known : Found → Found → Bool
is_either_known one other = is_some (hint_of one) || is_some (hint_of other) || (is_known one && is_known other)

abbrev pub is_pair_known : ℕ → List Con → Told × Told → Bool
is_pair_known free given ab = is_either_known (found_pruned (pair_list free given ab.0 ab.1)) (found_pruned (pair_list free given ab.1 ab.0))

-- no list overflows that could hide a hint or a clash line
abbrev pub is_filling_known : Program → Certificate → Bool
is_filling_known p c =
    list_all (λ cs. is_known (found_pruned cs)) (hint_lists p c)
    && list_all (is_pair_known (free_of c) c.given) (all_pairs (all_told (lines p c)))
