-- Lines whose variables and counts are within the limits of answer files.
use Rattle.std.specs.Prelude.{◌^◌, Bool, true, ◌&&◌}
use Rattle.std.specs.List.{list_all}
use Rattle.scasp_answers_terms.specs.Tokens.Bounds.{is_count, is_place}
use Rattle.scasp_answers_terms.specs.Tokens.Lines.{Line, header_line, ending_line, rejected_line, answer_line, given_line, sample_line, tree_line, check_line, clash_line, map_line, end_line, pos_line, neg_line, loop_line, seen_line, test_line, rule_line, split_line, void_line, leaf_line, head_line}
use Rattle.scasp_num.specs.declared.hints.Step.{Step}
use Rattle.scasp_syntax.specs.WellFormed.{are_below}
use Rattle.scasp_syntax.specs.declared.hint.Hint.{Hint}
use Rattle.scasp_syntax.specs.declared.hint.Hint.TheVariants as hint
use Rattle.scasp_unify.specs.Negations.{is_con_below}

-- the numbers of rows
abbrev pub has_rows : Step → Bool
has_rows s = is_count s.p && is_count s.q

abbrev pub has_counts : Hint → Bool
has_counts hint.Terms = true
has_counts (hint.Rows steps) = list_all has_rows steps
has_counts (hint.Same n lists) = is_count n && list_all (list_all has_rows) lists

-- variables, lines, rules and levels are below 2^63, all other counts below 2^64; of the integers of arithmetic nothing is asked
unfoldable pub has_places : Line → Bool
has_places (header_line v) = is_count v
has_places (ending_line e q) = is_count q
has_places (rejected_line q n at reason) = is_count q && is_count n && is_place at
has_places (answer_line q n ts) = is_count q && is_count n && are_below (2 ^ 63) ts
has_places (given_line c) = is_con_below (2 ^ 63) c
has_places (sample_line ts) = true
has_places tree_line = true
has_places (check_line k) = is_count k
has_places (clash_line c) = is_place c.first && is_place c.second && has_counts c.hint
has_places (map_line m) = is_count m.pred.arity && is_place m.level
has_places end_line = true
has_places (pos_line a rule ts) = are_below (2 ^ 63) a.args && is_place rule && are_below (2 ^ 63) ts
has_places (neg_line a) = are_below (2 ^ 63) a.args
has_places (loop_line l at) = are_below (2 ^ 63) l.atom.args && is_place at
has_places (seen_line l at) = are_below (2 ^ 63) l.atom.args && is_place at
has_places (test_line c h) = is_con_below (2 ^ 63) c && has_counts h
has_places (rule_line k) = is_place k
has_places (split_line c) = is_con_below (2 ^ 63) c
has_places (void_line h) = has_counts h
has_places (leaf_line k) = is_count k
has_places head_line = true
