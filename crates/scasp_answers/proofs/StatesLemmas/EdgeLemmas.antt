-- Lines of a tree don't stand at the left edge.
use Rattle.std.proofs.Common.{◌≡◌, true, None, refl}
use Rattle.std.specs.Prelude.{◌||◌}
use Rattle.scasp_answers_terms.specs.Tokens.Lines.{Line, header_line, ending_line, rejected_line, answer_line, given_line, sample_line, tree_line, check_line, clash_line, map_line, end_line, pos_line, neg_line, loop_line, seen_line, test_line, rule_line, split_line, void_line, leaf_line, head_line}
use Rattle.scasp_answers.specs.Blocks.Open.{is_node, is_cover, is_case}
use Rattle.scasp_answers.specs.Blocks.States.{State, Phase, at_start, between, in_given, in_sample, in_tree, in_clashes, in_map, at_edge}

-- the line stands nowhere, whatever the phase
abbrev Nowhere : State → Line → Phase → Type 0
Nowhere s l phase = at_edge s phase l ≡ None

by_phase : (P : Phase → Type 0) → P at_start → P between → P in_given → P in_sample → P in_tree → P in_clashes → P in_map → (phase : Phase) → P phase
by_phase P a b c d e f g at_start = a
by_phase P a b c d e f g between = b
by_phase P a b c d e f g in_given = c
by_phase P a b c d e f g in_sample = d
by_phase P a b c d e f g in_tree = e
by_phase P a b c d e f g in_clashes = f
by_phase P a b c d e f g in_map = g

pub out_of_order : (s : State) (phase : Phase) (l : Line) → (is_node l || (is_cover l || is_case l)) ≡ true → at_edge s phase l ≡ None
out_of_order s phase (pos_line a k ts) q = by_phase (Nowhere s (pos_line a k ts)) refl refl refl refl refl refl refl phase
out_of_order s phase (neg_line a) q = by_phase (Nowhere s (neg_line a)) refl refl refl refl refl refl refl phase
out_of_order s phase (loop_line l n) q = by_phase (Nowhere s (loop_line l n)) refl refl refl refl refl refl refl phase
out_of_order s phase (seen_line l n) q = by_phase (Nowhere s (seen_line l n)) refl refl refl refl refl refl refl phase
out_of_order s phase (test_line c h) q = by_phase (Nowhere s (test_line c h)) refl refl refl refl refl refl refl phase
out_of_order s phase (rule_line k) q = by_phase (Nowhere s (rule_line k)) refl refl refl refl refl refl refl phase
out_of_order s phase (split_line c) q = by_phase (Nowhere s (split_line c)) refl refl refl refl refl refl refl phase
out_of_order s phase (void_line h) q = by_phase (Nowhere s (void_line h)) refl refl refl refl refl refl refl phase
out_of_order s phase (leaf_line k) q = by_phase (Nowhere s (leaf_line k)) refl refl refl refl refl refl refl phase
out_of_order s phase head_line q = by_phase (Nowhere s head_line) refl refl refl refl refl refl refl phase
out_of_order s phase (header_line v) q = cc
out_of_order s phase (ending_line e n) q = cc
out_of_order s phase (rejected_line m n at why) q = cc
out_of_order s phase (answer_line m n ts) q = cc
out_of_order s phase (given_line c) q = cc
out_of_order s phase (sample_line ts) q = cc
out_of_order s phase tree_line q = cc
out_of_order s phase (check_line k) q = cc
out_of_order s phase (clash_line k) q = cc
out_of_order s phase (map_line m) q = cc
out_of_order s phase end_line q = cc
