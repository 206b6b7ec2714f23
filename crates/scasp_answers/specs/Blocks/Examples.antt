-- Small files, read from their bytes, and files with a fault of each kind.
use Rattle.std.specs.Prelude.{◌≡◌, ℕ, true, false, List, [], ◌∷◌, ◌++◌, codes, Option, None, Some, Result, Ok, Err}
use Rattle.std.proofs.Common.{refl}
use Rattle.scasp_syntax.specs.Tm.{nil}
use Rattle.scasp_syntax.specs.declared.term.Term.TheVariants.{Var, App}
use Rattle.scasp_syntax.specs.declared.con.Con.TheVariants as con
use Rattle.scasp_syntax.specs.declared.hint.Hint.TheVariants as hint
use Rattle.scasp_cert.specs.Trees.{Tree, pos_tree, loop_tree, neg_tree, test_tree, no_tree, tree, split, void, leaf, head, no_branch, branch}
use Rattle.scasp_answers_terms.specs.Tokens.Tokens.{tokens_in}
use Rattle.scasp_answers_terms.specs.Tokens.Readers.{past_text}
use Rattle.scasp_answers_terms.specs.Tokens.Terms.{terms_at, atom_of, lit_of}
use Rattle.scasp_answers_terms.specs.Tokens.Lines.{ended, pos_line, tree_line}
use Rattle.scasp_answers_terms.specs.Tokens.Bounds.{line_fits}
use Rattle.scasp_answers_terms.specs.Tokens.Forms.{line_in, line_at}
use Rattle.scasp_answers.specs.Blocks.States.{Entry, block, ended_entry, in_tree, first_state, started, opened, next_state}
use Rattle.scasp_answers.specs.Blocks.Files.{fault, Versioned, line_judged, file_in}
use Rattle.scasp_answers.specs.declared.blocks.version.Version.TheVariants as version
use Rattle.scasp_answers.specs.declared.blocks.fault.AnswerKind.{AnswerKind}
use Rattle.scasp_answers.specs.declared.blocks.fault.AnswerKind.TheVariants as kind

abbrev names : List (List ℕ)
names = codes "[]" ∷ codes "[|]" ∷ codes "p" ∷ []

-- the bytes are a file of these entries
abbrev Reads : List ℕ → List Entry → Type 0
Reads bytes entries = file_in names bytes ≡ Ok entries

-- the bytes are none, by this fault
abbrev Faults : List ℕ → ℕ → AnswerKind → Type 0
Faults bytes at k = file_in names bytes ≡ fault at k

abbrev start : List ℕ
start = codes "scasp 1\nanswer 1.1 []\nsample []\ntree\n"

-- ---- files

-- remarks may stand anywhere
one_block : Reads (codes "% made by hand\n" ++ start ++ codes "% below tree\n pos p rule 1 []\nend\nended 1\n")
    (block 1 (record (started 1 nil) { trees = pos_tree (atom_of false 2 nil) 1 nil no_tree ∷ [] }) ∷ ended_entry ended 1 ∷ [])
unfolding file_in line_in line_at tokens_in past_text terms_at line_fits next_state
one_block = refl

no_block : Reads (codes "scasp 1\n") []
unfolding file_in line_in line_at tokens_in past_text terms_at line_fits next_state
no_block = refl

-- the case of a negated literal, whose second side has a node; a check, and a clash
all_depths : Reads (start ++ codes " neg p\n  rule 2\n   split V0 \\= p\n    void terms\n    leaf 1\n     test V0 = p terms\ncheck 1\n head\nclash 1 2 terms\nend\n")
    (block 1 (record (started 1 nil) {
      trees = neg_tree (atom_of false 2 nil) (branch 2 (split (con.NotShape 0 2 0) (void hint.Terms) (leaf 1 (tree (test_tree (con.Eq (Var 0) (App 2 nil)) hint.Terms) no_tree))) no_branch) ∷ [];
      checks = (1, head no_tree) ∷ [];
      clashes = record { first = 1; second = 2; hint = hint.Terms } ∷ [];
    }) ∷ [])
unfolding file_in line_in line_at tokens_in past_text terms_at line_fits next_state
all_depths = refl

-- ---- faults

blank_in_term : Faults (codes "scasp 1\nanswer 1.1 [V0 ]\n") 8 kind.Line
unfolding file_in line_in line_at tokens_in past_text terms_at line_fits next_state
blank_in_term = refl

other_header : Faults (codes "scasp 9\n") 0 kind.Line
unfolding file_in line_in line_at tokens_in past_text terms_at line_fits next_state
other_header = refl

-- behind the indent; the number is told before the indent, which is wrong too
number_behind_the_indent : Faults (start ++ codes "  pos p rule 9223372036854775808 []\n") 39 kind.NumberTooLarge
unfolding file_in line_in line_at tokens_in past_text terms_at line_fits next_state
number_behind_the_indent = refl

wrong_indent : Faults (start ++ codes "  pos p rule 1 []\n") 37 kind.Order
unfolding file_in line_in line_at tokens_in past_text terms_at line_fits next_state
wrong_indent = refl

-- a split without its second side is closed by no line
one_side : Faults (start ++ codes " neg p\n  rule 2\n   split V0 \\= p\n    void terms\nend\n") 85 kind.Order
unfolding file_in line_in line_at tokens_in past_text terms_at line_fits next_state
one_side = refl

answer_in_a_block : Faults (start ++ codes "answer 1.2 []\n") 37 kind.Order
unfolding file_in line_in line_at tokens_in past_text terms_at line_fits next_state
answer_in_a_block = refl

empty_file : Faults [] 0 kind.Cut
unfolding file_in line_in line_at tokens_in past_text terms_at line_fits next_state
empty_file = refl

cut_in_a_block : Faults start 37 kind.Cut
unfolding file_in line_in line_at tokens_in past_text terms_at line_fits next_state
cut_in_a_block = refl

-- at the first byte of the line that does not end
cut_in_a_line : Faults (start ++ codes " pos p") 37 kind.Cut
unfolding file_in line_in line_at tokens_in past_text terms_at line_fits next_state
cut_in_a_line = refl

-- a node is no case
node_for_a_case : Faults (start ++ codes " neg p\n  rule 2\n   pos p rule 1 []\nend\n") 53 kind.Order
unfolding file_in line_in line_at tokens_in past_text terms_at line_fits next_state
node_for_a_case = refl

-- ---- version 2

abbrev second : List ℕ
second = codes "scasp 2\nanswer 1.1 []\nsample []\ntree\n"

abbrev loops_below : Tree
loops_below = pos_tree (atom_of false 2 nil) 2 nil (tree (loop_tree (lit_of true (atom_of false 2 nil)) 1) no_tree)

-- a copy of a copy is one of the lines that it stands for; a number outside stays
two_copies : Reads (second ++ codes " pos p rule 1 []\n  pos p rule 2 []\n   loop p at 1\n  copy 2\n% again\n  copy 4\nend\n")
    (block 1 (record (started 1 nil) { trees = pos_tree (atom_of false 2 nil) 1 nil (tree loops_below (tree loops_below (tree loops_below no_tree))) ∷ [] }) ∷ [])
unfolding file_in line_in line_at tokens_in past_text terms_at line_fits next_state
two_copies = refl

copy_in_version_1 : Faults (start ++ codes " pos p rule 1 []\n copy 1\n") 54 kind.Order
unfolding file_in line_in line_at tokens_in past_text terms_at line_fits next_state
copy_in_version_1 = refl

third_version : Faults (codes "scasp 3\n") 0 kind.Line
unfolding file_in line_in line_at tokens_in past_text terms_at line_fits next_state
third_version = refl

copy_without_number : Faults (second ++ codes " pos p rule 1 []\n copy x\n") 55 kind.Line
unfolding file_in line_in line_at tokens_in past_text terms_at line_fits next_state
copy_without_number = refl

zero_in_front : Faults (second ++ codes " pos p rule 1 []\n copy 01\n") 55 kind.Line
unfolding file_in line_in line_at tokens_in past_text terms_at line_fits next_state
zero_in_front = refl

large_copy : Faults (second ++ codes " copy 9223372036854775808\n") 38 kind.NumberTooLarge
unfolding file_in line_in line_at tokens_in past_text terms_at line_fits next_state
large_copy = refl

-- line 1 is open
copy_of_an_open_line : Faults (second ++ codes " pos p rule 1 []\n  copy 1\n") 54 kind.Order
unfolding file_in line_in line_at tokens_in past_text terms_at line_fits next_state
copy_of_an_open_line = refl

copy_of_no_call : Faults (second ++ codes " pos p rule 1 []\n  loop p at 1\n copy 2\n") 68 kind.Order
unfolding file_in line_in line_at tokens_in past_text terms_at line_fits next_state
copy_of_no_call = refl

-- no line 1 stands in the second block
copy_across_blocks : Faults (second ++ codes " pos p rule 1 []\nend\nanswer 1.2 []\nsample []\ntree\n copy 1\n") 87 kind.Order
unfolding file_in line_in line_at tokens_in past_text terms_at line_fits next_state
copy_across_blocks = refl

-- a case can't be a call
copy_below_a_rule : Faults (second ++ codes " pos p rule 1 []\n neg p\n  rule 1\n   copy 1\n") 70 kind.Order
unfolding file_in line_in line_at tokens_in past_text terms_at line_fits next_state
copy_below_a_rule = refl

too_deep_a_copy : Faults (second ++ codes " pos p rule 1 []\n neg p\n    copy 1\n") 61 kind.Order
unfolding file_in line_in line_at tokens_in past_text terms_at line_fits next_state
too_deep_a_copy = refl

-- ---- the room that copies have

-- what has been read behind ` pos p rule 1 []` of a first answer, with so much room
abbrev behind_a_call : ℕ → Versioned
behind_a_call room = record {
  state = record first_state {
    phase = in_tree;
    number = 1;
    cert = started 1 nil;
    opens = opened (pos_line (atom_of false 2 nil) 1 nil) ∷ opened tree_line ∷ [];
  };
  version = version.Two;
  told = record { depth = 1; words = codes "pos p rule 1 []" } ∷ [];
  room = room;
}

abbrev kind_in : {A K : Type 0} → Result A K → Option K
kind_in (Ok x) = None
kind_in (Err k) = Some k

abbrev kind_of_copy : ℕ → ℕ → Option AnswerKind
kind_of_copy depth room = kind_in (line_judged names (behind_a_call room) (record { depth = depth; words = codes "copy 1" }))

-- the line has 17 bytes with its blank and its line feed; where it may not stand, this is told first
by_room : (kind_of_copy 1 17 ≡ None) × (kind_of_copy 1 16 ≡ Some kind.Limit) × (kind_of_copy 3 16 ≡ Some kind.Order)
unfolding line_in line_at tokens_in past_text terms_at line_fits next_state
by_room = (refl, refl, refl)
