-- The forms of lines: how each is read.
use Rattle.std.specs.Prelude.{ℕ, ◌^◌, ◌==◌, if◌then◌else◌, Bool, true, false, List, [], ◌∷◌, ◌++◌, codes, Option, None, Some}
use Rattle.scasp_num.specs.Arithmetic.{◌>>=◌}
use Rattle.scasp_syntax.specs.Tm.{Tms}
use Rattle.scasp_syntax.specs.declared.atom.Atom.{Atom}
use Rattle.scasp_syntax.specs.declared.atom.Lit.{Lit}
use Rattle.scasp_syntax.specs.declared.atom.Pred.{Pred}
use Rattle.scasp_syntax.specs.declared.con.Con.{Con}
use Rattle.scasp_syntax.specs.declared.hint.Hint.{Hint}
use Rattle.scasp_syntax.specs.declared.predicate_map.PredMap.{PredMap}
use Rattle.scasp_cert.specs.declared.certificate.Clash.{Clash}
use Rattle.scasp_answers_terms.specs.Tokens.Bounds.{is_count, bounded_place}
use Rattle.scasp_answers_terms.specs.Tokens.Tokens.{Token, minus, tokens_in}
use Rattle.scasp_answers_terms.specs.Tokens.Readers.{Parsed, past_text, made, both, alone, any_of, only, number_at, Form, form, by_form, nothing_more}
use Rattle.scasp_answers_terms.specs.Tokens.Names.{name_at}
use Rattle.scasp_answers_terms.specs.Tokens.Terms.{list_at, atom_at, lit_at}
use Rattle.scasp_answers_terms.specs.Tokens.Constraints.{con_at}
use Rattle.scasp_answers_terms.specs.Tokens.Hints.{hint_at}
use Rattle.scasp_answers_terms.specs.Tokens.Reasons.{reason_at}
use Rattle.scasp_answers_terms.specs.Tokens.Lines.{ended, stopped, spent, overflow, Line, header_line, ending_line, rejected_line, answer_line, given_line, sample_line, tree_line, check_line, clash_line, map_line, end_line, pos_line, neg_line, loop_line, seen_line, test_line, rule_line, split_line, void_line, leaf_line, head_line}

-- `Q.N`
abbrev pub place_at : List Token → Parsed (ℕ × ℕ)
place_at = both number_at (codes ".") number_at

abbrev pub pred_of : Bool → ℕ × ℕ → Pred
pred_of negative p = record { minus = negative; name = p.0; arity = p.1 }

abbrev pub clash_of : ℕ × (ℕ × Hint) → Clash
clash_of r = record { first = bounded_place r.0; second = bounded_place r.1.0; hint = r.1.1 }

abbrev pub map_of : Pred × (ℕ × Bool) → PredMap
map_of r =
    if is_count r.0.arity then record { pred = r.0; level = bounded_place r.1.0; plus = r.1.1 }
    else record { pred = record r.0 { arity = 0 }; level = bounded_place (2 ^ 63); plus = r.1.1 }

abbrev pub unsigned_pred_at : (List ℕ → ℕ) → Bool → List Token → Parsed Pred
unsigned_pred_at place negative ts = made (pred_of negative) (both (name_at place) (codes "/") number_at ts)

-- `p/1`, `-p/1`
abbrev pub pred_at : (List ℕ → ℕ) → List Token → Parsed Pred
pred_at place (minus ∷ ts) = unsigned_pred_at place true ts
pred_at place ts = unsigned_pred_at place false ts

abbrev pub level_sign_at : List Token → Parsed Bool
level_sign_at = any_of (alone (codes "+") true ∷ alone (codes "-") false ∷ [])

-- a blank, and then this
abbrev pub spaced_at : {A : Type 0} → (List Token → Parsed A) → List Token → Parsed A
spaced_at reads ts = past_text (codes " ") ts >>= reads

-- the form whose first word is followed by a blank and then by this
abbrev pub spaced : {A : Type 0} → List ℕ → (List Token → Parsed A) → (A → Line) → Form Line
spaced first reads make = form first (λ ts. made make (spaced_at reads ts))

-- `1.3 12 hint not reached`
abbrev pub rejected_at : List Token → Parsed ((ℕ × ℕ) × (ℕ × List ℕ))
rejected_at = both place_at (codes " ") (both number_at (codes " ") reason_at)

-- `1.1 [a,V0]`
abbrev pub answer_at : (List ℕ → ℕ) → List Token → Parsed ((ℕ × ℕ) × Tms)
answer_at place = both place_at (codes " ") (list_at place)

-- `3 5 terms`
abbrev pub clash_at : List Token → Parsed (ℕ × (ℕ × Hint))
clash_at = both number_at (codes " ") (both number_at (codes " ") hint_at)

-- `p/1 0 +`
abbrev pub map_at : (List ℕ → ℕ) → List Token → Parsed (Pred × (ℕ × Bool))
map_at place = both (pred_at place) (codes " ") (both number_at (codes " ") level_sign_at)

-- `p(V0) rule 2 [V0]`
abbrev pub pos_at : (List ℕ → ℕ) → List Token → Parsed (Atom × (ℕ × Tms))
pos_at place = both (atom_at place) (codes " rule ") (both number_at (codes " ") (list_at place))

-- `not p(V0) at 2`
abbrev pub repeat_at : (List ℕ → ℕ) → List Token → Parsed (Lit × ℕ)
repeat_at place = both (lit_at place) (codes " at ") number_at

-- `V0 = a terms`
abbrev pub test_at : (List ℕ → ℕ) → List Token → Parsed (Con × Hint)
test_at place = both (con_at place) (codes " ") hint_at

abbrev pub version_at : List Token → Parsed ℕ
version_at = only (λ v. v == 1) number_at

-- The forms; `place` is the number of each text in the table of names.

-- what stands between blocks
abbrev pub file_forms : (List ℕ → ℕ) → List (Form Line)
file_forms place =
    spaced (codes "scasp") version_at header_line
    ∷ spaced (codes "ended") number_at (ending_line ended)
    ∷ spaced (codes "stopped") number_at (ending_line stopped)
    ∷ spaced (codes "spent") number_at (ending_line spent)
    ∷ spaced (codes "overflow") number_at (ending_line overflow)
    ∷ spaced (codes "rejected") rejected_at (λ r. rejected_line r.0.0 r.0.1 r.1.0 r.1.1)
    ∷ []

-- what a block begins with, and its trees
abbrev pub head_forms : (List ℕ → ℕ) → List (Form Line)
head_forms place =
    spaced (codes "answer") (answer_at place) (λ r. answer_line r.0.0 r.0.1 r.1)
    ∷ spaced (codes "given") (con_at place) given_line
    ∷ spaced (codes "sample") (list_at place) sample_line
    ∷ form (codes "tree") (nothing_more tree_line)
    ∷ spaced (codes "check") number_at check_line
    ∷ []

-- what a block has behind its trees
abbrev pub other_forms : (List ℕ → ℕ) → List (Form Line)
other_forms place =
    spaced (codes "clash") clash_at (λ r. clash_line (clash_of r))
    ∷ spaced (codes "map") (map_at place) (λ r. map_line (map_of r))
    ∷ form (codes "end") (nothing_more end_line)
    ∷ []

-- nodes
abbrev pub node_forms : (List ℕ → ℕ) → List (Form Line)
node_forms place =
    spaced (codes "pos") (pos_at place) (λ r. pos_line r.0 r.1.0 r.1.1)
    ∷ spaced (codes "neg") (atom_at place) neg_line
    ∷ spaced (codes "loop") (repeat_at place) (λ r. loop_line r.0 r.1)
    ∷ spaced (codes "seen") (repeat_at place) (λ r. seen_line r.0 r.1)
    ∷ spaced (codes "test") (test_at place) (λ r. test_line r.0 r.1)
    ∷ []

-- rules and cases
abbrev pub case_forms : (List ℕ → ℕ) → List (Form Line)
case_forms place =
    spaced (codes "rule") number_at rule_line
    ∷ spaced (codes "split") (con_at place) split_line
    ∷ spaced (codes "void") hint_at void_line
    ∷ spaced (codes "leaf") number_at leaf_line
    ∷ form (codes "head") (nothing_more head_line)
    ∷ []

abbrev pub forms : (List ℕ → ℕ) → List (Form Line)
forms place = file_forms place ++ head_forms place ++ other_forms place ++ node_forms place ++ case_forms place

unfoldable pub line_at : (List ℕ → ℕ) → List Token → Parsed Line
line_at place ts = by_form (forms place) ts

abbrev pub nothing_behind : Line → List Token → Option Line
nothing_behind l [] = Some l
nothing_behind l (t ∷ ts) = None

-- the line that these bytes are, blanks aside
unfoldable pub line_in : (List ℕ → ℕ) → List ℕ → Option Line
line_in place bytes = line_at place (tokens_in bytes) >>= (λ r. nothing_behind r.0 r.1)
