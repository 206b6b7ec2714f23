-- Lines of each kind, read from their texts, and lines that are refused.
use Rattle.std.specs.Prelude.{◌≡◌, ℕ, Bool, true, false, List, [], ◌∷◌, codes, pos, neg_ℤ, Option, None, Some, option_map}
use Rattle.std.proofs.Common.{refl}
use Rattle.std.specs.Char.{encode_utf8}
use Rattle.std.specs.Str.{is_utf8, chars}
use Rattle.scasp_num.specs.Gcd.{gcd, gcd_within}
use Rattle.scasp_num.specs.declared.linear.Op.TheVariants as op
use Rattle.scasp_num.specs.declared.hints.Step.{Step}
use Rattle.scasp_reader_terms.specs.Names.{place_in}
use Rattle.scasp_syntax.specs.Tm.{Tms, var, app, nil, cons}
use Rattle.scasp_syntax.specs.declared.atom.Atom.{Atom}
use Rattle.scasp_syntax.specs.declared.term.Term.TheVariants.{Var, App}
use Rattle.scasp_syntax.specs.declared.con.Con.TheVariants as con
use Rattle.scasp_syntax.specs.declared.hint.Hint.TheVariants as hint
use Rattle.scasp_answers_terms.specs.Tokens.Tokens.{tokens_in}
use Rattle.scasp_answers_terms.specs.Tokens.Readers.{past_text}
use Rattle.scasp_answers_terms.specs.Tokens.Terms.{terms_at, atom_of, lit_of}
use Rattle.scasp_answers_terms.specs.Tokens.Lines.{ended, Line, header_line, ending_line, rejected_line, answer_line, given_line, clash_line, map_line, pos_line, loop_line, split_line, void_line}
use Rattle.scasp_answers_terms.specs.Tokens.Bounds.{line_fits}
use Rattle.scasp_answers_terms.specs.Tokens.Forms.{line_in, line_at}

abbrev names : List (List ℕ)
names = codes "[]" ∷ codes "[|]" ∷ codes "p" ∷ codes "not" ∷ []

-- the text is read as this line
abbrev Reads : List ℕ → Line → Type 0
Reads text l = line_in (place_in names) text ≡ Some l

-- the text is no line
abbrev Refuses : List ℕ → Type 0
Refuses text = line_in (place_in names) text ≡ None

-- whether the numbers of the line fit, where the text is one
abbrev fits : List ℕ → Option Bool
fits text = option_map line_fits (line_in (place_in names) text)

abbrev p : Tms → Atom
p ts = atom_of false 2 ts

abbrev step : ℕ → ℕ → Step
step first second = record { a = pos 1; p = first; b = pos 1; q = second }

-- ---- lines

header : Reads (codes "scasp 1") (header_line 1)
unfolding line_in line_at tokens_in past_text
header = refl

ending : Reads (codes "ended 2") (ending_line ended 2)
unfolding line_in line_at tokens_in past_text
ending = refl

rejected : Reads (codes "rejected 1.3 12 hint not reached") (rejected_line 1 3 12 (codes "hint not reached"))
unfolding line_in line_at tokens_in past_text
rejected = refl

-- a name in quotes, a list with a rest, a variable
answer : Reads (codes "answer 1.1 ['not',[p|V3],p(V0)]")
    (answer_line 1 1 (cons (app 3 nil) (cons (app 1 (cons (app 2 nil) (cons (var 3) nil))) (cons (app 2 (cons (var 0) nil)) nil))))
unfolding line_in line_at tokens_in past_text terms_at is_utf8 chars encode_utf8
answer = refl

row : Reads (codes "given 2*V0-V1+3 #< 0") (given_line (con.Row (record { coeffs = record { x = 0; c = pos 2 } ∷ record { x = 1; c = neg_ℤ (pos 1) } ∷ []; constant = pos 3; op = op.Lt })))
unfolding line_in line_at tokens_in past_text terms_at gcd gcd_within
row = refl

-- a variable and a name without arguments are told apart by a shape
shapes : Reads (codes "split V0 \\= p") (split_line (con.NotShape 0 2 0)) × Reads (codes "split V0 \\= p/2") (split_line (con.NotShape 0 2 2))
    × Reads (codes "split V0 \\= p(V1)") (split_line (con.Neq (Var 0) (App 2 (cons (var 1) nil))))
unfolding line_in line_at tokens_in past_text terms_at gcd gcd_within
shapes = (refl, refl, refl)

-- `num(V0)` is a constraint, and as one side of an equation a term: here `num` has the place behind the table
numbers : Reads (codes "given num(V0)") (given_line (con.Num (Var 0))) × Reads (codes "given num(V0) = V1") (given_line (con.Eq (App 4 (cons (var 0) nil)) (Var 1)))
unfolding line_in line_at tokens_in past_text terms_at gcd gcd_within
numbers = (refl, refl)

positive : Reads (codes "pos p(V0) rule 3 [V0]") (pos_line (p (cons (var 0) nil)) 3 (cons (var 0) nil))
unfolding line_in line_at tokens_in past_text terms_at
positive = refl

loop : Reads (codes "loop not -p at 2") (loop_line (lit_of false (atom_of true 2 nil)) 2)
unfolding line_in line_at tokens_in past_text terms_at
loop = refl

hints : Reads (codes "void rows [1*0+1*1,1*2+1*3]") (void_line (hint.Rows (step 0 1 ∷ step 2 3 ∷ [])))
    × Reads (codes "void same 1 [1*0+1*1;1*2+1*3]") (void_line (hint.Same 1 ((step 0 1 ∷ []) ∷ (step 2 3 ∷ []) ∷ [])))
unfolding line_in line_at tokens_in past_text
hints = (refl, refl)

clash : Reads (codes "clash 1 2 terms") (clash_line (record { first = 1; second = 2; hint = hint.Terms }))
unfolding line_in line_at tokens_in past_text
clash = refl

level : Reads (codes "map -p/1 0 +") (map_line (record { pred = record { minus = true; name = 2; arity = 1 }; level = 0; plus = true }))
unfolding line_in line_at tokens_in past_text
level = refl

-- ---- one spelling

blanks : Refuses (codes "scasp  1") × Refuses (codes "scasp 1 ") × Refuses (codes "answer 1.1 [V0, V1]") × Refuses []
unfolding line_in line_at tokens_in past_text terms_at
blanks = (refl, refl, refl, refl)

quotes : Refuses (codes "sample ['p']") × Refuses (codes "sample [not]") × Refuses (codes "sample ['[]']") × Refuses (codes "sample ['a\\x']")
unfolding line_in line_at tokens_in past_text terms_at is_utf8 chars encode_utf8
quotes = (refl, refl, refl, refl)

-- the rest of a list is neither the empty list nor a list
lists : Refuses (codes "sample [[p|[]]]") × Refuses (codes "sample [[p|[p]]]") × Refuses (codes "sample ['[|]'(p,p)]")
unfolding line_in line_at tokens_in past_text terms_at is_utf8 chars encode_utf8
lists = (refl, refl, refl)

digits_of_numbers : Refuses (codes "check 01") × Refuses (codes "sample [-0]") × Refuses (codes "sample [2/4]") × Refuses (codes "sample [7/1]") × Refuses (codes "split V0 \\= p/0")
unfolding line_in line_at tokens_in past_text terms_at gcd gcd_within
digits_of_numbers = (refl, refl, refl, refl, refl)

-- variables out of order, a divisor in common, a leading sign below 0, a coefficient 1, a constant 0
rows : Refuses (codes "given V1+V0 #< 0") × Refuses (codes "given 2*V0-4 #< 0") × Refuses (codes "given -V0+1 #= 0") × Refuses (codes "given 1*V0 #< 0") × Refuses (codes "given V0+0 #< 0")
unfolding line_in line_at tokens_in past_text terms_at gcd gcd_within
rows = (refl, refl, refl, refl, refl)

empty_hints : Refuses (codes "void rows []") × Refuses (codes "void same 1 []")
unfolding line_in line_at tokens_in past_text
empty_hints = (refl, refl)

other_reasons : Refuses (codes "rejected 1.1 1 wrong") × Refuses (codes "rejected 1.1 1 wrong map map")
unfolding line_in line_at tokens_in past_text
other_reasons = (refl, refl)

other_version : Refuses (codes "scasp 2")
unfolding line_in line_at tokens_in past_text
other_version = refl

-- ---- numbers that are too large are a matter of their own

largest : fits (codes "rule 9223372036854775807") ≡ Some true
unfolding line_in line_at tokens_in past_text line_fits
largest = refl

one_more : fits (codes "rule 9223372036854775808") ≡ Some false
unfolding line_in line_at tokens_in past_text line_fits
one_more = refl

-- of a fraction with a number above its bound only the digits are judged: this one is not in lowest terms
large_fraction : fits (codes "sample [2/340282366920938463463374607431768211456]") ≡ Some false
unfolding line_in line_at tokens_in past_text terms_at line_fits gcd gcd_within
large_fraction = refl

large_row : fits (codes "given V1+V0+340282366920938463463374607431768211456 #< 0") ≡ Some false
unfolding line_in line_at tokens_in past_text terms_at line_fits gcd gcd_within
large_row = refl

large_shape : fits (codes "split V0 \\= p/18446744073709551616") ≡ Some false
unfolding line_in line_at tokens_in past_text terms_at line_fits
large_shape = refl

large_step : fits (codes "void rows [1*18446744073709551616+1*0]") ≡ Some false × (fits (codes "void rows [1*18446744073709551615+1*0]") ≡ Some true)
unfolding line_in line_at tokens_in past_text line_fits
large_step = (refl, refl)

large_level : fits (codes "map p/18446744073709551616 0 +") ≡ Some false × (fits (codes "map p/18446744073709551615 9223372036854775807 +") ≡ Some true)
unfolding line_in line_at tokens_in past_text line_fits
large_level = (refl, refl)

large_variable : fits (codes "sample [V9223372036854775808]") ≡ Some false × (fits (codes "sample [V9223372036854775807]") ≡ Some true)
unfolding line_in line_at tokens_in past_text terms_at line_fits
large_variable = (refl, refl)

-- M, and one more, with a sign too
large_integers : fits (codes "sample [-170141183460469231731687303715884105727]") ≡ Some true × (fits (codes "sample [-170141183460469231731687303715884105728]") ≡ Some false)
unfolding line_in line_at tokens_in past_text terms_at line_fits gcd gcd_within
large_integers = (refl, refl)
