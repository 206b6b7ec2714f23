-- The tokens of small texts, computed.
use Rattle.std.specs.Prelude.{◌≡◌, ℕ, true, false, List, [], ◌∷◌, ◌++◌, codes, Some, None, pos}
use Rattle.std.proofs.Common.{refl}
use Rattle.scasp_num.specs.Gcd.{gcd, gcd_within}
use Rattle.scasp_num.specs.Arithmetic.{number, lowest}
use Rattle.scasp_num.specs.declared.linear.Op.TheVariants as op
use Rattle.scasp_reader_tokens.specs.declared.sign.Sign.TheVariants as sign
use Rattle.scasp_reader_tokens.specs.declared.token.Token.TheVariants.{Name, Not, Variable, Number, Sign, Abducible, SkippedDirective, UnclosedDirective, OtherDirective, BadByte, Unclosed, End}
use Rattle.scasp_reader_tokens.specs.declared.token.Placed.{Placed}
use Rattle.scasp_reader_tokens.specs.Numbers.{literal_value}
use Rattle.scasp_reader_tokens.specs.Quoted.{quoted_length, text_of, length_before_bad}
use Rattle.scasp_reader_tokens.specs.Tokens.{placed, tokens_of}

abbrev Spells : List ℕ → List Placed → Type 0
Spells text tokens = tokens_of text ≡ tokens

nothing : Spells [] (placed 0 End ∷ [])
unfolding tokens_of
nothing = refl

a_fact : Spells (codes "p(tom).") (placed 0 (Name (codes "p")) ∷ placed 1 (Sign sign.Open) ∷ placed 2 (Name (codes "tom")) ∷ placed 5 (Sign sign.Close) ∷ placed 6 (Sign sign.Stop) ∷ placed 7 End ∷ [])
unfolding tokens_of
a_fact = refl

a_rule : Spells (codes "q:-not r,s_1.")
    (placed 0 (Name (codes "q")) ∷ placed 1 (Sign sign.If) ∷ placed 3 Not ∷ placed 7 (Name (codes "r")) ∷ placed 8 (Sign sign.Comma) ∷ placed 9 (Name (codes "s_1")) ∷ placed 12 (Sign sign.Stop) ∷ placed 13 End ∷ [])
unfolding tokens_of
a_rule = refl

a_list : Spells (codes "[X|_]") (placed 0 (Sign sign.OpenList) ∷ placed 1 (Variable (codes "X")) ∷ placed 2 (Sign sign.Bar) ∷ placed 3 (Variable (codes "_")) ∷ placed 4 (Sign sign.CloseList) ∷ placed 5 End ∷ [])
unfolding tokens_of
a_list = refl

-- a stop is no decimal point, and begins no relation
stops_and_relations : Spells (codes "1.<.X#>=2.") (placed 0 (Number (literal_value (codes "1") [])) ∷ placed 1 (Sign (sign.Relation op.Lt false)) ∷ placed 4 (Variable (codes "X")) ∷ placed 5 (Sign (sign.Relation op.Le true)) ∷ placed 8 (Number (literal_value (codes "2") [])) ∷ placed 9 (Sign sign.Stop) ∷ placed 10 End ∷ [])
unfolding tokens_of
stops_and_relations = refl

comments : Spells (codes "/* a */p%b") (placed 7 (Name (codes "p")) ∷ placed 10 End ∷ [])
unfolding tokens_of
comments = refl

a_sign_of_prolog : Spells (codes "a ; b") (placed 0 (Name (codes "a")) ∷ placed 2 (Sign sign.Foreign) ∷ placed 4 (Name (codes "b")) ∷ placed 5 End ∷ [])
unfolding tokens_of
a_sign_of_prolog = refl

a_quote_without_end : Spells (codes "p('ab") (placed 0 (Name (codes "p")) ∷ placed 1 (Sign sign.Open) ∷ placed 2 Unclosed ∷ [])
unfolding tokens_of
a_quote_without_end = refl

a_comment_without_end : Spells (codes "p /*") (placed 0 (Name (codes "p")) ∷ placed 2 Unclosed ∷ [])
unfolding tokens_of
a_comment_without_end = refl

a_byte_outside : Spells (112 ∷ 32 ∷ 195 ∷ []) (placed 0 (Name (codes "p")) ∷ placed 2 BadByte ∷ [])
unfolding tokens_of
a_byte_outside = refl

a_skipped_directive : Spells (codes "#show p/0. q") (placed 0 SkippedDirective ∷ placed 11 (Name (codes "q")) ∷ placed 12 End ∷ [])
unfolding tokens_of
a_skipped_directive = refl

-- the stop in the quotes and the one before a digit do not end it
a_directive_without_end : Spells (codes "#pred '.' .5") (placed 0 UnclosedDirective ∷ [])
unfolding tokens_of
a_directive_without_end = refl

an_abducible_predicate : Spells (codes "#abducible p(X).")
    (placed 0 Abducible ∷ placed 11 (Name (codes "p")) ∷ placed 12 (Sign sign.Open) ∷ placed 13 (Variable (codes "X")) ∷ placed 14 (Sign sign.Close) ∷ placed 15 (Sign sign.Stop) ∷ placed 16 End ∷ [])
unfolding tokens_of
an_abducible_predicate = refl

a_longer_name : Spells (codes "#abducibles p.") (placed 0 OtherDirective ∷ [])
unfolding tokens_of
a_longer_name = refl

another_directive : Spells (codes "#include a.") (placed 0 OtherDirective ∷ [])
unfolding tokens_of
another_directive = refl

-- ---- numbers

a_decimal : literal_value (codes "3") (codes "25") ≡ number (pos 13) (pos 4)
unfolding literal_value lowest gcd gcd_within
a_decimal = refl

the_largest : literal_value (codes "170141183460469231731687303715884105727") [] ≡ number (pos 170141183460469231731687303715884105727) (pos 1)
unfolding literal_value lowest gcd gcd_within
the_largest = refl

one_more : literal_value (codes "170141183460469231731687303715884105728") [] ≡ None
unfolding literal_value
one_more = refl

-- ---- between quotes, the bytes of it''s\n\\ and behind them the quote that ends the name

escapes : text_of (codes "it''s\\n\\\\") ≡ codes "it's" ++ (10 ∷ 92 ∷ [])
escapes = refl

the_end : quoted_length (codes "it''s\\n\\\\'") ≡ Some 9
the_end = refl

a_bad_backslash : length_before_bad (codes "a\\nb\\x") ≡ Some 4
a_bad_backslash = refl
