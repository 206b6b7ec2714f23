-- The texts of small certificates.
use Rattle.std.specs.Prelude.{◌≡◌, ◌∷◌, [], ℕ, List, codes, decimal}
use Rattle.std.proofs.Common.{refl, lit<}
use Rattle.std.proofs.lemmas.Fmt.{decimal_digit}
use Rattle.scasp_answers.specs.Blocks.States.{block, ended_entry}
use Rattle.scasp_cert.specs.Text.Terms.{atom_text}
use Rattle.scasp_law_promise.specs.Examples.{alone, aside, circle, even}
use Rattle.scasp_unify.specs.Unification.{unifier}
use Rattle.scasp_command_extend.specs.Ends.{extended_of, whole_end}
use Rattle.scasp_command_extend.specs.Outcomes.{outcome_of}
use Rattle.scasp_command_extend.specs.Texts.{block_text, extend_text, extended_line}
use Rattle.scasp_command_extend.specs.declared.ends.Extended.TheVariants.{Models, NoModel, Refused}

d0 : decimal 0 ≡ 48 ∷ []
d0 = decimal_digit 0 (lit< tt)

d1 : decimal 1 ≡ 49 ∷ []
d1 = decimal_digit 1 (lit< tt)

d2 : decimal 2 ≡ 50 ∷ []
d2 = decimal_digit 2 (lit< tt)

abbrev names : List (List ℕ)
names = codes "[]" ∷ codes "[|]" ∷ codes "p" ∷ codes "q" ∷ codes "r" ∷ []

-- p :- not q. q :- not p. r. ?- r. Above the fact stands the even loop, of which q is true.
two_atoms : extend_text names even [] (block 1 aside ∷ []) ≡ codes "1.1 model 2\n q\n r\nextended 1\n"
unfolding unifier outcome_of block_text extended_line atom_text
two_atoms = simp (d1, d2) refl

-- p :- p. ?- p. with nothing below p
refused : extend_text names circle [] (block 1 alone ∷ []) ≡ codes "1.1 refused 1 wrong children\nextended 0\n"
unfolding unifier outcome_of block_text extended_line
refused = simp (d0, d1) refl

-- a block that is refused outweighs one without a model, and that one with a model
whole_ends : whole_end (Models ∷ NoModel ∷ Refused ∷ Models ∷ []) ∷ whole_end (Models ∷ NoModel ∷ []) ∷ whole_end (Models ∷ []) ∷ whole_end [] ∷ []
    ≡ Refused ∷ NoModel ∷ Models ∷ Models ∷ []
whole_ends = refl
