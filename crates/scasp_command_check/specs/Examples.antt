-- The lines of small certificates.
use Rattle.std.specs.Prelude.{◌≡◌, [], ◌∷◌, codes, decimal, map}
use Rattle.std.proofs.Common.{refl, lit<}
use Rattle.std.proofs.lemmas.Fmt.{decimal_digit}
use Rattle.scasp_unify.specs.Unification.{unifier}
use Rattle.scasp_answers_terms.specs.Tokens.Reasons.{reasons}
use Rattle.scasp_answers.specs.Blocks.States.{block}
use Rattle.scasp_law_promise.specs.Examples.{alone, circle, fact, odd, unchecked}
use Rattle.scasp_checker_rules.specs.declared.refusal.Reason.TheVariants as reason
use Rattle.scasp_command_check.specs.Texts.{recheck_text, line_by, checked_line, reason_words}

d1 : decimal 1 ≡ 49 ∷ []
d1 = decimal_digit 1 (lit< tt)

d2 : decimal 2 ≡ 50 ∷ []
d2 = decimal_digit 2 (lit< tt)

-- p. ?- p. Of a loop p :- p. the same line is refused, since nothing stands below it.
right : recheck_text fact (block 1 alone ∷ []) ≡ codes "1.1 right any\nchecked 1\n"
unfolding unifier line_by checked_line
right = simp (d1) refl

refused : recheck_text circle (block 1 alone ∷ block 2 alone ∷ []) ≡ codes "1.1 refused 1 wrong children\n1.2 refused 1 wrong children\nchecked 2\n"
unfolding unifier line_by checked_line
refused = simp (d1, d2) refl

-- an odd loop that is not checked
joining : recheck_text odd (block 1 unchecked ∷ []) ≡ codes "1.1 joins 1 any\nchecked 1\n"
unfolding unifier line_by checked_line
joining = simp (d1) refl

-- the reasons in words are those that answer files may have
all_reasons :
    map reason_words
    (reason.WrongQuery ∷ reason.WrongVariable ∷ reason.WrongNode ∷ reason.WrongLiteral ∷ reason.WrongRule ∷ reason.WrongInstance
    ∷ reason.WrongChildren ∷ reason.UncoveredCase ∷ reason.WrongItem ∷ reason.WrongSplit ∷ reason.NoAncestor ∷ reason.LoopWithoutNegation
    ∷ reason.NotInScope ∷ reason.HintStep ∷ reason.HintOverflow ∷ reason.HintNotReached ∷ reason.Clash ∷ reason.Sample ∷ reason.WrongCheck
    ∷ reason.WrongMap ∷ [])
    ≡ reasons
all_reasons = refl
