-- Lists of terms whose numbers fit.
use Rattle.std.proofs.Common.{Bool, List, Bor}
use Rattle.scasp_syntax.specs.View.{tms_of}
use Rattle.scasp_syntax.specs.declared.term.Term.{Term}
use Rattle.scasp_answers_terms.specs.Tokens.Bounds.{terms_fit}

-- the numbers of each term of the list fit
abbrev pub is_list_fit : Bor (List Term) → Bool
is_list_fit l = terms_fit (tms_of l.now)
