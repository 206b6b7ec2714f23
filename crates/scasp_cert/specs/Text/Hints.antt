-- How hints are written.
use Rattle.std.specs.Prelude.{ℕ, Bool, true, false, List, [], ◌∷◌, ◌++◌, codes, decimal}
use Rattle.std.specs.Fmt.{signed_decimal}
use Rattle.scasp_num.specs.declared.hints.Step.{Step}
use Rattle.scasp_syntax.specs.declared.hint.Hint.{Hint}
use Rattle.scasp_syntax.specs.declared.hint.Hint.TheVariants as hint
use Rattle.scasp_cert.specs.Text.Separators.{separator_text}

-- `a*p+b*q`: a times row p plus b times row q
unfoldable pub step_text : Step → List ℕ
step_text s = signed_decimal s.a ++ codes "*" ++ decimal s.p ++ codes "+" ++ signed_decimal s.b ++ codes "*" ++ decimal s.q

-- steps with commas between them
abbrev pub steps_text : Bool → List Step → List ℕ
steps_text is_first [] = []
steps_text is_first (s ∷ ss) = separator_text is_first (codes ",") ++ step_text s ++ steps_text false ss

-- lists of steps with semicolons between them
abbrev pub step_lists_text : Bool → List (List Step) → List ℕ
step_lists_text is_first [] = []
step_lists_text is_first (ss ∷ rest) =
    separator_text is_first (codes ";") ++ steps_text true ss ++ step_lists_text false rest

-- `terms`, `rows [..]`, `same N [..;..]`
abbrev pub hint_text : Hint → List ℕ
hint_text hint.Terms = codes "terms"
hint_text (hint.Rows steps) = codes "rows [" ++ steps_text true steps ++ codes "]"
hint_text (hint.Same n lists) = codes "same " ++ decimal n ++ codes " [" ++ step_lists_text true lists ++ codes "]"
