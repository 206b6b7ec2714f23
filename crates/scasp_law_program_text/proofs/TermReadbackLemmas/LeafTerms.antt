-- A variable, a name and the empty list that are written are read back.
use Rattle.std.proofs.Common.{◌≡◌, ℕ, suc, ◌+◌, ◌<◌, true, List, [], ◌∷◌, ◌++◌, length, codes, None, Some, Ok, refl, ap, ◌∙◌, arith}
use Rattle.std.specs.Str.{IsUtf8}
use Rattle.scasp_name.specs.Texts.{with_text}
use Rattle.scasp_syntax.specs.Tm.{var, app, nil}
use Rattle.scasp_reader_tokens.specs.declared.sign.Sign.TheVariants as sign
use Rattle.scasp_reader_tokens.specs.declared.token.Token.TheVariants as token
use Rattle.scasp_reader_tokens.specs.Tokens.{placed, tokens_behind}
use Rattle.scasp_cert.specs.Text.Names.{quoted_text}
use Rattle.scasp_reader_terms.specs.declared.reader.TheConstants.{VARIABLE_LIMIT}
use Rattle.scasp_reader_terms.specs.Steps.{State}
use Rattle.scasp_reader_terms.specs.Names.{place_in, known_variable}
use Rattle.scasp_reader_terms.specs.Terms.{term, below}
use Rattle.scasp_reader_terms.proofs.TermLemmas.{term_variable, term_name, term_sign}
use Rattle.scasp_law_program_text.specs.Readback.Endings.{ends_name, is_variable_text}
use Rattle.scasp_law_program_text.proofs.ReadbackLemmas.NameReading.{name-read}
use Rattle.scasp_law_program_text.proofs.ReadbackLemmas.VariableReading.{variable-read}
use Rattle.scasp_law_program_text.proofs.ReadbackLemmas.SignReading.{open_list_read, close_list_read}
use Rattle.scasp_law_program_text.specs.TermReadback.Reading.{IsReadAs, IsReadAsWith, ends_name_term}
use Rattle.scasp_law_program_text.proofs.TermReadbackLemmas.LeafSteps.{known-step, first-step, name-step, list-step}

pub known-term : (text rest : List ℕ) (room x : ℕ) (s : State) → is_variable_text text ≡ true → ends_name rest ≡ true → known_variable text s.variables ≡ Some x → IsReadAs room text (var x) s rest
known-term text rest room x s v end e at =
    let ts = tokens_behind 0 (at + length text) rest in
    ap (λ ts. term room (record s { tokens = ts })) (variable-read text rest at v end)
    ∙ term_variable room (record s { tokens = placed at (token.Variable text) ∷ ts }) text refl
    ∙ known-step s ts at text x e

pub first-term : (text rest : List ℕ) (room : ℕ) (s : State) → is_variable_text text ≡ true → ends_name rest ≡ true → known_variable text s.variables ≡ None → length s.variables < VARIABLE_LIMIT
    → IsReadAsWith room text (var (length s.variables)) s.names (s.variables ++ text ∷ []) s rest
first-term text rest room s v end e h at =
    let ts = tokens_behind 0 (at + length text) rest in
    ap (λ ts. term room (record s { tokens = ts })) (variable-read text rest at v end)
    ∙ term_variable room (record s { tokens = placed at (token.Variable text) ∷ ts }) text refl
    ∙ first-step s ts at text e h

pub name-term : (text rest : List ℕ) (room : ℕ) (s : State) → IsUtf8 text → ends_name_term rest
    → IsReadAsWith room (quoted_text text) (app (place_in s.names text) nil) (with_text s.names text) s.variables s rest
name-term text rest room s u end at =
    let ts = tokens_behind 0 (at + length (quoted_text text)) rest in
    ap (λ ts. term room (record s { tokens = ts })) (name-read text rest at u end.0)
    ∙ term_name room (record s { tokens = placed at (token.Name text) ∷ ts }) text refl
    ∙ name-step s ts (below term room) at text (end.1 (at + length (quoted_text text)))

pub list-term : (rest : List ℕ) (room : ℕ) (s : State) → IsReadAs (room + 1) (codes "[]") (app 0 nil) s rest
list-term rest room s at =
    let ts = tokens_behind 0 (at + 1 + 1) rest in
    let more : room + 1 ≡ suc room = omega arith in
    let place : at + 1 + 1 ≡ at + 2 = omega arith in
    ap (λ n. term n (record s { tokens = tokens_behind 0 at (codes "[]" ++ rest) })) more
    ∙ ap (λ ts. term (suc room) (record s { tokens = ts })) (open_list_read (codes "]" ++ rest) at ∙ ap (λ ts. placed at (token.Sign sign.OpenList) ∷ ts) (close_list_read rest (at + 1)))
    ∙ term_sign (suc room) (record s { tokens = placed at (token.Sign sign.OpenList) ∷ placed (at + 1) (token.Sign sign.CloseList) ∷ ts }) sign.OpenList refl
    ∙ list-step s ts (term room) at (at + 1)
    ∙ ap (λ a. Ok (app 0 nil, record s { tokens = tokens_behind 0 a rest; is_behind_operand = true })) place
