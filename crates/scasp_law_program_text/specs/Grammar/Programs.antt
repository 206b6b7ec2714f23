-- What the trees of clauses and of whole programs mean, and when a text is in the grammar.
use Rattle.std.specs.Prelude.{◌≡◌, ℕ, ◌≤◌, nat_lt, is_some, List, [], ◌∷◌, ◌++◌, length, codes, if◌then◌else◌, Option, None, Some}
use Rattle.std.specs.Str.{bytes_eq}
use Rattle.scasp_syntax.specs.Denials.{with_denials}
use Rattle.scasp_syntax.specs.declared.atom.Atom.{Atom as MeantAtom}
use Rattle.scasp_syntax.specs.declared.clause.Item.{Item as MeantItem}
use Rattle.scasp_reader_tokens.specs.declared.token.Token.TheVariants as token
use Rattle.scasp_reader_terms.specs.declared.terms.TheConstants.{ARITY_LIMIT}
use Rattle.scasp_reader_terms.specs.Names.{known_variable}
use Rattle.scasp_reader.specs.declared.texts.clauses.Part.{Part}
use Rattle.scasp_reader.specs.declared.texts.clauses.Part.TheVariants as part
use Rattle.scasp_reader.specs.declared.texts.texts.Parts.{Parts}
use Rattle.scasp_reader.specs.declared.texts.texts.Reading.{Reading}
use Rattle.scasp_reader.specs.declared.texts.texts.TheConstants.{BYTE_LIMIT, CLAUSE_LIMIT}
use Rattle.scasp_reader.specs.Texts.Abducibles.{positive_pred}
use Rattle.scasp_reader.specs.Texts.Texts.{no_parts, part_count, with_part, read_parts}
use Rattle.scasp_law_program_text.specs.Grammar.Known.{Known, Make, ◌>>=◌, means, nothing, named, numbered}
use Rattle.scasp_law_program_text.specs.Grammar.Trees.{Clause, a_fact, a_rule, a_denial, a_query, an_abducible, a_directive}
use Rattle.scasp_law_program_text.specs.Grammar.Spelling.{tokens_in, program_tokens}
use Rattle.scasp_law_program_text.specs.Grammar.Bodies.{atom_meaning, body_meaning}

-- ---- clauses

-- a clause begins with no variables of its own
abbrev pub anew : {A : Type 0} → Make A → Make A
anew m k = m (record k { variables = [] })

-- the clause of this head and body, with the number of its variables
abbrev pub clause_of : Option MeantAtom → List MeantItem → Make Part
clause_of head xs k = Some (part.Clause (record { head = head; body = xs; vars = length k.variables }), k)

-- the name of a query's variable; none for `_`
abbrev pub name_of : List ℕ → Make (Option ℕ)
name_of text = if bytes_eq text (codes "_") then means None else (named text >>= (λ n. means (Some n)))

abbrev pub names_of : List (List ℕ) → Make (List (Option ℕ))
names_of [] = means []
names_of (text ∷ texts) = name_of text >>= (λ n. names_of texts >>= (λ ns. means (n ∷ ns)))

-- the query of this body, with the names of its variables
abbrev pub query_of : List MeantItem → Make Part
query_of xs k = (names_of k.variables >>= (λ names. means (part.Query (record { body = xs; names = names })))) k

-- a parameter is a variable that the clause has not had
abbrev pub parameter_meaning : List ℕ → Make ℕ
parameter_meaning text k = if is_some (known_variable text k.variables) then None else numbered text k

abbrev pub parameters_meaning : List (List ℕ) → Make (Unit {0})
parameters_meaning [] = means tt
parameters_meaning (text ∷ texts) = parameter_meaning text >>= (λ x. parameters_meaning texts)

-- the predicate of this name may be assumed; it has so many arguments, of which there may be only so many
abbrev pub abducible_of : ℕ → ℕ → Make Part
abducible_of f n = if nat_lt ARITY_LIMIT n then nothing else means (part.Abducible (positive_pred f n))

abbrev pub clause_meaning : Clause → Make Part
clause_meaning (a_fact a) = anew (atom_meaning a >>= (λ x. clause_of (Some x) []))
clause_meaning (a_rule a b) = anew (atom_meaning a >>= (λ x. body_meaning b >>= (λ xs. clause_of (Some x) xs)))
clause_meaning (a_denial b) = anew (body_meaning b >>= (λ xs. clause_of None xs))
clause_meaning (a_query b) = anew (body_meaning b >>= (λ xs. query_of xs))
clause_meaning (an_abducible name variables) = anew (named name >>= (λ f. parameters_meaning variables >>= (λ u. abducible_of f (length variables))))
clause_meaning a_directive = means part.Directive

-- ---- programs

-- these parts with the clauses behind them
abbrev pub clauses_meaning : Parts → List Clause → Make Parts
clauses_meaning p [] = means p
clauses_meaning p (c ∷ clauses) = clause_meaning c >>= (λ q. clauses_meaning (with_part p q) clauses)

-- of clauses of all kinds there may be only so many
abbrev pub program_of : Option (Parts × Known) → Option Reading
program_of None = None
program_of (Some x) = if nat_lt CLAUSE_LIMIT (part_count x.0) then None else Some (read_parts x.0 x.1.names)

-- what a program's trees mean, with the table of names before
unfoldable pub meaning : List (List ℕ) → List Clause → Option Reading
meaning names clauses = program_of (clauses_meaning no_parts clauses (record { names = names; variables = [] }))

-- ---- texts

-- The text is in the grammar, and this is its program: its tokens are those of trees that mean it.
abbrev pub IsText : List (List ℕ) → List ℕ → Reading → Type 0
IsText names bytes r = (length bytes ≤ BYTE_LIMIT) × ((clauses : List Clause) × (tokens_in bytes ≡ program_tokens clauses ++ token.End ∷ []) × (meaning names clauses ≡ Some r))

-- The text is in the grammar, and this is its program with the generated denials.
abbrev pub IsProgram : List (List ℕ) → List ℕ → Reading → Type 0
IsProgram names bytes r = (q : Reading) × IsText names bytes q × (r ≡ record q { clauses = with_denials q.clauses q.queries })
