-- The names of a query's variables hold no line feed, in each table that has the program's names first.
use Rattle.std.specs.Prelude.{◌≡◌, ℕ, ◌+◌, ◌<◌, ◌≤◌, nat_lt, true, ◌&&◌, ◌||◌, ◌==◌, not, Option, None, Some, List, [], ◌∷◌, length, map, Result, Ok, Err, ⊤}
use Rattle.std.specs.List.{list_all}
use Rattle.std.proofs.Common.{arith, refl, subst}
use Rattle.std.proofs.lemmas.Bool.{and_from, and_parts, leb-true, ltb-true}
use Rattle.std.proofs.lemmas.Bool.Decides.{nat_tests}
use Rattle.scasp_cert.specs.Text.Names.{text_at}
use Rattle.scasp_law_answer_text.proofs.LineReadbackLemmas.Feeds.{IsClean}
use Rattle.scasp_law_printable.proofs.ReadPrograms.{lists-table}
use Rattle.scasp_law_program_text.specs.ClauseReadback.Fitting.{body_fits}
use Rattle.scasp_law_program_text.specs.ClauseReadback.Parts.{clause_fits, name_fits, query_fits, query_style}
use Rattle.scasp_law_program_text.specs.ClauseReadback.Texts.{abducibles_fit}
use Rattle.scasp_law_program_text.specs.CompoundReadback.Styles.{IsTable, are_variables, is_anonymous}
use Rattle.scasp_law_program_text.specs.Readback.Endings.{is_variable_text}
use Rattle.scasp_law_program_text.proofs.FittingLemmas.Texts.{read-fits}
use Rattle.scasp_law_tables.proofs.Places.{Grows, grown-text}
use Rattle.scasp_list.specs.Each.{Each}
use Rattle.scasp_list.proofs.EachLemmas.{Each-from_test, Each-map}
use Rattle.scasp_name.specs.Texts.{has_text, list_names}
use Rattle.scasp_print_program.specs.Programs.{query_variable}
use Rattle.scasp_reader.specs.Programs.Programs.{completed, program_in, reading_of}
use Rattle.scasp_reader.specs.Texts.Texts.{read}
use Rattle.scasp_reader.specs.declared.texts.texts.Reading.{Reading}
use Rattle.scasp_reader.specs.declared.texts.texts.TheConstants.{CLAUSE_LIMIT}
use Rattle.scasp_reader_terms.specs.declared.fault.Fault.{Fault}
use Rattle.scasp_reader_tokens.specs.Bytes.{is_name_byte, is_of_line, is_upper}
use Rattle.scasp_syntax.specs.Denials.{with_denials}
use Rattle.scasp_syntax.specs.declared.clause.Query.{Query}
use Rattle.scasp_syntax.specs.declared.program.Program.{Program}

-- ---- the text of a variable

byte-clean : (b : ℕ) → is_name_byte b ≡ true → is_of_line b ≡ true
byte-clean b e = grind (arith, nat_tests)

bytes-clean : (bytes : List ℕ) → list_all is_name_byte bytes ≡ true → IsClean bytes
bytes-clean [] e = refl
bytes-clean (b ∷ bytes) e = let p = and_parts (is_name_byte b) (list_all is_name_byte bytes) e in and_from (is_of_line b) (list_all is_of_line bytes) (byte-clean b p.0) (bytes-clean bytes p.1)

first-clean : (b : ℕ) → (is_upper b || b == 95) ≡ true → is_of_line b ≡ true
first-clean b e = grind (arith, nat_tests)

variable-clean : (text : List ℕ) → is_variable_text text ≡ true → IsClean text
variable-clean [] e = refl
variable-clean (b ∷ bytes) e =
    let p = and_parts (is_upper b || b == 95) (list_all is_name_byte bytes) e in and_from (is_of_line b) (list_all is_of_line bytes) (first-clean b p.0) (bytes-clean bytes p.1)

-- ---- the names of a query

-- the name of a variable, if it has one, is one of the table's, and no line feed stands in it
abbrev pub IsVariable : List (List ℕ) → Option ℕ → Type 0
IsVariable names None = ⊤
IsVariable names (Some f) = (f < length names) × IsClean (text_at names f)

-- no line feed stands in the variable's name
abbrev pub IsNameClean : List (List ℕ) → Option ℕ → Type 0
IsNameClean names None = ⊤
IsNameClean names (Some f) = IsClean (text_at names f)

variables-named : (names : List (List ℕ)) (vs : List (Option ℕ)) → are_variables (map (query_variable names) vs) ≡ true → list_all (name_fits names) vs ≡ true → Each (IsVariable names) vs
variables-named names [] e h = tt
variables-named names (v ∷ vs) e h =
    let t = query_variable names v in
    let p = and_parts (is_variable_text t && (is_anonymous t || not (has_text (map (query_variable names) vs) t))) (are_variables (map (query_variable names) vs)) e in
    let q = and_parts (is_variable_text t) (is_anonymous t || not (has_text (map (query_variable names) vs) t)) p.0 in
    let k = and_parts (name_fits names v) (list_all (name_fits names) vs) h in
    (one v q.0 k.0, variables-named names vs p.1 k.1)
  where
    one : (v : Option ℕ) → is_variable_text (query_variable names v) ≡ true → name_fits names v ≡ true → IsVariable names v
    one None a b = tt
    one (Some f) a b = (ltb-true f (length names) (and_parts (nat_lt f (length names)) (not (is_anonymous (text_at names f))) b).0, variable-clean (text_at names f) a)

query-named : (names : List (List ℕ)) (q : Query) → query_fits names q ≡ true → Each (IsVariable names) q.names
query-named names q e =
    let w = query_style names q.names in
    let a = and_parts (are_variables w.variables && list_all (name_fits names) q.names && body_fits w q.body) _ e in
    let b = and_parts (are_variables w.variables && list_all (name_fits names) q.names) (body_fits w q.body) a.0 in
    let c = and_parts (are_variables w.variables) (list_all (name_fits names) q.names) b.0 in
    variables-named names q.names c.0 c.1

pub names-clean : (names table : List (List ℕ)) → Grows names table → (vs : List (Option ℕ)) → Each (IsVariable names) vs → Each (IsNameClean table) vs
names-clean names table g vs h = Each-map (IsVariable names) (IsNameClean table) one vs h
  where
    one : (v : Option ℕ) → IsVariable names v → IsNameClean table v
    one None k = tt
    one (Some f) k = subst IsClean (grown-text names table g f k.0) k.1

-- ---- programs that are read

-- what is read leaves a proper table; the variables of its queries have names there, and the queries are not too many
pub record IsReadWell (queries : List Query) (names : List (List ℕ)) : Type 0 where
  pub table : IsTable names
  pub variables : Each (λ q. Each (IsVariable names) q.names) queries
  pub few : length queries ≤ CLAUSE_LIMIT

reading-well : (bytes : List ℕ) (r : Reading) → read list_names bytes ≡ Ok r → IsReadWell r.queries r.names
reading-well bytes r e =
    let f = read-fits list_names bytes r e lists-table in
    let a = and_parts (abducibles_fit r.names r.abducibles && list_all (clause_fits r.names) r.clauses && list_all (query_fits r.names) r.queries) _ f.1 in
    let b = and_parts (abducibles_fit r.names r.abducibles && list_all (clause_fits r.names) r.clauses) (list_all (query_fits r.names) r.queries) a.0 in
    record {
      table = f.0;
      variables = Each-from_test (query_fits r.names) (λ q. Each (IsVariable r.names) q.names) (query-named r.names) r.queries b.1;
      few = (let k = leb-true (length r.clauses + length r.queries + length r.abducibles) CLAUSE_LIMIT a.1 in omega (arith, k));
    }

pub program-well : (bytes : List ℕ) (written : Program) (names : List (List ℕ)) → program_in list_names bytes ≡ Ok (reading_of (written, names)) → IsReadWell written.queries names
program-well bytes written names e = by (read list_names bytes) refl e
  where
    by : (o : Result Reading Fault) → read list_names bytes ≡ o → completed o ≡ Ok (reading_of (written, names)) → IsReadWell written.queries names
    by (Err f) g k = absurd (cc k)
    by (Ok r) g k =
        let same : record r { clauses = with_denials r.clauses r.queries } ≡ reading_of (written, names) = cc k in
        subst (λ (x : Reading). IsReadWell x.queries x.names) same (reading-well bytes r g)
