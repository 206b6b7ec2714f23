-- A clause that is read is within the limits: a fact, a rule or a denial.
use Rattle.std.proofs.Common.{◌≡◌, ℕ, zero, suc, ◌+◌, ◌<◌, ◌≤◌, true, false, ◌&&◌, ◌==◌, List, [], ◌∷◌, length, slice_get, Option, None, Some, refl, sym, ap, subst, ◌∙◌, arith}
use Rattle.std.specs.Prelude.{nat_le, unwrap_or}
use Rattle.std.proofs.lemmas.Bool.{and_from}
use Rattle.std.proofs.lemmas.Bool.Decides.{nat_tests}
use Rattle.std.proofs.lemmas.Option.{slice_get_within}
use Rattle.scasp_num.specs.Arithmetic.{◌>>=◌}
use Rattle.scasp_syntax.specs.declared.atom.Atom.{Atom}
use Rattle.scasp_syntax.specs.declared.clause.Item.{Item}
use Rattle.scasp_reader_tokens.specs.declared.sign.Sign.TheVariants as sign
use Rattle.scasp_cert.specs.Text.Terms.{var_text}
use Rattle.scasp_reader_terms.specs.declared.reader.TheConstants.{VARIABLE_LIMIT}
use Rattle.scasp_reader_terms.specs.Steps.{State, behind}
use Rattle.scasp_reader.specs.declared.texts.clauses.Part.{Part}
use Rattle.scasp_reader.specs.declared.texts.clauses.Part.TheVariants as part
use Rattle.scasp_reader.specs.Texts.Clauses.{ended, with_body, headed}
use Rattle.scasp_print_program.specs.Terms.{Style}
use Rattle.scasp_print_program.specs.Programs.{rule_variables}
use Rattle.scasp_law_program_text.specs.CompoundReadback.Styles.{is_anonymous}
use Rattle.scasp_law_program_text.specs.ClauseReadback.Counting.{count_body}
use Rattle.scasp_law_program_text.specs.ClauseReadback.Fitting.{atom_fits, body_fits}
use Rattle.scasp_law_program_text.specs.ClauseReadback.Parts.{is_count, rule_style, parts_fit, count_head, count_parts, clause_fits, query_fits, abducible_fits}
use Rattle.scasp_law_program_text.proofs.ClauseReadbackLemmas.RuleVariables.{length-rule, rule-at}
use Rattle.scasp_law_program_text.specs.TermFitting.Readers.{known, IsReader, Keeps, Covers}
use Rattle.scasp_law_program_text.proofs.TermFittingLemmas.Steps.{Follows, covers_before, reader_behind, Post, Post_give, Post_then, Post_taken, Post_expect}
use Rattle.scasp_law_program_text.proofs.FittingLemmas.Atoms.{IsAtom, atom_holds}
use Rattle.scasp_law_program_text.proofs.FittingLemmas.Bodies.{IsBody, body_holds}

-- a clause, of any kind, fits with every table that keeps the names that are then known
abbrev pub IsPart : Part → Style → Type 0
IsPart (part.Clause c) k = (names : List (List ℕ)) → Keeps k.names names → clause_fits names c ≡ true
IsPart (part.Query q) k = (names : List (List ℕ)) → Keeps k.names names → query_fits names q ≡ true
IsPart (part.Abducible a) k = (names : List (List ℕ)) → Keeps k.names names → abducible_fits names a ≡ true
IsPart part.Directive k = Unit {0}
IsPart part.End k = Unit {0}

-- ---- the variables of a rule

named-text : (x : ℕ) → is_anonymous (var_text x) ≡ false
named-text x = refl

-- the style of a rule is one for what was known at its end
rule-covers : (names : List (List ℕ)) (k : Style) → Keeps k.names names → Covers (rule_style names (length k.variables)) k
rule-covers names k h = record {
  names = h;
  number = omega (arith, length-rule 0 (length k.variables));
  named = λ x text e a.
      (let below = slice_get_within k.variables x text e in
      ap (λ o. is_anonymous (unwrap_or o [])) (rule-at 0 (length k.variables) x below) ∙ named-text (0 + x));
}

-- ---- clauses

-- the parts of a clause fit in every style for what is then known, and its variables are numbered as they are read
record AreClauseParts (head : Option Atom) (items : List Item) (k : Style) : Type 0 where
  fit : (w : Style) → Covers w k → parts_fit w head items ≡ true
  counted : (w : Style) → Covers w k → count_parts w head items ≡ Some (length k.variables)

pub same-count : (n : ℕ) (o : Option ℕ) → o ≡ Some n → is_count o n ≡ true
same-count n o e = let h : (n == n) ≡ true = grind (arith, nat_tests) in ap (λ (o : Option ℕ). is_count o n) e ∙ h

clause-part : (head : Option Atom) (items : List Item) (k : Style) → length k.variables ≤ VARIABLE_LIMIT → AreClauseParts head items k
    → IsPart (part.Clause (record { head = head; body = items; vars = length k.variables })) k
clause-part head items k le h names keeps =
    let n = length k.variables in
    let w = rule_style names n in
    let c = rule-covers names k keeps in
    let few = nat_le n VARIABLE_LIMIT in
    let small : few ≡ true = within n le in
    and_from (few && parts_fit w head items) (is_count (count_parts w head items) n)
    (and_from few (parts_fit w head items) small (h.fit w c))
    (same-count n (count_parts w head items) (h.counted w c))
  where
    within : (n : ℕ) → n ≤ VARIABLE_LIMIT → nat_le n VARIABLE_LIMIT ≡ true
    within n le = grind (arith, nat_tests, le)

ended_holds : (head : Option Atom) (items : List Item) (s : State) → IsReader s → (s.fault ≡ None → AreClauseParts head items (known s)) → Post IsPart s (ended head items s)
ended_holds head items s r h =
    Post_expect IsPart s r sign.Stop _
    (Post_give IsPart (behind s) _ (reader_behind s r) (λ fine. clause-part head items (known s) (r.limit fine) (h fine)))

-- the head fits, and its variables are numbered; without one no variable is known yet
abbrev IsSomeHead : Option Atom → Style → Type 0
IsSomeHead None k = length k.variables ≡ 0
IsSomeHead (Some a) k = IsAtom 0 a k

rule-parts : (head : Option Atom) (items : List Item) (s t : State) → Follows s t → IsSomeHead head (known s) → IsBody (length s.variables) items (known t) → AreClauseParts head items (known t)
rule-parts None items s t f e b = record { fit = λ w c. b.fit w c; counted = λ w c. ap (λ n. count_body w n items) (sym e) ∙ b.counted w c }
rule-parts (Some a) items s t f h b = record { fit = λ w c. by items b.some w c (h.fit w (covers_before w s t f c)) (b.fit w c); counted = λ w c. counted w (h.counted w (covers_before w s t f c)) (b.counted w c) }
  where
    by : (items : List Item) → 0 < length items → (w : Style) → Covers w (known t) → atom_fits w a ≡ true → body_fits w items ≡ true → parts_fit w (Some a) items ≡ true
    by [] some w c p q = absurd (omega (arith, some))
    by (i ∷ items) some w c p q = and_from (atom_fits w a) (body_fits w (i ∷ items)) p q

    counted : (w : Style) → count_head w 0 (Some a) ≡ Some (length s.variables) → count_body w (length s.variables) items ≡ Some (length t.variables)
        → count_parts w (Some a) items ≡ Some (length t.variables)
    counted w p q = ap (λ o. o >>= (λ n. count_body w n items)) p ∙ q

pub with_body_holds : (head : Option Atom) (s : State) → IsReader s → (s.fault ≡ None → IsSomeHead head (known s)) → Post IsPart s (with_body head s)
with_body_holds head s r h =
    Post_then (IsBody (length s.variables)) IsPart s _ _ (body_holds s r) (λ items t f b. ended_holds head items t f.reader (λ fine. rule-parts head items s t f (h (f.fault fine)) (b fine)))

pub headed_holds : (s : State) → IsReader s → length s.variables ≡ 0 → Post IsPart s (headed s)
headed_holds s r none =
    Post_then (IsAtom (length s.variables)) IsPart s _ _ (atom_holds s r)
    (λ a t f h. Post_taken IsPart t f.reader sign.If _
    (with_body_holds (Some a) (behind t) (reader_behind t f.reader) (λ fine. first a t (h fine)))
    (ended_holds (Some a) [] t f.reader
    (λ fine.
    let i = first a t (h fine) in
    record { fit = i.fit; counted = λ w c. ap (λ o. o >>= (λ n. count_body w n [])) (i.counted w c) })))
  where
    first : (a : Atom) (t : State) → IsAtom (length s.variables) a (known t) → IsAtom 0 a (known t)
    first a t h = subst (λ n. IsAtom n a (known t)) none h
