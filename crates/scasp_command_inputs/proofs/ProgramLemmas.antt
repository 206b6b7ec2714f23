-- Programs that are read and translated: the same bytes give one program.
use Rattle.std.proofs.Common.{◌≡◌, ◌∙◌, ℕ, List, [], Option, Some, Result, Ok, Err, IfOk, IfErr, ap, refl, sym, subst}
use Rattle.std.specs.Prelude.{IsTrue}
use denote.Struct.Props.{props}
use Rattle.scasp_syntax.specs.WellFormed.{are_abducible, are_well_formed}
use Rattle.scasp_syntax.specs.declared.atom.Pred.{Pred}
use Rattle.scasp_syntax.specs.declared.clause.Clause.{Clause}
use Rattle.scasp_syntax.specs.declared.clause.Query.{Query}
use Rattle.scasp_syntax.specs.declared.program.Program.{Program}
use Rattle.scasp_reader_terms.specs.declared.fault.Fault.{Fault}
use Rattle.scasp_reader.specs.declared.texts.texts.Reading.{Reading}
use Rattle.scasp_reader.specs.Programs.Programs.{program_in, reading_of}
use Rattle.scasp_abduce.specs.Translation.{IsTranslation, Translation, translation}
use Rattle.scasp_command_inputs.specs.Halts.{IfLine}
use Rattle.scasp_command_inputs.specs.Inputs.{IsProgramBehind, IsWrittenBehind}
use Rattle.scasp_command_inputs.specs.declared.halt.Halt.{Halt}
use Rattle.scasp_command_inputs.specs.declared.halt.Halt.TheVariants as halt
use Rattle.scasp_command_inputs.specs.declared.status.Status.{Status}

-- ---- a program is its clauses, its queries and its abducible predicates

made : (cs : List Clause) (qs : List Query) (ps : List Pred) → IsTrue (are_well_formed cs qs) → IsTrue (are_abducible ps) → Program
made cs qs ps h i = record { clauses = cs; queries = qs; abducibles = ps; well_formed = h; choices = i }

one-made : (cs ds : List Clause) (qs rs : List Query) (ps os : List Pred) (h : IsTrue (are_well_formed cs qs)) (i : IsTrue (are_abducible ps)) (k : IsTrue (are_well_formed ds rs)) (l : IsTrue (are_abducible os)) → cs ≡ ds → qs ≡ rs → ps ≡ os → made cs qs ps h i ≡ made ds rs os k l
one-made cs ds qs rs ps os h i k l e f g =
    let P : List Clause → Type 0 = λ (xs : List Clause). (m : IsTrue (are_well_formed xs rs)) → made cs qs ps h i ≡ made xs rs os m l in
    let Q : List Query → Type 0 = λ (ys : List Query). (m : IsTrue (are_well_formed cs ys)) → made cs qs ps h i ≡ made cs ys os m l in
    let R : List Pred → Type 0 = λ (zs : List Pred). (m : IsTrue (are_abducible zs)) → made cs qs ps h i ≡ made cs qs zs h m in
    let same : IsProp (IsTrue (are_well_formed cs qs)) = hlevel props in
    let single : IsProp (IsTrue (are_abducible ps)) = hlevel props in
    let others : made cs qs ps h i ≡ made cs qs os h l = subst R g (λ m. ap (made cs qs ps h) (single i m)) l in
    subst P e (subst Q f (λ m. others ∙ ap (λ (x : IsTrue (are_well_formed cs qs)). made cs qs os x l) (same h m))) k

pub one-of-parts : (p q : Program) → p.clauses ≡ q.clauses → p.queries ≡ q.queries → p.abducibles ≡ q.abducibles → p ≡ q
unfolding made
one-of-parts p q e f g =
    one-made p.clauses q.clauses p.queries q.queries p.abducibles q.abducibles p.well_formed p.choices q.well_formed q.choices e f g

-- ---- what is read of bytes

abbrev clauses_in : Result Reading Fault → List Clause
clauses_in (Ok r) = r.clauses
clauses_in (Err f) = []

abbrev queries_in : Result Reading Fault → List Query
queries_in (Ok r) = r.queries
queries_in (Err f) = []

abbrev abducibles_in : Result Reading Fault → List Pred
abducibles_in (Ok r) = r.abducibles
abducibles_in (Err f) = []

abbrev names_in : Result Reading Fault → List (List ℕ)
names_in (Ok r) = r.names
names_in (Err f) = []

-- the same bytes give one program and one table of names
module _ (before : List (List ℕ)) (bytes : List ℕ) (p q : Program) (names others : List (List ℕ)) (h : IsProgramBehind before (Some bytes) p names) (g : IsProgramBehind before (Some bytes) q others) where
  part : {A : Type 0} (f : Result Reading Fault → A) → f (Ok (reading_of (h.written, h.table))) ≡ f (Ok (reading_of (g.written, g.table)))
  part f = ap f (sym (h.is).read ∙ ap (program_in before) ((h.is).are ∙ sym (g.is).are) ∙ (g.is).read)

  one-written : h.written ≡ g.written
  one-written = one-of-parts h.written g.written (part clauses_in) (part queries_in) (part abducibles_in)

  one-translation : translation h.table h.written ≡ translation g.table g.written
  one-translation = ap (translation h.table) one-written ∙ ap (λ (ns : List (List ℕ)). translation ns g.written) (part names_in)

  pub one-program : p ≡ q
  one-program =
      one-of-parts p q ((h.translated).clauses ∙ ap (λ (t : Translation). t.clauses) one-translation ∙ sym (g.translated).clauses)
      ((h.translated).queries ∙ ap (λ (w : Program). w.queries) one-written ∙ sym (g.translated).queries)
      ((h.translated).abducibles ∙ sym (g.translated).abducibles)

  pub one-table : names ≡ others
  one-table = (h.translated).names ∙ ap (λ (t : Translation). t.names) one-translation ∙ sym (g.translated).names

-- ---- the calls

-- the program that is read was translated
pub program-translated : {E : Type 0} (before : List (List ℕ)) (told : Option (List ℕ)) (p : Program) (names : List (List ℕ)) (r : Result (Program × List (List ℕ)) E)
    → IsWrittenBehind before told p names → IfOk r (λ x. IsTranslation names p x.0 x.1) → IfOk r (λ x. IsProgramBehind before told x.0 x.1)
program-translated before told p names (Ok x) is h = record { written = p; table = names; is = is; translated = h }
program-translated before told p names (Err e) is h = h

pub memory-line : {X : Type 0} (may : List ℕ → Status → Type 0) (r : Result X Halt) → IfErr r (λ h. h ≡ halt.Memory) → IfErr r (λ h. IfLine h may)
memory-line may (Ok x) e = e
memory-line may (Err h) e = subst (λ (x : Halt). IfLine x may) (sym e) tt
