-- Abducible predicates as choices between two rules.
use Rattle.std.specs.Prelude.{◌≡◌, ℕ, false, List, [], ◌∷◌, ◌++◌, length, Some}
use Rattle.std.specs.List.{flat_map}
use Rattle.scasp_syntax.specs.Denials.{variables_from}
use Rattle.scasp_syntax.specs.Tm.{Tms}
use Rattle.scasp_syntax.specs.declared.atom.Atom.{Atom}
use Rattle.scasp_syntax.specs.declared.atom.Pred.{Pred}
use Rattle.scasp_syntax.specs.declared.clause.Clause.{Clause}
use Rattle.scasp_syntax.specs.declared.clause.Item.TheVariants.{Call}
use Rattle.scasp_syntax.specs.declared.clause.Query.{Query}
use Rattle.scasp_syntax.specs.declared.program.Program.{Program}
use Rattle.scasp_abduce.specs.NewNames.{new_name, text_of}
use Rattle.scasp_abduce.specs.Occurrences.{names_of}

-- an abducible predicate, and the new predicate that is true where it is not
pub record Choice : Type 0 where
  pub pred : Pred
  pub opposite : Pred

abbrev pub atom_of : Pred → Tms → Atom
atom_of p args = record { minus = p.minus; name = p.name; args = args }

-- p(V0, ..) :- not q(V0, ..).
abbrev pub unless : Pred → Pred → Clause
unless p q =
    let args = variables_from 0 p.arity in
    record {
      head = Some (atom_of p args);
      body = Call (record { positive = false; atom = atom_of q args }) ∷ [];
      vars = p.arity;
    }

abbrev pub choice_rules : Choice → List Clause
choice_rules c = unless c.pred c.opposite ∷ unless c.opposite c.pred ∷ []

-- predicates with their opposites, in order, and the table behind them
pub record Opposed : Type 0 where
  pub choices : List Choice
  pub names : List (List ℕ)

-- the new name of each predicate is none of those taken, and none of the earlier new ones
abbrev pub opposed : List ℕ → List (List ℕ) → List Pred → Opposed
opposed taken names [] = record { choices = []; names = names }
opposed taken names (p ∷ ps) =
    let new = new_name taken (length taken) names (text_of names p.name) in
    let others = opposed (new.name ∷ taken) new.names ps in
    record {
      choices = record { pred = p; opposite = record { minus = false; name = new.name; arity = p.arity } } ∷ others.choices;
      names = others.names;
    }

-- the clauses with the rules of each choice behind them, the choices, and the table with the new names
pub record Translation : Type 0 where
  pub clauses : List Clause
  pub choices : List Choice
  pub names : List (List ℕ)

abbrev pub translated : List (List ℕ) → List Clause → List Query → List Pred → Translation
translated names clauses queries abducibles =
    let all = opposed (names_of clauses queries abducibles) names abducibles in
    record { clauses = clauses ++ flat_map choice_rules all.choices; choices = all.choices; names = all.names }

abbrev pub translation : List (List ℕ) → Program → Translation
translation names p = translated names p.clauses p.queries p.abducibles

-- q is the translation of p, and the table behind it is this one
pub record IsTranslation (before : List (List ℕ)) (p q : Program) (table : List (List ℕ)) : Type 0 where
  pub clauses : q.clauses ≡ (translation before p).clauses
  pub queries : q.queries ≡ p.queries
  pub abducibles : q.abducibles ≡ []
  pub names : table ≡ (translation before p).names
