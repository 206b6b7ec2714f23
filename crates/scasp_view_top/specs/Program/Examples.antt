-- The lines of a small program, and what is left of them without numbers.
use Rattle.std.specs.Prelude.{◌≡◌, true, false, None, Some, [], ◌∷◌, codes}
use Rattle.std.proofs.Common.{refl}
use Rattle.scasp_syntax.specs.Denials.{denial_of}
use Rattle.scasp_syntax.specs.Tm.{var, nil, cons}
use Rattle.scasp_syntax.specs.declared.atom.Pred.{Pred}
use Rattle.scasp_syntax.specs.declared.clause.Clause.{Clause}
use Rattle.scasp_syntax.specs.declared.clause.Query.{Query}
use Rattle.scasp_reader.specs.Bodies.Atoms.{atom_of}
use Rattle.scasp_reader.specs.Bodies.Items.{call_of}
use Rattle.scasp_print_program.specs.Abducibles.{abducible_text}
use Rattle.scasp_print_program.specs.Programs.{clause_text, query_text}
use Rattle.scasp_print_program.specs.Terms.{atom_text, lit_text}
use Rattle.scasp_view_top.specs.Digits.{d0, d1, d2}
use Rattle.scasp_view_top.specs.Program.Lines.{numbered_text}
use Rattle.scasp_view_top.specs.Program.Meaning.{bare_text}

-- the denial of -p is generated
abbrev rule : Clause
rule = record { head = Some (atom_of true 2 (cons (var 0) nil)); body = call_of false (atom_of false 3 (cons (var 0) nil)) ∷ []; vars = 1 }

abbrev denial : Clause
denial = denial_of (record { minus = true; name = 2; arity = 1 })

abbrev assumed : Pred
assumed = record { minus = false; name = 3; arity = 1 }

abbrev query : Query
query = record { body = call_of true (atom_of true 2 (cons (var 0) nil)) ∷ []; names = Some 4 ∷ [] }

numbered : numbered_text (codes "[]" ∷ codes "[|]" ∷ codes "p" ∷ codes "q" ∷ codes "X" ∷ []) (assumed ∷ []) (rule ∷ denial ∷ []) (query ∷ [])
    ≡ codes "\t#abducible q(V0).\n1\t-p(V0) :- not q(V0).\n2 generated\t:- p(V0), -p(V0).\nquery 1\t?- -p(X).\n"
unfolding abducible_text clause_text query_text atom_text lit_text
numbered = simp (d0, d1, d2) refl

bare : bare_text (codes "[]" ∷ codes "[|]" ∷ codes "p" ∷ codes "q" ∷ codes "X" ∷ []) (assumed ∷ []) (rule ∷ denial ∷ []) (query ∷ [])
    ≡ codes "#abducible q(V0).\n-p(V0) :- not q(V0).\n?- -p(X).\n"
unfolding abducible_text clause_text query_text atom_text lit_text
bare = simp (d0) refl
