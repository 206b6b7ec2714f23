-- The lines of a few atoms, computed.
use Rattle.std.specs.Prelude.{◌≡◌, ℕ, Bool, true, false, List, [], ◌∷◌, codes}
use Rattle.std.proofs.Common.{refl}
use Rattle.scasp_cert.specs.Text.Terms.{atom_text}
use Rattle.scasp_syntax.specs.Tm.{Tms, app, nil, cons}
use Rattle.scasp_syntax.specs.declared.atom.Atom.{Atom}
use Rattle.scasp_print_atoms.specs.Lines.{atom_count, atom_lines}

abbrev names : List (List ℕ)
names = codes "[]" ∷ codes "[|]" ∷ codes "q" ∷ codes "p" ∷ codes "pq" ∷ []

abbrev atom : Bool → ℕ → Tms → Atom
atom minus name args = record { minus = minus; name = name; args = args }

-- -p, pq, p, p(q), q, p
abbrev atoms : List Atom
atoms = atom false 2 nil ∷ atom false 4 nil ∷ atom false 3 nil ∷ atom false 3 (cons (app 2 nil) nil) ∷ atom true 3 nil ∷ atom false 3 nil ∷ []

-- in byte order, `p` once; `(` comes before each letter
in_order : atom_lines names atoms ≡ codes " -p\n p\n p(q)\n pq\n q\n"
unfolding atom_text
in_order = refl

five : atom_count atoms ≡ 5
five = refl

none : atom_lines names [] ≡ []
none = refl
