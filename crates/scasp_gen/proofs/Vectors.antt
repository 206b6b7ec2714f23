-- The trial program of two nodes, written out.
use Rattle.std.proofs.Common.{lit<}
use Rattle.std.specs.Prelude.{◌≡◌, ◌∷◌, [], codes, decimal, refl}
use Rattle.std.proofs.lemmas.Fmt.{decimal_digit}
use Rattle.scasp_gen.specs.Trial.{trial_text}

one : decimal 1 ≡ 49 ∷ []
one = decimal_digit 1 (lit< tt)

two : decimal 2 ≡ 50 ∷ []
two = decimal_digit 2 (lit< tt)

two_nodes : trial_text 2 ≡ codes "node(1).\nnode(2).\nin(X) :- node(X), not out(X).\nout(X) :- node(X), not in(X).\nall(0).\nall(K) :- K #> 0, in(K), J #= K-1, all(J).\n?- all(2).\n"
two_nodes = rw (one, two) refl
