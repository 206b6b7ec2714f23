-- The text of the trial program, one clause a line.
use Rattle.std.specs.Prelude.{ℕ, zero, suc, ◌+◌, List, [], ◌++◌, codes, decimal}

-- the number in brackets that the text opened, and the end of the clause
abbrev pub ended : List ℕ → ℕ → List ℕ
ended text number = text ++ decimal number ++ codes ").\n"

-- so many nodes, from k on
abbrev pub nodes_from : ℕ → ℕ → List ℕ
nodes_from k zero = []
nodes_from k (suc n) = ended (codes "node(") k ++ nodes_from (k + 1) n

-- each node is in or out, and all nodes to K are in
abbrev pub clauses_text : List ℕ
clauses_text =
    codes "in(X) :- node(X), not out(X).\n"
    ++ codes "out(X) :- node(X), not in(X).\n"
    ++ codes "all(0).\n"
    ++ codes "all(K) :- K #> 0, in(K), J #= K-1, all(J).\n"

abbrev pub trial_text : ℕ → List ℕ
trial_text n = nodes_from 1 n ++ clauses_text ++ ended (codes "?- all(") n
