-- The parts that wait, one step after the other.
use Rattle.std.proofs.Common.{◌≡◌, ◌∙◌, ℕ, suc, ◌+◌, ◌<◌, List, [], ◌∷◌, ◌++◌, refl, ap, arith}
use Rattle.scasp_syntax.specs.declared.clause.Clause.{Clause}
use Rattle.scasp_cert.specs.Lines.{lines_at, lines_below, lines_in, lines_under}
use Rattle.scasp_cert.specs.Trees.{pos_tree, neg_tree, loop_tree, seen_tree, test_tree, split, void, leaf, head, no_tree, tree, no_branch, branch}
use Rattle.scasp_lines_places.specs.Dues.Pending.{Pending as PendingValue, nodes, rules, one_case, checks, pending_room, all_room, room_here, left}
use Rattle.scasp_lines_places.specs.Dues.PendingView.{pending_of, waiting_of}
use Rattle.scasp_lines_places.specs.declared.dues.pending.Pending.{Pending}
use Rattle.scasp_lines_places.proofs.DuesLemmas.DueLemmas.{map_push}

-- ---- what is counted

all_room-append : (cs : List Clause) (ps qs : List PendingValue) → all_room cs (ps ++ qs) ≡ all_room cs ps + all_room cs qs
all_room-append cs [] qs = omega arith
all_room-append cs (p ∷ ps) qs = let h = all_room-append cs ps qs in omega (arith, h)

room-parts : (cs : List Clause) (p : PendingValue) → pending_room cs p ≡ room_here cs p + all_room cs (left p)
room-parts cs (nodes no_tree) = refl
room-parts cs (nodes (tree (pos_tree a k ts children) others)) = omega arith
room-parts cs (nodes (tree (neg_tree a bs) others)) = omega arith
room-parts cs (nodes (tree (loop_tree lit to) others)) = omega arith
room-parts cs (nodes (tree (seen_tree lit to) others)) = omega arith
room-parts cs (nodes (tree (test_tree c hint) others)) = omega arith
room-parts cs (rules no_branch) = refl
room-parts cs (rules (branch k b bs)) = omega arith
room-parts cs (one_case (split c first second)) = omega arith
room-parts cs (one_case (void hint)) = refl
room-parts cs (one_case (leaf k children)) = omega arith
room-parts cs (one_case (head children)) = omega arith
room-parts cs (checks []) = refl
room-parts cs (checks (c ∷ ks)) = omega arith

-- ---- how much is left: a part and each of its lines

abbrev pending_size : PendingValue → ℕ
pending_size (nodes ts) = suc (lines_below ts + lines_below ts)
pending_size (rules bs) = suc (lines_in bs + lines_in bs)
pending_size (one_case b) = suc (lines_at b + lines_at b)
pending_size (checks ks) = suc (lines_under ks + lines_under ks)

abbrev pub all_size : List PendingValue → ℕ
all_size [] = 0
all_size (p ∷ ps) = pending_size p + all_size ps

all_size-append : (ps qs : List PendingValue) → all_size (ps ++ qs) ≡ all_size ps + all_size qs
all_size-append [] qs = omega arith
all_size-append (p ∷ ps) qs = let h = all_size-append ps qs in omega (arith, h)

size-parts : (p : PendingValue) → all_size (left p) < pending_size p
size-parts (nodes no_tree) = omega arith
size-parts (nodes (tree (pos_tree a k ts children) others)) = omega arith
size-parts (nodes (tree (neg_tree a bs) others)) = omega arith
size-parts (nodes (tree (loop_tree lit to) others)) = omega arith
size-parts (nodes (tree (seen_tree lit to) others)) = omega arith
size-parts (nodes (tree (test_tree c hint) others)) = omega arith
size-parts (rules no_branch) = omega arith
size-parts (rules (branch k b bs)) = omega arith
size-parts (one_case (split c first second)) = omega arith
size-parts (one_case (void hint)) = omega arith
size-parts (one_case (leaf k children)) = omega arith
size-parts (one_case (head children)) = omega arith
size-parts (checks []) = omega arith
size-parts (checks (c ∷ ks)) = omega arith

-- ---- the last of what waits is taken

pub room-step : (cs : List Clause) (old rest new : List Pending) (p : Pending) (here : ℕ) → old ≡ rest ++ p ∷ []
    → here ≡ room_here cs (pending_of p) → waiting_of new ≡ waiting_of rest ++ left (pending_of p)
    → all_room cs (waiting_of old) ≡ here + all_room cs (waiting_of new)
room-step cs old rest new p here e h w =
    let a = ap (all_room cs) (ap waiting_of e ∙ map_push pending_of rest p) ∙ all_room-append cs (waiting_of rest) (pending_of p ∷ []) in
    let b = ap (all_room cs) w ∙ all_room-append cs (waiting_of rest) (left (pending_of p)) in
    let k = room-parts cs (pending_of p) in omega (arith, a, b, k, h)

pub size-step : (old rest new : List Pending) (p : Pending) → old ≡ rest ++ p ∷ [] → waiting_of new ≡ waiting_of rest ++ left (pending_of p)
    → all_size (waiting_of new) < all_size (waiting_of old)
size-step old rest new p e w =
    let a = ap all_size (ap waiting_of e ∙ map_push pending_of rest p) ∙ all_size-append (waiting_of rest) (pending_of p ∷ []) in
    let b = ap all_size w ∙ all_size-append (waiting_of rest) (left (pending_of p)) in
    let k = size-parts (pending_of p) in omega (arith, a, b, k)
