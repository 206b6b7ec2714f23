-- The lines of a block are read as this block.
use Rattle.std.proofs.Common.{◌≡◌, ◌∙◌, ℕ, Bool, true, false, List, [], ◌∷◌, ◌++◌, map, flat_map, Some, refl, sym, ap, subst, arith, append_assoc, append-nil}
use Rattle.scasp_syntax.specs.Tm.{Tms, nil}
use Rattle.scasp_syntax.specs.declared.con.Con.{Con}
use Rattle.scasp_syntax.specs.declared.predicate_map.PredMap.{PredMap}
use Rattle.scasp_cert.specs.declared.certificate.Clash.{Clash}
use Rattle.scasp_cert.specs.Trees.{Tree, Branch, listed}
use Rattle.scasp_cert.specs.Certificate.{Certificate}
use Rattle.scasp_answers_terms.specs.Tokens.Lines.{Line, header_line, answer_line, given_line, sample_line, tree_line, check_line, clash_line, map_line, end_line}
use Rattle.scasp_answers.specs.Blocks.Blocks.{Placed, at, trees_lines, branch_lines, check_lines, block_lines}
use Rattle.scasp_answers.specs.Blocks.Open.{case_part, Open, with_parts, trees_among, closed_to}
use Rattle.scasp_answers.specs.Blocks.States.{Entry, block, Phase, at_start, between, in_given, in_sample, in_tree, in_clashes, in_map, State, first_state, started, opened, with_opens, moves, at_edge, begins_block, ends_block, with_given, with_sample, with_clash, with_map, next_state}
use Rattle.scasp_law_answer_text.specs.AnswerReadback.Reading.{read_placed, with_block, has_read, blocks_lines, blocks}
use Rattle.scasp_law_answer_text.proofs.AnswerReadbackLemmas.Leads.{Like, read-append, read-cons, next-closed}
use Rattle.scasp_law_answer_text.proofs.AnswerReadbackLemmas.TreeLeads.{trees_parts, trees-leads, branch-leads}

-- ---- at the left edge

-- no line is open any more, and this has been read of answer n
abbrev pub Edge : State → (Phase → Bool) → ℕ → List Entry → Certificate → Type 0
Edge t test n entries c = (test t.phase ≡ true) × (t.number ≡ n) × (t.entries ≡ entries) × Like 0 t [] c

abbrev pub Stage : State → List Placed → (Phase → Bool) → ℕ → List Entry → Certificate → Type 0
Stage t ps test n entries c = (u : State) × (read_placed t ps ≡ Some u) × Edge u test n entries c

abbrev pub edge_state : State → Phase → Certificate → List Open → State
edge_state t p c os = record t { phase = p; cert = c; opens = os }

next-edge : (t : State) (c : Certificate) (l : Line) → Like 0 t [] c → next_state t (at 0 l) ≡ at_edge (with_opens t [] c) t.phase l
next-edge t c l like = next-closed t 0 l (Some (record { opens = []; block = c })) (like 0 (omega arith))

-- ---- which lines may come

abbrev pub is_given : Phase → Bool
is_given in_given = true
is_given _ = false

abbrev pub is_tree : Phase → Bool
is_tree in_tree = true
is_tree _ = false

abbrev pub takes_clash : Phase → Bool
takes_clash in_tree = true
takes_clash in_clashes = true
takes_clash _ = false

abbrev pub takes_map : Phase → Bool
takes_map in_tree = true
takes_map in_clashes = true
takes_map in_map = true
takes_map _ = false

given-edge : (s : State) (p : Phase) (g : Con) → is_given p ≡ true → at_edge s p (given_line g) ≡ moves s in_given (with_given s.cert g) []
given-edge s at_start g e = cc
given-edge s between g e = cc
given-edge s in_given g e = refl
given-edge s in_sample g e = cc
given-edge s in_tree g e = cc
given-edge s in_clashes g e = cc
given-edge s in_map g e = cc

sample-edge : (s : State) (p : Phase) (ts : Tms) → is_given p ≡ true → at_edge s p (sample_line ts) ≡ moves s in_sample (with_sample s.cert ts) []
sample-edge s at_start ts e = cc
sample-edge s between ts e = cc
sample-edge s in_given ts e = refl
sample-edge s in_sample ts e = cc
sample-edge s in_tree ts e = cc
sample-edge s in_clashes ts e = cc
sample-edge s in_map ts e = cc

check-edge : (s : State) (p : Phase) (k : ℕ) → is_tree p ≡ true → at_edge s p (check_line k) ≡ moves s in_tree s.cert (opened (check_line k) ∷ [])
check-edge s at_start k e = cc
check-edge s between k e = cc
check-edge s in_given k e = cc
check-edge s in_sample k e = cc
check-edge s in_tree k e = refl
check-edge s in_clashes k e = cc
check-edge s in_map k e = cc

clash-edge : (s : State) (p : Phase) (k : Clash) → takes_clash p ≡ true → at_edge s p (clash_line k) ≡ moves s in_clashes (with_clash s.cert k) []
clash-edge s at_start k e = cc
clash-edge s between k e = cc
clash-edge s in_given k e = cc
clash-edge s in_sample k e = cc
clash-edge s in_tree k e = refl
clash-edge s in_clashes k e = refl
clash-edge s in_map k e = cc

map-edge : (s : State) (p : Phase) (m : PredMap) → takes_map p ≡ true → at_edge s p (map_line m) ≡ moves s in_map (with_map s.cert m) []
map-edge s at_start m e = cc
map-edge s between m e = cc
map-edge s in_given m e = cc
map-edge s in_sample m e = cc
map-edge s in_tree m e = refl
map-edge s in_clashes m e = refl
map-edge s in_map m e = refl

end-edge : (s : State) (p : Phase) → takes_map p ≡ true → at_edge s p end_line ≡ Some (ends_block s)
end-edge s at_start e = cc
end-edge s between e = cc
end-edge s in_given e = cc
end-edge s in_sample e = cc
end-edge s in_tree e = refl
end-edge s in_clashes e = refl
end-edge s in_map e = refl

tree-clash : (p : Phase) → is_tree p ≡ true → takes_clash p ≡ true
tree-clash at_start e = cc
tree-clash between e = cc
tree-clash in_given e = cc
tree-clash in_sample e = cc
tree-clash in_tree e = refl
tree-clash in_clashes e = refl
tree-clash in_map e = cc

clash-map : (p : Phase) → takes_clash p ≡ true → takes_map p ≡ true
clash-map at_start e = cc
clash-map between e = cc
clash-map in_given e = cc
clash-map in_sample e = cc
clash-map in_tree e = refl
clash-map in_clashes e = refl
clash-map in_map e = cc

-- ---- lists of lines

abbrev givens : List Con → List Placed
givens gs = map (λ g. at 0 (given_line g)) gs

abbrev clashes : List Clash → List Placed
clashes ks = map (λ k. at 0 (clash_line k)) ks

abbrev maps : List PredMap → List Placed
maps ms = map (λ m. at 0 (map_line m)) ms

all-givens : (gs : List Con) (t : State) (n : ℕ) (es : List Entry) (c : Certificate) → Edge t is_given n es c → Stage t (givens gs) is_given n es (record c { given = c.given ++ gs })
all-givens [] t n es c e = (t, refl, (e.0, e.1, e.2, (λ d h. e.3 d h ∙ ap (λ l. closed_to d [] (record c { given = l })) (sym (append-nil c.given)))))
all-givens (g ∷ gs) t n es c e =
    let u : State = edge_state t in_given (with_given c g) [] in
    let m = all-givens gs u n es (with_given c g) (refl, e.1, e.2, (λ d h. refl)) in
    subst (λ l. Stage t (givens (g ∷ gs)) is_given n es (record c { given = l })) (append_assoc c.given (g ∷ []) gs)
    (m.0, read-cons t u (at 0 (given_line g)) (givens gs) (next-edge t c (given_line g) e.3 ∙ given-edge (with_opens t [] c) t.phase g e.0) ∙ m.1, m.2)

all-clashes : (ks : List Clash) (t : State) (n : ℕ) (es : List Entry) (c : Certificate) → Edge t takes_clash n es c → Stage t (clashes ks) takes_clash n es (record c { clashes = c.clashes ++ ks })
all-clashes [] t n es c e = (t, refl, (e.0, e.1, e.2, (λ d h. e.3 d h ∙ ap (λ l. closed_to d [] (record c { clashes = l })) (sym (append-nil c.clashes)))))
all-clashes (k ∷ ks) t n es c e =
    let u : State = edge_state t in_clashes (with_clash c k) [] in
    let m = all-clashes ks u n es (with_clash c k) (refl, e.1, e.2, (λ d h. refl)) in
    subst (λ l. Stage t (clashes (k ∷ ks)) takes_clash n es (record c { clashes = l })) (append_assoc c.clashes (k ∷ []) ks)
    (m.0, read-cons t u (at 0 (clash_line k)) (clashes ks) (next-edge t c (clash_line k) e.3 ∙ clash-edge (with_opens t [] c) t.phase k e.0) ∙ m.1, m.2)

all-maps : (ms : List PredMap) (t : State) (n : ℕ) (es : List Entry) (c : Certificate) → Edge t takes_map n es c → Stage t (maps ms) takes_map n es (record c { map = c.map ++ ms })
all-maps [] t n es c e = (t, refl, (e.0, e.1, e.2, (λ d h. e.3 d h ∙ ap (λ l. closed_to d [] (record c { map = l })) (sym (append-nil c.map)))))
all-maps (m ∷ ms) t n es c e =
    let u : State = edge_state t in_map (with_map c m) [] in
    let r = all-maps ms u n es (with_map c m) (refl, e.1, e.2, (λ d h. refl)) in
    subst (λ l. Stage t (maps (m ∷ ms)) takes_map n es (record c { map = l })) (append_assoc c.map (m ∷ []) ms)
    (r.0, read-cons t u (at 0 (map_line m)) (maps ms) (next-edge t c (map_line m) e.3 ∙ map-edge (with_opens t [] c) t.phase m e.0) ∙ r.1, r.2)

-- a check, and the same of all
one-check : (k : ℕ) (b : Branch) (t : State) (n : ℕ) (es : List Entry) (c : Certificate) → Edge t is_tree n es c → Stage t (check_lines (k, b)) is_tree n es (record c { checks = c.checks ++ (k, b) ∷ [] })
one-check k b t n es c e =
    let o = opened (check_line k) in
    let u : State = edge_state t in_tree c (o ∷ []) in
    let m = branch-leads b 1 1 u o [] c refl refl refl (λ d h. refl) in
    let kept = m.3 in (
      m.0,
      read-cons t u (at 0 (check_line k)) (branch_lines 1 b) (next-edge t c (check_line k) e.3 ∙ check-edge (with_opens t [] c) t.phase k e.0) ∙ m.1,
      (ap (λ s. is_tree s.phase) kept, ap (λ s. s.number) kept ∙ e.1, ap (λ s. s.entries) kept ∙ e.2, closes k b m.0 c m.2),
    )
  where
    closes : (k : ℕ) (b : Branch) (t : State) (c : Certificate) → Like 1 t (with_parts (opened (check_line k)) (case_part b ∷ []) ∷ []) c → Like 0 t [] (record c { checks = c.checks ++ (k, b) ∷ [] })
    closes k b t c like d h =
        let z : d ≡ 0 = omega (arith, h) in
        like d (omega (arith, h)) ∙ rw z refl

all-checks : (cs : List (ℕ × Branch)) (t : State) (n : ℕ) (es : List Entry) (c : Certificate) → Edge t is_tree n es c → Stage t (flat_map check_lines cs) is_tree n es (record c { checks = c.checks ++ cs })
all-checks [] t n es c e = (t, refl, (e.0, e.1, e.2, (λ d h. e.3 d h ∙ ap (λ l. closed_to d [] (record c { checks = l })) (sym (append-nil c.checks)))))
all-checks (k ∷ cs) t n es c e =
    let f = one-check k.0 k.1 t n es c e in
    let m = all-checks cs f.0 n es (record c { checks = c.checks ++ k ∷ [] }) f.2 in
    subst (λ l. Stage t (flat_map check_lines (k ∷ cs)) is_tree n es (record c { checks = l })) (append_assoc c.checks (k ∷ []) cs)
    (m.0, read-append t f.0 (check_lines k) (flat_map check_lines cs) f.1 ∙ m.1, m.2)

-- the sample and the trees of the query
trees-back-all : (ts : List Tree) → trees_among (trees_parts (listed ts)) ≡ ts
trees-back-all [] = refl
trees-back-all (t ∷ ts) = ap (λ us. t ∷ us) (trees-back-all ts)

abbrev query_lines : Tms → List Tree → List Placed
query_lines sample ts = at 0 (sample_line sample) ∷ at 0 tree_line ∷ trees_lines 1 (listed ts)

the-query : (sample : Tms) (ts : List Tree) (t : State) (n : ℕ) (es : List Entry) (c : Certificate) → Edge t is_given n es c → Stage t (query_lines sample ts) is_tree n es (record c { sample = sample; trees = ts })
unfolding next_state
the-query sample ts t n es c e =
    let b = with_sample c sample in
    let u : State = edge_state t in_sample b [] in
    let v : State = edge_state t in_tree b (opened tree_line ∷ []) in
    let m = trees-leads (listed ts) 1 v (opened tree_line) [] b refl refl (λ d h. refl) in
    let kept = m.3 in (
      m.0,
      read-cons t u (at 0 (sample_line sample)) (at 0 tree_line ∷ trees_lines 1 (listed ts)) (next-edge t c (sample_line sample) e.3 ∙ sample-edge (with_opens t [] c) t.phase sample e.0)
          ∙ read-cons u v (at 0 tree_line) (trees_lines 1 (listed ts)) refl ∙ m.1,
      (ap (λ s. is_tree s.phase) kept, ap (λ s. s.number) kept ∙ e.1, ap (λ s. s.entries) kept ∙ e.2, closes m.0 b m.2),
    )
  where
    closes : (t : State) (b : Certificate) → Like 1 t (with_parts (opened tree_line) (trees_parts (listed ts)) ∷ []) b → Like 0 t [] (record b { trees = ts })
    closes t b like d h =
        let z : d ≡ 0 = omega (arith, h) in
        like d (omega (arith, h)) ∙ rw z (ap (λ l. Some (record { opens = []; block = record b { trees = l } })) (trees-back-all ts))

-- ---- the block

pub the-block : (s : State) (c : Certificate) (n : ℕ) → s.phase ≡ between → s.opens ≡ [] → read_placed s (block_lines c n) ≡ Some (with_block s c n)
unfolding next_state
the-block s c n p o =
    let t : State = record (begins_block s n (started c.query c.terms)) { opens = [] } in
    let begun : next_state s (at 0 (answer_line c.query n c.terms)) ≡ Some t =
    next-closed s 0 (answer_line c.query n c.terms) (Some (record { opens = []; block = s.cert })) (ap (λ os. closed_to 0 os s.cert) o)
    ∙ ap (λ ph. at_edge (with_opens s [] s.cert) ph (answer_line c.query n c.terms)) p in
    let a = all-givens c.given t n s.entries (started c.query c.terms) (refl, refl, refl, (λ d h. refl)) in
    let b = the-query c.sample c.trees a.0 n s.entries (record (started c.query c.terms) { given = c.given }) a.2 in
    let q = all-checks c.checks b.0 n s.entries (record (started c.query c.terms) { given = c.given; sample = c.sample; trees = c.trees }) b.2 in
    let x = all-clashes c.clashes q.0 n s.entries (record (started c.query c.terms) { given = c.given; sample = c.sample; trees = c.trees; checks = c.checks }) (tree-clash q.0.phase q.2.0, q.2.1, q.2.2, q.2.3) in
    let m = all-maps c.map x.0 n s.entries (record (started c.query c.terms) { given = c.given; sample = c.sample; trees = c.trees; checks = c.checks; clashes = c.clashes }) (clash-map x.0.phase x.2.0, x.2.1, x.2.2, x.2.3) in
    let first = at 0 (answer_line c.query n c.terms) ∷ givens c.given in
    let query = query_lines c.sample c.trees in
    let e0 : read_placed s first ≡ Some a.0 = read-cons s t (at 0 (answer_line c.query n c.terms)) (givens c.given) begun ∙ a.1 in
    let e1 : read_placed s (first ++ query) ≡ Some b.0 = read-append s a.0 first query e0 ∙ b.1 in
    let e2 = read-append s b.0 (first ++ query) (flat_map check_lines c.checks) e1 ∙ q.1 in
    let e3 = read-append s q.0 (first ++ query ++ flat_map check_lines c.checks) (clashes c.clashes) e2 ∙ x.1 in
    let e4 = read-append s x.0 (first ++ query ++ flat_map check_lines c.checks ++ clashes c.clashes) (maps c.map) e3 ∙ m.1 in
    read-append s m.0 (first ++ query ++ flat_map check_lines c.checks ++ clashes c.clashes ++ maps c.map) (at 0 end_line ∷ []) e4
    ∙ read-cons m.0 (ends_block (with_opens m.0 [] c)) (at 0 end_line) [] (next-edge m.0 c end_line m.2.3 ∙ end-edge (with_opens m.0 [] c) m.0.phase m.2.0)
    ∙ (λ i. Some (record { phase = between; number = 0; cert = started 0 nil; opens = sym o i; entries = m.2.2 i ++ block (m.2.1 i) c ∷ [] }))

-- ---- blocks one after the other

all-blocks : (answers : List (ℕ × Certificate)) (es : List Entry) → read_placed (has_read es) (blocks_lines answers) ≡ Some (has_read (es ++ blocks answers))
all-blocks [] es = ap (λ l. Some (has_read l)) (sym (append-nil es))
all-blocks (a ∷ answers) es =
    read-append (has_read es) (has_read (es ++ block a.0 a.1 ∷ [])) (block_lines a.1 a.0) (blocks_lines answers) (the-block (has_read es) a.1 a.0 refl refl)
    ∙ all-blocks answers (es ++ block a.0 a.1 ∷ [])
    ∙ ap (λ l. Some (has_read l)) (append_assoc es (block a.0 a.1 ∷ []) (blocks answers))

pub the-file : (answers : List (ℕ × Certificate)) → read_placed first_state (at 0 (header_line 1) ∷ blocks_lines answers) ≡ Some (has_read (blocks answers))
unfolding next_state
the-file answers = read-cons first_state (has_read []) (at 0 (header_line 1)) (blocks_lines answers) refl ∙ all-blocks answers []
