-- The trees of a finished state are good: the whole way leads back from its lines to its start.
use Rattle.std.specs.Prelude.{◌≡◌, ℕ, zero, suc, ◌+◌, ◌<◌, true, Some, List, [], ◌∷◌, ◌++◌, map, drop, slice_get, length}
use Rattle.std.proofs.Common.{◌∙◌, ap, arith, refl, subst, sym}
use Rattle.std.proofs.lemmas.List.{append-nil, drop_all}
use Rattle.scasp_cert.specs.Lines.{lines_at, lines_below}
use Rattle.scasp_cert.specs.Trees.{Branch, Tree, listed}
use Rattle.scasp_law_first_event.specs.Events.{IsReachable}
use Rattle.scasp_law_headed_steps.specs.Calm.{IsHeaded}
use Rattle.scasp_law_sorted.specs.Asking.{is_rowless}
use Rattle.scasp_nmr.specs.declared.items.CheckItem.{CheckItem}
use Rattle.scasp_search_rules.specs.Successors.Problems.{Problem}
use Rattle.scasp_search_rules.specs.Successors.Search.{start}
use Rattle.scasp_search_rules.specs.Successors.Trees.{Built, built, line_of, literal_lines}
use Rattle.scasp_search_rules.specs.declared.states.covers.Cover.{Cover}
use Rattle.scasp_search_rules.specs.declared.states.lines.Line.{Line}
use Rattle.scasp_search_rules.specs.declared.states.lines.Line.TheVariants as line
use Rattle.scasp_search_rules.specs.declared.states.state.State.{State}
use Rattle.scasp_search_rules.specs.declared.states.tasks.Task.TheVariants as task
use Rattle.scasp_syntax.specs.Flat.{flat_body}
use Rattle.scasp_syntax.specs.Values.{Sub}
use Rattle.scasp_syntax.specs.declared.atom.Lit.{Lit}
use Rattle.scasp_syntax.specs.declared.clause.FlatItem.{FlatItem}
use Rattle.scasp_syntax.specs.declared.clause.Query.{Query}
use Rattle.scasp_syntax.specs.declared.program.Program.{Program}
use Rattle.scasp_unify.specs.declared.bindings.Binding.{Binding}
use Rattle.scasp_law_headed.proofs.Ahead.{LineFine, case_read, lines_before, view, wants-append, wants_of}
use Rattle.scasp_law_headed.proofs.Backing.{Begun, FitsAt, Shape, coming}
use Rattle.scasp_law_headed.proofs.Passing.{Passed, past-begun, trail-passed}
use Rattle.scasp_law_headed.proofs.Counting.{Closed, closing, closing-wanted, trail-closed}
use Rattle.scasp_law_headed.proofs.Fitting.{Fits, fit-trees}
use Rattle.scasp_law_headed.proofs.Reaching.{arrived, fine-there}
use Rattle.scasp_law_headed.proofs.Readings.{PlainLine, built-renamed, lines-same}
use Rattle.scasp_law_headed.specs.Finished.{FinishedAreGood, places, told}
use Rattle.scasp_list.proofs.EachLemmas.{Each-map}
use Rattle.scasp_list.specs.Each.{Each}
use Rattle.scasp_search_rules.specs.Successors.Cases.{line_under}
use Rattle.scasp_search_rules.specs.Successors.Numbering.{line_renamed}
use Rattle.scasp_law_headed.specs.Good.{GoodChecks, GoodTrees, SeenRight, ats}
use Rattle.scasp_law_headed.proofs.Views.{Trail, Want, want_check, wanted}
use Rattle.scasp_law_headed.specs.Reading.{dues_read, line_read, reading}

-- ---- what is wanted at the start

abbrev pub checking : List CheckItem → List Want
checking cs = map (λ i. want_check i.clause i.head) cs

shows-wanted : (r : Sub) (bs : List Binding) (is : List FlatItem) → wants_of r bs (map task.Show is) ≡ wanted (dues_read r is)
shows-wanted r bs [] = refl
shows-wanted r bs (i ∷ is) = ap (λ (z : List Want). wanted (dues_read r (i ∷ [])) ++ z) (shows-wanted r bs is)

checks-wanted : (r : Sub) (bs : List Binding) (cs : List CheckItem) → wants_of r bs (map (λ i. task.Check i.clause i.head) cs) ≡ checking cs
checks-wanted r bs [] = refl
checks-wanted r bs (c ∷ cs) = ap (λ (z : List Want). want_check c.clause c.head ∷ z) (checks-wanted r bs cs)

checking-closes : (cs : List CheckItem) → closing (checking cs) ≡ 0
checking-closes [] = refl
checking-closes (c ∷ cs) = checking-closes cs

-- ---- the checks

module _ (p : Program) (f : State) (v : Sub) (ls : List Line) where
  pub record FitChecks (at : ℕ) (cs : List CheckItem) (b : Built) : Type 0 where
    pub numbers : map (λ (c : ℕ × Branch). c.0) b.checks ≡ map (λ (i : CheckItem). i.clause) cs
    pub good : GoodChecks p f v ls at [] [] b.checks
    pub nodes : b.nodes ≡ []

  fit-checks : (at : ℕ) (cs : List CheckItem) (b : Built) → Fits p f v ls at [] [] (checking cs) b → FitChecks at cs b
  fit-checks at [] b h = record {
    numbers = ap (λ (z : Built). map (λ (c : ℕ × Branch). c.0) z.checks) h.0;
    good = subst (λ (z : Built). GoodChecks p f v ls at [] [] z.checks) (sym h.0) tt;
    nodes = ap (λ (z : Built). z.nodes) h.0;
  }
  fit-checks at (i ∷ cs) b h =
      let k = fit-checks (at + (1 + lines_at h.0)) cs (record b { checks = h.1 }) h.4 in
      record {
        numbers = ap (map (λ (c : ℕ × Branch). c.0)) h.2 ∙ ap (λ (z : List ℕ). i.clause ∷ z) k.numbers;
        good = subst (GoodChecks p f v ls at [] []) (sym h.2) (h.3, k.good);
        nodes = k.nodes;
      }

-- ---- the finished state

get-within : {A : Type 0} (xs : List A) (i : ℕ) (x : A) → slice_get xs i ≡ Some x → i < length xs
get-within [] i x e = absurd (cc e)
get-within (y ∷ ys) zero x e = omega arith
get-within (y ∷ ys) (suc i) x e = let k = get-within ys i x e in omega (arith, k)

module _ (p : Problem) (q : Query) (is : IsHeaded p q) (rowless : is_rowless p q ≡ true) (f : State) (reached : IsReachable p q f) (ended : f.work ≡ []) (v : Sub) where
  wants-begun : wants_of (reading f v) [] (start q p.checks).work ≡ wanted (dues_read (reading f v) (flat_body q.body)) ++ checking p.checks
  wants-begun =
      wants-append (reading f v) [] (map task.Show (flat_body q.body)) (map (λ i. task.Check i.clause i.head) p.checks)
      ∙ ap (λ (z : List Want). z ++ wants_of (reading f v) [] (map (λ i. task.Check i.clause i.head) p.checks)) (shows-wanted (reading f v) [] (flat_body q.body))
      ∙ ap (λ (z : List Want). wanted (dues_read (reading f v) (flat_body q.body)) ++ z) (checks-wanted (reading f v) [] p.checks)

  wants-ended : wants_of (reading f v) f.bound f.work ≡ []
  wants-ended = ap (wants_of (reading f v) f.bound) ended

  way : Trail p.program f v (view p.program f v (start q p.checks)) (view p.program f v f)
  way = arrived p q is rowless f reached ended v

  begun-closed : Closed (view p.program f v (start q p.checks))
  begun-closed = sym (ap closing wants-begun ∙ closing-wanted (dues_read (reading f v) (flat_body q.body)) (checking p.checks) ∙ checking-closes p.checks)

  none-open : (cs : List Cover) → length (map case_read cs) ≡ 0 → cs ≡ []
  none-open [] e = refl
  none-open (c ∷ cs) e = absurd (cc e)

  closed : f.covers ≡ []
  closed = none-open f.covers (trail-closed p.program f v (view p.program f v (start q p.checks)) (view p.program f v f) way begun-closed ∙ ap closing wants-ended)

  lines-told : (view p.program f v f).lines ≡ (told f v)
  lines-told = ap (λ (cs : List Cover). map (line_read (reading f v)) (lines_before cs ++ f.lines)) closed

  none-behind : drop (length (told f v)) (told f v) ≡ []
  none-behind = drop_all (length (told f v)) (told f v) (omega arith)

  shape-ended : Shape p.program f v (told f v) (view p.program f v f)
  shape-ended = record {
    begun = subst (Begun (told f v)) (sym lines-told) (sym (append-nil (told f v)) ∙ ap (λ (z : List Line). (told f v) ++ z) (sym none-behind));
    fits = subst (λ (ws : List Want). FitsAt p.program f v (told f v) (view p.program f v f).lines (view p.program f v f).literals (view p.program f v f).cases ws (coming p.program f v (told f v) (view p.program f v f).lines)) (sym wants-ended) (
      ap (coming p.program f v (told f v)) lines-told ∙ ap (built (ats p.program f v (told f v))) none-behind,
      ap (λ (z : List Line). suc (length z)) lines-told,
    );
  }

  passed : Passed p.program f v (told f v) (view p.program f v (start q p.checks)) (view p.program f v f)
  passed =
      trail-passed p.program f v (told f v) (view p.program f v (start q p.checks)) (view p.program f v f) way (record { numbered = refl; lines = refl })
      (λ s. past-begun p.program f v (told f v) (wants_of (reading f v) [] (start q p.checks).work)) shape-ended

  abbrev pub made : Built
  made = built (ats p.program f v (told f v)) (told f v)

  fits-begun : Fits p.program f v (told f v) 1 [] [] (wanted (dues_read (reading f v) (flat_body q.body)) ++ checking p.checks) made
  fits-begun = subst (λ (ws : List Want). Fits p.program f v (told f v) 1 [] [] ws made) wants-begun passed.shape.fits

  -- the trees of the lines
  pub record AreGood : Type 0 where
    pub trees : GoodTrees p.program f v (told f v) 1 [] [] (dues_read (reading f v) (flat_body q.body)) (listed made.nodes)
    pub checks : GoodChecks p.program f v (told f v) (1 + lines_below (listed made.nodes)) [] [] made.checks
    pub numbers : map (λ (c : ℕ × Branch). c.0) made.checks ≡ map (λ (i : CheckItem). i.clause) p.checks
    pub seen : (i : ℕ) (l : Lit) (n : ℕ) → slice_get (told f v) i ≡ Some (line.Seen l n) → SeenRight p.program f v (told f v) (suc i) l (line_of (ats p.program f v (told f v)) n)

  pub are-good : AreGood
  are-good =
      let t = fit-trees p.program f v (told f v) 1 [] [] (dues_read (reading f v) (flat_body q.body)) (checking p.checks) made fits-begun in
      let c = fit-checks p.program f v (told f v) (1 + lines_below (listed t.trees)) p.checks (record made { nodes = t.rest }) t.fits in
      let same : made.nodes ≡ t.trees = t.nodes ∙ ap (λ (z : List Tree). t.trees ++ z) c.nodes ∙ append-nil t.trees in
      record {
        trees = subst (λ (z : List Tree). GoodTrees p.program f v (told f v) 1 [] [] (dues_read (reading f v) (flat_body q.body)) (listed z)) (sym same) t.good;
        checks = subst (λ (z : List Tree). GoodChecks p.program f v (told f v) (1 + lines_below (listed z)) [] [] made.checks) (sym same) c.good;
        numbers = c.numbers;
        seen = λ i l n e. passed.past.seen i l n (subst (λ (z : List Line). i < length z) (sym lines-told) (get-within (told f v) i (line.Seen l n) e)) e;
      }

-- ---- the certificate

pub finished-good : FinishedAreGood
finished-good p q f is rowless reached ended =
    let v : Sub = places p f (length q.names) in
    let ls : List Line = map (line_under f) f.lines in
    let g = are-good p q is rowless f reached ended v in
    let fine = fine-there p q is rowless f reached ended v f reached in
    let plain : Each PlainLine f.lines = Each-map (LineFine f) PlainLine (λ l k. k.0) f.lines fine.lines in
    let same : built (literal_lines 1 (told f v)) (told f v) ≡ built (literal_lines 1 ls) (map (line_renamed v) ls) =
    sym (ap (λ (ats : List ℕ). built ats (map (line_renamed v) ls)) (lines-same f (reading f v) 1 f.lines) ∙ built-renamed (literal_lines 1 (told f v)) f v f.lines plain) in
    record {
      trees = subst (λ (b : Built). GoodTrees p.program f v (told f v) 1 [] [] (dues_read (reading f v) (flat_body q.body)) (listed b.nodes)) same g.trees;
      checks = subst (λ (b : Built). GoodChecks p.program f v (told f v) (1 + lines_below (listed b.nodes)) [] [] b.checks) same g.checks;
      numbers = sym (ap (λ (b : Built). map (λ (c : ℕ × Branch). c.0) b.checks) same) ∙ g.numbers;
      seen = g.seen;
    }
