-- A list that a hint shows is met by no point.
use Rattle.std.proofs.Common.{◌≡◌, ◌≢◌, ◌⊎◌, inl, inr, ℕ, zero, suc, ◌==◌, Bool, true, false, ◌||◌, List, [], ◌∷◌, ◌++◌, length, Option, Some, None, Result, Ok, Err, refl, sym, subst, ◌∙◌, arith}
use Rattle.std.specs.Prelude.{if◌then◌else◌}
use Rattle.std.proofs.lemmas.Bool.{or_cases, eqb-true, true≢false}
use Rattle.scasp_num.specs.declared.hints.Step.{Step}
use Rattle.scasp_num.specs.Linear.{Linear}
use Rattle.scasp_list.specs.Each.{Each}
use Rattle.scasp_num.specs.Values.{Holds}
use Rattle.scasp_rows.specs.Points.{MeetsAll, RationalPoint, is_false}
use Rattle.scasp_rows.specs.Samples.{MeetsSome}
use Rattle.scasp_rows.specs.Steps.{row_sum, may_step, row_numbered}
use Rattle.scasp_rows.proofs.Sums.{step-holds}
use Rattle.scasp_list.proofs.EachLemmas.{Each-append, Each-at}
use Rattle.scasp_rows.proofs.Reaching.{false-holds}
use Rattle.scasp_syntax.specs.Constraints.{Sat}
use Rattle.scasp_unify.specs.Resolver.{resolver}
use Rattle.scasp_syntax.specs.declared.con.Con.{Con}
use Rattle.scasp_hint.specs.Satisfying.{sat, HasPoint}
use Rattle.scasp_hint.specs.Sides.{differs}
use Rattle.scasp_hint.specs.AskedRows.{given_rows, RowsNormal, inequalities, resolved_each, asked}
use Rattle.scasp_hint.specs.Showing.{row_or_large, row_from, row_added, after, run, first_fault, run_sides, side_fault, side_numbered, terms_fault, if_resolved, fault_of}
use Rattle.scasp_hint.proofs.SatisfyingLemmas.{sat-point, sat-always}
use Rattle.scasp_hint.proofs.AskedLemmas.{Says, asked-says, absorbs, inequalities-met}
use Rattle.scasp_hint.proofs.SidesLemmas.{SideMet, sides-met}
use Rattle.scasp_hint.specs.declared.sides.Sides.{Sides}
use Rattle.scasp_hint.specs.declared.sides.Sides.TheVariants.{Mixed, Large, Listed}
use Rattle.scasp_hint.specs.declared.asked.Asked.{Asked}
use Rattle.scasp_hint.specs.declared.asked.Asked.TheVariants.{ByTerms, Overflows, Asks}
use Rattle.scasp_syntax.specs.declared.hint.Hint.{Hint}
use Rattle.scasp_hint.specs.declared.fault.HintFault.{HintFault}
use Rattle.scasp_hint.specs.declared.fault.HintFault.TheVariants as fault
use Rattle.scasp_syntax.specs.declared.hint.Hint.TheVariants as hints

-- ---- steps

numbered-holds : (v : RationalPoint) (all : List Linear) (n : ℕ) (r : Linear) → MeetsAll v all → Some r ≡ row_numbered all n → Holds v r
numbered-holds v all zero r e f = cc
numbered-holds v all (suc i) r e f = Each-at (Holds v) all i r e f

added-holds : (v : RationalPoint) (all : List Linear) (s : Step) (row : Linear) → MeetsAll v all → row_added all s ≡ Ok row → Holds v row
added-holds v all s row m e = by (row_numbered all s.p) refl (row_numbered all s.q) refl e
  where
    sum : (p q : Linear) → may_step s.a p s.b q ≡ true → Holds v p → Holds v q → (o : Option Linear) → o ≡ row_sum s.a p s.b q → row_or_large o ≡ Ok row → Holds v row
    sum p q may hp hq None e f = cc
    sum p q may hp hq (Some made) e f =
        let same : made ≡ row = cc in
        subst (Holds v) same (step-holds s.a p s.b q made may e v hp hq)

    test : (p q : Linear) → Holds v p → Holds v q → (b : Bool) → may_step s.a p s.b q ≡ b → (if b then row_or_large (row_sum s.a p s.b q) else Err fault.Step) ≡ Ok row → Holds v row
    test p q hp hq true may f = sum p q may hp hq (row_sum s.a p s.b q) refl f
    test p q hp hq false may f = cc

    by : (o : Option Linear) → o ≡ row_numbered all s.p → (u : Option Linear) → u ≡ row_numbered all s.q → row_from s o u ≡ Ok row → Holds v row
    by None e u g f = cc
    by (Some p) e None g f = cc
    by (Some p) e (Some q) g f = test p q (numbered-holds v all s.p p m e) (numbered-holds v all s.q q m g) (may_step s.a p s.b q) refl f

-- steps that run from rows that are met add no false row
run-met : (v : RationalPoint) (all : List Linear) (steps : List Step) (reached : Bool) → MeetsAll v all → run all steps reached ≡ None → reached ≡ true
run-met v all [] true m e = refl
run-met v all [] false m e = cc
run-met v all (s ∷ ss) reached m e = by (row_added all s) refl e (λ row h f. run-met v (all ++ row ∷ []) ss (reached || is_false row) (Each-append (Holds v) all (row ∷ []) m (h, tt)) f)
  where
    by : (o : Result Linear HintFault) → row_added all s ≡ o → after o (λ row. run (all ++ row ∷ []) ss (reached || is_false row)) ≡ None → ((row : Linear) → Holds v row → run (all ++ row ∷ []) ss (reached || is_false row) ≡ None → (reached || is_false row) ≡ true) → reached ≡ true
    by (Err f) e g rest = cc
    by (Ok row) e g rest =
        let h = added-holds v all s row m e in
        last row h (or_cases reached (is_false row) (rest row h g))
      where
        last : (row : Linear) → Holds v row → (reached ≡ true) ⊎ (is_false row ≡ true) → reached ≡ true
        last row h (inl r) = r
        last row h (inr f) = absurd (false-holds v row f h)

sides-run : (v : RationalPoint) (all bs : List Linear) (lists : List (List Step)) → MeetsAll v all → MeetsSome v bs → run_sides all bs lists ≡ None → ⊥
sides-run v all [] lists m h e = h
sides-run v all (a ∷ bs) [] m h e = cc
sides-run v all (a ∷ bs) (steps ∷ lists) m h e = by (run (all ++ a ∷ []) steps false) refl e h (λ k f. sides-run v all bs lists m k f)
  where
    by : (o : Option HintFault) → run (all ++ a ∷ []) steps false ≡ o → first_fault o (run_sides all bs lists) ≡ None → MeetsSome v (a ∷ bs) → (MeetsSome v bs → run_sides all bs lists ≡ None → ⊥) → ⊥
    by (Some f) e g h rest = cc
    by None e g (inl h) rest = true≢false (sym (run-met v (all ++ a ∷ []) steps false (Each-append (Holds v) all (a ∷ []) m (h, tt)) e))
    by None e g (inr h) rest = rest h g

-- ---- hints

side-shown : (v : RationalPoint) (all : List Linear) (lists : List (List Step)) (o : Option Sides) → MeetsAll v all → ((s : Sides) → Some s ≡ o → SideMet v s) → side_fault all lists o ≡ None → ⊥
side-shown v all lists None m h e = cc
side-shown v all lists (Some Mixed) m h e = cc
side-shown v all lists (Some Large) m h e = by (length lists == 2) e
  where
    by : (b : Bool) → (if b then Some fault.Overflow else Some fault.Step) ≡ None → ⊥
    by true e = cc
    by false e = cc
side-shown v all lists (Some (Listed ss)) m h e = by (length lists == length ss) e
  where
    by : (b : Bool) → (if b then run_sides all ss lists else Some fault.Step) ≡ None → ⊥
    by true e = sides-run v all ss lists m (h (Listed ss) refl) e
    by false e = cc

numbered-met : (v : RationalPoint) (all : List Sides) (n : ℕ) → Each (SideMet v) all → (s : Sides) → Some s ≡ side_numbered all n → SideMet v s
numbered-met v all zero h s e = cc
numbered-met v all (suc i) h s e = Each-at (SideMet v) all i s h e

pub shown-unmet : (cs : List Con) (h : Hint) → RowsNormal cs → fault_of cs h ≡ None → HasPoint cs → ⊥
shown-unmet cs hints.Terms n e k = by (asked cs) (asked-says cs n) e
  where
    by : (a : Asked) → Says cs a → terms_fault a ≡ None → ⊥
    by ByTerms f e = f k
    by Overflows f e = cc
    by (Asks all) f e = cc
shown-unmet cs (hints.Rows steps) n e k = by (resolved_each (resolver cs) (inequalities (given_rows cs))) refl e
  where
    by : (o : Option (List Linear)) → o ≡ resolved_each (resolver cs) (inequalities (given_rows cs)) → if_resolved o (λ all. run all steps false) ≡ None → ⊥
    by None f e = cc
    by (Some all) f e = true≢false (sym (run-met k.1.0 all steps false (inequalities-met cs all n k.0 f k.1.0 k.1.1) e))
shown-unmet cs (hints.Same i lists) n e k = by (resolved_each (resolver cs) (inequalities (given_rows cs))) refl e
  where
    by : (o : Option (List Linear)) → o ≡ resolved_each (resolver cs) (inequalities (given_rows cs)) → if_resolved o (λ all. side_fault all lists (side_numbered (differs cs) i)) ≡ None → ⊥
    by None f e = cc
    by (Some all) f e =
        side-shown k.1.0 all lists (side_numbered (differs cs) i) (inequalities-met cs all n k.0 f k.1.0 k.1.1)
        (numbered-met k.1.0 (differs cs) i (sides-met cs cs k.1.0 (absorbs cs k.0) n k.1.1)) e

pub shown-fails : (cs : List Con) (h : Hint) → RowsNormal cs → fault_of cs h ≡ None → sat cs ≡ false
shown-fails cs h n e = by (sat cs) refl
  where
    by : (b : Bool) → sat cs ≡ b → b ≡ false
    by true f = absurd (shown-unmet cs h n e ((sat-point cs).0 f))
    by false f = refl

pub shown-unsat : (cs : List Con) (h : Hint) → RowsNormal cs → fault_of cs h ≡ None → Sat cs → ⊥
shown-unsat cs h n e s = true≢false (sym (sat-always cs s) ∙ shown-fails cs h n e)

-- ---- no list of steps of a hint that shows the list is empty

pub no-empty-steps : (cs : List Con) → fault_of cs (hints.Rows []) ≢ None
no-empty-steps cs e = by (resolved_each (resolver cs) (inequalities (given_rows cs))) e
  where
    by : (o : Option (List Linear)) → if_resolved o (λ all. run all [] false) ≡ None → ⊥
    by None e = cc
    by (Some all) e = cc

lists-filled : (all ss : List Linear) (lists : List (List Step)) → length lists ≡ length ss → run_sides all ss lists ≡ None → Each (λ (steps : List Step). steps ≢ []) lists
lists-filled all [] [] n e = tt
lists-filled all [] (steps ∷ lists) n e = absurd (omega (arith, n))
lists-filled all (a ∷ bs) [] n e = tt
lists-filled all (a ∷ bs) (steps ∷ lists) n e = by steps (run (all ++ a ∷ []) steps false) refl e (λ f. lists-filled all bs lists (omega (arith, n)) f)
  where
    by : (steps : List Step) (o : Option HintFault) → run (all ++ a ∷ []) steps false ≡ o → first_fault o (run_sides all bs lists) ≡ None → (run_sides all bs lists ≡ None → Each (λ (steps : List Step). steps ≢ []) lists) → Each (λ (steps : List Step). steps ≢ []) (steps ∷ lists)
    by steps (Some f) e g rest = cc
    by [] None e g rest = cc
    by (s ∷ ss) None e g rest = ((λ f. cc), rest g)

pub no-empty-list : (cs : List Con) (n : ℕ) (lists : List (List Step)) → fault_of cs (hints.Same n lists) ≡ None → Each (λ (steps : List Step). steps ≢ []) lists
no-empty-list cs n lists e = by (resolved_each (resolver cs) (inequalities (given_rows cs))) e
  where
    sided : (all ss : List Linear) (b : Bool) → (length lists == length ss) ≡ b → (if b then run_sides all ss lists else Some fault.Step) ≡ None → Each (λ (steps : List Step). steps ≢ []) lists
    sided all ss true f e = lists-filled all ss lists (eqb-true (length lists) (length ss) f) e
    sided all ss false f e = cc

    tested : (b : Bool) → (if b then Some fault.Overflow else Some fault.Step) ≡ None → ⊥
    tested true e = cc
    tested false e = cc

    side : (all : List Linear) (o : Option Sides) → side_fault all lists o ≡ None → Each (λ (steps : List Step). steps ≢ []) lists
    side all None e = cc
    side all (Some Mixed) e = cc
    side all (Some Large) e = absurd (tested (length lists == 2) e)
    side all (Some (Listed ss)) e = sided all ss (length lists == length ss) refl e

    by : (o : Option (List Linear)) → if_resolved o (λ all. side_fault all lists (side_numbered (differs cs) n)) ≡ None → Each (λ (steps : List Step). steps ≢ []) lists
    by None e = cc
    by (Some all) e = side all (side_numbered (differs cs) n) e
