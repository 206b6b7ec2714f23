-- What a hint shows of a line, at the line's instances.
use Rattle.std.proofs.Common.{◌≡◌, ◌∙◌, ℕ, Bool, true, not, List, [], ◌∷◌, ◌++◌, None, refl, ap, inl, inr}
use Rattle.std.specs.List.{list_all}
use Rattle.std.proofs.lemmas.Bool.{and_parts, and_from, cases_Bool}
use Rattle.scasp_syntax.specs.Constraints.{holds}
use Rattle.scasp_syntax.specs.Tm.{Tm}
use Rattle.scasp_syntax.specs.Values.{Sub, is_ground}
use Rattle.scasp_syntax.specs.declared.con.Con.{Con}
use Rattle.scasp_syntax.specs.declared.hint.Hint.{Hint}
use Rattle.scasp_hint.specs.AskedRows.{RowsNormal}
use Rattle.scasp_hint.specs.Showing.{fault_of}
use Rattle.scasp_hint.proofs.ShownLemmas.{shown-unsat}
use Rattle.scasp_lines.specs.Contexts.{context}
use Rattle.scasp_unify.specs.Negations.{negated}
use Rattle.scasp_lines.specs.Opened.{Opened, is_met}
use Rattle.scasp_lines.specs.Scopes.{excludes_no_parts}
use Rattle.scasp_lines.proofs.NegationLemmas.{negated-holds}
use Rattle.scasp_lines.proofs.WaysLemmas.{context-exact}
use Rattle.scasp_checker_rules.proofs.NormalityLemmas.{OpenedNormal, context-normal, normal-append, negated-normal}

pub all-append : {X : Type 0} → (p : X → Bool) (xs ys : List X) → list_all p xs ≡ true → list_all p ys ≡ true → list_all p (xs ++ ys) ≡ true
all-append p [] ys h k = k
all-append p (x ∷ xs) ys h k =
    let q = and_parts (p x) (list_all p xs) h in and_from (p x) (list_all p (xs ++ ys)) q.0 (all-append p xs ys q.1 k)

pub context-met : (d : List Tm) (given : List Con) (os : List Opened) (v : Sub) → list_all (holds v) given ≡ true → list_all (is_met d v) os ≡ true → list_all (holds v) (context given os) ≡ true
context-met d given os v g m = ((context-exact d given os v).0 (g, m)).0

pub unmet : (cs : List Con) (h : Hint) → RowsNormal cs → fault_of cs h ≡ None → (v : Sub) → ((x : ℕ) → is_ground (v x) ≡ true) → list_all (holds v) cs ≡ true → ⊥
unmet cs h n e v g m = shown-unsat cs h n e (record { by = record { of = v; ground = g }; meets = m })

module _ (given : List Con) (os : List Opened) (normal : RowsNormal given) (opened_normal : OpenedNormal os)
    (d : List Tm) (v : Sub) (g : (x : ℕ) → is_ground (v x) ≡ true) (m : list_all (holds v) given ≡ true) (met : list_all (is_met d v) os ≡ true) where
  pub no-instance : (h : Hint) → fault_of (context given os) h ≡ None → ⊥
  no-instance h e = unmet (context given os) h (context-normal given os normal opened_normal) e v g (context-met d given os v m met)

  pub test-holds : (k : ℕ) (c : Con) (h : Hint) → RowsNormal (c ∷ []) → excludes_no_parts c ≡ true → fault_of (context given os ++ negated k c ∷ []) h ≡ None → holds v c ≡ true
  test-holds k c h m_normal b e = elim (cases_Bool (holds v c)) [
    | inl e ↦ e
    | inr n ↦
        (let false_there : holds v (negated k c) ≡ true = negated-holds v k c b ∙ ap not n in
        absurd
        (unmet (context given os ++ negated k c ∷ []) h
        (normal-append (context given os) (negated k c ∷ []) (context-normal given os normal opened_normal) (negated-normal k c m_normal)) e v g
        (all-append (holds v) (context given os) (negated k c ∷ []) (context-met d given os v m met) (and_from _ true false_there refl))))
  ]
