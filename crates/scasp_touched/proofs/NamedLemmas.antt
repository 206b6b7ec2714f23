-- What lines name, put in one after another.
use Rattle.std.proofs.Common.{◌≡◌, ◌∙◌, ℕ, ◌+◌, ◌<◌, Bool, List, [], ◌∷◌, ◌++◌, nat_eq, map, drop, get_or, refl, ap, sym, length}
use Rattle.std.specs.List.{list_any, flat_map}
use Rattle.std.proofs.lemmas.Bool.Decides.{Decides-eqb}
use Rattle.std.proofs.lemmas.List.{at_drop_more}
use Rattle.std.proofs.lemmas.List.Sums.{fold-append}
use Rattle.indexmap.specs.IndexSet.{insert_all, insert_key}
use Rattle.scasp_cert.specs.Trees.{Branch, Tree, covering, listed}
use Rattle.scasp_syntax.specs.Same.{same_pred}
use Rattle.scasp_syntax.specs.declared.atom.Pred.{Pred}
use Rattle.scasp_graph.specs.Inside.Growing.{grown, with_pred}
use Rattle.scasp_graph.proofs.PredLemmas.{grown_append, pred_is}
use Rattle.scasp_touched.specs.Inside.{with_named}
use Rattle.scasp_touched.specs.declared.named.Named.{Named}
use Rattle.scasp_touched.proofs.SetLemmas.{any-all}

pub named-append : (n : Named) (ks js : List ℕ) (ps qs : List Pred) → with_named (with_named n ks ps) js qs ≡ with_named n (ks ++ js) (ps ++ qs)
named-append n ks js ps qs = λ i. record {
  clauses = sym (fold-append (insert_key nat_eq) n.clauses ks js) i;
  preds = sym (grown_append n.preds ps qs) i;
}

-- one after another
pub named-then : (n m l : Named) (ks js : List ℕ) (ps qs : List Pred) → m ≡ with_named n ks ps → l ≡ with_named m js qs → l ≡ with_named n (ks ++ js) (ps ++ qs)
named-then n m l ks js ps qs e f = f ∙ ap (λ z. with_named z js qs) e ∙ named-append n ks js ps qs

-- some is named, and this will be
pub named_twice : (n m : Named) (ks js : List ℕ) (ps qs : List Pred) → m ≡ with_named n ks ps → with_named m js qs ≡ with_named n (ks ++ js) (ps ++ qs)
named_twice n m ks js ps qs e = ap (λ z. with_named z js qs) e ∙ named-append n ks js ps qs

-- an item of a list is put in, where what is left of the list was to come to `all`
pub named-next : {X Y : Type 0} (v : X → Y) (f : List Y → List ℕ) (g : List Y → List Pred) (ks : Y → List ℕ) (ps : Y → List Pred)
    → ((y : Y) (ys : List Y) → f (y ∷ ys) ≡ ks y ++ f ys) → ((y : Y) (ys : List Y) → g (y ∷ ys) ≡ ps y ++ g ys)
    → (xs : List X) (i : ℕ) (x : X) (n m all : Named) → i < length xs → x ≡ get_or xs i x
    → with_named n (f (map v (drop i xs))) (g (map v (drop i xs))) ≡ all → m ≡ with_named n (ks (v x)) (ps (v x))
    → with_named m (f (map v (drop (i + 1) xs))) (g (map v (drop (i + 1) xs))) ≡ all
named-next v f g ks ps fs gs xs i x n m all below is before e =
    let rest = map v (drop (i + 1) xs) in
    let here = v (get_or xs i x) in
    ap (λ z. with_named z (f rest) (g rest)) e
    ∙ ap (λ y. with_named (with_named n (ks (v y)) (ps (v y))) (f rest) (g rest)) is
    ∙ named-append n (ks here) (f rest) (ps here) (g rest)
    ∙ (λ j. with_named n (sym (fs here rest) j) (sym (gs here rest) j))
    ∙ sym (at_drop_more (λ ys. with_named n (f (map v ys)) (g (map v ys))) xs i x below)
    ∙ before

-- a test of some clause, or of some predicate, that lines name
pub any-clause : (f : ℕ → Bool) (ks : List ℕ) → list_any f (insert_all nat_eq [] ks) ≡ list_any f ks
any-clause f ks = any-all nat_eq (λ x y. (Decides-eqb x y).0) f [] ks

grown-inserted : (seen ps : List Pred) → grown seen ps ≡ insert_all same_pred seen ps
grown-inserted seen [] = refl
grown-inserted seen (p ∷ ps) = grown-inserted (with_pred seen p) ps

pub any-pred : (f : Pred → Bool) (ps : List Pred) → list_any f (grown [] ps) ≡ list_any f ps
any-pred f ps = ap (list_any f) (grown-inserted [] ps) ∙ any-all same_pred pred_is f [] ps
