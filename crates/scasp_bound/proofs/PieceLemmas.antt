-- Lists of terms that are still to be gone through, the next one last.
use Rattle.std.proofs.Common.{◌≡◌, ◌<◌, ◌≤◌, ℕ, ◌+◌, ◌*◌, List, [], ◌∷◌, ◌++◌, length, Bor, Option, arith, refl, ap, sym, append_assoc, ◌∙◌}
use Rattle.std.specs.List.{sum_by}
use Rattle.std.proofs.lemmas.List.{append-nil, nil_from_length}
use Rattle.std.proofs.lemmas.List.Sums.{sum_by-append}
use Rattle.scasp_bound.specs.declared.reading.Piece.{Piece}
use Rattle.scasp_bound.specs.Inside.Reading.{behind, piece_read}
use Rattle.scasp_bound.proofs.WalkLemmas.{heavy}
use Rattle.scasp_num.specs.Number.{Number}
use Rattle.scasp_syntax.specs.Tm.{Tm, Tms, var, num, app, nil, weight, weight_s}
use Rattle.scasp_syntax.specs.Values.{under, all_under}
use Rattle.scasp_syntax.specs.View.{tm_of, tms_of}
use Rattle.scasp_syntax.specs.declared.term.Term.{Term}
use Rattle.scasp_unify.specs.Unification.{term_vars, terms_vars}
use Rattle.scasp_unify.specs.declared.bindings.Binding.{Binding}

abbrev Bindings : Type 0
Bindings = List (Option Binding)

abbrev pub vars_in : Bindings → List Piece → List ℕ
vars_in bs [] = []
vars_in bs (p ∷ ps) = vars_in bs ps ++ terms_vars (piece_read bs p)

abbrev piece_work : Bindings → Piece → ℕ
piece_work bs p = 1 + 2 * weight_s (piece_read bs p)

-- what is left to do with them
abbrev pub all_work : Bindings → List Piece → ℕ
all_work bs ps = sum_by (piece_work bs) ps

pushed_vars : (bs : Bindings) (ps : List Piece) (p : Piece) → vars_in bs (ps ++ p ∷ []) ≡ terms_vars (piece_read bs p) ++ vars_in bs ps
pushed_vars bs [] p = sym (append-nil (terms_vars (piece_read bs p)))
pushed_vars bs (q ∷ ps) p =
    ap (λ xs. xs ++ terms_vars (piece_read bs q)) (pushed_vars bs ps p)
    ∙ append_assoc (terms_vars (piece_read bs p)) (vars_in bs ps) (terms_vars (piece_read bs q))

pushed_work : (bs : Bindings) (ps : List Piece) (p : Piece) → all_work bs (ps ++ p ∷ []) ≡ all_work bs ps + piece_work bs p
pushed_work bs ps p = sum_by-append (piece_work bs) ps (p ∷ []) ∙ (omega arith)

-- nothing is left of the last one
pub none_left : (bs : Bindings) (ps qs : List Piece) (p : Piece) (found z : List ℕ) → qs ≡ ps ++ p ∷ [] → length p.terms.now ≡ 0
    → found ++ vars_in bs qs ≡ z → found ++ vars_in bs ps ≡ z
none_left bs ps qs p found z q n i =
    let e : p.terms.now ≡ [] = nil_from_length p.terms.now n in
    ap (λ (ts : List Term). found ++ (terms_vars (all_under (behind p.from bs) (tms_of ts)) ++ vars_in bs ps)) (sym e)
    ∙ ap (λ xs. found ++ xs) (sym (pushed_vars bs ps p)) ∙ ap (λ os. found ++ vars_in bs os) (sym q) ∙ i

-- the last one begins with a term that begins so
opened : (bs : Bindings) (ps qs rs : List Piece) (p o : Piece) (h : Tm) (t : Term) (left : List Term) (found z : List ℕ) → qs ≡ ps ++ p ∷ [] → p.terms.now ≡ t ∷ left
    → o.terms.now ≡ left → o.from ≡ p.from → rs ≡ ps ++ o ∷ [] → h ≡ under (behind p.from bs) (tm_of t)
    → found ++ vars_in bs qs ≡ z → found ++ (term_vars h ++ vars_in bs rs) ≡ z
opened bs ps qs rs p o h t left found z q e l f r u i =
    ap (λ os. found ++ (term_vars h ++ vars_in bs os)) r
    ∙ ap (λ xs. found ++ (term_vars h ++ xs)) (pushed_vars bs ps o)
    ∙ (λ j. found ++ (term_vars (u j) ++ (terms_vars (all_under (behind (f j) bs) (tms_of (l j))) ++ vars_in bs ps)))
    ∙ ap (λ xs. found ++ xs) (sym (append_assoc (term_vars (under (behind p.from bs) (tm_of t))) (terms_vars (all_under (behind p.from bs) (tms_of left))) (vars_in bs ps)))
    ∙ ap (λ (ts : List Term). found ++ (terms_vars (all_under (behind p.from bs) (tms_of ts)) ++ vars_in bs ps)) (sym e)
    ∙ ap (λ xs. found ++ xs) (sym (pushed_vars bs ps p)) ∙ ap (λ os. found ++ vars_in bs os) (sym q) ∙ i

pub var_found : (bs : Bindings) (ps qs rs : List Piece) (p : Piece) (x : ℕ) (t : Term) (left : Bor (List Term)) (found more z : List ℕ) → qs ≡ ps ++ p ∷ [] → p.terms.now ≡ t ∷ left.now
    → rs ≡ ps ++ record { terms = left; from = p.from } ∷ [] → var x ≡ under (behind p.from bs) (tm_of t) → more ≡ found ++ x ∷ []
    → found ++ vars_in bs qs ≡ z → more ++ vars_in bs rs ≡ z
var_found bs ps qs rs p x t left found more z q e r u m i =
    ap (λ xs. xs ++ vars_in bs rs) m ∙ append_assoc found (x ∷ []) (vars_in bs rs)
    ∙ opened bs ps qs rs p (record { terms = left; from = p.from }) (var x) t left.now found z q e refl refl r u i

pub num_passed : (bs : Bindings) (ps qs rs : List Piece) (p : Piece) (k : Number) (t : Term) (left : Bor (List Term)) (found z : List ℕ) → qs ≡ ps ++ p ∷ [] → p.terms.now ≡ t ∷ left.now
    → rs ≡ ps ++ record { terms = left; from = p.from } ∷ [] → num k ≡ under (behind p.from bs) (tm_of t)
    → found ++ vars_in bs qs ≡ z → found ++ vars_in bs rs ≡ z
num_passed bs ps qs rs p k t left found z q e r u i =
    opened bs ps qs rs p (record { terms = left; from = p.from }) (num k) t left.now found z q e refl refl r u i

pub args_next : (bs : Bindings) (ps qs rs os : List Piece) (p args : Piece) (f : ℕ) (t : Term) (left : Bor (List Term)) (found z : List ℕ) → qs ≡ ps ++ p ∷ [] → p.terms.now ≡ t ∷ left.now
    → rs ≡ ps ++ record { terms = left; from = p.from } ∷ [] → app f (piece_read bs args) ≡ under (behind p.from bs) (tm_of t) → os ≡ rs ++ args ∷ []
    → found ++ vars_in bs qs ≡ z → found ++ vars_in bs os ≡ z
args_next bs ps qs rs os p args f t left found z q e r u n i =
    ap (λ xs. found ++ vars_in bs xs) n ∙ ap (λ xs. found ++ xs) (pushed_vars bs rs args)
    ∙ opened bs ps qs rs p (record { terms = left; from = p.from }) (app f (piece_read bs args)) t left.now found z q e refl refl r u i

-- ---- it comes to an end

pub less_none : (bs : Bindings) (ps qs : List Piece) (p : Piece) → qs ≡ ps ++ p ∷ [] → all_work bs ps < all_work bs qs
less_none bs ps qs p q = omega (arith, ap (all_work bs) q, pushed_work bs ps p)

less_opened : (bs : Bindings) (ps qs rs : List Piece) (p o : Piece) (h : Tm) (t : Term) (left : List Term) → qs ≡ ps ++ p ∷ [] → p.terms.now ≡ t ∷ left
    → o.terms.now ≡ left → o.from ≡ p.from → rs ≡ ps ++ o ∷ [] → h ≡ under (behind p.from bs) (tm_of t)
    → all_work bs rs + 2 * weight h ≡ all_work bs qs
less_opened bs ps qs rs p o h t left q e l f r u =
    let s : weight_s (piece_read bs o) ≡ weight_s (all_under (behind p.from bs) (tms_of left)) = λ j. weight_s (all_under (behind (f j) bs) (tms_of (l j))) in
    let w : weight_s (piece_read bs p) ≡ weight (under (behind p.from bs) (tm_of t)) + weight_s (all_under (behind p.from bs) (tms_of left)) =
    ap (λ (ts : List Term). weight_s (all_under (behind p.from bs) (tms_of ts))) e in
    omega (arith, ap (all_work bs) q, pushed_work bs ps p, ap (all_work bs) r, pushed_work bs ps o, ap weight u, s, w)

pub less_one : (bs : Bindings) (ps qs rs : List Piece) (p o : Piece) (h : Tm) (t : Term) (left : List Term) → qs ≡ ps ++ p ∷ [] → p.terms.now ≡ t ∷ left
    → o.terms.now ≡ left → o.from ≡ p.from → rs ≡ ps ++ o ∷ [] → h ≡ under (behind p.from bs) (tm_of t)
    → all_work bs rs < all_work bs qs
less_one bs ps qs rs p o h t left q e l f r u = omega (arith, less_opened bs ps qs rs p o h t left q e l f r u, heavy h)

pub less_args : (bs : Bindings) (ps qs rs os : List Piece) (p o args : Piece) (f : ℕ) (t : Term) (left : List Term) → qs ≡ ps ++ p ∷ [] → p.terms.now ≡ t ∷ left
    → o.terms.now ≡ left → o.from ≡ p.from → rs ≡ ps ++ o ∷ [] → app f (piece_read bs args) ≡ under (behind p.from bs) (tm_of t) → os ≡ rs ++ args ∷ []
    → all_work bs os < all_work bs qs
less_args bs ps qs rs os p o args f t left q e l m r u n =
    omega (arith, less_opened bs ps qs rs p o (app f (piece_read bs args)) t left q e l m r u, ap (all_work bs) n, pushed_work bs rs args)
