-- The walk that writes a key: what is written, and what still waits.
use Rattle.std.proofs.Common.{◌≡◌, ℕ, ◌+◌, ◌*◌, List, [], ◌∷◌, ◌++◌, Bor, refl, sym, ap, ◌∙◌, append_assoc, append-nil}
use Rattle.std.specs.List.{sum_by}
use Rattle.scasp_syntax.specs.Tm.{Tms, app, weight_s}
use Rattle.scasp_syntax.specs.View.{tm_of, tms_of}
use Rattle.scasp_syntax.specs.declared.term.Term.{Term}
use Rattle.scasp_syntax.specs.declared.term.Term.TheVariants.{App}
use Rattle.scasp_tables.specs.Inside.Keys.{key_of, keys_of}

-- the keys of the lists that wait, the last put first
abbrev pub behind : List (Bor (List Term)) → List ℕ
behind [] = []
behind (l ∷ ls) = behind ls ++ keys_of (tms_of l.now)

-- what is left to do with them
abbrev pub waiting : List (Bor (List Term)) → ℕ
waiting ls = sum_by (λ (l : Bor (List Term)). 1 + 2 * weight_s (tms_of l.now)) ls

pub behind-pushed : (ls : List (Bor (List Term))) (l : Bor (List Term)) → behind (ls ++ l ∷ []) ≡ keys_of (tms_of l.now) ++ behind ls
behind-pushed [] l = sym (append-nil (keys_of (tms_of l.now)))
behind-pushed (k ∷ ls) l =
    ap (λ x. x ++ keys_of (tms_of k.now)) (behind-pushed ls l) ∙ append_assoc (keys_of (tms_of l.now)) (behind ls) (keys_of (tms_of k.now))

-- the key of a variable or a number was written
pub written : (key new part : List ℕ) (t : Term) (rest left : List Term) (after z : List ℕ) → new ≡ key ++ part → part ≡ key_of (tm_of t) → rest ≡ t ∷ left → key ++ (keys_of (tms_of rest) ++ after) ≡ z → new ++ (keys_of (tms_of left) ++ after) ≡ z
written key new part t rest left after z n p r e =
    ap (λ k. k ++ (keys_of (tms_of left) ++ after)) (n ∙ ap (λ x. key ++ x) p)
    ∙ append_assoc key (key_of (tm_of t)) (keys_of (tms_of left) ++ after)
    ∙ ap (λ x. key ++ x) (sym (append_assoc (key_of (tm_of t)) (keys_of (tms_of left)) after))
    ∙ ap (λ ts. key ++ (keys_of (tms_of ts) ++ after)) (sym r)
    ∙ e

-- a name was written, and its arguments come next
pub entered : (key new : List ℕ) (f : ℕ) (ts : Tms) (rest args : List Term) (left : Bor (List Term)) (ls more : List (Bor (List Term))) (z : List ℕ) → new ≡ key ++ 2 ∷ f ∷ [] → more ≡ ls ++ left ∷ [] → tms_of args ≡ ts → rest ≡ App f ts ∷ left.now → key ++ (keys_of (tms_of rest) ++ behind ls) ≡ z → new ++ (keys_of (tms_of args) ++ behind more) ≡ z
entered key new f ts rest args left ls more z n m a r e =
    let l = keys_of (tms_of left.now) in
    (λ j. n j ++ (keys_of (a j) ++ behind (m j)))
    ∙ ap (λ x. (key ++ 2 ∷ f ∷ []) ++ (keys_of ts ++ x)) (behind-pushed ls left)
    ∙ append_assoc key (2 ∷ f ∷ []) (keys_of ts ++ (l ++ behind ls))
    ∙ ap (λ x. key ++ 2 ∷ f ∷ x) (sym (append_assoc (keys_of ts) l (behind ls)))
    ∙ ap (λ us. key ++ (keys_of (tms_of us) ++ behind ls)) (sym r)
    ∙ e

-- the end of a list was written, and the list around it goes on
pub left_behind : (key new : List ℕ) (rest : List Term) (outer : Bor (List Term)) (ls fewer : List (Bor (List Term))) (z : List ℕ) → new ≡ key ++ 3 ∷ [] → rest ≡ [] → ls ≡ fewer ++ outer ∷ [] → key ++ (keys_of (tms_of rest) ++ behind ls) ≡ z → new ++ (keys_of (tms_of outer.now) ++ behind fewer) ≡ z
left_behind key new rest outer ls fewer z n r m e =
    ap (λ k. k ++ (keys_of (tms_of outer.now) ++ behind fewer)) n
    ∙ append_assoc key (3 ∷ []) (keys_of (tms_of outer.now) ++ behind fewer)
    ∙ ap (λ x. key ++ 3 ∷ x) (sym (behind-pushed fewer outer))
    ∙ (λ j. key ++ (keys_of (tms_of (sym r j)) ++ behind (sym m j)))
    ∙ e

-- the end of the outermost list was written
pub all_written : (key new : List ℕ) (rest : List Term) (ls : List (Bor (List Term))) (z : List ℕ) → new ≡ key ++ 3 ∷ [] → rest ≡ [] → ls ≡ [] → key ++ (keys_of (tms_of rest) ++ behind ls) ≡ z → new ≡ z
all_written key new rest ls z n r m e =
    n ∙ (λ j. key ++ (keys_of (tms_of (sym r j)) ++ behind (sym m j))) ∙ e
