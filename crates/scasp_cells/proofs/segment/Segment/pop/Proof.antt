-- `pop` meets its contract, for every element type. Assumes `Logic`.
use mathlib.Core.Path.{◌≡◌, refl, sym, ap, subst, ◌∙◌}
use Prim.Native.Nat.{ℕ, suc, ◌+◌, ◌-◌, ◌*◌, ◌≤◌, ◌<◌, ◌^◌}
use native.Mathlib.Omega.{arith}
use mathlib.Core.List.{List, [], ◌∷◌, ◌++◌}
use lib.ListN.{length, get_or, take, length-take}
use seplogic.Ra.Ura.{Ura}
use base.Fraction.{full_share}
use mir.Syntax.{Ty, ty_array, named, Fn}
use mir.Val.{Val, vptr}
use base.Logic.{SProp, ent, sep}
use base.Fml.{Lft, GName, Share, ftrue, fat, froom, flft, fobs, fbor}
use prog.Wp.{Env, Calls, Loops, WpFn, Tables}
use types.Logic.{Logic, sem}
use sound.WpLaws.{WpFn-mono}
use types.Kit.{‵, ◌⊛◌, some, given, at_ret, ◌$◌, ◌∵◌, !, qed, by, move, keep, use1, use2, drop, split, join, pick, learn, rewrite, fsplit, fsplit3, fjoin, fjoin3, feq_i, suffices, frame, done}
use types.Part.{whole, sub, look_in, store_in}
use types.Run.{size_lit, look, forget, stop, fld, load, lit, of_opd, bin, assigns, first, blocks, exec, returns, enter}
use types.SemTy.{Body as Borrowed}
use denote.RattleType.{owns}
use denote.Memory.{part_at, mem}
use denote.Array.{Array}
use denote.RawPtr.{block_ptr}
use denote.Ref.{MutRef, mut_vals, mut_Tells}
use denote.Signature.{plain}
use denote.Steps.{nothing}
use denote.Triple.Entry.{on_entry}
use denote.Triple.Spec.{Meets, triple_of}
use denote.Triple.Walked.{needs, Stays, stay_ref, walk_of, ends_at, walked, Goes-ref, walk_Meets}
use Rattle.std_alloc.proofs.VecSteps.Facts.{last_fact, and_fact, Says-All}
use Rattle.scasp_cells.proofs.Element.{wider, El, el_x, elτ, el_own, el_d, el_len, el_cap, el_items, el_ok, el_make, R, Sr, sz, Good, args, el_heap}
use Rattle.std_alloc.proofs.VecSteps.Rows.{el_out, unspare, unsnoc}
use Rattle.core.proofs.ptr.Rows.{hd, take_snoc, take_all, one_below, times_below}
use Rattle.scasp_cells.proofs.Opens.{segment_opens, segment_closes}
use Rattle.scasp_cells.proofs.Contracts as K
use Rattle.std_alloc.proofs.VecSteps.Shapes.{after}
use types.ByLocal.{alloc_all, pass_all, free_all, look_at, get, through, sets, sets_last, env}
use mir.MapTy.{inst_fn}
use contract.Running.{tables, tables_of}
use denote.Triple.Table.{entered, run_framed}
use Rattle.scasp_cells.specs.contracts.segment.Segment.pop.Key.{name as #self}
use Rattle.scasp_cells.proofs.segment.Segment.pop.Statement as stated
use Rattle.scasp_cells.proofs.segment.Segment.pop.Code as code
use denote.Triple.Clauses.{closing}
use denote.Triple.Carry.{spared}
use Rattle.core.proofs.mem.Timeless.{timeless, timeless_laws}

module _ (E : El) where
  abbrev pop_function : Fn
  pop_function = inst_fn (args E) code.function

abbrev stayed : (E : El) → Stays (K.pop_ended E).signature.params (K.pop_ended E).kept
stayed E = (stay_ref (0 ∷ []) tt (plain (λ _. Sr E)), tt)

module _ (E : El) {M : Type 1} {𝓤 : Ura M} (𝓛 : Logic 𝓤) (κ : Lft) (q : Share) (rb ro : ℕ) (γ : GName) (h : el_d E) where
  open 𝓛 use {H, A}

  abbrev Post : Val → SProp 𝓤
  Post = (walk_of 𝓛 (K.pop_ended E) (stayed E) (K.pop_clauses E 𝓛)).post (((κ, tt), (q, tt), tt, (record { ref_ptr = (rb, ro); ghost_name = γ; now = h }, tt), (vptr rb ro ∷ [], tt)), tt)

  abbrev n : ℕ
  n = el_len E h

  abbrev c : ℕ
  c = el_cap E h

  abbrev xs : List (el_x E)
  xs = el_items E h

  abbrev s : ℕ
  s = sz E

  abbrev τ : Ty
  τ = elτ E

  exits : (r : el_x E) (v : Val) (h' : el_d E) → ((el_items E h ≡ el_items E h' ++ r ∷ []) × ((el_len E h' + 1 ≡ el_len E h) × ((el_cap E h' ≡ el_cap E h) × (h'.ptr ≡ h.ptr)))) → ent 𝓤 (sep 𝓤 (A.obs γ ((Sr E).coded.code h')) (sep 𝓤 (A.bor κ (Borrowed (mem (Sr E)) rb ro γ)) (sep 𝓤 (A.lft κ q) (sem 𝓛 (el_own E r (v ∷ [])))))) (Post v)
  exits r v h' e =
      qed 𝓛 (‵ (fobs γ ((Sr E).coded.code h')) ∷ ‵ (fbor κ (Borrowed (mem (Sr E)) rb ro γ)) ∷ ‵ (flft κ q) ∷ ‵ (el_own E r (v ∷ [])) ∷ []) ∵
      suffices ! _ (ends_at 𝓛 (K.pop_ended E) (stayed E) (K.pop_clauses E 𝓛) (((κ, tt), (q, tt), tt, (record { ref_ptr = (rb, ro); ghost_name = γ; now = h }, tt), (vptr rb ro ∷ [], tt)), tt) v r (h', tt) (tt, tt)) $ Says-All ! (and_fact 𝓤 e.0 (and_fact 𝓤 e.1.0 (and_fact 𝓤 e.1.1.0 (last_fact 𝓤 e.1.1.1)))) $
      nothing ! $ move ! (3 ∷ 0 ∷ []) $ join ! $ frame ! $ feq_i ! (List Val) (vptr rb ro ∷ []) (vptr rb ro ∷ []) refl $ fjoin3 ! $ nothing ! $ move ! (1 ∷ 0 ∷ []) $ fjoin ! $
      done !

  module _ (C : Calls 𝓤 H) (Λ : Loops 𝓤 H) where
    walk : (0 < el_len E h) → ent 𝓤 (on_entry 𝓛 (K.pop_ended E).signature (κ, tt) (q, tt) (record { ref_ptr = (rb, ro); ghost_name = γ; now = h }, tt) (vptr rb ro ∷ [], tt)) (WpFn 𝓤 H C Λ (pop_function E) (vptr rb ro ∷ []) Post)
    walk asked =
        let lens : n ≡ length xs = (el_ok E h).0 in
        let le : n ≤ c = (el_ok E h).1 in
        let asked' : 0 < length xs = subst (λ (j : ℕ). 0 < j) lens asked in
        let k : ℕ = n - 1 in
        let pos : 0 < c = omega arith in
        let one : 1 ≤ n = omega arith in
        let inside : k < length xs = omega arith in
        let lek : k ≤ c = omega arith in
        let below : k < c = omega arith in
        let y : el_x E = get_or xs k (hd xs asked') in
        let sk : length xs ≡ suc k = omega arith in
        let sk' : n ≡ k + 1 = omega arith in
        let lt : length (take k xs) ≡ k = length-take k xs ∙ (omega arith) in
        let cut : xs ≡ take k xs ++ y ∷ [] = sym (take_all xs) ∙ ap (λ (j : ℕ). take j xs) sk ∙ take_snoc xs k (hd xs asked') inside in
        qed 𝓛 ((‵ (flft κ q) ⊛ ‵ ftrue) ∷ ‵ (owns (MutRef (named 0) κ (Sr E) ∷ []) (record { ref_ptr = (rb, ro); ghost_name = γ; now = h }, tt) (vptr rb ro ∷ [], tt)) ∷ []) ∵ enter ! C Λ (pop_function E) (vptr rb ro ∷ []) _ $
        alloc_all ! (λ l. pass_all ! refl ((tt, tt), tt) $
        let En : Env 𝓤 H = env (pop_function E).locals l in
        move ! (1 ∷ []) $ fsplit ! $ fsplit3 ! $ drop ! $ move ! (3 ∷ []) $ split ! $ move ! (2 ∷ 3 ∷ 0 ∷ []) $
        segment_opens E ! tt h rb ro pos (λ b o hv at_b fl fc fit.
        let tiny : s < 2 ^ 64 = wider s (one_below c s (2 ^ 63) pos fit) in
        let back' : k + 1 ≡ n = omega arith in
        let fk : k < 2 ^ 64 = omega arith in
        let fm : k * s < 2 ^ 64 = wider (k * s) (times_below k c s (2 ^ 63) lek fit) in
        let new = el_make E (el_heap E h) (block_ptr b o) k c (take k xs) (sym lt, lek) h.small in
        rewrite ! 0 (λ (l : List (el_x E)). ‵ (part_at (Array (R E) n) full_share l b o)) cut refl $
        use1 𝓛 (‵ (part_at (Array (R E) k) full_share (take k xs) b o) ⊛ ‵ (part_at (R E) full_share y b (k * s + o))) (unsnoc E 𝓛 b o n k (take k xs) y lt) $ split ! $
        move ! (1 ∷ []) $
        use1 𝓛 (some (λ (v : Val). given (Good E v) (‵ (fat full_share τ b (k * s + o) v) ⊛ ‵ (el_own E y (v ∷ []))))) (el_out E 𝓛 full_share y b (k * s + o)) $ pick ! (λ v. learn ! (λ t. split ! $
        -- [the cell; what the item owns; the other items; the room; the token; the words; the open borrow; obs; auth]
        sets ! (of_opd ! (load ! (through ! refl (fld ! refl (stop !))) (look_in ! 5 (sub ! 1 refl (whole !))))) refl (tt, record { fits = fl }) $
        sets ! (bin ! (get ! refl) (lit ! tt) one) refl (tt, record { fits = fk }) $
        assigns ! (of_opd ! (get ! refl)) (through ! refl (fld ! refl (stop !))) (store_in ! 5 (sub ! 1 refl (whole !)) (tt, record { fits = fk })) $
        first ! $ blocks ! $
        sets ! (of_opd ! (load ! (through ! refl (fld ! refl (stop !))) (look_in ! 5 (sub ! 0 refl (whole !))))) refl (tt, tt) $
        sets ! (of_opd ! (load ! (through ! refl (fld ! refl (stop !))) (look_in ! 5 (sub ! 1 refl (whole !))))) refl (tt, record { fits = fk }) $
        sets ! (bin ! (get ! refl) (size_lit ! (record { fits = tiny })) (record { fits = fm })) refl (tt, record { fits = fm }) $
        sets ! (bin ! (get ! refl) (get ! refl) tt) refl (tt, tt) $
        sets_last ! (of_opd ! (load ! (through ! refl (stop !)) (look ! 0 refl))) refl t $
        exec ! C Λ En (after 4 (pop_function E).body) (at_ret En Post) $
        sets ! (of_opd ! (get ! refl)) refl t $
        forget ! 0 refl $
        move ! (0 ∷ 3 ∷ []) $
        rewrite ! 1 (λ (j : ℕ). ‵ (froom (ty_array τ (c - j)) b (o + j * s))) sk' refl $
        use2 𝓛 (‵ (froom (ty_array τ (c - k)) b (o + k * s))) (unspare E 𝓛 b o k c below) $
        move ! (2 ∷ 0 ∷ 3 ∷ 4 ∷ 5 ∷ 6 ∷ 7 ∷ []) $
        segment_closes E ! tt new.0 b o k c (take k xs) rb ro (new.1, new.2, new.3, new.4) fk fc fit pos $
        returns ! (look_at ! 0 refl) $ free_all ! refl $
        keep ! (0 ∷ 1 ∷ 2 ∷ 3 ∷ []) $
        by ! (exits y v new.0 (cut, (back', (refl, sym at_b))))))))

meets : (E : El) {M : Type 1} {𝓤 : Ura M} (𝓛 : Logic 𝓤) (𝓣 : Tables 𝓤 𝓛.H)
    → Meets 𝓛 (K.pop_ended E).signature (WpFn 𝓤 𝓛.H 𝓣.C 𝓣.Λ (pop_function E)) (closing 𝓛 (K.pop_ended E) (K.pop_clauses E 𝓛))
meets E {𝓤 = 𝓤} 𝓛 𝓣 =
    walk_Meets 𝓛 (K.pop_ended E) (stayed E) (Goes-ref 𝓛 1 0 tt (plain (λ _. Sr E)), tt) (K.pop_clauses E 𝓛) (WpFn 𝓤 𝓛.H 𝓣.C 𝓣.Λ (pop_function E)) (WpFn-mono 𝓤 𝓛.H 𝓛.laws 𝓣 (pop_function E))
    (walked 𝓛 (K.pop_ended E) (stayed E) (K.pop_clauses E 𝓛) (WpFn 𝓤 𝓛.H 𝓣.C 𝓣.Λ (pop_function E)) (λ κs. (mut_vals, tt)) (λ κs. (mut_Tells (named 0) κs.0 (Sr E), tt))
    (λ κs qs bounds a g are. needs 𝓤 (0 < el_len E a.0.now) _ (walk E 𝓛 κs.0 qs.0 a.0.ref_ptr.0 a.0.ref_ptr.1 a.0.ghost_name a.0.now 𝓣.C 𝓣.Λ)))

pub pop_spec : {M : Type 1} → stated.statement M
unfolding tables_of
pop_spec 𝓤 𝓛 𝓜 𝓡 wired X Z L LZ g d dd met md y =
    let E : El = record { row = timeless X; laws = timeless_laws X L; al = record { row = Z; laws = LZ; g = g; d = d; drops = dd } } in
    let A = 𝓛.A in
    let 𝓣 : Tables 𝓤 𝓛.H = tables_of 𝓤 𝓛.H 𝓜 (tables 𝓤 𝓛.H 𝓜 𝓡 𝓡.env) in
    spared 𝓛 (K.pop_ended E).signature (𝓡.run (𝓡.env (#self (args E)))) (run_framed 𝓤 𝓛.H 𝓜 𝓡 (𝓡.env (#self (args E)))) 2 (X.lives, (Z.lives, tt)) (closing 𝓛 (K.pop_ended E) (K.pop_clauses E 𝓛))
    (entered 𝓤 𝓛.H (triple_of 𝓛 (K.pop_ended E).signature (closing 𝓛 (K.pop_ended E) (K.pop_clauses E 𝓛))) 𝓣.C 𝓣.Λ (#self (args E)) (inst_fn (args E) code.function) (code.unfolded 𝓤 𝓛.H 𝓜 𝓡 wired (E.row, (Z, tt)) d dd)
    (meets E 𝓛 𝓣))
    ((y.0.0, y.0.1, tt, y.0.3, y.0.4), y.1)
