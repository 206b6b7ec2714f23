-- `replace` meets its contract, for every element type. Assumes `Logic`.
use mathlib.Core.Path.{◌≡◌, refl, sym, subst, ◌∙◌}
use Prim.Native.Nat.{ℕ, ◌+◌, ◌*◌, ◌≤◌, ◌<◌, ◌^◌}
use native.Mathlib.Omega.{arith}
use mathlib.Core.List.{List, [], ◌∷◌, ◌++◌}
use lib.ListN.{length, get_or, set, length-set}
use seplogic.Ra.Ura.{Ura}
use base.Fraction.{full_share}
use mir.Syntax.{Fn, w64, named}
use mir.MapTy.{inst_fn}
use mir.Val.{Val, vint, vptr}
use base.Logic.{SProp, ent, sep, via, snd∗}
use base.Fml.{Lft, GName, Share, ftrue, fat, flft, fobs, fbor}
use denote.Index.{others}
use denote.Memory.{part_at, mem, shares}
use prog.Wp.{Env, Calls, Loops, WpFn, Tables}
use types.Logic.{Logic, sem}
use contract.Monad.{fact_use}
use contract.Running.{tables, tables_of}
use sound.WpLaws.{WpFn-mono}
use types.Kit.{‵, ◌⊛◌, some, given, at_ret, ◌$◌, ◌∵◌, !, qed, by, move, keep, use1, use2, drop, split, join, pick, learn, fsplit, fsplit3, fjoin, fjoin3, feq_i, suffices, frame, done}
use types.Part.{whole, sub, look_in}
use types.Run.{size_lit, look, store, stop, fld, load, of_opd, bin, assigns, first, blocks, exec, returns, enter}
use types.ByLocal.{alloc_all, pass_all, free_all, look_at, get, through, sets, sets_last, env}
use types.SemTy.{Body as Borrowed}
use denote.Builtin.{usize}
use denote.Exit.{yes, no}
use denote.RattleType.{RattleType, owns}
use denote.Laws.{Typed, Are, Ises, owns_show, showss}
use denote.Array.{Array}
use denote.RawPtr.{block_ptr}
use denote.Ref.{MutRef}
use denote.Signature.{plain}
use denote.Steps.{nothing}
use denote.Triple.Carry.{spared}
use denote.Triple.Clauses.{closing}
use denote.Triple.Entry.{on_entry, alive}
use denote.Triple.Spec.{Meets, triple_of}
use denote.Triple.Table.{entered, run_framed}
use denote.Triple.Walked.{needs, Stays, stay_dropped, stay_ref, walk_of, ends_at, Goes-dropped, Goes-ref, walk_Meets}
use Rattle.core.proofs.mem.Timeless.{timeless, timeless_laws}
use Rattle.core.proofs.ptr.Rows.{hd, one_below, times_below}
use Rattle.core.specs.List.{slice_get}
use Rattle.core.specs.declared.option.Option.TheVariants.{Some}
use Rattle.std.proofs.lemmas.Option.{slice_get-get_or}
use Rattle.std_alloc.proofs.VecSteps.Facts.{last_fact, and_fact, Says-All}
use Rattle.std_alloc.proofs.VecSteps.Rows.{el_out, el_in, take_out, put_in}
use Rattle.std_alloc.proofs.VecSteps.Shapes.{after}
use Rattle.scasp_cells.proofs.Element.{wider, El, args, el_x, elτ, el_own, el_lawful, el_d, el_heap, el_len, el_cap, el_items, el_ok, el_make, R, Sr, sz, Good}
use Rattle.scasp_cells.proofs.Opens.{segment_opens, segment_closes}
use Rattle.scasp_cells.proofs.Contracts as K
use Rattle.scasp_cells.specs.contracts.segment.Segment.replace.Key.{name as #self}
use Rattle.scasp_cells.proofs.segment.Segment.replace.Statement as stated
use Rattle.scasp_cells.proofs.segment.Segment.replace.Code as code

abbrev fn' : El → Fn
fn' E = inst_fn (args E) code.function

abbrev stayed : (E : El) → Stays (K.replace_ended E).signature.params (K.replace_ended E).kept
stayed E = (stay_ref (0 ∷ []) tt (plain (λ _. Sr E)), (stay_dropped (plain (λ _. usize)) yes, (stay_dropped (plain (λ _. R E)) no, tt)))

module _ (E : El) {M : Type 1} {𝓤 : Ura M} (𝓛 : Logic 𝓤) (κ : Lft) (q : Share) (rb ro : ℕ) (γ : GName) (h : el_d E) (i : ℕ) (y : el_x E) (vy : Val) (fi : i < 2 ^ 64) (fy : Good E vy) where
  open 𝓛 use {H, A}

  abbrev bound : (walk_of 𝓛 (K.replace_ended E) (stayed E) (K.replace_clauses E 𝓛)).Ghost
  bound = (((κ, tt), (q, tt), tt, (record { ref_ptr = (rb, ro); ghost_name = γ; now = h }, (i, (y, tt))), (vptr rb ro ∷ [], (vint w64 i ∷ [], (vy ∷ [], tt)))), tt)

  abbrev Post : Val → SProp 𝓤
  Post = (walk_of 𝓛 (K.replace_ended E) (stayed E) (K.replace_clauses E 𝓛)).post bound

  abbrev n : ℕ
  n = el_len E h

  abbrev c : ℕ
  c = el_cap E h

  abbrev xs : List (el_x E)
  xs = el_items E h

  abbrev s : ℕ
  s = sz E

  exits : (r : el_x E) (v : Val) (h' : el_d E) → ((slice_get xs i ≡ Some r) × ((el_items E h' ≡ set xs i y) × ((el_len E h' ≡ n) × ((el_cap E h' ≡ c) × (h'.ptr ≡ h.ptr))))) → ent 𝓤 (sep 𝓤 (A.obs γ ((Sr E).coded.code h')) (sep 𝓤 (A.bor κ (Borrowed (mem (Sr E)) rb ro γ)) (sep 𝓤 (A.lft κ q) (sem 𝓛 (el_own E r (v ∷ [])))))) (Post v)
  exits r v h' e =
      qed 𝓛 (‵ (fobs γ ((Sr E).coded.code h')) ∷ ‵ (fbor κ (Borrowed (mem (Sr E)) rb ro γ)) ∷ ‵ (flft κ q) ∷ ‵ (el_own E r (v ∷ [])) ∷ []) ∵
      suffices ! _ (ends_at 𝓛 (K.replace_ended E) (stayed E) (K.replace_clauses E 𝓛) bound v r (h', (tt, (tt, tt))) (tt, (tt, (tt, tt)))) $ Says-All ! (and_fact 𝓤 e.0 (and_fact 𝓤 e.1.0 (and_fact 𝓤 e.1.1.0 (and_fact 𝓤 e.1.1.1.0 (last_fact 𝓤 e.1.1.1.1))))) $
      nothing ! $ move ! (3 ∷ 0 ∷ []) $ join ! $ frame ! $ feq_i ! (List Val) (vptr rb ro ∷ []) (vptr rb ro ∷ []) refl $ fjoin3 ! $ nothing ! $ nothing ! $ fjoin ! $ nothing ! $ fjoin ! $ move ! (1 ∷ 0 ∷ []) $ fjoin ! $
      done !

  module _ (C : Calls 𝓤 H) (Λ : Loops 𝓤 H) where
    walk : i < n → ent 𝓤 (on_entry 𝓛 (K.replace_ended E).signature (κ, tt) (q, tt) (record { ref_ptr = (rb, ro); ghost_name = γ; now = h }, (i, (y, tt))) (vptr rb ro ∷ [], (vint w64 i ∷ [], (vy ∷ [], tt)))) (WpFn 𝓤 H C Λ (fn' E) (vptr rb ro ∷ vint w64 i ∷ vy ∷ []) Post)
    walk li =
        let lens : n ≡ length xs = (el_ok E h).0 in
        let le : n ≤ c = (el_ok E h).1 in
        let pos : 0 < c = omega arith in
        let inside : i < length xs = omega arith in
        let some' : 0 < length xs = omega arith in
        let d : el_x E = hd xs some' in
        let x : el_x E = get_or xs i d in
        qed 𝓛 ((‵ (flft κ q) ⊛ ‵ ftrue) ∷ ‵ (owns (MutRef (named 0) κ (Sr E) ∷ usize ∷ R E ∷ []) (record { ref_ptr = (rb, ro); ghost_name = γ; now = h }, (i, (y, tt))) (vptr rb ro ∷ [], (vint w64 i ∷ [], (vy ∷ [], tt)))) ∷ []) ∵
        enter ! C Λ (fn' E) (vptr rb ro ∷ vint w64 i ∷ vy ∷ []) _ $
        alloc_all ! (λ l. pass_all ! refl ((tt, tt), ((tt, record { fits = fi }), (fy, tt))) $
        let En : Env 𝓤 H = env (fn' E).locals l in
        move ! (1 ∷ []) $ fsplit ! $ fsplit3 ! $ drop ! $ move ! (3 ∷ []) $ split ! $ move ! (2 ∷ 3 ∷ 0 ∷ []) $
        segment_opens E ! tt h rb ro pos (λ b o hv at_b fl fc fit.
        let tiny : s < 2 ^ 64 = wider s (one_below c s (2 ^ 63) pos fit) in
        let far : i * s < 2 ^ 64 = wider (i * s) (times_below i c s (2 ^ 63) (omega arith) fit) in
        let new = el_make E (el_heap E h) (block_ptr b o) n c (set xs i y) (lens ∙ sym (length-set xs i y), le) h.small in
        use1 𝓛 (given (length xs ≡ n) (‵ (part_at (R E) full_share x b (i * s + o)) ⊛ ‵ (others (shares (R E)) full_share xs i b o))) (take_out E 𝓛 n xs i d b o li) $ learn ! (λ _. split ! $
        use1 𝓛 (some (λ (v : Val). given (Good E v) (‵ (fat full_share (elτ E) b (i * s + o) v) ⊛ ‵ (el_own E x (v ∷ []))))) (el_out E 𝓛 full_share x b (i * s + o)) $ pick ! (λ v. learn ! (λ tv. split ! $
        -- [the cell; what the old item owns; the others; the room; the token; the words; the open borrow; obs; auth; nothing; the other parameters]
        first ! $ blocks ! $
        sets ! (of_opd ! (load ! (through ! refl (fld ! refl (stop !))) (look_in ! 5 (sub ! 0 refl (whole !))))) refl (tt, tt) $
        sets ! (bin ! (get ! refl) (size_lit ! (record { fits = tiny })) (record { fits = far })) refl (tt, record { fits = far }) $
        sets ! (bin ! (get ! refl) (get ! refl) tt) refl (tt, tt) $
        sets ! (of_opd ! (load ! (through ! refl (stop !)) (look ! 0 refl))) refl tv $
        sets ! (of_opd ! (get ! refl)) refl fy $
        assigns ! (of_opd ! (get ! refl)) (through ! refl (stop !)) (store ! 0 refl fy) $
        sets_last ! (of_opd ! (get ! refl)) refl tv $
        exec ! C Λ En (after 1 (fn' E).body) (at_ret En Post) $
        sets ! (of_opd ! (get ! refl)) refl tv $
        move ! (10 ∷ []) $ fsplit ! $ move ! (1 ∷ []) $ fsplit ! $
        -- [what the new item owns; nothing; the place; the cell; what the old item owns; the others; ..]
        move ! (3 ∷ 0 ∷ []) $ use2 𝓛 (‵ (part_at (R E) full_share y b (i * s + o))) (el_in E 𝓛 full_share y b (i * s + o) vy) $
        move ! (0 ∷ 4 ∷ []) $ use2 𝓛 (‵ (part_at (Array (R E) n) full_share (set xs i y) b o)) (put_in E 𝓛 n xs i y b o li (sym lens)) $
        move ! (0 ∷ 4 ∷ 5 ∷ 6 ∷ 7 ∷ 8 ∷ 9 ∷ []) $
        segment_closes E ! tt new.0 b o n c (set xs i y) rb ro (new.1, new.2, new.3, new.4) fl fc fit pos $
        returns ! (look_at ! 0 refl) $ free_all ! refl $
        keep ! (0 ∷ 1 ∷ 2 ∷ 5 ∷ []) $
        by ! (exits x v new.0 (slice_get-get_or xs i d inside, (refl, (refl, (refl, sym at_b))))))))))

-- the machine values passed are whatever they are: the item's is one value of its type
module _ (E : El) {M : Type 1} {𝓤 : Ura M} (𝓛 : Logic 𝓤) (C : Calls 𝓤 𝓛.H) (Λ : Loops 𝓤 𝓛.H)
    (κ : Lft) (q : Share) (rb ro : ℕ) (γ : GName) (h : el_d E) (i : ℕ) (y : el_x E) where
  open 𝓛 use {H}

  abbrev Goal : List Val → List Val → List Val → Type 1
  Goal us ws vs = ent 𝓤 (on_entry 𝓛 (K.replace_ended E).signature (κ, tt) (q, tt) (record { ref_ptr = (rb, ro); ghost_name = γ; now = h }, (i, (y, tt))) (us, (ws, (vs, tt))))
      (WpFn 𝓤 H C Λ (fn' E) (us ++ (ws ++ (vs ++ []))) ((walk_of 𝓛 (K.replace_ended E) (stayed E) (K.replace_clauses E 𝓛)).post (((κ, tt), (q, tt), tt, (record { ref_ptr = (rb, ro); ghost_name = γ; now = h }, (i, (y, tt))), (us, (ws, (vs, tt)))), tt)))

  entry : (us ws vs : List Val) → us ≡ vptr rb ro ∷ [] → ws ≡ vint w64 i ∷ [] → i < 2 ^ 64 → Typed (elτ E ∷ []) vs → i < el_len E h → Goal us ws vs
  entry us ws [] e e' fi t asked = absurd t
  entry us ws (v ∷ []) e e' fi t asked = subst (λ (zs : List Val × List Val). Goal zs.0 zs.1 (v ∷ [])) (λ j. (sym e j, sym e' j)) (walk E 𝓛 κ q rb ro γ h i y v fi t.0 C Λ asked)
  entry us ws (v ∷ w ∷ vs) e e' fi t asked = absurd t.1

meets : (E : El) {M : Type 1} {𝓤 : Ura M} (𝓛 : Logic 𝓤) (𝓣 : Tables 𝓤 𝓛.H)
    → Meets 𝓛 (K.replace_ended E).signature (WpFn 𝓤 𝓛.H 𝓣.C 𝓣.Λ (fn' E)) (closing 𝓛 (K.replace_ended E) (K.replace_clauses E 𝓛))
meets E {𝓤 = 𝓤} 𝓛 𝓣 =
    walk_Meets 𝓛 (K.replace_ended E) (stayed E) (Goes-ref 𝓛 1 0 tt (plain (λ _. Sr E)), (Goes-dropped 𝓛 1 (plain (λ _. usize)) yes (λ κs x f. refl), (Goes-dropped 𝓛 1 (plain (λ _. R E)) no (λ κs x f. refl), tt))) (K.replace_clauses E 𝓛) (WpFn 𝓤 𝓛.H 𝓣.C 𝓣.Λ (fn' E)) (WpFn-mono 𝓤 𝓛.H 𝓛.laws 𝓣 (fn' E))
    (λ z. let a = z.0.3 in let vss = z.0.4 in let Rs : List RattleType = MutRef (named 0) z.0.0.0 (Sr E) ∷ usize ∷ R E ∷ [] in
    needs 𝓤 (a.1.0 < el_len E a.0.now) (on_entry 𝓛 (K.replace_ended E).signature z.0.0 z.0.1 a vss) (λ asked.
    fact_use 𝓤 (Are Rs (Ises Rs) a vss) (via 𝓤 (sem 𝓛 (owns Rs a vss)) (snd∗ 𝓤 (alive 𝓛 (K.replace_ended E).signature z.0.0 z.0.1) (sem 𝓛 (owns Rs a vss))) (owns_show 𝓛 Rs (Ises Rs) (showss 𝓛 Rs) a vss)) (λ are.
    entry E 𝓛 𝓣.C 𝓣.Λ z.0.0.0 z.0.1.0 a.0.ref_ptr.0 a.0.ref_ptr.1 a.0.ghost_name a.0.now a.1.0 a.1.1.0
    vss.0 vss.1.0 vss.1.1.0 are.0.0 are.1.0.0 are.1.0.1 ((el_lawful E 𝓛).typed a.1.1.0 vss.1.1.0 are.1.1.0) asked)))

pub replace_spec : {M : Type 1} → stated.statement M
unfolding tables_of
replace_spec 𝓤 𝓛 𝓜 𝓡 wired X Z L LZ g d dd met md y =
    let E : El = record { row = timeless X; laws = timeless_laws X L; al = record { row = Z; laws = LZ; g = g; d = d; drops = dd } } in
    let A = 𝓛.A in
    let 𝓣 : Tables 𝓤 𝓛.H = tables_of 𝓤 𝓛.H 𝓜 (tables 𝓤 𝓛.H 𝓜 𝓡 𝓡.env) in
    spared 𝓛 (K.replace_ended E).signature (𝓡.run (𝓡.env (#self (args E)))) (run_framed 𝓤 𝓛.H 𝓜 𝓡 (𝓡.env (#self (args E)))) 2 (X.lives, (Z.lives, tt)) (closing 𝓛 (K.replace_ended E) (K.replace_clauses E 𝓛))
    (entered 𝓤 𝓛.H (triple_of 𝓛 (K.replace_ended E).signature (closing 𝓛 (K.replace_ended E) (K.replace_clauses E 𝓛))) 𝓣.C 𝓣.Λ (#self (args E)) (inst_fn (args E) code.function) (code.unfolded 𝓤 𝓛.H 𝓜 𝓡 wired (E.row, (Z, tt)) d dd)
    (meets E 𝓛 𝓣))
    ((y.0.0, y.0.1, tt, y.0.3, y.0.4), y.1)
