-- One look at the first of the states, and one step.
use Rattle.std.specs.Prelude.{◌≡◌, ℕ, ◌+◌, nat_eq, Bool, false, ◌&&◌, None, Ok, Err, List, [], ◌∷◌, ◌++◌, refl}
use Rattle.std.proofs.Common.{inl, inr, arith, ap, subst, ◌∙◌}
use Rattle.scasp_search_rules.specs.Successors.Machine.{Machine, answered, ended, cost}
use Rattle.scasp_search_walk.specs.Inside.{Arrives, Meets, Passes}
use Rattle.scasp_search_walk.specs.Slices.{Sees, Steps}
use Rattle.scasp_search_walk.specs.Walks.{BeginsWithCall, Reached, Tells}
use Rattle.scasp_search_walk.specs.declared.ahead.Ahead.{Ahead}
use Rattle.scasp_search_walk.specs.declared.ahead.Ahead.TheVariants as ahead
use Rattle.scasp_search_walk.specs.declared.frontier.Look.TheVariants as look
use Rattle.scasp_search_constraints.specs.declared.assuming.step.SearchErr.{SearchErr}
use Rattle.scasp_search_constraints.specs.declared.assuming.step.SearchErr.TheVariants as errors
use Rattle.scasp_search_walk.proofs.LaterLemmas.{allows-later, tells-later}
use Rattle.scasp_search_walk.proofs.ReachedLemmas.{allows-asked, allows-sample, reached-both, reached-none, reached-step, tells-answer, tells-end}

room : (pays : Bool) (calls budget : ℕ) → pays ≡ false → (pays && nat_eq calls budget) ≡ false
room pays calls budget e = rw e refl

-- the states behind one that costs nothing
free : {S A : Type 0} (m : Machine S A) (budget calls : ℕ) (s : S) (rest new : List S) → m.answer s ≡ None → m.pays s ≡ false → m.next s ++ rest ≡ new
    → Reached m budget (s ∷ rest) calls new calls
free m budget calls s rest new none pays e =
    let next : Reached m budget (s ∷ rest) calls (m.next s ++ rest) (calls + cost (m.pays s)) =
    reached-step m budget calls calls s (s ∷ rest) rest (reached-none m budget calls (s ∷ rest)) none (room (m.pays s) calls budget pays) in
    let same : calls + cost (m.pays s) ≡ calls = ap (λ b. calls + cost b) pays ∙ omega arith in
    subst (λ ss. Reached m budget (s ∷ rest) calls ss calls) e (subst (λ k. Reached m budget (s ∷ rest) calls (m.next s ++ rest) k) same next)

pub look-answer : {S A V : Type 0} (value : A → V) (m : Machine S V) (budget calls : ℕ) (old new : List S) (a : A) → Sees value m old new (Ok (look.Answer a)) → Tells m budget old calls (answered (value a)) calls new
look-answer value m budget calls [] new a h = absurd h
look-answer value m budget calls (s ∷ rest) new a h =
    rw h.1 (tells-answer m budget calls calls s (s ∷ rest) rest (value a) (reached-none m budget calls (s ∷ rest)) h.0)

pub look-nothing : {S A V : Type 0} (value : A → V) (m : Machine S V) (budget calls : ℕ) (old new : List S) → Sees value m old new (Ok look.Nothing) → Reached m budget old calls new calls
look-nothing value m budget calls [] new h = absurd h
look-nothing value m budget calls (s ∷ rest) new h = free m budget calls s rest new h.0 h.1 h.2

pub look-pays : {S A V : Type 0} (value : A → V) (m : Machine S V) (budget calls : ℕ) (old new : List S) → Sees value m old new (Ok look.Pays)
    → Reached m budget old calls new calls × BeginsWithCall m new
look-pays value m budget calls [] new h = absurd h
look-pays value m budget calls (s ∷ rest) new h = rw h.2 (reached-none m budget calls (s ∷ rest), (h.0, h.1))

pub look-ended : {S A V : Type 0} (value : A → V) (m : Machine S V) (budget calls : ℕ) (old new : List S) → Sees value m old new (Ok look.Ended) → Tells m budget old calls ended calls new
look-ended value m budget calls [] new h = rw h (tells-end m budget calls calls [] (reached-none m budget calls []))
look-ended value m budget calls (s ∷ rest) new h = absurd h

pub look-fails : {S A V : Type 0} (value : A → V) (m : Machine S V) (budget calls : ℕ) (old new end : List S) (e : SearchErr) → Sees value m old new (Err e) → Passes value m budget calls old end (Err e)
look-fails value m budget calls old new end errors.Memory h = tt
look-fails value m budget calls [] new end errors.Overflow h = absurd h
look-fails value m budget calls (s ∷ rest) new end errors.Overflow (inl h) = allows-sample m budget calls calls s (s ∷ rest) rest (reached-none m budget calls (s ∷ rest)) h
look-fails value m budget calls (s ∷ rest) new end errors.Overflow (inr h) =
    allows-asked m budget calls calls s (s ∷ rest) rest (reached-none m budget calls (s ∷ rest)) (room (m.pays s) calls budget h.0) h.1

pub steps-free : {S A V : Type 0} (value : A → V) (m : Machine S V) (budget calls : ℕ) (old between new : List S) → Sees value m old between (Ok look.Free) → Steps m between new (Ok record {})
    → Reached m budget old calls new calls
steps-free value m budget calls [] between new h i = absurd h
steps-free value m budget calls (s ∷ rest) between new h i =
    let on : (b k : ℕ) → Reached m b (m.next s ++ rest) k new k = rw h.2 at i in
    reached-both m budget calls calls calls (s ∷ rest) (m.next s ++ rest) new (free m budget calls s rest (m.next s ++ rest) h.0 h.1 refl) (on budget calls)

pub step-fails : {S A V : Type 0} (value : A → V) (m : Machine S V) (budget calls : ℕ) (old between new end : List S) (e : SearchErr) → Sees value m old between (Ok look.Free) → Steps m between new (Err e)
    → Passes value m budget calls old end (Err e)
step-fails value m budget calls [] between new end e h i = absurd h
step-fails value m budget calls (s ∷ rest) between new end errors.Memory h i = tt
step-fails value m budget calls (s ∷ rest) between new end errors.Overflow h i =
    allows-asked m budget calls calls s (s ∷ rest) rest (reached-none m budget calls (s ∷ rest)) (room (m.pays s) calls budget h.1) (rw h.2 at i)

-- ---- many

pub meets-later : {S A V : Type 0} (value : A → V) (m : Machine S V) (budget calls : ℕ) (old between new : List S) (a : Ahead A) → Reached m budget old calls between calls → Meets value m budget calls between new a
    → Meets value m budget calls old new a
meets-later value m budget calls old between new (ahead.Answer a) r h = tells-later m budget calls calls calls old between new (answered (value a)) r h
meets-later value m budget calls old between new ahead.Ended r h = tells-later m budget calls calls calls old between new ended r h
meets-later value m budget calls old between new ahead.Pays r h = (reached-both m budget calls calls calls old between new r h.0, h.1)

pub passed-arrives : {S A V : Type 0} (value : A → V) (m : Machine S V) (budget calls : ℕ) (old between new end : List S) (e : SearchErr) → Reached m budget old calls between calls
    → Passes value m budget calls between new (Err e) → Arrives value m budget calls old end (Err e)
passed-arrives value m budget calls old between new end errors.Overflow r h = allows-later m budget calls calls old between r h
passed-arrives value m budget calls old between new end errors.Memory r h = tt
