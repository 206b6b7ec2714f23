-- A session that goes on past trees that are not accepted.
use Rattle.std.proofs.Common.{◌≡◌, ◌∙◌, ℕ, ◌-◌, Bool, true, false, List, [], ◌∷◌, Option, None, Some, Ok, refl, ap, sym, subst, unwrap_or, option_map}
use Rattle.std.specs.Prelude.{if◌then◌else◌}
use Rattle.scasp_cert.specs.Certificate.{certificate_of}
use Rattle.scasp_cert.specs.declared.certificate.Cert.{Cert}
use Rattle.scasp_fill.specs.Finishing.Finishes.{Finishes}
use Rattle.scasp_fill.specs.declared.finishing.finishing.Finished.TheVariants as finished
use Rattle.scasp_search.specs.Rests.{rest_of}
use Rattle.scasp_search.specs.declared.search.Search.{Search}
use Rattle.scasp_search_walk.specs.declared.events.Advance.{Advance}
use Rattle.scasp_search_walk.specs.declared.events.Advance.TheVariants as advance
use Rattle.scasp_serve_replies.specs.Comings.{ComesOf, GoesOn, SessionGoesOn, comes, passes}
use Rattle.scasp_serve_replies.specs.Inside.{Found, IsPassed, StepOf, TreeComes, is_passed}
use Rattle.scasp_serve_replies.specs.declared.coming.Coming.{Coming}
use Rattle.scasp_serve_replies.specs.declared.coming.Coming.TheVariants.{Answer, Without}
use Rattle.scasp_serve_replies.specs.declared.coming.NoAnswer.TheVariants.{Paused, Ended, Spent, Overflow}
use Rattle.scasp_serve_replies.specs.declared.coming.Step.{Step}
use Rattle.scasp_serve_replies.specs.declared.coming.Step.TheVariants.{Comes, Passes}
use Rattle.scasp_sessions.specs.Calls.{Advancing, IsAdvanced}
use Rattle.scasp_sessions.specs.Tables.{Table, calls_in, has_number, search_of, with_search}
use Rattle.scasp_sessions.specs.declared.session.Session.{Session}
use Rattle.scasp_syntax.specs.declared.program.Program.{Program}

-- the search of the number is the last one that it was given
search-with : (id : ℕ) (t before : Search) (ss : List Session) → search_of id ss ≡ Some before → search_of id (with_search id t ss) ≡ Some t
search-with id t before [] h = absurd (cc h)
search-with id t before (s ∷ ss) h = by (has_number id s) refl h (search-with id t before ss)
  where
    by : (b : Bool) → has_number id s ≡ b → (if b then Some s.search else search_of id ss) ≡ Some before
        → (search_of id ss ≡ Some before → search_of id (with_search id t ss) ≡ Some t)
        → search_of id (if b then record s { search = t } ∷ ss else s ∷ with_search id t ss) ≡ Some t
    by true e h next = rw e refl
    by false e h next = rw e (next h)

with-twice : (id : ℕ) (a b : Search) (ss : List Session) → with_search id b (with_search id a ss) ≡ with_search id b ss
with-twice id a b [] = refl
with-twice id a b (s ∷ ss) = by (has_number id s) refl (with-twice id a b ss)
  where
    by : (t : Bool) → has_number id s ≡ t → with_search id b (with_search id a ss) ≡ with_search id b ss
        → with_search id b (if t then record s { search = a } ∷ ss else s ∷ with_search id a ss) ≡ (if t then record s { search = b } ∷ ss else s ∷ with_search id b ss)
    by true e next = rw e refl
    by false e next = rw e (ap (λ (l : List Session). s ∷ l) next)

-- what a tree comes to, comes of what the search gives
tree-step : (p : Program) (tree : Cert) (step : Step) → TreeComes p (certificate_of tree) step → StepOf p (advance.Answer tree) step
tree-step p tree (Comes (Answer cert)) h = h
tree-step p tree (Comes (Without Paused)) h = h
tree-step p tree (Comes (Without Ended)) h = h
tree-step p tree (Comes (Without Spent)) h = h
tree-step p tree (Comes (Without Overflow)) h = h
tree-step p tree Passes h = is_passed tree h

pub step-of-tree : (p : Program) (given : Advance Cert) (tree : Cert) (step : Step) → given ≡ advance.Answer tree → TreeComes p (certificate_of tree) step → StepOf p given step
step-of-tree p given tree step is h = subst (λ (g : Advance Cert). StepOf p g step) (sym is) (tree-step p tree step h)

-- what the search gives comes to this at once
pub found-here : (p : Program) (old new : Table) (id calls : ℕ) (given : Advance Cert) (coming : Coming) → Advancing old id calls (Ok given) new → ComesOf p given coming
    → Found p old id calls (Some coming) new
found-here p old new id calls given coming r c =
    record { before = r.0; after = r.1; there = r.2; goes = comes r.0 r.1 calls given coming r.3 c; rest = r.4 }

-- how many calls of the slice are left
abbrev pub left_in : ℕ → ℕ → Table → Table → ℕ
left_in id calls old new = calls - (unwrap_or (calls_in id new) 0 - unwrap_or (calls_in id old) 0)

module _ (p : Program) (old : Table) (id calls : ℕ) (before after : Search) (there : search_of id old.opened ≡ Some before) where
  abbrev between : Table
  between = record old { opened = with_search id after old.opened }

  now : search_of id (with_search id after old.opened) ≡ Some after
  now = search-with id after before old.opened there

  left-is : left_in id calls old between ≡ calls - ((rest_of after).calls - (rest_of before).calls)
  left-is =
      ap (λ (o : Option Search). calls - (unwrap_or (option_map (λ s. (rest_of s).calls) o) 0 - unwrap_or (calls_in id old) 0)) now
      ∙ ap (λ (o : Option Search). calls - ((rest_of after).calls - unwrap_or (option_map (λ s. (rest_of s).calls) o) 0)) there

  found-later : (tree : Cert) (found : Option Coming) (new : Table) → IsAdvanced before calls (advance.Answer tree) after → Finishes p (certificate_of tree) finished.Passed
      → Found p between id (left_in id calls old between) found new → Found p old id calls found new
  found-later tree None new advanced finishes h = absurd (cc (h.0, now))
  found-later tree (Some coming) new advanced finishes g =
      let same : g.before ≡ after = cc (g.there, now) in
      let goes : GoesOn p after (left_in id calls old between) coming g.after =
      subst (λ (s : Search). GoesOn p s (left_in id calls old between) coming g.after) same g.goes in
      let goes_left : GoesOn p after (calls - ((rest_of after).calls - (rest_of before).calls)) coming g.after =
      subst (λ n. GoesOn p after n coming g.after) left-is goes in
      record {
        before = before;
        after = g.after;
        there = there;
        goes = passes before after g.after calls tree coming advanced finishes goes_left;
        rest = g.rest ∙ ap (λ (ss : List Session). record old { opened = ss }) (with-twice id after g.after old.opened);
      }

-- a tree is passed over, and what comes then comes of the slice
pub found-behind : (p : Program) (old mid : Table) (id calls left : ℕ) (given : Advance Cert) (found : Option Coming) (new : Table)
    → Advancing old id calls (Ok given) mid → IsPassed p given → left ≡ left_in id calls old mid → Found p mid id left found new → Found p old id calls found new
found-behind p old mid id calls left given found new r (is_passed tree finishes) is h =
    let at_left : Found p mid id (left_in id calls old mid) found new = subst (λ n. Found p mid id n found new) is h in
    let at_mid : Found p (record old { opened = with_search id r.1 old.opened }) id (left_in id calls old (record old { opened = with_search id r.1 old.opened })) found new =
    subst (λ (t : Table). Found p t id (left_in id calls old t) found new) r.4 at_left in
    found-later p old id calls r.0 r.1 r.2 tree found new r.3 finishes at_mid
