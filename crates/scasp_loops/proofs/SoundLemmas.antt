-- All lists of literals together.
use Rattle.std.proofs.Common.{◌≡◌, ◌≤◌, ◌+◌, ℕ, suc, List, [], ◌∷◌, ◌++◌, length, arith, refl, ap, sym, subst, ◌∙◌}
use Rattle.scasp_loops.specs.Inside.Hinted.{AreHinted, AreHintedEach, AreHints}
use Rattle.scasp_loops.specs.Inside.Kept.{AllStay, AreLeft, AreMarked, AreSound, SameMarks, SameNow, literals_in}
use Rattle.scasp_loops.specs.Inside.Topped.{AreTops, AreTopsEach}
use Rattle.scasp_loops.specs.Inside.Zipped.{FitEach, StandsAt, literals_each, literals_from}
use Rattle.scasp_loops.specs.Held.{literal_of}
use Rattle.scasp_loops.specs.declared.entry.Entry.{Entry}
use Rattle.scasp_loops.specs.declared.entry.Marks.{Marks}
use Rattle.scasp_loops.specs.declared.hints.Hint.{Hint}
use Rattle.scasp_loops.specs.declared.lists.Lists.{Lists}
use Rattle.scasp_search_rules.specs.declared.states.state.Literal.{Literal}
use Rattle.scasp_trail.specs.Past.{Past, earlier, latest}
use Rattle.scasp_loops.proofs.HintLemmas.{hinted_anew, hinted_before, hinted_now, hinted_stays, none_hinted}
use Rattle.scasp_loops.proofs.TopLemmas.{none_topped, topped_beyond, tops_before, tops_now}
use Rattle.scasp_loops.proofs.ZipLemmas.{before_left, fit_before, fit_now, literals_length, now_left, one_more, some_within}

-- ---- of the lists one by one

abbrev past : {T : Type 0} → List T → List (List T) → Past T
past xs xss = record { now = xs; before = xss }

fit_each : (ess dss : List (List Entry)) (mss nss : List (List Marks)) → dss ≡ ess → nss ≡ mss → FitEach ess mss → FitEach dss nss
fit_each ess dss mss nss e m f = subst (λ (xs : List (List Entry)). FitEach xs nss) (sym e) (subst (λ (xs : List (List Marks)). FitEach ess xs) (sym m) f)

hinted_each : (lss kss : List (List Literal)) (hss gss : List (List Hint)) (tss uss : List (List ℕ)) → kss ≡ lss → gss ≡ hss → uss ≡ tss → AreHintedEach lss hss tss → AreHintedEach kss gss uss
hinted_each lss kss hss gss tss uss l h t f =
    subst (λ (xs : List (List Literal)). AreHintedEach xs gss uss) (sym l)
    (subst (λ (xs : List (List Hint)). AreHintedEach lss xs uss) (sym h)
    (subst (λ (xs : List (List ℕ)). AreHintedEach lss hss xs) (sym t) f))

each_same : (ess dss : List (List Entry)) (mss nss : List (List Marks)) → dss ≡ ess → nss ≡ mss → literals_each dss nss ≡ literals_each ess mss
each_same ess dss mss nss e m = λ i. literals_each (e i) (m i)

tops_as : (n m : ℕ) (es ds : List Entry) (hs gs : List Hint) → m ≡ n → ds ≡ es → gs ≡ hs → AreTops n es hs → AreTops m ds gs
tops_as n m es ds hs gs r e h a =
    subst (λ (k : ℕ). AreTops k ds gs) (sym r)
    (subst (λ (xs : List Entry). AreTops n xs gs) (sym e)
    (subst (λ (xs : List Hint). AreTops n es xs) (sym h) a))

tops_each : (n m : ℕ) (ess dss : List (List Entry)) (hss gss : List (List Hint)) → m ≡ n → dss ≡ ess → gss ≡ hss → AreTopsEach n ess hss → AreTopsEach m dss gss
tops_each n m ess dss hss gss r e h a =
    subst (λ (k : ℕ). AreTopsEach k dss gss) (sym r)
    (subst (λ (xs : List (List Entry)). AreTopsEach n xs gss) (sym e)
    (subst (λ (xs : List (List Hint)). AreTopsEach n ess xs) (sym h) a))

-- ---- without a change of the marks

pub sound_if : (l k : Lists) (ts us : Past ℕ) → AreSound l ts → SameMarks l k → us.before ≡ ts.before → length k.marks.now ≤ length k.entries.now
    → AreHinted (literals_in k) k.hints.now us.now → k.raised ≡ l.raised → AreTops l.raised k.entries.now k.hints.now → AreSound k us
sound_if l k ts us s m t f a r p = record {
  fit = record { now = f; before = fit_each l.entries.before k.entries.before l.marks.before k.marks.before m.entries m.marks s.fit.before };
  now = a;
  before = hinted_each (literals_each l.entries.before l.marks.before) (literals_each k.entries.before k.marks.before) l.hints.before k.hints.before ts.before us.before
      (each_same l.entries.before k.entries.before l.marks.before k.marks.before m.entries m.marks) m.hints t s.before;
  tops = record {
    now = subst (λ (n : ℕ). AreTops n k.entries.now k.hints.now) (sym r) p;
    before = tops_each l.raised k.raised l.entries.before k.entries.before l.hints.before k.hints.before r m.entries m.hints s.tops.before;
  };
}

-- the literals stay what the hints say
pub sound_stays : (l k : Lists) (ts : Past ℕ) → AreSound l ts → k.entries.before ≡ l.entries.before → k.marks.before ≡ l.marks.before → k.hints ≡ l.hints
    → length k.marks.now ≤ length k.entries.now → AllStay (literals_in l) (literals_in k) → k.raised ≡ l.raised → AreTops l.raised k.entries.now l.hints.now → AreSound k ts
sound_stays l k ts s e m h f a r p =
    let same : k.hints.now ≡ l.hints.now = ap (λ (q : Past Hint). q.now) h in
    sound_if l k ts ts s (record { entries = e; marks = m; hints = ap (λ (q : Past Hint). q.before) h }) refl f
    (subst (λ (hs : List Hint). AreHinted (literals_in k) hs ts.now) (sym same) (hinted_stays (literals_in l) (literals_in k) l.hints.now ts.now a s.now)) r
    (subst (λ (hs : List Hint). AreTops l.raised k.entries.now hs) (sym same) p)

-- the marks alone change
pub sound_marks : (l : Lists) (ts : Past ℕ) (es : List Entry) (ms : Past Marks) → AreSound l ts → es ≡ l.entries.now → ms.before ≡ l.marks.before → length ms.now ≡ length l.marks.now
    → AllStay (literals_from 0 es l.marks.now) (literals_from 0 es ms.now) → AreSound (record { entries = l.entries; marks = ms; hints = l.hints; raised = l.raised }) ts
sound_marks l ts es ms s e b n a =
    sound_stays l (record { entries = l.entries; marks = ms; hints = l.hints; raised = l.raised }) ts s refl b refl (omega (arith, n, s.fit.now))
    (subst (λ (xs : List Entry). AllStay (literals_from 0 xs l.marks.now) (literals_from 0 xs ms.now)) e a) refl s.tops.now

-- the hints change and are right of the same literals
pub sound_hints : (l k : Lists) (ts : Past ℕ) → AreSound l ts → k.entries ≡ l.entries → k.marks ≡ l.marks → k.hints.before ≡ l.hints.before → length k.hints.now ≡ length l.hints.now
    → AreHints (literals_in l) k.hints.now → k.raised ≡ l.raised → AreTops l.raised l.entries.now k.hints.now → AreSound k ts
sound_hints l k ts s e n b h a r p =
    let es : k.entries.now ≡ l.entries.now = ap (λ (q : Past Entry). q.now) e in
    let ms : k.marks.now ≡ l.marks.now = ap (λ (q : Past Marks). q.now) n in
    let literals : literals_in k ≡ literals_in l = λ i. literals_from 0 (es i) (ms i) in
    sound_if l k ts ts s (record { entries = ap (λ (q : Past Entry). q.before) e; marks = ap (λ (q : Past Marks). q.before) n; hints = b }) refl
    (omega (arith, s.fit.now, ap length es, ap length ms))
    (subst (λ (xs : List Literal). AreHinted xs k.hints.now ts.now) (sym literals) (hinted_anew (literals_in l) l.hints.now k.hints.now ts.now s.now a h)) r
    (subst (λ (xs : List Entry). AreTops l.raised xs k.hints.now) (sym es) p)

-- the first variables may be later ones from now on
pub sound_raised : (l k : Lists) (ts : Past ℕ) → AreSound l ts → k.entries ≡ l.entries → k.marks ≡ l.marks → k.hints ≡ l.hints → l.raised ≤ k.raised → AreSound k ts
sound_raised l k ts s e m h r =
    let raised : AreSound (record { entries = l.entries; marks = l.marks; hints = l.hints; raised = k.raised }) ts =
    record { fit = s.fit; now = s.now; before = s.before; tops = topped_beyond l.raised k.raised l.entries l.hints r s.tops } in
    subst (λ (p : Past Hint). AreSound (record { entries = k.entries; marks = k.marks; hints = p; raised = k.raised }) ts) (sym h)
    (subst (λ (p : Past Marks). AreSound (record { entries = k.entries; marks = p; hints = l.hints; raised = k.raised }) ts) (sym m)
    (subst (λ (p : Past Entry). AreSound (record { entries = p; marks = l.marks; hints = l.hints; raised = k.raised }) ts) (sym e) raised))

-- one literal more, whose entry and hint were there before its marks
pub opened : (l p : Lists) (ts : Past ℕ) (e : Entry) (m : Marks) → AreSound l ts → StandsAt (length l.marks.now) e l.entries.now p.entries.now → p.marks ≡ l.marks
    → literals_from 0 p.entries.now (p.marks.now ++ m ∷ []) ≡ literals_in l ++ literal_of (length (literals_in l)) e m ∷ []
opened l p ts e m s t n =
    ap (λ (q : Past Marks). literals_from 0 p.entries.now (q.now ++ m ∷ [])) n
    ∙ one_more l.entries.now p.entries.now l.marks.now e m (length l.marks.now) refl s.fit.now t

length_pushed : (ms : List Marks) (m : Marks) → length (ms ++ m ∷ []) ≡ length ms + 1
length_pushed [] m = refl
length_pushed (n ∷ ms) m = ap suc (length_pushed ms m) ∙ omega arith

pub sound_opened : (l p k : Lists) (ts us : Past ℕ) (e : Entry) (m : Marks) → AreSound l ts → StandsAt (length l.marks.now) e l.entries.now p.entries.now
    → ((n : Marks) → AreHinted (literals_in l ++ literal_of (length l.marks.now) e n ∷ []) p.hints.now us.now) → p.marks ≡ l.marks → p.entries.before ≡ l.entries.before
    → p.hints.before ≡ l.hints.before → us.before ≡ ts.before → k.entries ≡ p.entries → k.hints ≡ p.hints → k.marks.now ≡ p.marks.now ++ m ∷ [] → k.marks.before ≡ p.marks.before
    → k.raised ≡ p.raised → p.raised ≡ l.raised → ((j : ℕ) → AreTops j l.entries.now l.hints.now → AreTops j p.entries.now p.hints.now) → AreSound k us
sound_opened l p k ts us e m s t h n eb hb ub ke kh kn kb kr pr tops =
    let literals : literals_in k ≡ literals_in l ++ literal_of (length l.marks.now) e m ∷ [] =
    (λ i. literals_from 0 (ke i).now (kn i)) ∙ opened l p ts e m s t n
    ∙ ap (λ (j : ℕ). literals_in l ++ literal_of j e m ∷ []) (literals_length l.entries.now l.marks.now s.fit.now) in
    sound_if l k ts us s
    (record {
      entries = ap (λ (q : Past Entry). q.before) ke ∙ eb;
      marks = kb ∙ ap (λ (q : Past Marks). q.before) n;
      hints = ap (λ (q : Past Hint). q.before) kh ∙ hb;
    })
    ub
    (omega (arith, ap length kn, length_pushed p.marks.now m, ap (λ (q : Past Marks). length q.now) n, ap (λ (q : Past Entry). length q.now) ke, some_within p.entries.now (length l.marks.now) e t.there))
    (subst (λ (xs : List Literal). AreHinted xs k.hints.now us.now) (sym literals)
    (subst (λ (q : Past Hint). AreHinted (literals_in l ++ literal_of (length l.marks.now) e m ∷ []) q.now us.now) (sym kh) (h m)))
    (kr ∙ pr)
    (tops_as l.raised l.raised p.entries.now k.entries.now p.hints.now k.hints.now refl (ap (λ (q : Past Entry). q.now) ke) (ap (λ (q : Past Hint). q.now) kh) (tops l.raised s.tops.now))

-- ---- none at all

pub sound_new : (l : Lists) (ts : Past ℕ) → l.entries ≡ record { now = []; before = [] } → l.marks ≡ record { now = []; before = [] } → l.hints ≡ record { now = []; before = [] }
    → ts ≡ record { now = []; before = [] } → AreSound l ts
sound_new l ts e m h t =
    subst (λ (p : Past Entry). AreSound (record { entries = p; marks = l.marks; hints = l.hints; raised = l.raised }) ts) (sym e)
    (subst (λ (p : Past Marks). AreSound (record { entries = past [] []; marks = p; hints = l.hints; raised = l.raised }) ts) (sym m)
    (subst (λ (p : Past Hint). AreSound (record { entries = past [] []; marks = past [] []; hints = p; raised = l.raised }) ts) (sym h)
    (subst (λ (p : Past ℕ). AreSound (record { entries = past [] []; marks = past [] []; hints = past [] []; raised = l.raised }) p) (sym t)
    (record { fit = record { now = omega arith; before = tt }; now = none_hinted; before = tt; tops = record { now = none_topped l.raised; before = tt } }))))

-- ---- one mark more

marked_fit : (ess dss : List (List Entry)) (es : List Entry) (mss nss : List (List Marks)) (ms : List Marks) → dss ≡ es ∷ ess → nss ≡ ms ∷ mss → length ms ≤ length es → FitEach ess mss → FitEach dss nss
marked_fit ess dss es mss nss ms e m h f = fit_each (es ∷ ess) dss (ms ∷ mss) nss e m (h, f)

pub sound_marked : (l k : Lists) (ts us : Past ℕ) → AreSound l ts → SameNow l k → AreMarked l k → us.now ≡ ts.now → us.before ≡ ts.now ∷ ts.before → AreSound k us
sound_marked l k ts us s n m t u =
    let literals : literals_in k ≡ literals_in l = λ i. literals_from 0 (n.entries i) (n.marks i) in
    let hinted : AreHinted (literals_in l) l.hints.now ts.now = s.now in
    record {
      fit = record {
        now = omega (arith, s.fit.now, ap length n.entries, ap length n.marks);
        before = marked_fit l.entries.before k.entries.before l.entries.now l.marks.before k.marks.before l.marks.now m.entries m.marks s.fit.now s.fit.before;
      };
      now = subst (λ (xs : List Literal). AreHinted xs k.hints.now us.now) (sym literals)
          (subst (λ (xs : List Hint). AreHinted (literals_in l) xs us.now) (sym n.hints) (subst (λ (xs : List ℕ). AreHinted (literals_in l) l.hints.now xs) (sym t) hinted));
      before = hinted_each (literals_in l ∷ literals_each l.entries.before l.marks.before) (literals_each k.entries.before k.marks.before) (l.hints.now ∷ l.hints.before) k.hints.before
          (ts.now ∷ ts.before) us.before (λ i. literals_each (m.entries i) (m.marks i)) m.hints u (hinted, s.before);
      tops = record {
        now = tops_as l.raised k.raised l.entries.now k.entries.now l.hints.now k.hints.now n.raised n.entries n.hints s.tops.now;
        before = tops_each l.raised k.raised (l.entries.now ∷ l.entries.before) k.entries.before (l.hints.now ∷ l.hints.before) k.hints.before n.raised m.entries m.hints (s.tops.now, s.tops.before);
      };
    }

-- ---- at the latest mark

pub sound_left : (l k : Lists) (ts us : Past ℕ) → AreSound l ts → AreLeft l k → us.now ≡ latest ts.now ts.before → us.before ≡ earlier ts.before → AreSound k us
sound_left l k ts us s e t u =
    let en : k.entries.now ≡ latest l.entries.now l.entries.before = e.entries in
    let eb : k.entries.before ≡ earlier l.entries.before = e.entries_before in
    let mn : k.marks.now ≡ latest l.marks.now l.marks.before = e.marks in
    let mb : k.marks.before ≡ earlier l.marks.before = e.marks_before in
    let hn : k.hints.now ≡ latest l.hints.now l.hints.before = e.hints in
    let hb : k.hints.before ≡ earlier l.hints.before = e.hints_before in
    let lss : List (List Literal) = literals_each l.entries.before l.marks.before in
    let literals : literals_in k ≡ latest (literals_in l) lss =
    (λ i. literals_from 0 (en i) (mn i)) ∙ now_left l.entries.now l.entries.before l.marks.now l.marks.before s.fit.before in
    let each : literals_each k.entries.before k.marks.before ≡ earlier lss =
    (λ i. literals_each (eb i) (mb i)) ∙ before_left l.entries.before l.marks.before s.fit.before in
    let hinted : AreHinted (latest (literals_in l) lss) (latest l.hints.now l.hints.before) (latest ts.now ts.before) =
    hinted_now (literals_in l) lss l.hints.now l.hints.before ts.now ts.before s.now s.before in
    record {
      fit = record {
        now = omega (arith, fit_now l.entries.now l.entries.before l.marks.now l.marks.before s.fit.now s.fit.before, ap length en, ap length mn);
        before = fit_each (earlier l.entries.before) k.entries.before (earlier l.marks.before) k.marks.before eb mb (fit_before l.entries.before l.marks.before s.fit.before);
      };
      now = subst (λ (xs : List Literal). AreHinted xs k.hints.now us.now) (sym literals)
          (subst (λ (xs : List Hint). AreHinted (latest (literals_in l) lss) xs us.now) (sym hn)
          (subst (λ (xs : List ℕ). AreHinted (latest (literals_in l) lss) (latest l.hints.now l.hints.before) xs) (sym t) hinted));
      before = hinted_each (earlier lss) (literals_each k.entries.before k.marks.before) (earlier l.hints.before) k.hints.before (earlier ts.before) us.before each hb u
          (hinted_before lss l.hints.before ts.before s.before);
      tops = record {
        now = tops_as l.raised k.raised (latest l.entries.now l.entries.before) k.entries.now (latest l.hints.now l.hints.before) k.hints.now e.raised en hn
            (tops_now l.raised l.entries.now l.entries.before l.hints.now l.hints.before s.tops.now s.tops.before);
        before = tops_each l.raised k.raised (earlier l.entries.before) k.entries.before (earlier l.hints.before) k.hints.before e.raised eb hb
            (tops_before l.raised l.entries.before l.hints.before s.tops.before);
      };
    }
