-- Where lines begin and end.
use Rattle.std.proofs.Common.{◌≡◌, ◌∙◌, ℕ, zero, suc, ◌+◌, ◌<◌, ◌≤◌, List, [], ◌∷◌, length, refl, ap, sym, inl, inr, arith}
use Rattle.std.specs.List.{Contains}
use Rattle.scasp_list.proofs.MemberLemmas.{Contains-none, Contains-here, Contains-there, Contains-cases}
use Rattle.scasp_syntax.specs.declared.program.Program.{Program}
use Rattle.scasp_cert.specs.Certificate.{Certificate}
use Rattle.scasp_cert.specs.Lines.{all_lines, lines_of, lines_below, lines_in}
use Rattle.scasp_cert.specs.Trees.{Tree, pos_tree, neg_tree, loop_tree, seen_tree, test_tree}
use Rattle.scasp_lines.specs.Lines.{lines, setting, walk_of}
use Rattle.scasp_lines.specs.Numbering.{Counts, lines_of_part}
use Rattle.scasp_lines.specs.Walk.{Line, Setting}
use Rattle.scasp_lines.proofs.SubWalkLemmas.{certificate-whole, line-whole}
use Rattle.scasp_lines.proofs.WalkLemmas.{certificate-runs, line-runs}

counts-within : (n : ℕ) (ls : List Line) (l : Line) → Counts n ls → Contains ls l → (n ≤ l.at) × (l.at < n + length ls)
counts-within n [] l h i = absurd (Contains-none l i)
counts-within n (k ∷ ls) l h i = elim (Contains-cases k ls l i) [
  | inl e ↦ (let same : l.at ≡ n = ap (λ (z : Line). z.at) (sym e) ∙ h.0 in (omega (arith, same), omega (arith, same)))
  | inr j ↦ (let q = counts-within (suc n) ls l h.1 j in let a = q.0 in let b = q.1 in (omega (arith, a), omega (arith, b)))
]

last-line : (n k : ℕ) (ls : List Line) → Counts n ls → length ls ≡ suc k → (l : Line) × Contains ls l × (l.at ≡ n + k)
last-line n k [] h e = absurd (omega (arith, e))
last-line n zero (l ∷ ls) h e = (l, Contains-here l ls, h.0 ∙ (let q : n ≡ n + 0 = omega arith in q))
last-line n (suc k) (l ∷ ls) h e =
    let shorter : length ls ≡ suc k = omega (arith, e) in
    let q = last-line (suc n) k ls h.1 shorter in
    (q.0, Contains-there l ls q.0 q.1, q.2 ∙ (let z : suc n + k ≡ n + suc k = omega arith in z))

tree-some : (t : Tree) → (k : ℕ) × (lines_of t ≡ suc k)
tree-some (pos_tree a k ts children) = (lines_below children, (omega arith))
tree-some (neg_tree a covers) = (lines_in covers, (omega arith))
tree-some (loop_tree l to) = (0, refl)
tree-some (seen_tree l to) = (0, refl)
tree-some (test_tree c hint) = (0, refl)

module _ (s : Setting) where
  -- the lines of a line are those from its number on, as many as stand there
  pub line-within : (l x : Line) → Contains (walk_of s l) x → (l.at ≤ x.at) × (x.at < l.at + lines_of_part l.part)
  line-within l x i =
      let r = line-runs s l in
      let q = counts-within l.at (walk_of s l) x r.counts i in
      let a = q.0 in let b = q.1 in let long = r.long in (a, omega (arith, b, long))

  -- a node below a line has ended where the line has
  pub node-within : (l x : Line) (t : Tree) → lines_of_part x.part ≡ lines_of t → Contains (walk_of s l) x → x.at + lines_of t ≤ l.at + lines_of_part l.part
  node-within l x t e i =
      let some = tree-some t in
      let r = line-runs s x in
      let last = last-line x.at some.0 (walk_of s x) r.counts (r.long ∙ e ∙ some.1) in
      let within = (line-within l last.0 ((line-whole s l).has x last.0 i last.1)).1 in
      let number = last.2 in let size = some.1 in
      omega (arith, within, number, size)

-- a node has ended where the certificate has
pub node-ended : (p : Program) (c : Certificate) (x : Line) (t : Tree) → lines_of_part x.part ≡ lines_of t → Contains (lines p c) x → x.at + lines_of t ≤ suc (all_lines c)
node-ended p c x t e i =
    let s = setting p.clauses c in
    let some = tree-some t in
    let r = line-runs s x in
    let last = last-line x.at some.0 (walk_of s x) r.counts (r.long ∙ e ∙ some.1) in
    let whole = certificate-runs p.clauses p.queries c in
    let within = (counts-within 1 (lines p c) last.0 whole.counts ((certificate-whole p.clauses p.queries c).has x last.0 i last.1)).1 in
    let number = last.2 in let size = some.1 in let long : length (lines p c) ≡ all_lines c = whole.long in
    omega (arith, within, number, size, long)
