-- The blocks among entries.
use Rattle.std.proofs.Common.{◌≡◌, ◌∙◌, ℕ, Bool, ◌&&◌, List, [], ◌∷◌, ◌++◌, map, refl, ap}
use Rattle.std.specs.List.{concat, list_all}
use Rattle.scasp_graph.specs.Judged.{judged}
use Rattle.scasp_graph.specs.Map.{map_faults}
use Rattle.scasp_sound.specs.MapLevels.{covered}
use Rattle.scasp_syntax.specs.declared.program.Program.{Program}
use Rattle.scasp_cert.specs.Certificate.{Certificate}
use Rattle.scasp_checker_rules.specs.Faults.{faults}
use Rattle.scasp_checker_rules.specs.Refusals.{first}
use Rattle.scasp_checker_rules.specs.declared.refusal.Refusal.{Refusal}
use Rattle.scasp_answers.specs.Blocks.States.{Entry, block, ended_entry, rejected_entry}
use Rattle.scasp_recheck.specs.Checks.{checked_by, checked_of, verdict_of}
use Rattle.scasp_command_check.specs.Texts.{block_lines, is_accepted, line_by, passes}
use Rattle.scasp_command_check.specs.Worths.{worth_by, worth_of}
use Rattle.scasp_command_recheck.specs.Blocks.{block_certs, block_numbers}
use Rattle.scasp_command_recheck.specs.Lines.{lines_by}
use Rattle.scasp_command_recheck.specs.Texts.{program_line, program_text, visited_line}
use Rattle.scasp_command_recheck.specs.Views.{AreBlocks}
use Rattle.scasp_command_recheck.specs.Worths.{worth_in}
use Rattle.scasp_command_recheck.specs.declared.blocks.Blocks.{Blocks}
use Rattle.scasp_recheck.specs.Meaning.{certs_in, program_of}

worth-by : (fs : List Refusal) (ks : List ℕ) → worth_in (checked_by (first fs) (verdict_of (judged ks))) ≡ worth_by fs ks
worth-by (f ∷ fs) ks = refl
worth-by [] (k ∷ ks) = refl
worth-by [] [] = refl

-- what a certificate is worth, by what a check of it comes to
pub worth-is : (p : Program) (c : Certificate) → worth_in (checked_of p c) ≡ worth_of p c
worth-is p c = worth-by (faults p c) (map_faults p (covered c) c.map)

pub lines-are : (p : Program) (entries : List Entry) → lines_by p (block_numbers entries) (block_certs entries) ≡ block_lines p entries
lines-are p [] = refl
lines-are p (block n c ∷ es) = ap (λ ls. line_by (worth_of p c) n c ∷ ls) (lines-are p es)
lines-are p (ended_entry e q ∷ es) = lines-are p es
lines-are p (rejected_entry q n at why ∷ es) = lines-are p es

-- the certificate is accepted
abbrev pub accepts : Program → Certificate → Bool
accepts p c = is_accepted (worth_of p c)

all-accepted : (p : Program) (entries : List Entry) → list_all (accepts p) (block_certs entries) ≡ list_all (passes p) entries
all-accepted p [] = refl
all-accepted p (block n c ∷ es) = ap (λ b. is_accepted (worth_of p c) && b) (all-accepted p es)
all-accepted p (ended_entry e q ∷ es) = all-accepted p es
all-accepted p (rejected_entry q n at why ∷ es) = all-accepted p es

accepted-are : (p : Program) (cs : List Certificate) → list_all (λ k. is_accepted (worth_in k)) (map (checked_of p) cs) ≡ list_all (accepts p) cs
accepted-are p [] = refl
accepted-are p (c ∷ cs) = λ i. is_accepted (worth-is p c i) && accepted-are p cs i

-- what blocks come to, and their lines
pub outcome-is : (b : Blocks) (p : Program) (entries : List Entry) → AreBlocks b p entries
    → list_all (λ k. is_accepted (worth_in k)) (map (checked_of (program_of b.recheck)) (certs_in b.recheck)) ≡ list_all (passes p) entries
outcome-is b p entries h =
    (λ i. list_all (λ k. is_accepted (worth_in k)) (map (checked_of (h.program i)) (h.certs i))) ∙ accepted-are p (block_certs entries) ∙ all-accepted p entries

pub lines-of : (b : Blocks) (p : Program) (entries : List Entry) → AreBlocks b p entries
    → lines_by (program_of b.recheck) b.numbers (certs_in b.recheck) ≡ block_lines p entries
lines-of b p entries h = (λ i. lines_by (h.program i) (h.numbers i) (h.certs i)) ∙ lines-are p entries

-- the text of blocks
pub text-of : (b : Blocks) (p : Program) (entries : List Entry) (n visited : ℕ) (text : List ℕ) → AreBlocks b p entries
    → text ≡ program_line n ++ concat (lines_by (program_of b.recheck) b.numbers (certs_in b.recheck)) ++ visited_line visited
    → text ≡ program_text n p entries visited
text-of b p entries n visited text h e = e ∙ ap (λ ls. program_line n ++ concat ls ++ visited_line visited) (lines-of b p entries h)
