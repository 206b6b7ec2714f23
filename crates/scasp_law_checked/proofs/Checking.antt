-- Each block that is read of a printed file is worth what the printed one is.
use Rattle.std.specs.Prelude.{◌≡◌, ℕ, ◌+◌, ◌≤◌, nat_le, nat_lt, true, List, [], ◌∷◌, flat_map, length, map}
use Rattle.std.specs.List.{Contains}
use Rattle.std.proofs.Common.{arith, refl}
use Rattle.std.proofs.lemmas.Bool.{and_from, and_parts, ltb-true}
use Rattle.scasp_answers.specs.Files.Texts.{with_names}
use Rattle.scasp_cert.specs.Certificate.{Certificate}
use Rattle.scasp_checker_rules.specs.Accepted.{Accepts}
use Rattle.scasp_checker_rules.specs.Faults.{faults}
use Rattle.scasp_checker_rules.proofs.AcceptedLemmas.{accepted-no_fault}
use Rattle.scasp_command_check.specs.Worths.{worth_by, worth_of}
use Rattle.scasp_command_check.specs.declared.worth.Worth.TheVariants.{Right}
use Rattle.scasp_graph.specs.Map.{map_faults}
use Rattle.scasp_law_answer_text.specs.LineReadback.Texts.{Piece, remark, answer, ending, rejection, file_text, piece_entries}
use Rattle.scasp_law_printable.specs.Printable.{AnswersAreSampled}
use Rattle.scasp_law_tables.specs.Moved.{GrownTablesRead, IsFine, IsWrittenFile, ReadAnswersAccepted, are_values, is_value, moved_piece, moved_sample}
use Rattle.scasp_lines.specs.Lines.{free_of}
use Rattle.scasp_num.proofs.Numbers.{lt_ltb}
use Rattle.scasp_syntax.specs.Tm.{Tm, Tms, var, num, app, nil, cons}
use Rattle.scasp_unify.proofs.Members.{Each-member}
use Rattle.scasp_list.specs.Each.{Each}
use Rattle.scasp_list.proofs.EachLemmas.{Each-append, Each-map}
use Rattle.scasp_list.proofs.MemberLemmas.{Contains-here, Contains-there}
use Rattle.scasp_sound.specs.MapLevels.{covered}
use Rattle.scasp_syntax.specs.declared.program.Program.{Program}
use Rattle.scasp_law_checked.specs.Checked.{IsFoundRight, IsSearchedFile, IsSearchedPiece, PrintedAnswersAreRight, SearchedAnswersAreRight}

-- without a fault, with the map kept
worth-right : (p : Program) (c : Certificate) → Accepts p c → map_faults p (covered c) c.map ≡ [] → worth_of p c ≡ Right
worth-right p c right map = let none : faults p c ≡ [] = (accepted-no_fault true p c).0 right in λ i. worth_by (none i) (map i)

pub printed-right : GrownTablesRead → ReadAnswersAccepted → PrintedAnswersAreRight
printed-right reads accepted p names written pieces file right = record {
  entries = flat_map piece_entries (map (moved_piece written other) pieces);
  read = reads names written pieces file;
  right = each pieces (λ q i. i);
}
  where
    other : List (List ℕ)
    other = with_names names (file_text written pieces)

    one : (q : Piece) → Contains pieces q → Each (IsFoundRight p) (piece_entries (moved_piece written (with_names names (file_text written pieces)) q))
    one (remark text) i = tt
    one (answer n c) i =
        (worth-right p (moved_sample written (with_names names (file_text written pieces)) c) (accepted names written pieces file p n c i (right n c i).accepted) (right n c i).map, tt)
    one (ending e q) i = (tt, tt)
    one (rejection q n at reason) i = (tt, tt)

    each : (qs : List Piece) → ((q : Piece) → Contains qs q → Contains pieces q) → Each (IsFoundRight p) (flat_map piece_entries (map (moved_piece written (with_names names (file_text written pieces))) qs))
    each [] h = tt
    each (q ∷ qs) h =
        Each-append (IsFoundRight p) (piece_entries (moved_piece written (with_names names (file_text written pieces)) q)) (flat_map piece_entries (map (moved_piece written (with_names names (file_text written pieces))) qs))
        (one q (h q (Contains-here q qs))) (each qs (λ r i. h r (Contains-there q qs r i)))

-- ---- answers of searches

module _ (count total more : ℕ) (l : total ≤ more) where
  value-larger : (t : Tm) → is_value count total t ≡ true → is_value count more t ≡ true
  value-larger (var x) v = v
  value-larger (num q) v = v
  value-larger (app f nil) v =
      let h = and_parts (nat_le count f) (nat_lt f total) v in
      let k = ltb-true f total h.1 in and_from (nat_le count f) (nat_lt f more) h.0 (lt_ltb (omega (arith, l, k)))
  value-larger (app f (cons t ts)) v = v

  values-larger : (ts : Tms) → are_values count total ts ≡ true → are_values count more ts ≡ true
  values-larger nil v = refl
  values-larger (cons t ts) v =
      let vs = and_parts (is_value count total t) (are_values count total ts) v in
      and_from (is_value count more t) (are_values count more ts) (value-larger t vs.0) (values-larger ts vs.1)

-- a file of answers of searches is one that is written
pub searched-written : AnswersAreSampled → (p : Program) (names written : List (List ℕ)) (pieces : List Piece) → IsSearchedFile p names written pieces → IsWrittenFile names written pieces
searched-written sampled p names written pieces file = record {
  lists = file.lists;
  longer = file.longer;
  agree = file.agree;
  table = file.table;
  read = file.read;
  fine = Each-map (IsSearchedPiece p names written) (IsFine (length names) (length written)) one pieces file.searched;
  short = file.short;
}
  where
    one : (q : Piece) → IsSearchedPiece p names written q → IsFine (length names) (length written) q
    one (remark text) h = h
    one (answer n c) h =
        let k = sampled (length names) h.budget n h.problem h.query h.tree c h.asked h.met h.filled in
        record { printable = k.printable; values = values-larger (length names) (length names + free_of c) (length written) h.enough c.sample k.values; fits = k.fits }
    one (ending e q) h = h
    one (rejection q n at reason) h = h

pub searched-right : PrintedAnswersAreRight → AnswersAreSampled → SearchedAnswersAreRight
searched-right prints sampled p names written pieces file =
    prints p names written pieces (searched-written sampled p names written pieces file)
    (λ n c i. (Each-member (IsSearchedPiece p names written) pieces (answer n c) file.searched i).right)
