-- What holds at a line: what opened, what is replaced, the literals above and the cases around.
use Rattle.std.specs.Prelude.{ℕ, Bool, ◌&&◌, nat_lt, List, [], ◌∷◌, nat_le}
use Rattle.scasp_syntax.specs.Same.{same_tm}
use Rattle.scasp_syntax.specs.Tm.{var}
use Rattle.scasp_syntax.specs.Values.{Sub}
use Rattle.scasp_syntax.specs.declared.atom.Atom.{Atom}
use Rattle.scasp_lines.specs.Opened.{Opened, knows}

-- A line of a positive or a negated literal above another line.
pub record Above : Type 0 where
  pub at : ℕ
  pub positive : Bool
  pub atom : Atom

-- A case around a line. It is plain where its cover's clause has no variable and no argument in its head, and no split stands above it there.
pub record Around : Type 0 where
  pub at : ℕ
  pub plain : Bool

-- What holds at a line: what opened; the next part that appears on no line; what each variable is replaced by; the literals above and the
-- cases around. Each list has the innermost first.
pub record Place : Type 0 where
  pub opened : List Opened
  pub hidden : ℕ
  pub replaced : Sub
  pub above : List Above
  pub around : List Around

-- the variable may stand on the line: it is known and is no part that appears on no line
abbrev pub in_scope : ℕ → ℕ → Place → ℕ → Bool
in_scope free top here x = nat_lt x top && knows free here.opened x

-- a universal variable that may stand on the line and is not replaced
abbrev pub is_universal : ℕ → ℕ → Place → ℕ → Bool
is_universal free top here x = nat_le free x && in_scope free top here x && same_tm (here.replaced x) (var x)

-- a line of the literal stands above
abbrev pub below_literal : ℕ → Bool → Atom → Place → Place
below_literal at positive a here =
    record {
      opened = here.opened;
      hidden = here.hidden;
      replaced = here.replaced;
      above = record { at = at; positive = positive; atom = a } ∷ here.above;
      around = here.around;
    }

-- a case stands around
abbrev pub within_case : ℕ → Bool → Place → Place
within_case at plain here =
    record {
      opened = here.opened;
      hidden = here.hidden;
      replaced = here.replaced;
      above = here.above;
      around = record { at = at; plain = plain } ∷ here.around;
    }

-- more opened
abbrev pub with_opened : List Opened → ℕ → Place → Place
with_opened os hidden here =
    record { opened = os; hidden = hidden; replaced = here.replaced; above = here.above; around = here.around }

-- the start: nothing opened, nothing replaced, nothing above or around
abbrev pub start : ℕ → Place
start hidden = record { opened = []; hidden = hidden; replaced = var; above = []; around = [] }
