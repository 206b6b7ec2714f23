-- Sessions among others, and each of them alone.
use Rattle.std.specs.Prelude.{◌≡◌, ℕ, ◌==◌, if◌then◌else◌, List, [], ◌∷◌, Result, Ok, Err}
use Rattle.scasp_cert.specs.declared.certificate.Cert.{Cert}
use Rattle.scasp_search.specs.declared.search.Search.{Search}
use Rattle.scasp_search_walk.specs.declared.events.Advance.{Advance}
use Rattle.scasp_sessions.specs.Calls.{Advancing, Closing, IsAdvanced, IsOpened, Opening}
use Rattle.scasp_sessions.specs.Tables.{Table}
use Rattle.scasp_sessions.specs.declared.errors.NoSession.{NoSession}
use Rattle.scasp_sessions.specs.declared.errors.OpenErr.{OpenErr}
use Rattle.scasp_syntax.specs.declared.program.Program.{Program}

-- a call, with its arguments, and the reply
pub data Exchange : Type 0 where
  opening : Program → ℕ → ℕ → ℕ → Result ℕ OpenErr → Exchange
  advancing : ℕ → ℕ → Result (Advance Cert) NoSession → Exchange
  closing : ℕ → Result Unit NoSession → Exchange

abbrev pub Replies : Table → Exchange → Table → Type 0
Replies old (opening program query budget fresh reply) new = Opening old program query budget fresh reply new
Replies old (advancing id calls reply) new = Advancing old id calls reply new
Replies old (closing id reply) new = Closing old id reply new

-- these calls in order have these replies
abbrev pub RepliesAll : Table → List Exchange → Table → Type 0
RepliesAll old [] new = new ≡ old
RepliesAll old (e ∷ es) new = (between : Table) × Replies old e between × RepliesAll between es new

-- the slices that are asked of the session with the number, up to its close
abbrev pub slices_of : ℕ → List Exchange → List ℕ
slices_of id [] = []
slices_of id (opening program query budget fresh reply ∷ es) = slices_of id es
slices_of id (advancing other calls reply ∷ es) = if other == id then calls ∷ slices_of id es else slices_of id es
slices_of id (closing other reply ∷ es) = if other == id then [] else slices_of id es

-- what comes of them; nothing comes where no session has the number
abbrev pub comes_of : ℕ → List Exchange → List (Advance Cert)
comes_of id [] = []
comes_of id (opening program query budget fresh reply ∷ es) = comes_of id es
comes_of id (advancing other calls (Ok comes) ∷ es) = if other == id then comes ∷ comes_of id es else comes_of id es
comes_of id (advancing other calls (Err refused) ∷ es) = comes_of id es
comes_of id (closing other reply ∷ es) = if other == id then [] else comes_of id es

-- a search by itself: this comes of these slices, one after the other
abbrev pub IsAdvancedBy : Search → List ℕ → List (Advance Cert) → Search → Type 0
IsAdvancedBy old [] [] new = new ≡ old
IsAdvancedBy old [] (comes ∷ more) new = ⊥
IsAdvancedBy old (calls ∷ slices) [] new = ⊥
IsAdvancedBy old (calls ∷ slices) (comes ∷ more) new = (between : Search) × IsAdvanced old calls comes between × IsAdvancedBy between slices more new

-- a search by itself, opened for this query, to which this comes of these slices
pub record ComesAlone (program : Program) (query budget fresh : ℕ) (slices : List ℕ) (comes : List (Advance Cert)) : Type 0 where
  pub first : Search
  pub last : Search
  pub opened : IsOpened program query budget fresh first
  pub advanced : IsAdvancedBy first slices comes last
