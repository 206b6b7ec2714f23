-- What a write to a sink in memory comes to.
use Rattle.std.specs.Prelude.{◌≡◌, ℕ, ◌-◌, ◌==◌, min, Bool, ◌&&◌, ◌||◌, nat_lt, [], length}
use Rattle.scasp_io.specs.Calls.{is_among}
use Rattle.scasp_io.specs.Counts.{raised, raised_if}
use Rattle.scasp_io.specs.declared.memory_sink.MemSink.{MemSink}

-- how many of so many bytes the next write takes: a chunk at most, and only what there is room for
abbrev pub fitting : MemSink → ℕ → ℕ
fitting sink offered = min offered (min sink.chunk (sink.room - length sink.taken.items))

-- the next write of so many bytes fails: its number is among the failing ones, or it would take
-- none of bytes that are not none
abbrev pub is_refused : MemSink → ℕ → Bool
is_refused sink offered =
    is_among sink.failing (raised sink.calls) || (nat_lt 0 offered && fitting sink offered == 0)

-- nothing is taken yet
pub record IsEmpty (sink : MemSink) : Type 0 where
  pub taken : sink.taken.items ≡ []
  pub calls : sink.calls ≡ 0
  pub faults : sink.faults ≡ 0

-- one more write, which failed or did not; what it took is not spoken of
pub record AfterWrite (old new : MemSink) (failed : Bool) : Type 0 where
  pub calls : new.calls ≡ raised old.calls
  pub faults : new.faults ≡ raised_if failed old.faults
  pub room : new.room ≡ old.room
  pub chunk : new.chunk ≡ old.chunk
  pub failing : new.failing ≡ old.failing
