-- What the making of a reader answers.
use Rattle.std.specs.Prelude.{◌≡◌, ℕ, Bool, true, false, Ok, Err, vec_len, Result, Vec, nat_lt}
use Rattle.std.specs.declared.alloc.Global.{Global}
use Rattle.error.specs.declared.stream.StreamError.{StreamError}
use Rattle.error.specs.declared.stream.StreamError.TheVariants.{OutsideLimits}
use Rattle.layout.specs.declared.shape.Shape.{Shape}
use Rattle.stream_read.specs.declared.reader.AesGcmFileRead.{AesGcmFileRead}

-- by whether the prefix is too long
abbrev pub ReadMadeIf : Bool → Shape → ℕ → Vec ℕ Global → Result AesGcmFileRead StreamError → Type 0
ReadMadeIf true s size prefix r = r ≡ Err OutsideLimits
ReadMadeIf false s size prefix (Ok x) = (x.layout.size.bytes ≡ size) × (x.layout.shape ≡ s) × (x.prefix ≡ prefix)
ReadMadeIf false s size prefix (Err e) = ⊥

-- by what a file of the length consists of
abbrev pub ReadMade : Result Shape StreamError → ℕ → Vec ℕ Global → Result AesGcmFileRead StreamError → Type 0
ReadMade (Err e) size prefix r = r ≡ Err e
ReadMade (Ok s) size prefix r = ReadMadeIf (nat_lt 64 (vec_len prefix)) s size prefix r
