-- What a call of a writer writes, and when it closes the file.
use Rattle.std.specs.Prelude.{ℕ, Bool, true, false, List, [], Ok, Err, Result}
use Rattle.error.specs.declared.stream.StreamError.{StreamError}
use Rattle.stream_write.specs.Writers.{State, fresh, opened, poisoned, closed}
use Rattle.stream_write.specs.declared.call.FileCall.{FileCall}
use Rattle.stream_write.specs.declared.call.FileCall.TheVariants.{Write, Close}

abbrev pub bytes_of : FileCall → List ℕ
bytes_of (Write bytes) = bytes.now
bytes_of Close = []

-- a file is closed once its close ends unrefused
abbrev pub closes : FileCall → Result (Unit {0}) StreamError → Bool → Bool
closes (Write bytes) r was = was
closes Close (Ok _) was = true
closes Close (Err e) was = was

abbrev pub is_closed : State → Bool
is_closed fresh = false
is_closed (opened t i) = false
is_closed poisoned = false
is_closed closed = true
