use Rattle.std.proofs.Common.{◌≡◌, true, length}
use Rattle.aead.specs.Seals.{sealing}
use Rattle.stream_write.specs.Calls.{state_of, size_of, block_by, Kept}
use Rattle.stream_write.specs.Runs.{push_bytes, run_of}
use Rattle.stream_write.specs.Writers.{is_open}
use Rattle.stream_write.proofs.writer.AesGcmFileWrite.gather.Given as goal

abbrev pub invariant-loop-rest : goal.invariant-loop-rest
invariant-loop-rest g l =
    (is_open l.self.phase ≡ true) × Kept l.initial.self l.self
    × (push_bytes (size_of l.initial.self) (block_by (sealing g.A.Aead.sealed l.keyed) l.initial.self) (run_of (state_of l.self) (g.N.NonceSource.left l.nonces) (g.K.FileWrite.port l.sink)) l.rest
    ≡ push_bytes (size_of l.initial.self) (block_by (sealing g.A.Aead.sealed l.keyed) l.initial.self) (run_of (state_of l.initial.self) (g.N.NonceSource.left l.initial.nonces) (g.K.FileWrite.port l.initial.sink)) l.bytes)

abbrev pub decreases-loop-rest : goal.decreases-loop-rest
decreases-loop-rest g l = length l.rest
