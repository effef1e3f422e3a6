use Rattle.std.proofs.Common.{◌≡◌, ℕ, List, take, vec_items, vec_len, vec_capacity}
use Rattle.aead.specs.Seals.{sealing}
use Rattle.stream_write.specs.Calls.{state_of, size_of, block_by, Kept}
use Rattle.stream_law.specs.Deeds.{is_closed}
use Rattle.stream_law.specs.Files.{Holds}
use Rattle.stream.specs.Courses.{closed_from, Course}
use Rattle.stream.proofs.run.run.Given as goal

abbrev pub invariant-loop-next : goal.invariant-loop-next
invariant-loop-next g l =
    record {
      answered : vec_len l.replies ≡ l.next-index;
      room : vec_capacity l.replies ≡ vec_capacity l.initial.replies;
      kept : Kept l.initial.writer l.writer;
      shut : is_closed (state_of l.writer) ≡ closed_from (is_closed (state_of l.initial.writer)) (take l.next-index l.calls) (vec_items l.replies);
      course : (t : List ℕ) (ns : List (List ℕ)) → Holds (size_of l.initial.writer) (block_by (sealing g.A.Aead.sealed l.keyed) l.initial.writer) t ns (state_of l.initial.writer) (g.K.FileWrite.port l.initial.sink)
          → Course (size_of l.initial.writer) (block_by (sealing g.A.Aead.sealed l.keyed) l.initial.writer) t ns (g.N.NonceSource.left l.initial.nonces) (take l.next-index l.calls) (vec_items l.replies) (state_of l.writer) (g.N.NonceSource.left l.nonces) (g.K.FileWrite.port l.sink);
    }
