-- The AGS1 file of a plaintext, and what a writer and its sink hold of it at any moment.
use Rattle.std.specs.Prelude.{◌≡◌, ℕ, suc, ◌+◌, ◌*◌, ◌<◌, ◌≤◌, false, ◌⊎◌, List, [], ◌∷◌, ◌++◌, length, take, drop, Ok, Err, Result, slice_index_or}
use Rattle.error.specs.declared.stream.StreamError.{StreamError}
use Rattle.layout.specs.Format.{Proper, Closed, file_bytes, plain_bytes, block_count_of, block_start, header}
use Rattle.layout.specs.declared.shape.Shape.{Shape}
use Rattle.storage.specs.Answers.{range}
use Rattle.storage.specs.Ports.{Port}
use Rattle.stream_write.specs.Sends.{Origin, of_cipher, of_storage, own, origin}
use Rattle.stream_write.specs.Writers.{State, fresh, opened, poisoned, closed}

-- part i of a plaintext that is cut into parts of `size` bytes, the last one perhaps shorter
abbrev pub chunk : ℕ → List ℕ → ℕ → List ℕ
chunk size t i = take size (drop (i * size) t)

-- The law of a file: these bytes are the file of the plaintext t under the nonces ns. It has the shape of a closed file of that
-- plaintext, one nonce for each block, at most as many blocks as can be numbered, and the length of that shape; it begins with the
-- header, and at the place of block i stands the block of part i under nonce i.
-- block : number, nonce and plaintext to the bytes of a block
pub record IsFile (size : ℕ) (block : ℕ → List ℕ → List ℕ → List ℕ) (ns : List (List ℕ)) (t bytes : List ℕ) : Type 0 where
  pub shape : Shape
  pub proper : Proper size shape
  pub whole : Closed shape
  pub plain : plain_bytes size shape ≡ length t
  pub nonces : block_count_of shape ≡ length ns
  pub few : block_count_of shape ≤ 4294967295
  pub long : file_bytes size shape ≡ length bytes
  pub begins : take 8 bytes ≡ header size
  pub blocks : (i : ℕ) → i < length ns → range (block_start size i) (length (chunk size t i) + 28) bytes ≡ block i (slice_index_or ns i []) (chunk size t i)

-- The blocks from number i on, one for each nonce, of a plaintext that is cut into parts of `size` bytes.
unfoldable pub blocks_from : ℕ → (ℕ → List ℕ → List ℕ → List ℕ) → ℕ → List (List ℕ) → List ℕ → List ℕ
blocks_from size block i [] t = []
blocks_from size block i (n ∷ ns) t = block i n (take size t) ++ blocks_from size block (suc i) ns (drop size t)

-- k blocks for a plaintext of n bytes: as many as hold it, and one for an empty plaintext
abbrev pub Counts : ℕ → ℕ → ℕ → Type 0
Counts size n k = (j : ℕ) × (k ≡ suc j) × (n ≤ k * size) × ((j ≡ 0) ⊎ (j * size < n))

-- the same file as header and blocks in a row
pub record Row (size : ℕ) (block : ℕ → List ℕ → List ℕ → List ℕ) (ns : List (List ℕ)) (t bytes : List ℕ) : Type 0 where
  pub count : Counts size (length t) (length ns)
  pub few : length ns ≤ 4294967295
  pub is : bytes ≡ header size ++ blocks_from size block 0 ns t

-- an open file: header and full blocks are in the sink, the rest is gathered
pub record Stands (size : ℕ) (block : ℕ → List ℕ → List ℕ → List ℕ) (t : List ℕ) (ns : List (List ℕ)) (gathered : List ℕ) (i : ℕ) (p : Port) : Type 0 where
  pub full : List ℕ
  pub text : t ≡ full ++ gathered
  pub blocks : length ns ≡ i
  pub few : i ≤ 4294967295
  pub cut : length full ≡ i * size
  pub under : length gathered < size
  pub bytes : p.taken ≡ header size ++ blocks_from size block 0 ns full

-- a spoilt file: nothing, or header and full blocks
pub record Spoilt (size : ℕ) (block : ℕ → List ℕ → List ℕ → List ℕ) (ns : List (List ℕ)) (p : Port) : Type 0 where
  pub full : List ℕ
  pub cut : length full ≡ length ns * size
  pub bytes : ((ns ≡ []) × (p.taken ≡ [])) ⊎ (p.taken ≡ header size ++ blocks_from size block 0 ns full)

-- what writer and sink hold when t was written and the nonces ns went to blocks that the sink took
abbrev pub Holds : ℕ → (ℕ → List ℕ → List ℕ → List ℕ) → List ℕ → List (List ℕ) → State → Port → Type 0
Holds size block t ns fresh p = (t ≡ []) × (ns ≡ []) × (p.taken ≡ [])
Holds size block t ns (opened g i) p = Stands size block t ns g i p
Holds size block t ns poisoned p = Spoilt size block ns p
Holds size block t ns closed p = Row size block ns t p.taken × (p.is_open ≡ false)

-- 1 for a refusal of a block by the sink
abbrev lost_from : Origin → ℕ
lost_from (of_cipher a) = 0
lost_from (of_storage a) = 1
lost_from own = 0

abbrev pub lost_in : StreamError → ℕ
lost_in e = lost_from (origin e)

abbrev pub lost_by : Result (Unit {0}) StreamError → ℕ
lost_by (Ok _) = 0
lost_by (Err e) = lost_in e

-- the bytes of an unrefused call
abbrev pub gain : Result (Unit {0}) StreamError → List ℕ → List ℕ
gain (Ok _) bytes = bytes
gain (Err e) bytes = []

-- What a call does where t was written under ns before it: some nonces are drawn for blocks that the sink took, and one is lost with
-- a block that it refused; and what writer and sink then hold.
pub record Does (size : ℕ) (block : ℕ → List ℕ → List ℕ → List ℕ) (t : List ℕ) (ns left : List (List ℕ)) (bytes : List ℕ) (r : Result (Unit {0}) StreamError) (after : State) (rest : List (List ℕ)) (q : Port) : Type 0 where
  pub used : List (List ℕ)
  pub lost : List (List ℕ)
  pub drawn : left ≡ used ++ (lost ++ rest)
  pub losses : length lost ≡ lost_by r
  pub holds : Holds size block (t ++ gain r bytes) (ns ++ used) after q
