-- Every code with its number and name, and every layer with its name.
use Rattle.std.specs.Prelude.{ℕ, List, codes}
use Rattle.code.specs.declared.code.Code.{Code}
use Rattle.code.specs.declared.code.Code.TheVariants.{FileTooShort, CiphertextTooShort, TooManyBlocks, BlockSize, RangeReversed, RangePastEnd, MemoryTooSmall, SourceRefused, NotAuthentic, KeyLength, WriterClosed, WriterPoisoned, HeaderNotTaken, BlockNotTaken, NoncesExhausted, NoSuchKey, NoWrappingKeyId, NoTimestamp, Unavailable, UnknownMasterKey, CannotGenerate, NoFreeSlot, Duplicate, OutsideLimits, OutOfMemory}
use Rattle.code.specs.declared.code.Layer.{Layer}
use Rattle.code.specs.declared.code.Layer.TheVariants.{Storage, Cipher, Stream, KeyService, Manager}

abbrev pub code_number : Code → ℕ
code_number FileTooShort = 1
code_number CiphertextTooShort = 2
code_number TooManyBlocks = 3
code_number BlockSize = 4
code_number RangeReversed = 5
code_number RangePastEnd = 6
code_number MemoryTooSmall = 7
code_number SourceRefused = 8
code_number NotAuthentic = 9
code_number KeyLength = 10
code_number WriterClosed = 11
code_number WriterPoisoned = 12
code_number HeaderNotTaken = 13
code_number BlockNotTaken = 14
code_number NoncesExhausted = 15
code_number NoSuchKey = 16
code_number NoWrappingKeyId = 17
code_number NoTimestamp = 18
code_number Unavailable = 19
code_number UnknownMasterKey = 20
code_number CannotGenerate = 21
code_number NoFreeSlot = 22
code_number Duplicate = 23
code_number OutsideLimits = 24
code_number OutOfMemory = 255

abbrev pub code_name : Code → List ℕ
code_name FileTooShort = codes "FileTooShort"
code_name CiphertextTooShort = codes "CiphertextTooShort"
code_name TooManyBlocks = codes "TooManyBlocks"
code_name BlockSize = codes "BlockSize"
code_name RangeReversed = codes "RangeReversed"
code_name RangePastEnd = codes "RangePastEnd"
code_name MemoryTooSmall = codes "MemoryTooSmall"
code_name SourceRefused = codes "SourceRefused"
code_name NotAuthentic = codes "NotAuthentic"
code_name KeyLength = codes "KeyLength"
code_name WriterClosed = codes "WriterClosed"
code_name WriterPoisoned = codes "WriterPoisoned"
code_name HeaderNotTaken = codes "HeaderNotTaken"
code_name BlockNotTaken = codes "BlockNotTaken"
code_name NoncesExhausted = codes "NoncesExhausted"
code_name NoSuchKey = codes "NoSuchKey"
code_name NoWrappingKeyId = codes "NoWrappingKeyId"
code_name NoTimestamp = codes "NoTimestamp"
code_name Unavailable = codes "Unavailable"
code_name UnknownMasterKey = codes "UnknownMasterKey"
code_name CannotGenerate = codes "CannotGenerate"
code_name NoFreeSlot = codes "NoFreeSlot"
code_name Duplicate = codes "Duplicate"
code_name OutsideLimits = codes "OutsideLimits"
code_name OutOfMemory = codes "OutOfMemory"

abbrev pub layer_name : Layer → List ℕ
layer_name Storage = codes "storage"
layer_name Cipher = codes "cipher"
layer_name Stream = codes "stream"
layer_name KeyService = codes "key service"
layer_name Manager = codes "manager"
