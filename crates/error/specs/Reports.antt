-- What each case of the errors of storage, ciphers and streams reports: code, layer and position.
use Rattle.std.specs.Prelude.{ℕ, Ok, Err, Result}
use Rattle.code.specs.declared.code.Code.{Code}
use Rattle.code.specs.declared.code.Code.TheVariants as code
use Rattle.code.specs.declared.code.Layer.{Layer}
use Rattle.code.specs.declared.code.Layer.TheVariants as layer
use Rattle.code.specs.declared.report.Report.{Report}
use Rattle.error.specs.declared.storage.StorageError.{StorageError}
use Rattle.error.specs.declared.storage.StorageError.TheVariants as storage
use Rattle.error.specs.declared.cipher.CipherError.{CipherError}
use Rattle.error.specs.declared.cipher.CipherError.TheVariants as cipher
use Rattle.error.specs.declared.stream.At.{At}
use Rattle.error.specs.declared.stream.StreamError.{StreamError}
use Rattle.error.specs.declared.stream.StreamError.TheVariants as stream

abbrev pub told : Layer → Code → ℕ → Report
told l c p = record { code = c; layer = l; position = p }

abbrev pub storage_report : StorageError → Report
storage_report storage.SourceRefused = told layer.Storage code.SourceRefused 0
storage_report storage.BlockNotTaken = told layer.Storage code.BlockNotTaken 0
storage_report storage.OutOfMemory = told layer.Storage code.OutOfMemory 0

abbrev pub cipher_report : CipherError → Report
cipher_report cipher.CiphertextTooShort = told layer.Cipher code.CiphertextTooShort 0
cipher_report cipher.MemoryTooSmall = told layer.Cipher code.MemoryTooSmall 0
cipher_report cipher.NotAuthentic = told layer.Cipher code.NotAuthentic 0
cipher_report cipher.KeyLength = told layer.Cipher code.KeyLength 0
cipher_report cipher.NoncesExhausted = told layer.Cipher code.NoncesExhausted 0
cipher_report cipher.Duplicate = told layer.Cipher code.Duplicate 0
cipher_report cipher.OutsideLimits = told layer.Cipher code.OutsideLimits 0
cipher_report cipher.OutOfMemory = told layer.Cipher code.OutOfMemory 0

-- the block at which a lower layer refused is the position
abbrev pub stream_report : StreamError → Report
stream_report stream.FileTooShort = told layer.Stream code.FileTooShort 0
stream_report stream.CiphertextTooShort = told layer.Stream code.CiphertextTooShort 0
stream_report stream.TooManyBlocks = told layer.Stream code.TooManyBlocks 0
stream_report stream.BlockSize = told layer.Stream code.BlockSize 0
stream_report stream.RangeReversed = told layer.Stream code.RangeReversed 0
stream_report stream.RangePastEnd = told layer.Stream code.RangePastEnd 0
stream_report stream.MemoryTooSmall = told layer.Stream code.MemoryTooSmall 0
stream_report stream.WriterClosed = told layer.Stream code.WriterClosed 0
stream_report stream.WriterPoisoned = told layer.Stream code.WriterPoisoned 0
stream_report stream.OutsideLimits = told layer.Stream code.OutsideLimits 0
stream_report (stream.HeaderNotTaken e) = told layer.Stream code.HeaderNotTaken 0
stream_report (stream.Storage a) = told layer.Stream (storage_report a.error).code a.block
stream_report (stream.Cipher a) = told layer.Stream (cipher_report a.error).code a.block
stream_report stream.OutOfMemory = told layer.Stream code.OutOfMemory 0

-- a result of a lower layer, its error marked with the block
abbrev pub marked : {T E : Type 0} → Result T E → ℕ → Result T (At E)
marked (Ok x) b = Ok x
marked (Err e) b = Err (record { error = e; block = b })
