-- The lines of a plan.
use Rattle.std.specs.Prelude.{ℕ, ◌+◌, List, ◌++◌, Some, None, codes, decimal, Option}
use Rattle.layout.specs.declared.shape.Shape.{Shape}
use Rattle.layout.specs.declared.spans.BlockSpan.{BlockSpan}
use Rattle.layout.specs.Format.{file_bytes, plain_bytes, block_count_of}
use Rattle.layout.specs.Spans.{spanned}
use Rattle.tool.specs.declared.plan.FileSummary.{FileSummary}
use Rattle.tool.specs.declared.plan.BlockLine.{BlockLine}

abbrev pub planned : ℕ → Shape → FileSummary
planned b s = record { file_length = file_bytes b s; blocks = block_count_of s; plaintext_length = plain_bytes b s }

abbrev line_for : ℕ → Option BlockSpan → Option BlockLine
line_for i None = None
line_for i (Some x) = Some (record { number = i; start = x.start; length = x.plaintext + 28; plaintext = x.plaintext })

abbrev pub line_of : ℕ → Shape → ℕ → Option BlockLine
line_of b s i = line_for i (spanned b s i)

abbrev pub summary_text : FileSummary → List ℕ
summary_text x =
    decimal x.file_length ++ (codes " bytes: a header, " ++ (decimal x.blocks ++ (codes " blocks, "
    ++ (decimal x.plaintext_length ++ codes " bytes of plaintext"))))

abbrev pub block_text : BlockLine → List ℕ
block_text x =
    codes "block " ++ (decimal x.number ++ (codes " starts at byte " ++ (decimal x.start
    ++ (codes ", takes " ++ (decimal x.length ++ (codes " bytes, holds " ++ decimal x.plaintext))))))
