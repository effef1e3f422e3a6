-- What the making of a block size and of a layout answers.
use Rattle.std.specs.Prelude.{◌≡◌, ℕ, Ok, Err, Result}
use Rattle.error.specs.declared.stream.StreamError.{StreamError}
use Rattle.error.specs.declared.stream.StreamError.TheVariants as stream
use Rattle.layout.specs.declared.size.BlockSize.{BlockSize}
use Rattle.layout.specs.declared.layout.FileLayout.{FileLayout}
use Rattle.layout.specs.declared.shape.Shape.{Shape}
use Rattle.layout.specs.Format.{InLimits}

-- exactly the sizes within the limits are block sizes
abbrev pub Sized : ℕ → Result BlockSize StreamError → Type 0
Sized b (Ok x) = InLimits b × (x.bytes ≡ b)
Sized b (Err e) = (InLimits b → ⊥) × (e ≡ stream.BlockSize)

-- a layout of that shape, or that refusal
abbrev pub LaidOut : ℕ → Result Shape StreamError → Result FileLayout StreamError → Type 0
LaidOut b (Ok s) (Ok x) = (x.size.bytes ≡ b) × (x.shape ≡ s)
LaidOut b (Ok s) (Err e) = ⊥
LaidOut b (Err e) (Ok x) = ⊥
LaidOut b (Err e) (Err f) = f ≡ e
