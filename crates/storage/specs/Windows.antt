-- What a window means as a source.
use Rattle.std.specs.Prelude.{◌≡◌, ℕ, ◌-◌, ◌≤◌, List, length, Ok, Err, Result}
use Rattle.error.specs.declared.storage.StorageError.{StorageError}
use Rattle.error.specs.declared.storage.StorageError.TheVariants.{SourceRefused}
use Rattle.storage.specs.Answers.{range}
use Rattle.storage.specs.declared.window.Window.{Window}

abbrev pub window_bytes : {R : Type 0} → (R → List ℕ) → Window R → List ℕ
window_bytes bytes w = range w.range.start (w.range.end - w.range.start) (bytes w.source)

-- the making of a window from one place to another: refused exactly where the source does not answer that range
abbrev pub Windowed : {R : Type 0} → (R → List ℕ) → R → ℕ → ℕ → Result (Window R) StorageError → Type 0
Windowed bytes source from to (Ok w) = (from ≤ to) × (to ≤ length (bytes source)) × (window_bytes bytes w ≡ range from (to - from) (bytes source)) × (w.source ≡ source)
Windowed bytes source from to (Err e) = (from ≤ to → to ≤ length (bytes source) → ⊥) × (e ≡ SourceRefused)
