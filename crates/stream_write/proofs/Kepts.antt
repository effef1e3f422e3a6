-- What every call of a writer keeps.
use Rattle.std.proofs.Common.{◌≡◌, ◌+◌, drop, vec_items, ap, ◌∙◌, subst}
use Rattle.stream_write.specs.Calls.{Kept}
use Rattle.stream_write.specs.declared.writer.AesGcmFileWrite.{AesGcmFileWrite}

-- what two calls in a row keep
pub kept_on : (u v w : AesGcmFileWrite) → Kept u v → Kept v w → Kept u w
kept_on u v w (s, p, r) (s', p', r') =
    let z : v.size.bytes ≡ u.size.bytes = ap (λ x. x.bytes) s in
    (s' ∙ s, p' ∙ p, subst (λ n. drop (n + 28) (vec_items w.block) ≡ drop (n + 28) (vec_items v.block)) z r' ∙ r)
