-- Bytes pushed one by one, and many at once.
use Rattle.std.proofs.Common.{◌≡◌, ℕ, ◌+◌, ◌<◌, true, false, ltb, List, [], ◌∷◌, ◌++◌, length, sym, refl, ap, ◌∙◌, arith}
use Rattle.std.proofs.lemmas.List.{append_assoc, append-nil, length-append}
use Rattle.std.proofs.lemmas.Bool.Decides.{nat_tests}
use Rattle.storage.specs.Ports.{Port}
use Rattle.error.specs.declared.stream.StreamError.{StreamError}
use Rattle.stream_write.specs.Runs.{Run, ok, failed, push_byte, push_bytes, send_run}

pub push_append : (size : ℕ) (block : ℕ → List ℕ → List ℕ → List ℕ) (r : Run) (xs ys : List ℕ)
    → push_bytes size block r (xs ++ ys) ≡ push_bytes size block (push_bytes size block r xs) ys
unfolding push_bytes
push_append size block r [] ys = refl
push_append size block r (x ∷ xs) ys = push_append size block (push_byte size block r x) xs ys

pub push_failed : (size : ℕ) (block : ℕ → List ℕ → List ℕ → List ℕ) (e : StreamError) (l : List (List ℕ)) (p : Port) (xs : List ℕ)
    → push_bytes size block (failed e l p) xs ≡ failed e l p
unfolding push_bytes push_byte
push_failed size block e l p [] = refl
push_failed size block e l p (x ∷ xs) = push_failed size block e l p xs

pub push_none : (size : ℕ) (block : ℕ → List ℕ → List ℕ → List ℕ) (r : Run) (xs : List ℕ) → length xs ≡ 0 → push_bytes size block r xs ≡ r
unfolding push_bytes
push_none size block r [] h = refl
push_none size block r (x ∷ xs) h = absurd (omega arith)

-- with room to spare, bytes are only gathered
pub push_short : (size : ℕ) (block : ℕ → List ℕ → List ℕ → List ℕ) (t : List ℕ) (i : ℕ) (l : List (List ℕ)) (p : Port) (xs : List ℕ)
    → length t + length xs < size → push_bytes size block (ok t i l p) xs ≡ ok (t ++ xs) i l p
unfolding push_bytes push_byte
push_short size block t i l p [] h = ap (λ w. ok w i l p) (sym (append-nil t))
push_short size block t i l p (x ∷ xs) h =
    let e : ltb (length t + 1) size ≡ true = grind (arith, nat_tests) in
    let k : length (t ++ x ∷ []) + length xs < size = simp length-append (omega arith) in
    rw e (push_short size block (t ++ x ∷ []) i l p xs k ∙ ap (λ w. ok w i l p) (append_assoc t (x ∷ []) xs))

-- the last byte sends the block
pub push_full : (size : ℕ) (block : ℕ → List ℕ → List ℕ → List ℕ) (t : List ℕ) (i : ℕ) (l : List (List ℕ)) (p : Port) (xs : List ℕ)
    → length t + length xs ≡ size → 0 < length xs → push_bytes size block (ok t i l p) xs ≡ send_run block (t ++ xs) i l p
unfolding push_bytes push_byte
push_full size block t i l p [] h z = absurd (omega arith)
push_full size block t i l p (x ∷ []) h z =
    let e : ltb (length t + 1) size ≡ false = grind (arith, nat_tests) in rw e refl
push_full size block t i l p (x ∷ y ∷ xs) h z =
    let e : ltb (length t + 1) size ≡ true = grind (arith, nat_tests) in
    let k : length (t ++ x ∷ []) + length (y ∷ xs) ≡ size = simp length-append (omega arith) in
    rw e (push_full size block (t ++ x ∷ []) i l p (y ∷ xs) k (omega arith) ∙ ap (λ w. send_run block w i l p) (append_assoc t (x ∷ []) (y ∷ xs)))
