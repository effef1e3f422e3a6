-- GMAC: the tag of an empty ciphertext.
use Rattle.std.specs.Prelude.{◌≡◌, ℕ, ◌+◌, ◌*◌, ◌%◌, ◌^◌, List, [], ◌++◌, length, ◌≢◌, bit_xor}
use Rattle.std.proofs.Common.{sym, ◌∙◌, arith}
use Rattle.std.proofs.Math.Path.{ap}
use Rattle.std.proofs.lemmas.List.{length-append}
use Rattle.ghash.specs.Ghash.{gmul, ghash}
use Rattle.aead.specs.Seals.{Sealed}
use Rattle.gcm.specs.Gcm.{bits, hash, tag, gmac}

-- the hash of AAD that comes in two parts, whose lengths are added with a wrap
pub hash_both : (h s n l r : ℕ) (a t c : List ℕ) → s ≡ ghash h (ghash h 0 (a ++ t)) c → n ≡ (length a + length t) % 2 ^ 64 → l ≡ bits n * 2 ^ 64 + bits (length c)
    → r ≡ gmul (bit_xor s l) h → r ≡ hash h (a ++ t) c
unfolding bits hash
hash_both h s n l r a t c es en el er =
    let q : length (a ++ t) ≡ length a + length t = length-append a t in
    let b : bits n ≡ bits (length (a ++ t)) = omega arith in
    cc

module _ (ciph : List ℕ → List ℕ) where
  pub gmac_is : (iv a c g : List ℕ) → tag ciph iv (a ++ c) [] ≡ g → gmac ciph iv a c ≡ record { text = c; tag = g }
  unfolding gmac
  gmac_is iv a c g h = ap (λ (t : List ℕ). let s : Sealed = record { text = c; tag = t } in s) h

  pub gmac_refuses : (iv a c g : List ℕ) → (tag ciph iv (a ++ c) [] ≢ g) → (t : List ℕ) → gmac ciph iv a t ≡ record { text = c; tag = g } → ⊥
  unfolding gmac
  gmac_refuses iv a c g not t e =
      not (ap (λ (x : List ℕ). tag ciph iv (a ++ x) []) (sym (ap (λ (s : Sealed). s.text) e)) ∙ ap (λ (s : Sealed). s.tag) e)

  pub gmac_one : (iv a t u : List ℕ) → gmac ciph iv a t ≡ gmac ciph iv a u → t ≡ u
  unfolding gmac
  gmac_one iv a t u e = ap (λ (s : Sealed). s.text) e
