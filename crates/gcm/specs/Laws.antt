-- GCM opens exactly what it sealed.
use Rattle.std.specs.Prelude.{◌≡◌, ℕ, List, length, ◌≢◌, refl}
use Rattle.std.proofs.Math.Path.{sym, ap}
use Rattle.std.proofs.Common.{◌∙◌, arith}
use Rattle.ctr.specs.Gctr.{stream, gctr}
use Rattle.ctr.proofs.Xors.{length-xor}
use Rattle.ctr.proofs.Back.{length-gctr, gctr_back}
use Rattle.aead.specs.Seals.{Sealed}
use Rattle.gcm.specs.Gcm.{bytes_big, hash, subkey, masked, tag, gcm}

length_big : (x : ℕ) → length (bytes_big 16 x) ≡ 16
unfolding bytes_big
length_big x = refl

module _ (ciph : List ℕ → List ℕ) (full : (x : List ℕ) → length (ciph x) ≡ 16) where
  length-stream : (iv : List ℕ) (n : ℕ) → length (stream ciph iv n) ≡ 16
  unfolding stream
  length-stream iv n = full _

  pub length-tag : (iv a c : List ℕ) → length (tag ciph iv a c) ≡ 16
  unfolding tag masked
  length-tag iv a c =
      let s = length-stream iv 1 in
      let b = length_big (hash (subkey ciph) a c) in
      length-xor (bytes_big 16 (hash (subkey ciph) a c)) (stream ciph iv 1) (omega arith) ∙ b

  pub length_keystream : (iv t : List ℕ) → length (gctr (stream ciph iv) 2 t) ≡ length t
  length_keystream iv t = length-gctr (stream ciph iv) (length-stream iv) 2 t

  pub gcm_keeps : (iv a t : List ℕ) → length (gcm ciph iv a t).text ≡ length t
  unfolding gcm
  gcm_keeps iv a t = length_keystream iv t

  pub gcm_tags : (iv a t : List ℕ) → length (gcm ciph iv a t).tag ≡ 16
  unfolding gcm
  gcm_tags iv a t = length-tag iv a _

  back : (iv s : List ℕ) → gctr (stream ciph iv) 2 (gctr (stream ciph iv) 2 s) ≡ s
  back iv = gctr_back (stream ciph iv) (length-stream iv) 2

  pub gcm_one : (iv a t u : List ℕ) → gcm ciph iv a t ≡ gcm ciph iv a u → t ≡ u
  unfolding gcm
  gcm_one iv a t u e = sym (back iv t) ∙ ap (λ (s : Sealed). gctr (stream ciph iv) 2 s.text) e ∙ back iv u

  pub gcm_opens : (iv a c g : List ℕ) → tag ciph iv a c ≡ g → gcm ciph iv a (gctr (stream ciph iv) 2 c) ≡ record { text = c; tag = g }
  unfolding gcm
  gcm_opens iv a c g h =
      ap (λ (t : List ℕ). let s : Sealed = record { text = t; tag = tag ciph iv a t } in s) (back iv c)
      ∙ ap (λ (t : List ℕ). let s : Sealed = record { text = c; tag = t } in s) h

pub gcm_refuses : (ciph : List ℕ → List ℕ) (iv a c g : List ℕ) → (tag ciph iv a c ≢ g) → (t : List ℕ) → gcm ciph iv a t ≡ record { text = c; tag = g } → ⊥
unfolding gcm
gcm_refuses ciph iv a c g not t e =
    not (ap (tag ciph iv a) (sym (ap (λ (s : Sealed). s.text) e)) ∙ ap (λ (s : Sealed). s.tag) e)
