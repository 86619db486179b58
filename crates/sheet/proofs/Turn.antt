-- A turn of `put`: one element more, read as a number.
use Rattle.std.specs.Prelude.{ℕ, ◌+◌, ◌*◌, ◌^◌, ◌≤◌, ◌<◌, ◌≡◌, List, length, get_or, map}
use Rattle.std.proofs.Common.{sym, ap, ◌∙◌, arith, mul-suc, mul-le-mul_left, add-one}
use Rattle.std.proofs.lemmas.List.{get_or-map}
use Rattle.bits.specs.Put.{Put}
use Rattle.sheet.specs.Laid.{Laid, laid_more}

module _ {A : Type 0} (number : A → ℕ) (xs : List A) {w bit at i x : ℕ} {s t u : List ℕ} where
  pub turn : bit ≡ at + w * i → Laid w (map number xs) i at s t → Put t bit w x u → w ≤ 64 → i < length xs → at + w * length xs ≤ 8 * length s → (d : A) → x ≡ number (get_or xs i d) → x < 2 ^ w → (bit + w ≡ at + w * (i + 1)) × Laid w (map number xs) (i + 1) at s u
  turn b l p narrow h fits d e below =
      let m : w * (i + 1) ≡ w * i + w = ap (λ (k : ℕ). w * k) (add-one i) ∙ mul-suc w i in
      let r : w * (i + 1) ≤ w * length xs = mul-le-mul_left w (omega arith) in
      (omega arith, laid_more l (rw b at (p.inside narrow (omega (arith, l.long)))) (e ∙ sym (get_or-map number xs i d 0 h)) below)
