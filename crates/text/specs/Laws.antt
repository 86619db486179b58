-- What callers use of the window.
--     puts_none, puts_then              no piece; some pieces and then more
--     puts_text, puts_line, puts_is     pieces as one text; the same text in other words
--     rows_none, rows_more, rows_end    a text for each number below n, one after the other: before the first, one more, the last
--     rows_bytes                        a list of bytes, byte by byte
--     window_of                         from the first byte to the last
--     window_part                       what it holds is that part of the text
--     window_one                        no second window fits
use Rattle.std.specs.Prelude.{ℕ, zero, suc, ◌+◌, ◌≤◌, ◌≡◌, refl, List, [], ◌∷◌, ◌++◌, length, get_or, take, drop}
use Rattle.std.proofs.Common.{sym, ap, ◌∙◌, subst, append-nil, append_assoc, add-one, arith, length-take, length-drop, ext_get_or, take-suc, get_or-take, get_or-drop}
use Rattle.std.proofs.Math.Seq.{take-length}
use Rattle.text.specs.declared.Cursor.{Cursor}
use Rattle.text.specs.Bytes.{joined, joined_append, each}
use Rattle.text.specs.Window.{Window, Written, Begun, Puts, Rows, Finished}

pub puts_none : (c : Cursor) (out : List ℕ) → Puts [] c out c out
puts_none c out = record { long = refl; more = λ from text w. rw append-nil w }

module _ {c c₁ : Cursor} {out out₁ : List ℕ} where
  pub puts_text : {ps : List (List ℕ)} {t : List ℕ} → Puts ps c out c₁ out₁ → joined ps ≡ t → Puts (t ∷ []) c out c₁ out₁
  puts_text {ps} {t} p e = record { long = p.long; more = λ from text w. subst (λ (x : List ℕ). Written from (text ++ x) c₁ out₁) (e ∙ sym (append-nil t)) (p.more from text w) }

  pub puts_line : {ps : List (List ℕ)} → Puts ps c out c₁ out₁ → Puts (joined ps ∷ []) c out c₁ out₁
  puts_line p = puts_text p refl

  pub puts_is : {t u : List ℕ} → Puts (t ∷ []) c out c₁ out₁ → t ≡ u → Puts (u ∷ []) c out c₁ out₁
  puts_is p e = rw (← e) p

  pub rows_end : {f : ℕ → List ℕ} {i n : ℕ} → Rows f i c out c₁ out₁ → i ≤ n → n ≤ i → Puts (each f n ∷ []) c out c₁ out₁
  rows_end {f} {i} {n} r h l = let e : i ≡ n = omega arith in rw (← e) r.puts

pub rows_none : (f : ℕ → List ℕ) (c : Cursor) (out : List ℕ) → Rows f 0 c out c out
rows_none f c out = record { puts = puts_line (puts_none c out) }

module _ {c c₁ c₂ : Cursor} {out out₁ out₂ : List ℕ} where
  pub puts_then : {ps qs : List (List ℕ)} → Puts ps c out c₁ out₁ → Puts qs c₁ out₁ c₂ out₂ → Puts (ps ++ qs) c out c₂ out₂
  puts_then {ps} {qs} p q = record {
    long = q.long ∙ p.long;
    more = λ from text w. subst (λ (t : List ℕ). Written from t c₂ out₂) (append_assoc text (joined ps) (joined qs) ∙ ap (λ (t : List ℕ). text ++ t) (sym (joined_append ps qs))) (q.more from (text ++ joined ps) (p.more from text w));
  }

  pub rows_more : {f : ℕ → List ℕ} {i : ℕ} → Rows f i c out c₁ out₁ → Puts (f i ∷ []) c₁ out₁ c₂ out₂ → Rows f (i + 1) c out c₂ out₂
  rows_more {f} {i} r p = record { puts = rw add-one (puts_text (puts_then r.puts p) (rw append-nil)) }

-- a list of bytes, byte by byte
each_byte : (bytes : List ℕ) (n : ℕ) → n ≤ length bytes → each (λ j. get_or bytes j 0 ∷ []) n ≡ take n bytes
each_byte bytes zero h = refl
each_byte bytes (suc n) h = rw (each_byte bytes n (omega arith)) (sym (take-suc bytes n 0 (omega arith)))

pub rows_bytes : {bytes : List ℕ} {i : ℕ} {c c₁ : Cursor} {out out₁ : List ℕ} → Rows (λ j. get_or bytes j 0 ∷ []) i c out c₁ out₁ → i ≤ length bytes → length bytes ≤ i → Puts (bytes ∷ []) c out c₁ out₁
rows_bytes {bytes} r h l = rw (each_byte bytes (length bytes) (omega arith), take-length) at (rows_end r h l)

pub window_of : {c c₁ : Cursor} {out out₁ out₂ : List ℕ} {from n : ℕ} {t : List ℕ} → Begun from c → Puts (t ∷ []) c out c₁ out₁ → Finished c₁ out₁ n out₂ → Window t from (length out) out₂ n
window_of {out = out} {from = from} {t = t} b p f = rw (p.long, append-nil) at (f.window from (t ++ []) (p.more from [] (b.none out)))

-- what a window holds of its text
pub window_part : {text : List ℕ} {from len : ℕ} {out : List ℕ} {n : ℕ} → Window text from len out n → take n out ≡ take len (drop from text)
window_part {text} {from} {len} {out} {n} w =
    let l : length (take len (drop from text)) ≡ n = rw (length-take, length-drop) (sym w.count) in
    let k : length (take n out) ≡ n = length-take n out ∙ omega (arith, w.long, w.count) in
    ext_get_or 0 (take n out) (take len (drop from text)) (k ∙ sym l)
    (λ i h. get_or-take n out i 0 (omega (arith, k)) ∙ w.shows i (omega (arith, k, w.count)) ∙ sym (get_or-take len (drop from text) i 0 (omega (arith, k, w.count)) ∙ get_or-drop from text i 0))

pub window_one : {text : List ℕ} {from len : ℕ} {out out' : List ℕ} {n n' : ℕ} → Window text from len out n → Window text from len out' n' → (out ≡ out') × (n ≡ n')
window_one {out = out} {out' = out'} p q =
    (ext_get_or 0 out out' (p.long ∙ sym q.long) (λ j l. p.shows j (omega (arith, p.long)) ∙ sym (q.shows j (omega (arith, p.long)))), p.count ∙ sym q.count)
