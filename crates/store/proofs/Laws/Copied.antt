-- The copies and the errors in the working list w: one more.
use Rattle.std.specs.Prelude.{ℕ, ◌+◌, ◌<◌, ◌≡◌, List, [], ◌∷◌, ◌++◌, length, set}
use Rattle.std.proofs.Math.Path.{refl}
use Rattle.std.proofs.Common.{arith}
use Rattle.std.proofs.Math.ListN.{length-append}
use Rattle.lexical.specs.State.{Copy}
use Rattle.store.specs.Words.{pair_word, copied_word, copy_word, error_word}
use Rattle.store.specs.Image.{CopiesIn, ErrorsIn}
use Rattle.store.proofs.Laws.Points.{Off, Zeros, point_none, point_skip, point_push}

pub copies_none : (w : List ℕ) → Zeros w → CopiesIn [] w
copies_none w z = record { rows = point_none copy_word w 6144 4096 z; few = omega arith }

pub errors-none : (w : List ℕ) → Zeros w → ErrorsIn [] w
errors-none w z = record { rows = point_none error_word w 10240 2048 z; few = omega arith }

module _ {cs : List Copy} {w : List ℕ} (m : CopiesIn cs w) where
  -- a store elsewhere
  pub copies_skip : (j v : ℕ) → Off j 6144 4096 → CopiesIn cs (set w j v)
  copies_skip j v h = record { rows = point_skip w 6144 4096 _ j v h m.rows; few = m.few }

  -- one more: `put_copy`
  pub copies_push : length w ≡ 12544 → (c : Copy) (k : ℕ) → k ≡ length cs → k < 4096 → CopiesIn (cs ++ (c ∷ [])) (set w (6144 + k) (copied_word c.scope c.parent c.child))
  unfolding copy_word
  copies_push long c k e h =
      record { rows = point_push copy_word w 6144 4096 cs c (6144 + k) _ (omega arith) (omega arith) refl m.rows; few = omega (arith, length-append cs (c ∷ [])) }

module _ {es : List (List ℕ)} {w : List ℕ} (m : ErrorsIn es w) where
  -- a store elsewhere
  pub errors_skip : (j v : ℕ) → Off j 10240 2048 → ErrorsIn es (set w j v)
  errors_skip j v h = record { rows = point_skip w 10240 2048 _ j v h m.rows; few = m.few }

  -- one more: `put_error`
  pub errors_push : length w ≡ 12544 → (at code k : ℕ) → k ≡ length es → k < 2048 → ErrorsIn (es ++ ((at ∷ code ∷ []) ∷ [])) (set w (10240 + k) (pair_word at code))
  unfolding error_word
  errors_push long at code k e h =
      record { rows = point_push error_word w 10240 2048 es (at ∷ code ∷ []) (10240 + k) _ (omega arith) (omega arith) refl m.rows; few = omega (arith, length-append es ((at ∷ code ∷ []) ∷ [])) }
