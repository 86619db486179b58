-- Reading a record of a buffer gives its row back, where the row's numbers fit their fields.
--     front_read    of the k-th record of a buffer
use Rattle.std.specs.Prelude.{ℕ, ◌≡◌, List, map, get_or}
use Rattle.std.proofs.Common.{sym, ap, ◌∙◌}
use Rattle.std.proofs.Math.Option.{some}
use Rattle.std.proofs.Math.ListN.{get_elem?}
use Rattle.bits.specs.Pack.{values, Narrow, unpack}
use Rattle.store.proofs.Laws.Points.{word_at_lem}
use Rattle.answer.specs.Buffers.{Front}
use Rattle.answer.specs.Fields.{fields, packed}
use Rattle.answer.specs.Laws.{unpack-packed}
use Rattle.scope.specs.Laws.Front.{front_get, word_get}

pub front_read : (ws : List ℕ) (rows : List (List ℕ)) (l : List ℕ) (n : ℕ) → Front l n (map (packed ws) rows) → (k : ℕ) (row : List ℕ) → get_elem? rows k ≡ some row → Narrow (fields ws row) → unpack ws (get_or l k 0) ≡ values (fields ws row)
front_read ws rows l n f k row e h = ap (unpack ws) (front_get l n (map (packed ws) rows) f k ∙ sym (word_get (packed ws) rows k) ∙ word_at_lem (packed ws) rows k row e) ∙ unpack-packed ws row h
