-- `put_binding` meets its contract: each field fits, and the flag captured is 0.
use mathlib.Core.Path.{◌≡◌, refl, ap, ◌∙◌}
use mathlib.Core.Bool.{Bool, true, false}
use mathlib.Core.List.{[], ◌∷◌}
use native.Mathlib.Omega.{arith}
use lib.ListN.{set}
use Rattle.answer.specs.Records.{binding_widths}
use Rattle.answer.specs.Laws.{cut_fits}
use Rattle.lexical.specs.Records.{bit}
use Rattle.store.specs.Words.{binding_word}
use Rattle.std.specs.Int.{from_bool}
use Prim.Native.Nat.{ℕ, ◌<◌}
use Rattle.store.proofs.records.put_binding.Goals as goal

-- the number that `u64::from` gives for a flag
flag : {x : ℕ} (b : Bool) → x ≡ from_bool b → (x ≡ bit b) × (x < 2)
unfolding bit
flag true e = (e, omega (arith, e))
flag false e = (e, omega (arith, e))

pub returns : goal.returns
unfolding binding_word
returns c =
    let a = c.args in
    let f₁ = flag a.from_module c.from.ensures in
    let f₂ = flag a.public c.from-2.ensures in
    let f₃ = flag a.any c.from-3.ensures in
    let f₄ = flag a.local c.from-4.ensures in
    let row = a.name ∷ a.source ∷ c.from.result ∷ c.from-2.result ∷ c.from-3.result ∷ 0 ∷ c.from-4.result ∷ a.slot ∷ [] in
    ap (set a.binds.now a.id) (c.make.ensures ∙ cut_fits binding_widths row (omega arith, (omega arith, (omega (arith, f₁.1), (omega (arith, f₂.1), (omega (arith, f₃.1), (omega arith, (omega (arith, f₄.1), (omega arith, (omega arith, tt))))))))) ∙ (rw (f₁.0, f₂.0, f₃.0, f₄.0) refl))
