-- A node's key against its kind and record.
--     binding_keyed, keyed_binding    the key is 1 + k exactly where the node is an Ident whose record names binding k
--     global_keyed, keyed_global      the same of global g
use Rattle.std.specs.Prelude.{ℕ, ◌+◌, ◌<◌, ◌≡◌, refl, Bool, true, false, cond, List, length, get_or}
use Rattle.std.proofs.Common.{sym, ◌∙◌, arith, eqb-true, eq-eqb}
use Rattle.base.specs.UpTo.{up_to_length, up_to_get}
use Rattle.nodefile.specs.Layout.{node_count, nodes_of}
use Rattle.nodefile.specs.Listed.{kind_at}
use Rattle.answer.specs.Buffers.{Buffers}
use Rattle.readers.specs.Keys.{is_ident, of_binding, of_global, key_at, keys_of}
use Rattle.readers.specs.Shown.{class_of, slot_of, binding_of, ToBinding, ToGlobal}

-- 1 + k, where two tests pass; else 0
pub keyed_so : (p q : Bool) (n k : ℕ) → cond p (cond q (n + 1) 0) 0 ≡ k + 1 → (p ≡ true) × (q ≡ true) × (n ≡ k)
keyed_so true true n k e = (refl, refl, omega arith)
keyed_so true false n k e = absurd (omega arith)
keyed_so false q n k e = absurd (omega arith)

module _ (bs : List ℕ) (b : Buffers) where
  pub keys_long : (g : Bool) → length (keys_of g bs b.nodes) ≡ node_count bs
  keys_long g = up_to_length (key_at g (nodes_of bs) b.nodes) (node_count bs)

  pub key_get : (g : Bool) (x : ℕ) → x < node_count bs → get_or (keys_of g bs b.nodes) x 0 ≡ key_at g (nodes_of bs) b.nodes x
  key_get g x h = up_to_get (key_at g (nodes_of bs) b.nodes) (node_count bs) x 0 h

  pub keyed_binding : (k x : ℕ) → x < length (keys_of false bs b.nodes) → get_or (keys_of false bs b.nodes) x 0 ≡ k + 1 → ToBinding bs b k x
  keyed_binding k x h e =
      let i : x < node_count bs = omega (arith, keys_long false) in
      let w = keyed_so (is_ident (kind_at (nodes_of bs) x)) (of_binding (class_of b x)) (binding_of b x) k (sym (key_get false x i) ∙ e) in
      record { ident = record { known = i; kind = eqb-true _ _ w.0 }; class = w.1; binding = w.2 }

  pub keyed_global : (g x : ℕ) → x < length (keys_of true bs b.nodes) → get_or (keys_of true bs b.nodes) x 0 ≡ g + 1 → ToGlobal bs b g x
  keyed_global g x h e =
      let i : x < node_count bs = omega (arith, keys_long true) in
      let w = keyed_so (is_ident (kind_at (nodes_of bs) x)) (of_global (class_of b x)) (slot_of b x) g (sym (key_get true x i) ∙ e) in
      record { ident = record { known = i; kind = eqb-true _ _ w.0 }; class = w.1; global = w.2 }

  pub binding_keyed : (k x : ℕ) → ToBinding bs b k x → (x < length (keys_of false bs b.nodes)) × (get_or (keys_of false bs b.nodes) x 0 ≡ k + 1)
  binding_keyed k x t = (omega (arith, keys_long false, t.ident.known), key_get false x t.ident.known ∙ rw (eq-eqb _ _ t.ident.kind, t.class, t.binding) refl)

  pub global_keyed : (g x : ℕ) → ToGlobal bs b g x → (x < length (keys_of true bs b.nodes)) × (get_or (keys_of true bs b.nodes) x 0 ≡ g + 1)
  global_keyed g x t = (omega (arith, keys_long true, t.ident.known), key_get true x t.ident.known ∙ rw (eq-eqb _ _ t.ident.kind, t.class, t.global) refl)
