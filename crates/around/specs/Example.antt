-- `def f(): def g(x = lambda: y): return x`. By computation.
use Rattle.std.specs.Prelude.{ℕ, ◌≡◌, refl, List, [], ◌∷◌, ◌++◌}
use Rattle.base.specs.UpTo.{up_to}
use Rattle.bits.specs.Field.{bit_of, field_of}
use Rattle.bits.specs.Pack.{pack, bytes_of}
use Rattle.lexical.specs.Tree.{way, is_fn, when}
use Rattle.around.specs.Ends.{end_in}
use Rattle.around.specs.Scopes.{descend, scopes_at, fitted}
use Rattle.around.specs.Outer.{outer_in, outers_of, stored, outer_table}

-- a node: kind, size, value
node : ℕ → ℕ → ℕ → List ℕ
node kind size value = bytes_of 8 (pack ((5, kind) ∷ (3, 0) ∷ (16, size) ∷ (16, value) ∷ (24, 0) ∷ []))

-- 0 Def 1; 1 Name; 2 Def 2; 3 Name; 4 Param; 5 Name; 6 Lambda 3; 7 Ident; 8 Plain; 9 Ident
bytes : List ℕ
bytes = bytes_of 12 (pack ((4, 1) ∷ (4, 0) ∷ (16, 10) ∷ (16, 3) ∷ (56, 0) ∷ []))
    ++ node 6 10 1 ++ node 8 1 0 ++ node 6 8 2 ++ node 8 1 1 ++ node 17 4 0 ++ node 8 1 2 ++ node 12 2 3 ++ node 11 1 0 ++ node 1 2 0 ++ node 11 1 2

-- the lambda is a default: it stands outside g, whose body is g's last child
in_default : scopes_at bytes 7 ≡ 0 ∷ 1 ∷ 3 ∷ []
unfolding node bytes bit_of field_of way is_fn when end_in descend scopes_at
in_default = refl

in_body : scopes_at bytes 9 ≡ 0 ∷ 1 ∷ 2 ∷ []
unfolding node bytes bit_of field_of way is_fn when end_in descend scopes_at
in_body = refl

-- no such node
no_node : scopes_at bytes 10 ≡ []
unfolding node bytes bit_of field_of way is_fn when end_in descend scopes_at
no_node = refl

-- too few places, and too many
places : (fitted 2 (scopes_at bytes 9) ≡ 0 ∷ 1 ∷ []) × (fitted 4 (scopes_at bytes 9) ≡ 0 ∷ 1 ∷ 2 ∷ 0 ∷ [])
unfolding node bytes bit_of field_of way is_fn when end_in descend scopes_at up_to
places = (refl, refl)

-- f in the module, g and the lambda in f
table : outer_table bytes 5 ≡ 0 ∷ 0 ∷ 1 ∷ 1 ∷ 0 ∷ []
unfolding node bytes bit_of field_of way is_fn when end_in outer_in outers_of stored
table = refl
