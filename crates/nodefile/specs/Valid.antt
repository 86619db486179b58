-- What judging leaves of a tree, node by node, as far as the walks need it (document 01: numbers 7, 8 and 10, and the table of kinds).
use Rattle.std.specs.Prelude.{ℕ, ◌<◌, ◌≤◌, ◌≡◌}
use Rattle.lexical.specs.Tree.{Forest, nil, node}

-- there is a first child
unfoldable pub Some : Forest → Type 0
Some nil = ⊥
Some (node at k v kids rest) = Unit {0}

-- the first child is a Name, and another follows
unfoldable pub NameFirst : Forest → Type 0
NameFirst nil = ⊥
NameFirst (node at k v kids rest) = (k ≡ 8) × Some rest

pub record NodeOk (at k v : ℕ) (kids : Forest) : Type 0 where
  pub number : at < 2048
  pub kind : k ≤ 18
  pub name : k ≡ 8 → (v < 1024) × (kids ≡ nil)
  pub ident : k ≡ 11 → (v < 1024) × (kids ≡ nil)
  pub def : k ≡ 6 → (v < 256) × NameFirst kids
  pub lambda : k ≡ 12 → (v < 256) × Some kids
  pub compr : k ≡ 13 → Some kids
  pub clause : k ≡ 15 → Some kids

unfoldable pub Valid : Forest → Type 0
Valid nil = Unit {0}
Valid (node at k v kids rest) = NodeOk at k v kids × Valid kids × Valid rest
