-- How deep a tree is (document 01, number 9: the root is at depth 1).
use Rattle.std.specs.Prelude.{ℕ, suc, max}
use Rattle.lexical.specs.Tree.{Forest, nil, node}

-- trees that stand side by side: a node without children is 1 deep
abbrev pub height : Forest → ℕ
height nil = 0
height (node a k v kids rest) = max (suc (height kids)) (height rest)
