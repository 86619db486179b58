-- The classes of a node's record ("Answer buffers"), by number.
use Rattle.std.specs.Prelude.{ℕ}
use Rattle.answer.specs.declared.node.NodeClass.{NodeClass}
use Rattle.answer.specs.declared.node.NodeClass.TheVariants as class

abbrev pub class_number : NodeClass → ℕ
class_number class.Nothing = 0
class_number class.Module = 1
class_number class.Local = 2
class_number class.Global = 3
