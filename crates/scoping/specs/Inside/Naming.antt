-- What the test of one function's parameters asks and leaves: marks by name number, of which none has reached this function's stamp.
use Rattle.std.specs.Prelude.{ℕ, ◌<◌, ◌≡◌, List, length, get_or}
use Rattle.lexical.specs.Places.{In}
use Rattle.nodefile.specs.Node.{below}
use Rattle.nodefile.specs.Kids.{Fits}
use Rattle.shape.specs.Nodes.{at}
use Rattle.scoping.specs.Params.{ParamNames}
use Rattle.scoping.specs.Inside.Found.{Scope}

-- each Param among the children has a name below 1,024
pub record Known (kids : List ℕ) : Type 0 where
  pub fits : Fits kids
  pub names : (vs : List ℕ) → ParamNames kids vs → (v : ℕ) → In v vs → v < 1024

-- and so in each function of a list
abbrev pub AllKnown : List ℕ → Type 0
AllKnown ns = (i : ℕ) → Scope ns i → Known (below (at ns i))

pub record Fresh (marks : List ℕ) (stamp : ℕ) : Type 0 where
  pub size : length marks ≡ 1024
  pub earlier : (v : ℕ) → get_or marks v 0 < stamp
