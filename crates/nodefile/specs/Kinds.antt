-- The kinds of nodes and their numbers (document 01, "The node file"), and the roles that nodes play.
use Rattle.std.specs.Prelude.{ℕ, ◌<◌, ◌≤◌, ◌≡◌, Result, MatchResult, Option, None, Some}
use Rattle.nodefile.specs.declared.kinds.Kind.{Kind}
use Rattle.nodefile.specs.declared.kinds.Kind.TheVariants as kind
use Rattle.nodefile.specs.declared.kinds.NoKind.{NoKind}
use Rattle.nodefile.specs.declared.kinds.Role.{Role}
use Rattle.nodefile.specs.declared.kinds.Role.TheVariants as role

abbrev pub number : Kind → ℕ
number kind.Block = 0
number kind.Plain = 1
number kind.Assign = 2
number kind.Modify = 3
number kind.If = 4
number kind.For = 5
number kind.Def = 6
number kind.Load = 7
number kind.Name = 8
number kind.Tuple = 9
number kind.Place = 10
number kind.Ident = 11
number kind.Lambda = 12
number kind.Compr = 13
number kind.Other = 14
number kind.ForClause = 15
number kind.IfClause = 16
number kind.Param = 17
number kind.Type = 18

-- the kind with this number, or none if no kind has it
abbrev pub KindIs : ℕ → Option Kind → Type 0
KindIs n None = 18 < n
KindIs n (Some k) = n ≡ number k

abbrev pub Numbered : ℕ → Result Kind NoKind → Type 0
Numbered n r = MatchResult r (λ k. n ≡ number k) (λ e. (e.0 ≡ n) × (18 < n))

-- the role of the kind with this number
abbrev pub RoleIs : ℕ → Role → Type 0
RoleIs n role.Statement = n ≤ 7
RoleIs n role.Target = (8 ≤ n) × (n ≤ 10)
RoleIs n role.Expression = (11 ≤ n) × (n ≤ 14)
RoleIs n role.Clause = (15 ≤ n) × (n ≤ 16)
RoleIs n role.Parameter = n ≡ 17
RoleIs n role.Type = n ≡ 18

abbrev pub HasRole : ℕ → Option Role → Type 0
HasRole n None = 18 < n
HasRole n (Some r) = RoleIs n r
