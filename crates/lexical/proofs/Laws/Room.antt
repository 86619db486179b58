-- The room that each walk needs from where it starts, by what is still to be walked. For code that fills fixed buffers as it goes.
use Rattle.std.specs.Prelude.{◌≡◌, refl, ℕ, ◌+◌, ◌≤◌, length}
use Rattle.std.proofs.Common.{◌∙◌}
use mathlib.Core.List.{List, []}
use Rattle.std.proofs.Math.Bool.{true}
use native.Mathlib.Omega.{arith}
use Rattle.lexical.specs.Sums.{total_zeros, total, total_ones}
use Rattle.lexical.specs.Tree.{is_fn, is_compr, when, listed, Forest, nil, node, plain, way, after, nodes_in, idents_in, names_in}
use Rattle.lexical.specs.Table.{Headed}
use Rattle.lexical.specs.Binders.{Names, targets, collect, unmarked, looping}
use Rattle.lexical.specs.Module.{Outer, File, module_vars}
use Rattle.lexical.specs.Order.{compr_blocks, fn_blocks}
use Rattle.lexical.specs.State.{Binding, St, Row, Ctx}
use Rattle.lexical.specs.First.{start}
use Rattle.lexical.specs.Second.{declare, second}
use Rattle.lexical.specs.Third.{walk}
use Rattle.lexical.proofs.Laws.Capacity.{made_sized, named_sized, module_size}
use Rattle.lexical.proofs.Theory.Count.{weigh, weigh_all, counted, counted_nodes}
use Rattle.lexical.proofs.Theory.Kinds.{no_compr, no_fn}
use Rattle.lexical.proofs.Theory.Listed.{listed-total}
use Rattle.lexical.proofs.Theory.Modules.{module_length}
use Rattle.lexical.proofs.Theory.Sized.{declare_size, walk_size}

-- how many Names the functions among some nodes bind, how many the comprehensions
unfoldable pub fn_room : Names → Forest → ℕ
fn_room N f = weigh_all (λ x. 1) (fn_blocks N f)

unfoldable pub compr_room : Names → Forest → ℕ
compr_room N f = weigh_all (λ x. 1) (compr_blocks N f)

pub fn_room_nil : (N : Names) → fn_room N nil ≡ 0
unfolding fn_room fn_blocks listed total
fn_room_nil N = refl

pub compr_room_nil : (N : Names) → compr_room N nil ≡ 0
unfolding compr_room compr_blocks listed total
compr_room_nil N = refl

fn_room_node : (N : Names) (at k v : ℕ) (kids rest : Forest) → fn_room N (node at k v kids rest) ≡ weigh_all (λ x. 1) (when (is_fn (way k)) (targets N k kids)) + (fn_room N kids + fn_room N rest)
unfolding fn_room fn_blocks
fn_room_node N at k v kids rest = listed-total (λ k. is_fn (way k)) (λ at k v kids. targets N k kids) (weigh (λ x. 1)) at k v kids rest

compr_room_node : (N : Names) (at k v : ℕ) (kids rest : Forest) → compr_room N (node at k v kids rest) ≡ weigh_all (λ x. 1) (when (is_compr (way k)) (targets N k kids)) + (compr_room N kids + compr_room N rest)
unfolding compr_room compr_blocks
compr_room_node N at k v kids rest = listed-total (λ k. is_compr (way k)) (λ at k v kids. targets N k kids) (weigh (λ x. 1)) at k v kids rest

pub fn_room_def : (N : Names) (at v : ℕ) (kids rest : Forest) → fn_room N (node at 6 v kids rest) ≡ length (collect N unmarked (after kids)) + (fn_room N kids + fn_room N rest)
unfolding way is_fn when targets total
fn_room_def N at v kids rest = omega (arith, fn_room_node N at 6 v kids rest, total_ones (collect N unmarked (after kids)))

pub fn_room_lambda : (N : Names) (at v : ℕ) (kids rest : Forest) → fn_room N (node at 12 v kids rest) ≡ length (collect N unmarked kids) + (fn_room N kids + fn_room N rest)
unfolding way is_fn when targets total
fn_room_lambda N at v kids rest = omega (arith, fn_room_node N at 12 v kids rest, total_ones (collect N unmarked kids))

pub compr_room_compr : (N : Names) (at v : ℕ) (kids rest : Forest) → compr_room N (node at 13 v kids rest) ≡ length (collect N looping kids) + (compr_room N kids + compr_room N rest)
unfolding way is_compr when targets total
compr_room_compr N at v kids rest = omega (arith, compr_room_node N at 13 v kids rest, total_ones (collect N looping kids))

pub fn_room_others : (N : Names) (k : ℕ) → (k ≡ 6 → ⊥) → (k ≡ 12 → ⊥) → (at v : ℕ) (kids rest : Forest) → fn_room N (node at k v kids rest) ≡ fn_room N kids + fn_room N rest
unfolding when total
fn_room_others N k a b at v kids rest = fn_room_node N at k v kids rest ∙ (rw (no_fn k a b) (omega arith))

pub compr_room_others : (N : Names) (k : ℕ) → (k ≡ 13 → ⊥) → (at v : ℕ) (kids rest : Forest) → compr_room N (node at k v kids rest) ≡ compr_room N kids + compr_room N rest
unfolding when total
compr_room_others N k a at v kids rest = compr_room_node N at k v kids rest ∙ (rw (no_compr k a) (omega arith))

-- walk two fills no more than the functions' room, walk three no more than the comprehensions'
pub declare_made : (N : Names) (f : Forest) (x : List Row × St) → length (declare N f x).1.made ≤ length x.1.made + fn_room N f
unfolding fn_room
declare_made N f x = omega (arith, declare_size (λ x. 1) (λ x. 0) _ (made_sized (λ x. 1) (λ b. 1) (λ s v st. refl)) N f x, total_ones (declare N f x).1.made, total_ones x.1.made)

pub declare-named : (N : Names) (f : Forest) (x : List Row × St) → length (declare N f x).1.named ≤ length x.1.named + fn_room N f
unfolding fn_room
declare-named N f x = omega (arith, declare_size (λ x. 1) (λ x. 0) _ (named_sized (λ x. 1)) N f x, total_ones (declare N f x).1.named, total_ones x.1.named)

module _ (N : Names) (D : ℕ → List Binding) (out : ℕ → Outer) (f : Forest) (c : Ctx) (st : St) where
  pub walk_made : length (walk N D out f plain 0 [] true c st).made ≤ length st.made + compr_room N f
  unfolding compr_room is_compr when total
  walk_made = omega (
    arith,
    walk_size (λ x. 1) (λ x. 0) _ (made_sized (λ x. 1) (λ b. 1) (λ s v st. refl)) N D out f plain 0 [] true c st,
    total_zeros (idents_in f),
    total_ones (walk N D out f plain 0 [] true c st).made,
    total_ones st.made,
  )

  pub walk_named : length (walk N D out f plain 0 [] true c st).named ≤ length st.named + compr_room N f
  unfolding compr_room is_compr when total
  walk_named = omega (
    arith,
    walk_size (λ x. 1) (λ x. 0) _ (named_sized (λ x. 1)) N D out f plain 0 [] true c st,
    total_zeros (idents_in f),
    total_ones (walk N D out f plain 0 [] true c st).named,
    total_ones st.named,
  )

-- the three walks' room together
pub room : (F : File) → Headed F.root → length (collect F.names unmarked F.root) + (fn_room F.names F.root + compr_room F.names F.root) ≤ length (names_in F.root)
unfolding fn_room compr_room
room F h = omega (arith, counted (λ x. 1) F.names F.root unmarked h, total_ones (names_in F.root), total_ones (collect F.names unmarked F.root))

pub room_nodes : (F : File) → length (collect F.names unmarked F.root) + (fn_room F.names F.root + compr_room F.names F.root) ≤ length (nodes_in F.root)
unfolding fn_room compr_room
room_nodes F = omega (arith, counted_nodes (λ x. 1) F.names F.root unmarked, total_ones (nodes_in F.root), total_ones (collect F.names unmarked F.root))

-- before walk two and before walk three
pub room_start : (F : File) → length (start F).made + (fn_room F.names F.root + compr_room F.names F.root) ≤ length F.entries + length (nodes_in F.root)
unfolding start
room_start F = omega (arith, room_nodes F, module_length [] F.entries (module_vars F), module_size F, total_ones (collect F.names unmarked F.root))

pub room_second : (F : File) → length (second F).1.made + compr_room F.names F.root ≤ length F.entries + length (nodes_in F.root)
unfolding second
room_second F = omega (arith, room_start F, declare_made F.names F.root ([], start F))
