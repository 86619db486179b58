-- How judging comes to its answer: what each test said of a part, said of the file.
use Prim.Native.Nat.{ℕ, ◌%◌, ◌≤◌, ◌<◌}
use mathlib.Core.Path.{◌≡◌, sym, ap, ◌∙◌, subst}
use mathlib.Core.Bool.{Bool, true, false}
use mathlib.Core.List.{List}
use native.Mathlib.Omega.{arith}
use lib.ListN.{length}
use Rattle.base.specs.Says.{Says}
use Rattle.lexical.specs.Tree.{Forest}
use Rattle.nodefile.specs.Layout.{name_count, nodes_of, nodes_length}
use Rattle.nodefile.specs.Reads.{Reads}
use Rattle.nodefile.proofs.Laws.Reads.{reads_one}
use Rattle.nodefile.proofs.Laws.Trees.{tree}
use Rattle.header.specs.Header.{HeaderOk}
use Rattle.shape.specs.Nodes.{Sound, sound}
use Rattle.scoping.specs.Depth.{TooDeep, too_deep}
use Rattle.nodefile.specs.Height.{height}
use Rattle.scoping.specs.Inside.Held.{Held}
use Rattle.scoping.specs.Shaped.{Shaped}
use Rattle.scoping.specs.Inside.Naming.{AllKnown}
use Rattle.scoping.proofs.Known.{all_known}

-- the node list of a file whose header is right
pub record List8 (ns : List ℕ) : Type 0 where
  pub whole : length ns % 8 ≡ 0
  pub few : length ns ≤ 16384

pub nodes_few : {bs ns : List ℕ} → HeaderOk bs → ns ≡ nodes_of bs → List8 ns
nodes_few {bs} o e = let l = ap length e ∙ nodes_length bs o.total in record { whole = omega (arith, o.nodes); few = omega (arith, o.nodes) }

-- what 7 and 8 leave of it
pub shape_sound : {bs ns : List ℕ} → Shaped bs → ns ≡ nodes_of bs → Sound ns
shape_sound {bs} o e = subst Sound (sym e) (sound (name_count bs) (nodes_of bs) o.nodes)

pub params_known : {bs ns : List ℕ} → Shaped bs → ns ≡ nodes_of bs → AllKnown ns
params_known {bs} o e = subst AllKnown (sym e) (all_known (name_count bs) (nodes_of bs) o.nodes o.children o.header.names)

-- the tree that number 7 leaves
pub sound_held : {ns : List ℕ} → Sound ns → Held ns
sound_held {ns} s = let r = tree ns (record { root = s.root; local = s.fits }) in record { at = 0; forest = r.0; reads = r.1 }

says_map : (b : Bool) {P Q : Type 0} → (P → Q) → (Q → P) → Says b P → Says b Q
says_map true f g h = f h
says_map false f g h = λ q. h (g q)

-- what a walk says of every forest that the list holds it says of number 9
pub says_depth : (b : Bool) {ns : List ℕ} → Sound ns → ((at : ℕ) (f : Forest) → Reads ns at f → Says b (64 < height f)) → Says b (TooDeep ns)
says_depth b {ns} s h =
    let r = tree ns (record { root = s.root; local = s.fits }) in
    says_map b (λ l. too_deep r.0 r.1 l) (λ d. elim d [ too_deep g q l ↦ subst (λ (x : Forest). 64 < height x) (reads_one g r.0 ns 0 q r.1) l ]) (h 0 r.0 r.1)

pub depth_said : (b : Bool) {bs ns : List ℕ} → Shaped bs → ns ≡ nodes_of bs → ((at : ℕ) (f : Forest) → Reads ns at f → Says b (64 < height f)) → Says b (TooDeep (nodes_of bs))
depth_said b o e h = subst (λ (l : List ℕ). Says b (TooDeep l)) e (says_depth b (shape_sound o e) h)

-- what a test says of the list it says of the file's
pub list_said : (b : Bool) (P : List ℕ → Type 0) {l m : List ℕ} → l ≡ m → Says b (P l) → Says b (P m)
list_said b P e h = subst (λ (l : List ℕ). Says b (P l)) e h
