-- The second part of what `resolve` promises, off its contract `Resolves bs b a b'`: what a reader of Theorems could still ask. The words are in Said; the proofs stand in Laws.
--     bindings               T1-local, T1-module, T1-params
--     slots and copies       filled-once, stops, T2-means
use Rattle.std.specs.Prelude.{ℕ, ◌<◌, ◌≤◌, ◌≡◌, List, length}
use Rattle.std.proofs.Common.{sym, ap, ◌∙◌, subst, arith}
use Rattle.std.proofs.Math.Option.{some}
use Rattle.std.proofs.Math.ListN.{get_elem?}
use Rattle.lexical.specs.Tree.{Forest, params_in}
use Rattle.lexical.specs.Module.{File}
use Rattle.lexical.specs.Meaning.{Around, declared, scopes_of}
use Rattle.lexical.specs.State.{Copy}
use Rattle.lexical.specs.Third.{resolved}
use Rattle.lexical.proofs.Whole as lexical
use Rattle.nodefile.specs.Layout.{node_count, nodes_of}
use Rattle.nodefile.specs.Reads.{Reads}
use Rattle.nodefile.specs.FileOf.{file_of}
use Rattle.nodefile.specs.Listed.{kind_at, value_at}
use Rattle.judge.specs.Theorems.{accepted, accepted_entries}
use Rattle.answer.specs.declared.Answer.{Answer}
use Rattle.answer.specs.Buffers.{Buffers}
use Rattle.scope.specs.Answer.{Given, Resolves}
use Rattle.scope.specs.Ready.{Ready}
use Rattle.promise.specs.Shown.{name_of, source_of, local_of, nodes_around}
use Rattle.scope.specs.Laws.Readies.{ready_scoped, ready_length}
use Rattle.promise.proofs.Laws.Sites.{ident_event}
use Rattle.scope.specs.Laws.Zero.{zero_accepted, zero_ready, zero_slots}
use Rattle.promise.specs.Said.{params_of, copies_shown, NameSaid, ModuleSaid, StopsShown, SlotSaid}
use Rattle.promise.proofs.Laws.Shows.{copy_shown, params_shown}
use Rattle.promise.proofs.Laws.Saying.{local_said, module_said, stops_shown, slot_said}

-- An accepted file, the tree that its nodes hold, and the file that the bytes stand for with it.
module _ {bs : List ℕ} {b b' : Buffers} {a : Answer} (r : Resolves bs b a b') (z : a.number ≡ 0) (root : Forest) (t : Reads (nodes_of bs) 0 root) where
  abbrev F : File
  F = file_of bs root

  ready : Ready bs root
  ready = zero_ready r z root t

  few : length (resolved F).slots ≤ 4096
  few = zero_slots r z root t

  given : Given F (node_count bs) b a b'
  given = r.given z root t

  -- Every local is the binding of the Name that declares it, so all that is said of a Name's binding is said of it.
  pub T1_local : (k : ℕ) → k < a.bindings → local_of b' k ≡ 1 → (s : NameSaid F a b' (source_of b' k) (name_of b' k)) × (s.binding ≡ k)
  T1_local = local_said ready few given

  -- Every other binding is what the module makes of its name, and stands among the module entries; an entry keeps its slot, a new one gets the next.
  pub T1_module : (k : ℕ) → k < a.bindings → local_of b' k ≡ 0 → ModuleSaid F a b' k
  T1_module = module_said ready few given (accepted_entries (accepted bs (zero_accepted r z)))

  -- A scope's parameter count is the number of its function's named Params.
  pub T1_params : (j : ℕ) (p : ℕ × ℕ) → get_elem? (params_in root) j ≡ some p → params_of b' p.0 ≡ p.1
  T1_params = params_shown ready few given

  -- No slot is filled by two copy records, so "the first record" is the only one;
  pub filled_once : (i j : ℕ) (c d : Copy) → get_elem? (copies_shown a b') i ≡ some c → get_elem? (copies_shown a b') j ≡ some d → c.scope ≡ d.scope → c.child ≡ d.child → i ≡ j
  filled_once i j c d e q s k =
      let (x, at, same) = copy_shown ready few given i c e in
      let (y, in', like) = copy_shown ready few given j d q in
      lexical.filled_once F (ready_scoped ready) i j x y at in' (ap (λ (c : Copy). c.scope) same ∙ s ∙ sym (ap (λ (c : Copy). c.scope) like)) (ap (λ (c : Copy). c.child) same ∙ k ∙ sym (ap (λ (c : Copy). c.child) like))

  -- and following copies through the scopes around a place, from any slot, stops in one of them, at a slot that no copy fills.
  pub stops : (up : List Around) (k : ℕ) → StopsShown a b' (scopes_of up) k
  stops = stops_shown ready few given

  -- T2, by meaning: every Ident that means a local, refused in a type (error 2) or not, has a slot of its scope from which the copies lead to that local's slot.
  pub T2_means : (x : ℕ) → x < node_count bs → kind_at (nodes_of bs) x ≡ 11 → (up : List Around) → nodes_around F x ≡ some up → (o d : ℕ) → declared (value_at (nodes_of bs) x) up ≡ some (o, d)
      → SlotSaid a b' (record { node = x; name = value_at (nodes_of bs) x; above = up }) o d
  T2_means x h k up e o d m =
      let l = ident_event F (ready_scoped ready) (nodes_of bs) t x (omega (arith, ready_length ready)) k in
      let y : l.up ≡ up = let w : some l.up ≡ some up = sym l.above ∙ e in cc in
      subst (λ (u : List Around). SlotSaid a b' (record { node = x; name = value_at (nodes_of bs) x; above = u }) o d) y (slot_said ready few given x (value_at (nodes_of bs) x) l o d (rw y m))
