-- What the buffers of an accepted file say of each Name, each binding, and each local that an Ident means.
--     name_said, local_said, module_said, stops_shown, slot_said
use Prim.Native.Nat.{ℕ, zero, suc, ◌+◌, ◌<◌, ◌≤◌}
use Rattle.std.specs.Prelude.{◌≡◌, Bool, length}
use Rattle.std.proofs.Math.Path.{refl, ap, subst}
use Rattle.std.proofs.Common.{sym, ◌∙◌, inl, inr}
use Rattle.std.proofs.Math.Bool.{true, false}
use mathlib.Core.List.{List, [], ◌∷◌, map}
use Rattle.std.proofs.Math.Option.{none, some}
use native.Mathlib.Omega.{arith}
use Rattle.std.proofs.Math.Decide.{dec_lt}
use Rattle.std.proofs.Math.ListN.{get_elem?, length-map}
use Rattle.lexical.specs.Lists.{none-some}
use Rattle.lexical.specs.Places.{In, Distinct, at_append, at-below, map_at}
use Rattle.lexical.specs.Tree.{Forest, plain, names_in, is_name, pick}
use Rattle.lexical.specs.Module.{Entry, File}
use Rattle.lexical.specs.Meaning.{Around, declared, scopes_of}
use Rattle.lexical.specs.State.{Binding, Copy, Named}
use Rattle.lexical.specs.First.{next_slot, start}
use Rattle.lexical.specs.Third.{resolved}
use Rattle.lexical.specs.Follow.{from_in, follow}
use Rattle.lexical.specs.Records as rec
use Rattle.lexical.specs.Blocks.{named_in, Block, of_module, of_scope, block_of, class_of, entry_of, module_targets, BoundIn, NameTold, slots_before}
use Rattle.lexical.proofs.Whole as lexical
use Rattle.lexical.proofs.Laws.Below.{placed}
use Rattle.lexical.proofs.Laws.Numbers.{made_at, made_start, local_below}
use Rattle.lexical.proofs.Theory.Filled.{slot_of_lem}
use Rattle.lexical.proofs.Theory.Last.{last}
use Rattle.lexical.proofs.Theory.Listed.{listed-map}
use Rattle.lexical.proofs.Theory.Nodes.{no_ancestors}
use Rattle.nodefile.specs.Layout.{node_count, nodes_of}
use Rattle.nodefile.specs.FileOf.{file_of}
use Rattle.nodefile.proofs.Laws.FileLaws.{tree_below}
use Rattle.nodefile.specs.Listed.{kind_at, value_at}
use Rattle.nodefile.proofs.Laws.Listed.{in_listed}
use Rattle.follow.specs.Place.{place_of}
use Rattle.answer.specs.declared.Answer.{Answer}
use Rattle.answer.specs.Buffers.{Buffers}
use Rattle.scope.specs.Answer.{Given}
use Rattle.scope.specs.Ready.{Ready}
use Rattle.promise.specs.Shown.{node_fields, name_of, source_of, local_of, slot_of}
use Rattle.scope.specs.Laws.Readies.{ready_scoped, ready_distinct, ready_length}
use Rattle.scope.specs.Laws.Rows.{rows_of}
use Rattle.promise.proofs.Laws.Events.{RowFits, name_bounds}
use Rattle.promise.proofs.Laws.Sites.{Lookup}
use Rattle.promise.proofs.Laws.Named.{name_shown}
use Rattle.promise.proofs.Laws.Records.{back, node_read, binding_read, bound_so, copies_follow}
use Rattle.promise.specs.Said.{StopsShown, MadeShown, OwnSlot, BlockShown, NameSaid, slots_below, ModuleSaid, SlotSaid}
use Rattle.promise.proofs.Laws.Shows.{made_shown, public_read, copy_shown, slot_shown}

-- an element at each place
at_some : {A : Type 0} (xs : List A) (i : ℕ) → i < length xs → (a : A) × (get_elem? xs i ≡ some a)
at_some [] i h = absurd (omega arith)
at_some (x ∷ xs) zero h = (x, refl)
at_some (x ∷ xs) (suc i) h = at_some xs i (omega arith)

-- a number among the first components
in_pairs : (xs : List (ℕ × ℕ)) (x : ℕ) → In x (map (λ (p : ℕ × ℕ). p.0) xs) → (j : ℕ) × (n : ℕ) × (get_elem? xs j ≡ some (x, n))
in_pairs [] x m = absurd m
in_pairs (p ∷ xs) x m = elim m [ inl e ↦ (0, p.1, ap (λ (y : ℕ). some (y, p.1)) (sym e)) | inr n ↦ (let r = in_pairs xs x n in (suc r.0, r.1, r.2)) ]

-- one binding more
before-suc : (i : ℕ) (bs : List Binding) (taken : List ℕ) (b : Binding) → get_elem? bs i ≡ some b → slots_before (suc i) bs taken ≡ b.slot ∷ slots_before i bs taken
unfolding slots_before
before-suc i [] taken b e = absurd (none-some refl e)
before-suc zero (x ∷ bs) taken b e = let z : x ≡ b = cc in ap (λ (y : Binding). y.slot ∷ taken) z
before-suc (suc i) (x ∷ bs) taken b e = before-suc i bs (x.slot ∷ taken) b e

module _ {bs : List ℕ} {root : Forest} (q : Ready bs root) (few : length (resolved (file_of bs root)).slots ≤ 4096) {b b' : Buffers} {a : Answer} (g : Given (file_of bs root) (node_count bs) b a b') where
  abbrev F : File
  F = file_of bs root

  -- ---- a binding of a block

  own_slot : (i : ℕ) (x : Binding) → get_elem? (resolved F).made i ≡ some x → x.local ≡ true → OwnSlot a b' x.owner x.slot
  own_slot i x e l = record {
    of_scope_lem = slot_shown q few g x.owner x.slot (local_below F i x e l);
    unfilled = λ j c p s k. let d = copy_shown q few g j c p in
        lexical.own_unfilled F (ready_scoped q) i x e l j d.0 d.1 (ap (λ (y : Copy). y.scope) d.2 ∙ s) (ap (λ (y : Copy). y.child) d.2 ∙ k);
    stops = λ ss. copies_follow q few g (x.owner ∷ ss) x.slot ∙ ap place_of (lexical.own_stops F (ready_scoped q) i x e l ss);
  }

  block_shown : (n : ℕ) (k : Block) (x : Binding) → get_elem? (resolved F).made x.id ≡ some x → BoundIn F n k x → BlockShown F a b' n k x.id x.slot
  unfolding BoundIn BlockShown rec.bit
  block_shown n of_module x e (l, m) = subst (λ (c : ℕ). MadeShown a b' x.id (entry_of n F.entries) (module_targets F) n c x.slot) (ap rec.bit l) (made_shown q few g x.id x e (entry_of n F.entries) (module_targets F) n m)
  block_shown n (of_scope s ts) x e (l, o, m) = (
    subst (λ (c : ℕ). MadeShown a b' x.id none ts n c x.slot) (ap rec.bit l) (made_shown q few g x.id x e none ts n m),
    subst (λ (t : ℕ). OwnSlot a b' t x.slot) o (own_slot x.id x e l),
  )

  block_name : (n : ℕ) (k : Block) (i slot : ℕ) → BlockShown F a b' n k i slot → name_of b' i ≡ n
  unfolding BlockShown
  block_name n of_module i slot s = s.name_is
  block_name n (of_scope o ts) i slot s = s.0.name_is

  -- ---- a Name

  answered : (x n : ℕ) (t : NameTold F x n) → x < node_count bs → node_fields b' x ≡ class_of (block_of t.up) ∷ t.binding.slot ∷ t.binding.id ∷ []
  unfolding rec.records
  answered x n t h =
      let row = x ∷ class_of (block_of t.up) ∷ t.binding.slot ∷ t.binding.id ∷ [] in
      let named : Named = record { node = x; of = some t.binding } in
      let e : get_elem? (rows_of F) t.place ≡ some row = at_append (map rec.title_row (resolved F).named) (rec.answers (resolved F).made (resolved F).log) t.place row (map_at rec.title_row (resolved F).named t.place named t.row ∙ ap some t.answered) in
      node_read q few g t.place row e h (subst RowFits t.answered (name_bounds q few t.place named t.row))

  said_of : (x n : ℕ) (t : NameTold F x n) → x < node_count bs → (s : NameSaid F a b' x n) × (s.binding ≡ t.binding.id)
  said_of x n t h = (record { up = t.up; above = t.above; slot = t.binding.slot; binding = t.binding.id; answered = answered x n t h; said = block_shown n (block_of t.up) t.binding t.known t.bound_so }, refl)

  -- its name is the one that its node holds: the record of name-shown has it
  node_name : (x n : ℕ) (t : NameTold F x n) → x < node_count bs → kind_at (nodes_of bs) x ≡ 8 → n ≡ value_at (nodes_of bs) x
  node_name x n t h k =
      let s = name_shown q few g x h k in
      let z : class_of (block_of t.up) ∷ t.binding.slot ∷ t.binding.id ∷ [] ≡ (s.local + 1) ∷ s.slot ∷ s.binding ∷ [] = sym (answered x n t h) ∙ s.answered in
      let y : t.binding.id ≡ s.binding = cc in
      sym (block_name n (block_of t.up) t.binding.id t.binding.slot (block_shown n (block_of t.up) t.binding t.known t.bound_so)) ∙ ap (name_of b') y ∙ s.shown.name_is

  pub name_said : (x : ℕ) → x < node_count bs → kind_at (nodes_of bs) x ≡ 8 → NameSaid F a b' x (value_at (nodes_of bs) x)
  unfolding names_in is_name pick
  name_said x h k =
      let z : 0 + x ≡ x = omega arith in
      let m : In x (names_in root) = subst (λ (i : ℕ). In i (names_in root)) z (in_listed root (nodes_of bs) 0 q.reads (λ k. is_name (pick k)) (λ a k v. a) x (omega (arith, ready_length q)) (rw k refl)) in
      let l : map (λ (p : ℕ × ℕ). p.0) (named_in root) ≡ names_in root = (unfold named_in names_in in listed-map (λ k. is_name (pick k)) (λ at k v kids. (at, v)) (λ (p : ℕ × ℕ). p.0) root) in
      let (j, n, e) = in_pairs (named_in root) x (subst (In x) (sym l) m) in
      let t = lexical.T1_name F (ready_scoped q) q.tabled (ready_distinct q) j x n e in
      subst (NameSaid F a b' x) (node_name x n t h k) (said_of x n t h).0

  -- ---- a local

  node_low : (x n : ℕ) → NameTold F x n → x < node_count bs
  node_low x n t = elim (dec_lt x (node_count bs)) [
    | yes l ↦ l
    | no l ↦ absurd (none-some (no_ancestors F.names x root plain 0 [] true [] (λ m. l (tree_below bs root q.exact q.reads x m))) t.above)
  ]

  local_of_lem : (k : ℕ) (x : Binding) → get_elem? (resolved F).made k ≡ some x → x.local ≡ true → (s : NameSaid F a b' (source_of b' k) (name_of b' k)) × (s.binding ≡ k)
  local_of_lem k x e l =
      let (t, w) = lexical.T1_local F (ready_scoped q) q.tabled (ready_distinct q) k x e l in
      let r = binding_read q few g k x e in
      let (s, y) = said_of x.var.source x.var.name t (node_low x.var.source x.var.name t) in
      rw (r.source_is, r.name_is) (s, y ∙ ap (λ (c : Binding). c.id) w ∙ made_at F k x e)

  bit-one : (c : Bool) → rec.bit c ≡ 1 → c ≡ true
  unfolding rec.bit
  bit-one true e = refl
  bit-one false e = absurd (omega arith)

  bit-none : (c : Bool) → rec.bit c ≡ 0 → c ≡ false
  unfolding rec.bit
  bit-none true e = absurd (omega arith)
  bit-none false e = refl

  binding_at : (k : ℕ) → k < a.bindings → (x : Binding) × (get_elem? (resolved F).made k ≡ some x)
  unfolding rec.records
  binding_at k h = at_some (resolved F).made k (omega (arith, g.bindings, length-map (resolved F).made (rec.binding_row (resolved F).log)))

  pub local_said : (k : ℕ) → k < a.bindings → local_of b' k ≡ 1 → (s : NameSaid F a b' (source_of b' k) (name_of b' k)) × (s.binding ≡ k)
  local_said k h l = let (x, e) = binding_at k h in local_of_lem k x e (bit-one x.local (sym (binding_read q few g k x e).local_is ∙ l))

  -- ---- a module binding

  from_start : (k : ℕ) (x : Binding) → get_elem? (start F).made k ≡ some x → get_elem? (resolved F).made k ≡ some x
  from_start k x e = subst (λ (l : List Binding). get_elem? l k ≡ some x) (sym (made_start F).1) (at_append (start F).made (made_start F).0 k x e)

  slots_below_lem : (k : ℕ) → k ≤ length (start F).made → slots_before k (start F).made [] ≡ slots_below b' k
  unfolding slots_before slots_below
  slots_below_lem zero h = refl
  slots_below_lem (suc k) h = step (at_some (start F).made k (omega arith)) (slots_below_lem k (omega arith))
    where
      step : (x : Binding) × (get_elem? (start F).made k ≡ some x) → slots_before k (start F).made [] ≡ slots_below b' k → slots_before (suc k) (start F).made [] ≡ slot_of b' k ∷ slots_below b' k
      step (x, e) r = before-suc k (start F).made [] x e ∙ ap (λ (l : List ℕ). x.slot ∷ l) r ∙ ap (λ (n : ℕ). n ∷ slots_below b' k) (sym (binding_read q few g k x (from_start k x e)).slot_is)

  module _ (d : Distinct (map (λ (e : Entry). e.name) F.entries)) where
    module_of : (k : ℕ) (x : Binding) → get_elem? (resolved F).made k ≡ some x → x.local ≡ false → ModuleSaid F a b' k
    unfolding rec.records rec.entry_row rec.bit
    module_of k x e l =
        let t = lexical.T1_own F d k x e l in
        let r = binding_read q few g k x e in
        let made = made_shown q few g k x e (entry_of x.var.name F.entries) (module_targets F) x.var.name t.makes in
        let (u, (entries, w)) = back q few g in
        record {
          made = rw (r.name_is, r.slot_is) (subst (λ (c : ℕ). MadeShown a b' k (entry_of x.var.name F.entries) (module_targets F) x.var.name c x.slot) (ap rec.bit l) made);
          listed = omega (arith, g.module_entries, length-map (start F).made rec.entry_row, at-below (start F).made k x t.listed_so);
          entry = entries k (rec.entry_row x) (map_at rec.entry_row (start F).made k x t.listed_so) ∙ (rw (r.name_is, public_read q few g k x e, r.slot_is) refl);
          kept = λ y p. r.slot_is ∙ t.kept y p;
          next = λ p. r.slot_is ∙ t.next p ∙ ap next_slot (slots_below_lem k (omega (arith, at-below (start F).made k x t.listed_so)));
        }

    pub module_said : (k : ℕ) → k < a.bindings → local_of b' k ≡ 0 → ModuleSaid F a b' k
    module_said k h l = let (x, e) = binding_at k h in module_of k x e (bit-none x.local (sym (binding_read q few g k x e).local_is ∙ l))

  -- ---- following

  pub stops_shown : (up : List Around) (k : ℕ) → StopsShown a b' (scopes_of up) k
  stops_shown up k =
      let s = lexical.stops F (ready_scoped q) up k in
      record {
        scope = (follow (resolved F).copies (scopes_of up) k).0;
        slot = (follow (resolved F).copies (scopes_of up) k).1;
        within = s.within;
        led = copies_follow q few g (scopes_of up) k;
        unfilled = λ j c e p r. let (d, at, same) = copy_shown q few g j c e in
            none_fills (follow (resolved F).copies (scopes_of up) k).0 (follow (resolved F).copies (scopes_of up) k).1 s.unfilled j d at (ap (λ (x : Copy). x.scope) same ∙ p) (ap (λ (x : Copy). x.child) same ∙ r);
      }
    where
      none_fills : (s k : ℕ) → from_in s k (resolved F).copies ≡ none → (j : ℕ) (c : Copy) → get_elem? (resolved F).copies j ≡ some c → c.scope ≡ s → c.child ≡ k → ⊥
      none_fills s k n j c e p r = some-none ((placed F).parent j c e) (rw (p, r) n)
        where
          some-none : from_in c.scope c.child (resolved F).copies ≡ some c.parent → from_in c.scope c.child (resolved F).copies ≡ none → ⊥
          some-none x y = none-some y x

  -- ---- a local that an Ident means

  pub slot_said : (x n : ℕ) (l : Lookup F x n) (o d : ℕ) → declared n l.up ≡ some (o, d) → SlotSaid a b' (record { node = x; name = n; above = l.up }) o d
  unfolding rec.bit
  slot_said x n l o d m =
      let s = slot_of_lem F (ready_scoped q) (record { node = x; name = n; above = l.up }) l.event o d l.told_so ((last F (ready_scoped q)).led l.place l.event l.stands) m in
      record {
        slot = s.slot;
        binding = s.binding.id;
        own = s.binding.slot;
        of_scope_lem = slot_shown q few g _ s.slot s.of_scope_lem;
        shown = bound_so q few g s.binding.id s.binding s.known s.named s.source (ap rec.bit s.is_local);
        home = copies_follow q few g (scopes_of l.up) s.slot ∙ ap place_of s.home;
      }
