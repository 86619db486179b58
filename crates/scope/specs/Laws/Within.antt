-- Slots belong to the module's scope or to a function of the tree.
use Prim.Native.Nat.{ℕ, suc}
use Rattle.std.specs.Prelude.{◌≡◌, true, cond}
use Rattle.std.proofs.Math.Path.{refl, subst}
use Rattle.std.proofs.Common.{sym}
use Rattle.std.proofs.Math.Logic.{inl, inr}
use mathlib.Core.List.{List, [], ◌∷◌}
use Rattle.std.proofs.Math.Option.{Option, none, some}
use Rattle.lexical.specs.Lists.{either, If, first, count, eqb-not}
use Rattle.lexical.specs.Places.{All, all_none, all_snoc, In, in_left, in_right}
use Rattle.lexical.specs.Tree.{Forest, nil, node, Way, plain, is_fn, way, when, listed, scopes_in, top}
use Rattle.lexical.specs.Binders.{Names, Target, Var, targets, merge}
use Rattle.lexical.specs.Module.{File, Outer, outer_of}
use Rattle.lexical.specs.State.{Binding, Slot, St, Row, Ctx}
use Rattle.lexical.specs.Block.{in_scope, fresh_in, slot_for, add, bind, naming, block, called}
use Rattle.lexical.specs.First.{start}
use Rattle.lexical.specs.Second.{declare_fn, declare_here, declare, rows, second}
use Rattle.lexical.specs.Third.{hand, copy_in, bring_to, bring, logged, look_found, inner, enter, typed, below, walk, outermost, resolved}
use Rattle.lexical.proofs.Theory.Induct.{Good, AllFn, Laws, walked}

-- the scopes that are meant, the module's among them
module _ (S : ℕ → Type 0) where
  abbrev Held : St → Type 0
  Held st = All (λ (r : Slot). S r.scope) st.slots

  bind_held : (s : ℕ) → S s → (vs : List Var) (st : St) → Held st → Held (bind s vs st).1
  unfolding bind add slot_for
  bind_held s q [] st h = h
  bind_held s q (v ∷ vs) st h = bind_held s q vs _ (all_snoc _ st.slots _ h q)

  block_held : (s : ℕ) → S s → (ts : List Target) (st : St) → Held st → Held (block s ts st).1
  unfolding block naming
  block_held s q ts st h = bind_held s q (merge [] ts) st h

  brought_held : (o : Option ℕ) (s : ℕ) → S s → (b : Binding) (st : St) (r : ℕ × St) → Held st → Held r.1 → Held (bring_to o s b st r).1
  unfolding bring_to copy_in slot_for
  brought_held none s q b st r h g = all_snoc _ r.1.slots _ g q
  brought_held (some k) s q b st r h g = h

  bring-held : (ss : List ℕ) → ((t : ℕ) → In t ss → S t) → (b : Binding) (st : St) → Held st → Held (bring ss b st).1
  unfolding bring
  bring-held [] q b st h = h
  bring-held (s ∷ ss) q b st h = brought_held (hand s b.id st) s (q s (inl refl)) b st (bring ss b st) h (bring-held ss (λ t m. q t (inr m)) b st h)

  -- walk two
  declare-held : (N : Names) (f : Forest) (x : List Row × St) → ((t : ℕ) → In t (scopes_in f) → S t) → Held x.1 → Held (declare N f x).1
  unfolding declare scopes_in listed
  declare-held N nil x q h = h
  declare-held N (node at k v kids rest) x q h = declare-held N rest _ (λ t m. q t (in_right t (when (is_fn (way k)) v) _ (in_right t (scopes_in kids) (scopes_in rest) m)))
      (declare-held N kids _ (λ t m. q t (in_right t (when (is_fn (way k)) v) _ (in_left t (scopes_in kids) (scopes_in rest) m))) (here (λ t m. q t (in_left t (when (is_fn (way k)) v) _ m))))
    where
      here : ((t : ℕ) → In t (when (is_fn (way k)) v) → S t) → Held (declare_here (way k) v (targets N k kids) x).1
      here = unfold declare_here declare_fn when in either (is_fn (way k)) (λ b. ((t : ℕ) → In t (when b v) → S t) → Held (cond b (declare_fn v (targets N k kids) x) x).1)
          (λ p. block_held v (p v (inl refl)) (targets N k kids) x.1 h) (λ p. h)

  -- walk three: a context's scopes are such
  abbrev Around' : Ctx → Type 0
  Around' c = (t : ℕ) → In t c.scopes → S t

  look-held : (o : Option Binding) (u : Outer) (at n : ℕ) (c : Ctx) (st : St) → Around' c → Held st → Held (look_found o u at n c st)
  unfolding look_found logged
  look-held none u at n c st q h = h
  look-held (some b) u at n c st q h = bring-held c.scopes q b st h

  top_in : (ss : List ℕ) → S 0 → ((t : ℕ) → In t ss → S t) → S (top ss)
  unfolding top
  top_in [] z q = z
  top_in (s ∷ ss) z q = q s (inl refl)

  functions : (N : Names) (f : Forest) (w : Way) (s o : ℕ) → ((t : ℕ) → In t (scopes_in f) → S t) → AllFn N (λ o s ts. S s) f w s o
  unfolding AllFn scopes_in listed
  functions N nil w s o q = tt
  functions N (node at k v kids rest) w s o q = (
    unfold Good when in either (is_fn (way k)) (λ b. ((t : ℕ) → In t (when b v) → S t) → If b (S v)) (λ p. p v (inl refl)) (λ p. tt) (λ t m. q t (in_left t (when (is_fn (way k)) v) _ m)),
    functions N kids (way k) v _ (λ t m. q t (in_right t (when (is_fn (way k)) v) _ (in_left t (scopes_in kids) (scopes_in rest) m))),
    functions N rest w s o (λ t m. q t (in_right t (when (is_fn (way k)) v) _ (in_right t (scopes_in kids) (scopes_in rest) m))),
  )

  module _ (z : S 0) (N : Names) (D : ℕ → List Binding) (out : ℕ → Outer) where
    laws : Laws N D out (λ st acc. Held st) (λ c up st. Around' c) (λ o s ts. S s)
    unfolding below typed enter inner
    laws = record {
      push = λ w s ts c up st q. q;
      turn = λ w s ts f l f' l' c up st e q. q;
      into = λ s ts f c up st acc h g q t m. elim m [ inl e ↦ subst S (sym e) g | inr n ↦ q t n ];
      scan = λ at n c up st acc h q. (look-held (first (called n) c.env) (out n) at n c st q h, λ c up q. q);
      binds = λ s ts c up st acc h q. (block_held (top c.scopes) (top_in c.scopes z q) ts st h, (λ c up q. q), q);
    }

    walk_held : (f : Forest) (c : Ctx) (st : St) → ((t : ℕ) → In t (scopes_in f) → S t) → Around' c → Held st → Held (walk N D out f plain 0 [] true c st)
    walk_held f c st p q h = (walked N D out _ _ _ laws f plain 0 [] true [] (top c.scopes) (functions N f plain 0 (top c.scopes) p) (unfold Good is_fn in tt) c st [] refl h q).0

-- every slot of a file's last state
pub slots_within : (F : File) → All (λ (r : Slot). In r.scope (0 ∷ scopes_in F.root)) (resolved F).slots
unfolding resolved second outermost
slots_within F = walk_held S (inl refl) F.names (rows (second F).0) (outer_of F) F.root outermost (second F).1 (λ t m. inr m) (λ t m. elim m [ inl e ↦ inl e | inr n ↦ absurd n ])
    (declare-held S F.names F.root ([], start F) (λ t m. inr m) (unfold start in all_none _))
  where
    S : ℕ → Type 0
    S t = In t (0 ∷ scopes_in F.root)

-- a scope with a slot is one of them
no_slots : (s : ℕ) (rs : List Slot) → All (λ (r : Slot). r.scope ≡ s → ⊥) rs → fresh_in s rs ≡ 0
unfolding fresh_in count in_scope
no_slots s [] h = refl
no_slots s (r ∷ rs) h = rw (eqb-not r.scope s (h 0 r refl)) (no_slots s rs (λ j x e. h (suc j) x e))

pub no_scope : (F : File) (s : ℕ) → (In s (0 ∷ scopes_in F.root) → ⊥) → fresh_in s (resolved F).slots ≡ 0
no_scope F s h = no_slots s (resolved F).slots (λ k r e t. h (subst (λ (x : ℕ). In x (0 ∷ scopes_in F.root)) t (slots_within F k r e)))
