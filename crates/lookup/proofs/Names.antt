-- A name that is looked up: the innermost local that has it, else the module's binding, else a global.
use Prim.Native.Nat.{ℕ, zero, suc, ◌+◌, ◌<◌}
use mathlib.Core.Path.{◌≡◌, refl, sym, ap, ◌∙◌}
use mathlib.Core.Bool.{Bool, true, false, cond, or-false}
use mathlib.Core.List.{List, [], ◌∷◌}
use mathlib.Core.Option.{Option, none, some}
use native.Mathlib.Omega.{arith}
use native.Mathlib.Nat.{zero-add}
use lib.Dec.{eqb}
use lib.ListN.{length, get_or, get_elem?}
use Rattle.std.specs.Prelude.{None, Some, Result, Ok}
use Rattle.lexical.specs.Lists.{first, place, map_o, none-some, Opened, absent, present, opened}
use Rattle.lexical.specs.Module.{Outer, global, missing, outer, beyond, globally}
use Rattle.lexical.specs.State.{Binding, outside}
use Rattle.lexical.specs.Block.{called}
use Rattle.lexical.specs.Records.{captures_found, captures_outer}
use Rattle.lexical.proofs.Laws.Adds.{FoundBelow, OuterBelow}
use Rattle.answer.specs.declared.ids.BindingId.{BindingId}
use Rattle.store.specs.Noted.{noted, binding_noted}
use Rattle.store.specs.declared.ids.State.{State}
use Rattle.store.specs.declared.ids.Full.{Full}
use Rattle.store.specs.declared.ids.Resolved.{Resolved}
use Rattle.store.specs.declared.ids.Resolution.{Resolution}
use Rattle.store.specs.declared.ids.Resolution.TheVariants as res
use Rattle.store.specs.Sections.{Mem, mem, plus}
use Rattle.store.specs.Meanings.{number_of}
use Rattle.store.specs.Rel.{caps}
use Rattle.store.proofs.Laws.Around.{number-some, number-none, saved_found}
use Rattle.lookup.specs.Lookup.{res_of, looked, as_global, Small, Locally, LocalDone, InModule, ModuleDone, Named, NamedDone, Found'}
use Rattle.lookup.proofs.Captures.{rel_caps}

-- ---- numbers (+ 1) of what is there

-- .. as code reads them
pub noted-some : {v : ℕ} {id : BindingId} → Some id ≡ binding_noted v → v ≡ id.0 + 1
noted-some {v = zero} {id} e = cc
noted-some {v = suc n} {id} e = let z : id ≡ record { 0 = n } = cc in rw z (omega arith)

pub noted_none : {v : ℕ} → None ≡ binding_noted v → v ≡ 0
noted_none {v = zero} e = refl
noted_none {v = suc n} e = cc

plus-some : (o : Option ℕ) (n : ℕ) → n + 1 ≡ plus o → o ≡ some n
unfolding plus
plus-some none n e = absurd (omega arith)
plus-some (some k) n e = let z : k ≡ n = omega arith in ap some z

plus_none : (o : Option ℕ) → 0 ≡ plus o → o ≡ none
unfolding plus
plus_none none e = refl
plus_none (some k) e = absurd (omega arith)

pub place-below : (n : ℕ) (xs : List ℕ) (i : ℕ) → place n xs ≡ some i → i < length xs
unfolding place map_o
place-below n [] i e = absurd (none-some refl e)
place-below n (x ∷ xs) i e = go (eqb x n) (opened (place n xs)) e (place-below n xs)
  where
    go : (b : Bool) → Opened (place n xs) → cond b (some 0) (map_o suc (place n xs)) ≡ some i → ((j : ℕ) → place n xs ≡ some j → j < length xs) → i < suc (length xs)
    go true o e h = let z : i ≡ 0 = cc in omega arith
    go false (absent q) e h = absurd (none-some (ap (map_o suc) q) e)
    go false (present j q) e h = let y : some (suc j) ≡ some i = sym (ap (map_o suc) q) ∙ e in let z : suc j ≡ i = cc in omega (arith, h j q)

-- a global, as `get_global` answers it
pub global_some : (v : ℕ) {g : ℕ} → Some g ≡ noted v → res.Global g ≡ as_global v
unfolding as_global
global_some zero e = cc
global_some (suc n) e = cc

pub global_none : (v : ℕ) → None ≡ noted v → res.NotFound ≡ as_global v
unfolding as_global
global_none zero e = refl
global_none (suc n) e = cc

-- ---- `get_name`

-- the local that a name means
pub record Meant (n id : ℕ) (env made : List Binding) : Type 0 where
  pub b : Binding
  pub is : first (called n) env ≡ some b
  pub number : id ≡ b.id
  pub stands : get_elem? made b.id ≡ some b
  pub local : b.local ≡ true

module _ {name : ℕ} {s : State} {binds w t : List ℕ} where
  innermost : (g : Named name s (mem binds w t)) → get_or t name 0 ≡ number_of g.env name
  innermost g = let z : 0 + name ≡ name = zero-add name in rw z at (g.rel.around.cur name g.known)

  -- a local
  module _ {id : BindingId} (e : Some id ≡ binding_noted (get_or t name 0)) where
    pub meant : (g : Named name s (mem binds w t)) → Meant name id.0 g.env g.st.made
    meant g = go (opened (first (called name) g.env))
      where
        go : Opened (first (called name) g.env) → Meant name id.0 g.env g.st.made
        go (absent q) = absurd (omega (arith, noted-some e, innermost g, number-none g.env name q))
        go (present x q) =
            let f = saved_found g.env g.st.made t name x g.rel.around.saved q in
            record { b = x; is = q; number = omega (arith, noted-some e, innermost g, number-some g.env name x q); stands = f.0; local = f.1 }

    abbrev pub to_local : Named name s (mem binds w t) → Locally id.0 s (mem binds w t)
    to_local g = let x = meant g in record { W = g.W; env = g.env; ss = g.ss; st = g.st; b = x.b; rel = g.rel; stands = x.stands; local = x.local; number = x.number }

    pub name_local : {ty : Bool} {r : Result Resolved Full} {m' : Mem} → LocalDone id.0 ty s (mem binds w t) r m' → NamedDone name ty s (mem binds w t) r m'
    name_local d = record { right = λ g. rw (meant g).is (d.right (to_local g) (outer g.W.mods g.W.F.globals name)) }

  -- no local
  module _ (e : None ≡ binding_noted (get_or t name 0)) where
    no_local : (g : Named name s (mem binds w t)) → first (called name) g.env ≡ none
    no_local g = go (opened (first (called name) g.env))
      where
        go : Opened (first (called name) g.env) → first (called name) g.env ≡ none
        go (absent q) = q
        go (present x q) = absurd (omega (arith, noted_none e, innermost g, number-some g.env name x q))

    -- a module name
    module _ {id : BindingId} (e' : Some id ≡ binding_noted (get_or t (1024 + name) 0)) where
      pub placed : (g : Named name s (mem binds w t)) → place name g.W.mods ≡ some id.0
      placed g = plus-some (place name g.W.mods) id.0 (sym (noted-some e') ∙ g.rel.names.in_module name g.known)

      abbrev pub to_module : Named name s (mem binds w t) → InModule id.0 s binds
      to_module g = record { W = g.W; env = g.env; ss = g.ss; st = g.st; w = w; t = t; settled = g.settled; rel = g.rel; known = place-below name g.W.mods id.0 (placed g) }

      pub name_module : {ty : Bool} {r : Resolved} {binds' : List ℕ} → ModuleDone id.0 s binds r binds' → NamedDone name ty s (mem binds w t) (Ok r) (mem binds' w t)
      unfolding looked outer beyond
      name_module d = record { right = λ g. rw (no_local g, placed g) (d.right (to_module g)) }

    -- a global, or nothing
    module _ (e' : None ≡ binding_noted (get_or t (1024 + name) 0)) where
      unplaced : (g : Named name s (mem binds w t)) → place name g.W.mods ≡ none
      unplaced g = plus_none (place name g.W.mods) (sym (noted_none e') ∙ g.rel.names.in_module name g.known)

      pub name_global : {ty : Bool} {x : Resolution} → x ≡ as_global (get_or t (2048 + name) 0) → NamedDone name ty s (mem binds w t) (Ok (record { st = s; res = x })) (mem binds w t)
      unfolding looked outer beyond globally plus as_global res_of Small FoundBelow OuterBelow captures_found captures_outer
      name_global {x = x} q = record { right = λ g. rw (no_local g, unplaced g) (go g (opened (place name g.W.F.globals))) }
        where
          held : (g : Named name s (mem binds w t)) → x ≡ as_global (plus (place name g.W.F.globals))
          held g = q ∙ ap as_global (g.rel.names.in_globals name g.known)

          -- what captures nothing
          found : (g : Named name s (mem binds w t)) (o : Outer) → x ≡ res_of g.W.M (outside o) → ((i : ℕ) → captures_found i g.ss (outside o) ≡ false) → Small g.W.M (outside o) → FoundBelow (length g.st.made) (outside o)
              → Found' g.W g.env g.ss (caps g.st) (outside o, g.st) (record { st = s; res = x }) (mem binds w t)
          found g o q c small below = record { rel = rel_caps g.rel _ (λ i. sym (rw (c i) (or-false (caps g.st i)))); is = q; small = small; below = below }

          go : (g : Named name s (mem binds w t)) → Opened (place name g.W.F.globals)
              → Found' g.W g.env g.ss (caps g.st) (outside (globally (place name g.W.F.globals)), g.st) (record { st = s; res = x }) (mem binds w t)
          go g (absent q) = rw q (found g missing (rw q at (held g)) (λ _. refl) tt tt)
          go g (present i q) =
              let y : i + 1 ≡ suc i = omega arith in
              rw q (found g (global i) (rw (q, y) at (held g)) (λ _. refl) (omega (arith, place-below name g.W.F.globals i q, g.settled.few_globals)) tt)
