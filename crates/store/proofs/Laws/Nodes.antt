-- The nodes' answers in the working list w: a Name's, an Ident's; a step that answers nothing.
use Rattle.std.specs.Prelude.{ℕ, zero, suc, ◌<◌, ◌≤◌, ◌≡◌, refl, ◌⊎◌, List, [], ◌∷◌, ◌++◌, map, length, get_or, set}
use Rattle.std.proofs.Common.{sym, ap, ◌∙◌, inl, inr, append-nil, arith, get_or-set_same, get_or-set_other}
use Rattle.std.proofs.Math.Option.{Option, none, some}
use Rattle.std.proofs.Math.Decide.{ℕ_discrete}
use Rattle.std.proofs.Math.ListN.{get_elem?}
use Rattle.lexical.specs.Lists.{map_o, none-some, Opened, absent, present, opened}
use Rattle.lexical.specs.Places.{at_append, at_end}
use Rattle.lexical.specs.State.{Binding, Event, Named}
use Rattle.lexical.specs.Records.{name_row, answer_row, answers}
use Rattle.lexical.proofs.Laws.Adds.{answers_snoc}
use Rattle.lexical.specs.Records.{title_row}
use Rattle.store.specs.Words.{row_node, row_word}
use Rattle.store.specs.Image.{RowOf, name_row_lem, ident_row, HeldAt, held, none-held, NodesIn}
use Rattle.store.proofs.Laws.Points.{Zeros, at_others}

-- ---- any rows

abbrev Held : (List ℕ → Type 0) → List ℕ → Type 0
Held R w = (i : ℕ) → i < 2048 → HeldAt R i (get_or w i 0)

module _ (R R' : List ℕ → Type 0) (w : List ℕ) (m : Held R w) where
  -- one row more, at its node
  held_more : (row : List ℕ) → row_node row < length w → R' row → ((r : List ℕ) → R r → R' r) → ((r : List ℕ) → R' r → R r ⊎ (r ≡ row)) → Held R' (set w (row_node row) (row_word row))
  held_more row l n g h i b =
      elim (ℕ_discrete i (row_node row)) [
        | yes z ↦ held row n (sym z) (rw z (get_or-set_same w (row_node row) (row_word row) 0 l))
        | no z ↦ rw (get_or-set_other w (row_node row) i (row_word row) 0 z) (go z (m i b))
      ]
    where
      go : (i ≡ row_node row → ⊥) → HeldAt R i (get_or w i 0) → HeldAt R' i (get_or w i 0)
      go z (held r q e x) = held r (g r q) e x
      go z (none-held f x) = none-held (λ r q e. other r e (h r q)) x
        where
          other : (r : List ℕ) → row_node r ≡ i → R r ⊎ (r ≡ row) → ⊥
          other r e (inl p) = f r p e
          other r e (inr p) = z (sym e ∙ ap row_node p)

  -- the same rows
  held_same : ((r : List ℕ) → R r → R' r) → ((r : List ℕ) → R' r → R r) → Held R' w
  held_same g h i b = go (m i b)
    where
      go : HeldAt R i (get_or w i 0) → HeldAt R' i (get_or w i 0)
      go (held r q e x) = held r (g r q) e x
      go (none-held f x) = none-held (λ r q. f r (h r q)) x

-- ---- the rows of Names and of Idents

name_node : (at : ℕ) (o : Option Binding) → row_node (name_row at o) ≡ at
unfolding name_row
name_node at none = refl
name_node at (some b) = refl

at_map : {A B : Type 0} (f : A → B) (xs : List A) (j : ℕ) → get_elem? (map f xs) j ≡ map_o f (get_elem? xs j)
unfolding map_o
at_map f [] j = refl
at_map f (x ∷ xs) zero = refl
at_map f (x ∷ xs) (suc j) = at_map f xs j

-- other Names with the same rows
renamed : (M : List Binding) (named named' : List Named) (log : List Event) → map title_row named ≡ map title_row named' → (r : List ℕ) → RowOf M named log r → RowOf M named' log r
unfolding map_o
renamed M named named' log q r (ident_row j e) = ident_row j e
renamed M named named' log q r (name_row_lem j x e p) = go (opened (get_elem? named' j))
  where
    there : map_o title_row (get_elem? named' j) ≡ some (title_row x)
    there = sym (at_map title_row named' j) ∙ ap (λ (l : List (List ℕ)). get_elem? l j) (sym q) ∙ at_map title_row named j ∙ ap (map_o title_row) e

    go : Opened (get_elem? named' j) → RowOf M named' log r
    go (absent a) = absurd (none-some (ap (map_o title_row) a) there)
    go (present y a) = let z : some (title_row y) ≡ some (title_row x) = sym (ap (map_o title_row) a) ∙ there in name_row_lem j y a (p ∙ cc)

-- other lookups with the same answers
answered : (M : List Binding) (named : List Named) (log log' : List Event) → answers M log ≡ answers M log' → (r : List ℕ) → RowOf M named log r → RowOf M named log' r
answered M named log log' q r (name_row_lem j x e p) = name_row_lem j x e p
answered M named log log' q r (ident_row j e) = ident_row j (rw q at e)

pub nodes_none : (M : List Binding) (w : List ℕ) → Zeros w → NodesIn M [] [] w
unfolding answers
nodes_none M w z i b = none-held (λ r q _. go r q) (z i)
  where
    go : (r : List ℕ) → RowOf M [] [] r → ⊥
    go r (name_row_lem j x e p) = none-some refl e
    go r (ident_row j e) = none-some refl e

module _ (M : List Binding) (named : List Named) (log : List Event) (w : List ℕ) (m : NodesIn M named log w) where
  -- a store elsewhere
  pub nodes_skip : (j v : ℕ) → 2048 ≤ j → NodesIn M named log (set w j v)
  nodes_skip j v h i b = rw (get_or-set_other w j i v 0 (omega arith)) (m i b)

  -- other Names with the same rows
  pub nodes_named : (named' : List Named) → map title_row named ≡ map title_row named' → NodesIn M named' log w
  nodes_named named' e = held_same (RowOf M named log) (RowOf M named' log) w m (renamed M named named' log e) (renamed M named' named log (sym e))

  -- a lookup that answers nothing
  pub nodes_quiet : (e : Event) → answer_row M e.node e.found ≡ [] → NodesIn M named (log ++ (e ∷ [])) w
  nodes_quiet e q = held_same (RowOf M named log) (RowOf M named (log ++ (e ∷ []))) w m (answered M named log (log ++ (e ∷ [])) (sym same)) (answered M named (log ++ (e ∷ [])) log same)
    where
      same : answers M (log ++ (e ∷ [])) ≡ answers M log
      same = answers_snoc M log e ∙ ap (λ (l : List (List ℕ)). answers M log ++ l) q ∙ append-nil (answers M log)

  module _ (long : length w ≡ 12544) where
    -- a Name: `put_answer`
    pub nodes_name : (x : Named) (at v : ℕ) → at ≡ x.node → at < 2048 → v ≡ row_word (name_row x.node x.of) → NodesIn M (named ++ (x ∷ [])) log (set w at v)
    nodes_name x at v e h q =
        let n : at ≡ row_node (title_row x) = e ∙ sym (name_node x.node x.of) in
        rw (n, q) (held_more (RowOf M named log) (RowOf M (named ++ (x ∷ [])) log) w m (title_row x) (omega arith) (name_row_lem (length named) x (at_end named x) refl) old new)
      where
        old : (r : List ℕ) → RowOf M named log r → RowOf M (named ++ (x ∷ [])) log r
        old r (name_row_lem j y e p) = name_row_lem j y (at_append named (x ∷ []) j y e) p
        old r (ident_row j e) = ident_row j e

        new : (r : List ℕ) → RowOf M (named ++ (x ∷ [])) log r → RowOf M named log r ⊎ (r ≡ title_row x)
        new r (ident_row j e) = inl (ident_row j e)
        new r (name_row_lem j y e p) =
            elim (ℕ_discrete j (length named)) [
              | yes z ↦ inr (let s : x ≡ y = cc (at_end named x) in p ∙ ap title_row (sym s))
              | no z ↦ inl (name_row_lem j y (sym (at_others named x j z) ∙ e) p)
            ]

    -- an Ident: `put_answer`
    pub nodes_answer : (e : Event) (row : List ℕ) (at v : ℕ) → answer_row M e.node e.found ≡ row ∷ [] → at ≡ row_node row → at < 2048 → v ≡ row_word row → NodesIn M named (log ++ (e ∷ [])) (set w at v)
    nodes_answer e row at v q n h u =
        rw (n, u) (held_more (RowOf M named log) (RowOf M named (log ++ (e ∷ []))) w m row (omega arith) (ident_row (length (answers M log)) (rw more (at_end (answers M log) row))) old new)
      where
        more : answers M (log ++ (e ∷ [])) ≡ answers M log ++ (row ∷ [])
        more = answers_snoc M log e ∙ ap (λ (l : List (List ℕ)). answers M log ++ l) q

        old : (r : List ℕ) → RowOf M named log r → RowOf M named (log ++ (e ∷ [])) r
        old r (name_row_lem j y e p) = name_row_lem j y e p
        old r (ident_row j a) = ident_row j (rw more (at_append (answers M log) (row ∷ []) j r a))

        new : (r : List ℕ) → RowOf M named (log ++ (e ∷ [])) r → RowOf M named log r ⊎ (r ≡ row)
        new r (name_row_lem j y e p) = inl (name_row_lem j y e p)
        new r (ident_row j a) =
            let b : get_elem? (answers M log ++ (row ∷ [])) j ≡ some r = rw more at a in
            elim (ℕ_discrete j (length (answers M log))) [
              | yes z ↦ inr (cc (at_end (answers M log) row))
              | no z ↦ inl (ident_row j (sym (at_others (answers M log) row j z) ∙ b))
            ]
