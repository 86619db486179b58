-- Walk two: where the scope numbers are distinct, each function's row has its targets' names, at home in its scope.
use Rattle.std.specs.Prelude.{◌≡◌, refl, cond, ℕ}
use Rattle.std.proofs.Common.{sym, ◌∙◌, inl}
use Rattle.std.proofs.Math.Path.{ap}
use mathlib.Core.List.{List, [], ◌∷◌, ◌++◌, map, append_assoc, append-nil}
use Rattle.std.proofs.Math.Option.{none, some}
use Rattle.lexical.specs.Lists.{If, either, first, eqb_self, eqb-not, first_old, first_here, first_other}
use Rattle.lexical.specs.Places.{In, Distinct, in_left, in_right, distinct_left, distinct_right, disjoint}
use Rattle.lexical.specs.Tree.{is_fn, listed, when, Forest, nil, node, empty, Way, way, scopes_in}
use Rattle.lexical.specs.Binders.{Names, Target, targets, merge}
use Rattle.lexical.specs.Meaning.{declares, owned}
use Rattle.lexical.specs.Order.{block_names, all_names, all_names_append, fn_blocks}
use Rattle.lexical.specs.State.{Binding, St, Row}
use Rattle.lexical.specs.Block.{bind, naming, block, called}
use Rattle.lexical.specs.Second.{declare_fn, declare_here, declare, keyed}
use Rattle.lexical.specs.Claims.{Titled, name_view}
use Rattle.lexical.proofs.Theory.Brought.{Home, home_ext, Bound, blocked, titled_block}
use Rattle.lexical.proofs.Theory.Fine.{Fine}
use Rattle.lexical.proofs.Theory.Induct.{AllFn, Good, inner_scope, good_map, all_fn_map}
use Rattle.lexical.proofs.Theory.Lead.{Ext, Ext-refl, Ext_trans}
use Rattle.lexical.proofs.Theory.Means.{home_in, home_bind, source_vars, block_names_lem}
use Rattle.lexical.proofs.Theory.Same.{bind_log, bind_copies}

pub record RowOk (tbl : List Row) (st : St) (o s : ℕ) (ts : List Target) : Type 0 where
  pub row : Row
  pub stands : first (keyed s) tbl ≡ some row
  pub sources : (n : ℕ) → home_in n row.names ≡ owned s (declares n ts)
  pub homes : (n : ℕ) (b : Binding) → first (called n) row.names ≡ some b → Home (s ∷ []) b st

-- from x to y, where the functions with these scope numbers and blocks are declared
pub record Passed (chain : ℕ → List ℕ) (own : List ℕ) (bl : List (List Target)) (x y : List Row × St) : Type 0 where
  pub fine : Fine chain y.1
  pub ext : Ext x.1 y.1
  pub kept : (t : ℕ) (r : Row) → first (keyed t) x.0 ≡ some r → first (keyed t) y.0 ≡ some r
  pub others : (t : ℕ) → (In t own → ⊥) → first (keyed t) y.0 ≡ first (keyed t) x.0
  pub copies : y.1.copies ≡ x.1.copies
  pub log : y.1.log ≡ x.1.log
  pub titled : Titled x.1 x.1.named → Titled y.1 y.1.named
  pub titles : map name_view y.1.named ≡ map name_view x.1.named ++ all_names bl

row_ok_later : (chain : ℕ → List ℕ) (own : List ℕ) (bl : List (List Target)) (x y : List Row × St) → Passed chain own bl x y → (o s : ℕ) (ts : List Target) → RowOk x.0 x.1 o s ts → RowOk y.0 y.1 o s ts
row_ok_later chain own bl x y p o s ts r = record { row = r.row; stands = p.kept s r.row r.stands; sources = r.sources; homes = λ n b e. home_ext (s ∷ []) b p.ext (r.homes n b e) }

no_step : (chain : ℕ → List ℕ) (x : List Row × St) → Fine chain x.1 → Passed chain [] [] x x
unfolding all_names
no_step chain x h = record { fine = h; ext = Ext-refl x.1; kept = λ t r e. e; others = λ t n. refl; copies = refl; log = refl; titled = λ t. t; titles = sym (append-nil _) }

two_steps : (chain : ℕ → List ℕ) (a b : List ℕ) (k l : List (List Target)) (x y z : List Row × St) → Passed chain a k x y → Passed chain b l y z → Passed chain (a ++ b) (k ++ l) x z
two_steps chain a b k l x y z p q = record {
  fine = q.fine;
  ext = Ext_trans p.ext q.ext;
  kept = λ t r e. q.kept t r (p.kept t r e);
  others = λ t n. q.others t (λ m. n (in_right t a b m)) ∙ p.others t (λ m. n (in_left t a b m));
  copies = q.copies ∙ p.copies;
  log = q.log ∙ p.log;
  titled = λ t. q.titled (p.titled t);
  titles = q.titles ∙ ap (λ m. m ++ all_names l) p.titles ∙ append_assoc (map name_view x.1.named) (all_names k) (all_names l) ∙ ap (λ m. map name_view x.1.named ++ m) (sym (all_names_append k l));
}

module _ (chain : ℕ → List ℕ) where
  abbrev pub ChainOk : ℕ → ℕ → List Target → Type 0
  ChainOk o s ts = chain s ≡ s ∷ chain o

  fn_step : (o s : ℕ) (ts : List Target) (x : List Row × St) → chain s ≡ s ∷ chain o → first (keyed s) x.0 ≡ none → Fine chain x.1
      → Passed chain (s ∷ []) (ts ∷ []) x (declare_fn s ts x) × RowOk (declare_fn s ts x).0 (declare_fn s ts x).1 o s ts
  unfolding declare_fn block naming all_names
  fn_step o s ts x c u h = (
    record {
      fine = bd.fine;
      ext = bd.ext;
      kept = λ t r e. first_old (keyed t) x.0 _ r e;
      others = λ t n. first_other (keyed t) x.0 _ (eqb-not s t (λ e. n (inl (sym e))));
      copies = bind_copies s (merge [] ts) x.1;
      log = bind_log s (merge [] ts) x.1;
      titled = titled_block chain s ts x.1 bd;
      titles = block_names_lem s ts x.1 ∙ ap (λ l. map name_view x.1.named ++ l) (sym (append-nil (block_names ts)));
    },
    record {
      row = record { scope = s; names = (bind s (merge [] ts) x.1).0 };
      stands = first_here (keyed s) x.0 _ u (eqb_self s);
      sources = λ n. home_bind n s (merge [] ts) x.1 ∙ ap (owned s) (source_vars n ts);
      homes = bd.homes;
    },
  )
    where
      bd : Bound chain s x.1 (block s ts x.1).0 (block s ts x.1).1
      bd = blocked chain s (chain o) c ts x.1 h

  here_step : (w : Way) (o s : ℕ) (ts : List Target) (x : List Row × St) → Good ChainOk w o s ts → ((t : ℕ) → In t (when (is_fn w) s) → first (keyed t) x.0 ≡ none) → Fine chain x.1
      → Passed chain (when (is_fn w) s) (when (is_fn w) ts) x (declare_here w s ts x) × Good (RowOk (declare_here w s ts x).0 (declare_here w s ts x).1) w o s ts
  unfolding declare_here when Good
  here_step w o s ts x = either (is_fn w) (λ b. If b (ChainOk o s ts) → ((t : ℕ) → In t (when b s) → first (keyed t) x.0 ≡ none) → Fine chain x.1
      → Passed chain (when b s) (when b ts) x (cond b (declare_fn s ts x) x) × If b (RowOk (cond b (declare_fn s ts x) x).0 (cond b (declare_fn s ts x) x).1 o s ts))
      (λ g u h. fn_step o s ts x g (u s (inl refl)) h) (λ g u h. (no_step chain x h, tt))

  pub declared_ok : (N : Names) (f : Forest) (w : Way) (s o : ℕ) (x : List Row × St) → AllFn N ChainOk f w s o → Distinct (scopes_in f)
      → ((t : ℕ) → In t (scopes_in f) → first (keyed t) x.0 ≡ none) → Fine chain x.1
      → Passed chain (scopes_in f) (fn_blocks N f) x (declare N f x) × AllFn N (RowOk (declare N f x).0 (declare N f x).1) f w s o
  unfolding declare scopes_in fn_blocks listed AllFn
  declared_ok N nil w s o x a d u h = (no_step chain x h, tt)
  declared_ok N (node at k v kids rest) w s o x a d u h =
      let own = when (is_fn (way k)) v in
      let ks = scopes_in kids in
      let rs = scopes_in rest in
      let o' = inner_scope w s (empty rest) o in
      let x₁ = declare_here (way k) v (targets N k kids) x in
      let x₂ = declare N kids x₁ in
      let x₃ = declare N rest x₂ in
      let p₁ = here_step (way k) o' v (targets N k kids) x a.0 (λ t m. u t (in_left t own (ks ++ rs) m)) h in
      let d' = distinct_right own (ks ++ rs) d in
      let p₂ = declared_ok N kids (way k) v o' x₁ a.1 (distinct_left ks rs d')
      (λ t m. p₁.0.others t (λ n. disjoint t own (ks ++ rs) d n (in_left t ks rs m)) ∙ u t (in_right t own (ks ++ rs) (in_left t ks rs m))) p₁.0.fine in
      let p₃ = declared_ok N rest w s o x₂ a.2 (distinct_right ks rs d')
      (λ t m. p₂.0.others t (λ n. disjoint t ks rs d' n m) ∙ (p₁.0.others t (λ n. disjoint t own (ks ++ rs) d n (in_right t ks rs m)) ∙ u t (in_right t own (ks ++ rs) (in_right t ks rs m)))) p₂.0.fine in (
        two_steps chain own (ks ++ rs) (when (is_fn (way k)) (targets N k kids)) (fn_blocks N kids ++ fn_blocks N rest) x x₁ x₃ p₁.0 (two_steps chain ks rs (fn_blocks N kids) (fn_blocks N rest) x₁ x₂ x₃ p₂.0 p₃.0),
        (
          good_map (RowOk x₁.0 x₁.1) (RowOk x₃.0 x₃.1) (λ o s ts r. row_ok_later chain rs (fn_blocks N rest) x₂ x₃ p₃.0 o s ts (row_ok_later chain ks (fn_blocks N kids) x₁ x₂ p₂.0 o s ts r)) (way k) o' v (targets N k kids) p₁.1,
          all_fn_map N (RowOk x₂.0 x₂.1) (RowOk x₃.0 x₃.1) (row_ok_later chain rs (fn_blocks N rest) x₂ x₃ p₃.0) kids (way k) v o' p₂.1,
          p₃.1,
        ),
      )
