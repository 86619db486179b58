-- The lists that the tree gives, by kind of node: scope numbers, parameters, Names, Idents. Equations for code.
use Rattle.std.specs.Prelude.{◌≡◌, ◌∷◌, ◌++◌, ℕ}
use Rattle.std.proofs.Math.Path.{refl}
use Rattle.lexical.specs.Tree.{Forest, node, way, is_fn, is_look, pick, is_name, listed, when, scopes_in, params, params_in, names_in, idents_in}
use Rattle.lexical.proofs.Theory.Kinds.{no_fn, no_look, no_name}
use Rattle.lexical.proofs.Theory.Listed.{listed_no}

module _ (at v : ℕ) (kids rest : Forest) where
  pub scopes_def : scopes_in (node at 6 v kids rest) ≡ v ∷ (scopes_in kids ++ scopes_in rest)
  unfolding scopes_in listed when is_fn way
  scopes_def = refl

  pub scopes_lambda : scopes_in (node at 12 v kids rest) ≡ v ∷ (scopes_in kids ++ scopes_in rest)
  unfolding scopes_in listed when is_fn way
  scopes_lambda = refl

  pub params_def : params_in (node at 6 v kids rest) ≡ (v, params kids) ∷ (params_in kids ++ params_in rest)
  unfolding params_in listed when is_fn way
  params_def = refl

  pub params_lambda : params_in (node at 12 v kids rest) ≡ (v, params kids) ∷ (params_in kids ++ params_in rest)
  unfolding params_in listed when is_fn way
  params_lambda = refl

  pub names_name : names_in (node at 8 v kids rest) ≡ at ∷ (names_in kids ++ names_in rest)
  unfolding names_in listed when is_name pick
  names_name = refl

  pub idents_ident : idents_in (node at 11 v kids rest) ≡ at ∷ (idents_in kids ++ idents_in rest)
  unfolding idents_in listed when is_look way
  idents_ident = refl

-- at the other kinds
pub scopes_others : (k : ℕ) → (k ≡ 6 → ⊥) → (k ≡ 12 → ⊥) → (at v : ℕ) (kids rest : Forest) → scopes_in (node at k v kids rest) ≡ scopes_in kids ++ scopes_in rest
unfolding scopes_in
scopes_others k a b at v kids rest = listed_no _ _ k (no_fn k a b) at v kids rest

pub params_others : (k : ℕ) → (k ≡ 6 → ⊥) → (k ≡ 12 → ⊥) → (at v : ℕ) (kids rest : Forest) → params_in (node at k v kids rest) ≡ params_in kids ++ params_in rest
unfolding params_in
params_others k a b at v kids rest = listed_no _ _ k (no_fn k a b) at v kids rest

pub names_others : (k : ℕ) → (k ≡ 8 → ⊥) → (at v : ℕ) (kids rest : Forest) → names_in (node at k v kids rest) ≡ names_in kids ++ names_in rest
unfolding names_in
names_others k n at v kids rest = listed_no _ _ k (no_name k n) at v kids rest

pub idents_others : (k : ℕ) → (k ≡ 11 → ⊥) → (at v : ℕ) (kids rest : Forest) → idents_in (node at k v kids rest) ≡ idents_in kids ++ idents_in rest
unfolding idents_in
idents_others k n at v kids rest = listed_no _ _ k (no_look k n) at v kids rest
