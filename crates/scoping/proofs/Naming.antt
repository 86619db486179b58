-- Number 11: the names of the Params among the children of a function, one child after the other.
use Prim.Native.Nat.{ℕ, ◌+◌, ◌-◌, ◌*◌, ◌≤◌, ◌<◌}
use mathlib.Core.Path.{◌≡◌, refl, sym, ap, ◌∙◌, subst}
use mathlib.Core.Bool.{Bool, true, false, true≢false}
use mathlib.Core.Logic.{inl}
use mathlib.Core.List.{List, [], ◌∷◌, ◌++◌, append_assoc, append-nil}
use native.Mathlib.Omega.{arith}
use native.Mathlib.Decide.{ℕ_discrete}
use lib.ListN.{length, get_or, set, take, drop, length-set}
use lib.Seq.{get_or-set_same, get_or-set_other}
use Rattle.lexical.specs.Places.{In, Distinct, in_right}
use Rattle.nodefile.specs.Node.{size_of}
use Rattle.nodefile.specs.Kids.{Kids, no_kids, kid, Fits}
use Rattle.scoping.specs.Params.{named, param_name, ParamNames, no_params_lem, param, other}
use Rattle.scoping.specs.Inside.Naming.{Known, Fresh}
use Rattle.marks.specs.Marks.{Marked, marked_none, marked_more, marked_again}
use Rattle.nodefile.proofs.Laws.Fitting.{rest_is, fits_on}

-- ---- the names in a part

pub params-some : {t ks : List ℕ} → Kids t ks → (vs : List ℕ) × ParamNames t vs
params-some no_kids = ([], no_params_lem)
params-some (kid {t = t} a b r) = pick (named t) refl (params-some r)
  where
    pick : (n : Bool) → named t ≡ n → (vs : List ℕ) × ParamNames (drop (8 * size_of t) t) vs → (vs : List ℕ) × ParamNames t vs
    pick true e p = (param_name t ∷ p.0, param a b e p.1)
    pick false e p = (p.0, other a b e p.1)

params-named : {t vs : List ℕ} → named t ≡ true → ParamNames t vs → 0 < length t → (ws : List ℕ) × (vs ≡ param_name t ∷ ws) × ParamNames (drop (8 * size_of t) t) ws
params-named e no_params_lem h = absurd (omega arith)
params-named e (param {vs = ws} a b n p) h = (ws, refl, p)
params-named e (other a b n p) h = absurd (true≢false (sym e ∙ n))

params_other : {t vs : List ℕ} → named t ≡ false → ParamNames t vs → 0 < length t → ParamNames (drop (8 * size_of t) t) vs
params_other e no_params_lem h = absurd (omega arith)
params_other e (param a b n p) h = absurd (true≢false (sym n ∙ e))
params_other e (other a b n p) h = p

params_none : {t vs : List ℕ} → ParamNames t vs → length t < 8 → vs ≡ []
params_none no_params_lem h = refl
params_none (param a b n p) h = absurd (omega arith)
params_none (other a b n p) h = absurd (omega arith)

-- ---- the walk

pub record Left (ds t vs : List ℕ) : Type 0 where
  pub ws : List ℕ
  pub params : ParamNames t ws
  pub all : vs ≡ ds ++ ws

pub record Naming (kids marks : List ℕ) (stamp : ℕ) (t : List ℕ) : Type 0 where
  pub ds : List ℕ
  pub fits : Fits t
  pub fresh : Fresh marks (stamp + 1)
  pub marked : Marked (λ x. x ≡ stamp) marks ds
  pub left : (vs : List ℕ) → ParamNames kids vs → Left ds t vs

pub naming-none : {kids marks : List ℕ} {stamp : ℕ} → Known kids → Fresh marks stamp → Naming kids marks stamp kids
naming-none {marks = marks} k f =
    record {
      ds = [];
      fits = k.fits;
      fresh = record { size = f.size; earlier = λ v. omega (arith, f.earlier v) };
      marked = marked_none marks (λ v e. omega (arith, f.earlier v));
      left = λ vs p. record { ws = vs; params = p; all = refl };
    }

module _ {kids marks : List ℕ} {stamp : ℕ} {t : List ℕ} (n : Naming kids marks stamp t) where
  -- all children were passed
  pub naming_end : length t < 8 → (vs : List ℕ) → ParamNames kids vs → Distinct vs
  naming_end h vs p = let l = n.left vs p in subst Distinct (sym (l.all ∙ ap (λ (x : List ℕ). n.ds ++ x) (params_none l.params h) ∙ append-nil n.ds)) n.marked.apart

  module _ (h : 8 ≤ length t) {s : ℕ} (e : s ≡ size_of t) where
    -- a child that is no Param with a Name
    pub naming_skip : named t ≡ false → Naming kids marks stamp (take (length t - 8 * s) (drop (8 * s) t))
    naming_skip o =
        record {
          ds = n.ds;
          fits = fits_on t e (omega arith) n.fits;
          fresh = n.fresh;
          marked = n.marked;
          left = λ vs p. let l = n.left vs p in record { ws = l.ws; params = subst (λ (u : List ℕ). ParamNames u l.ws) (sym (rest_is t e)) (params_other o l.params (omega arith)); all = l.all };
        }

    -- a Param with the name v
    module _ {v : ℕ} (o : named t ≡ true) (q : v ≡ param_name t) where
      first : (vs : List ℕ) → ParamNames kids vs → (ws : List ℕ) × (vs ≡ n.ds ++ (v ∷ ws)) × ParamNames (drop (8 * size_of t) t) ws
      first vs p =
          let l = n.left vs p in
          let m = params-named o l.params (omega arith) in
          (m.0, l.all ∙ ap (λ (x : List ℕ). n.ds ++ x) m.1 ∙ ap (λ (x : ℕ). n.ds ++ (x ∷ m.0)) (sym q), m.2)

      pub naming_known : Known kids → v < 1024
      naming_known k =
          let vs = params-some k.fits.1 in
          let f = first vs.0 vs.1 in
          k.names vs.0 vs.1 v (subst (In v) (sym f.1) (in_right v n.ds (v ∷ f.0) (inl refl)))

      pub naming-again : get_or marks v 0 ≡ stamp → (vs : List ℕ) → ParamNames kids vs → Distinct vs → ⊥
      naming-again m vs p d = let f = first vs p in marked_again n.marked v m f.0 (subst Distinct f.1 d)

      module _ (b : v < 1024) (m : get_or marks v 0 ≡ stamp → ⊥) where
        stamped : Fresh (set marks v stamp) (stamp + 1)
        stamped =
            record {
              size = length-set marks v stamp ∙ n.fresh.size;
              earlier = λ u. elim (ℕ_discrete u v) [
                | yes r ↦ omega (arith, ap (λ (x : ℕ). get_or (set marks v stamp) x 0) r, get_or-set_same marks v stamp 0 (omega (arith, n.fresh.size)))
                | no r ↦ omega (arith, get_or-set_other marks v u stamp 0 r, n.fresh.earlier u)
              ];
            }

        pub naming_more : Naming kids (set marks v stamp) stamp (take (length t - 8 * s) (drop (8 * s) t))
        naming_more =
            record {
              ds = n.ds ++ (v ∷ []);
              fits = fits_on t e (omega arith) n.fits;
              fresh = stamped;
              marked = marked_more n.marked v stamp (omega (arith, n.fresh.size)) refl m;
              left = λ vs p. let f = first vs p in record {
                ws = f.0;
                params = subst (λ (u : List ℕ). ParamNames u f.0) (sym (rest_is t e)) f.2;
                all = f.1 ∙ sym (append_assoc n.ds (v ∷ []) f.0);
              };
            }
